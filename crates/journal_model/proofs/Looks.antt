-- What a longer journal says of a child and a job.
use Rattle.std.proofs.Common.{◌≡◌, ℕ, List, [], ◌∷◌, ◌++◌, refl, sym, ap, subst, ◌∙◌, Bool, true, false, not, ◌==◌, cond, Some, None, Option, ◌⊎◌, inl, inr}
use Rattle.std.specs.Prelude.{◌&&◌, ◌||◌, map, filter}
use Rattle.std.specs.List.{list_any, cons_option}
use Rattle.std.specs.Option.{option_or}
use Rattle.std.proofs.lemmas.List.Folds.{list_any-append}
use Rattle.std.proofs.lemmas.List.Elements.{filter_map-append}
use Rattle.journal_model.specs.declared.verdict.Verdict.{Verdict}
use Rattle.journal_model.specs.declared.entry.What.{What}
use Rattle.journal_model.specs.declared.entry.What.TheVariants.{Verdict as Settled, Got}
use Rattle.journal_model.specs.declared.entry.Entry.{Entry}
use Rattle.journal_model.specs.Journal.{any, each_of, first_of, asked_jobs, settles, verdict_in, verdict_of, is_settled, is_open, has_spoken, got_lines, line_from, got_from}
use Rattle.journal_model.specs.Parts.{part_from}
use Rattle.journal_model.specs.Due.{made_by}
use Rattle.std.proofs.lemmas.Bool.{eqb-true as same_number}
use Rattle.ann_key.proofs.Booleans.{left_false as either_left, right_false as either_right}

abbrev pub entry : ℕ → What → Entry
entry by w = record { by = by; what = w }

abbrev pub is_asked : List Entry → ℕ → ℕ → Bool
is_asked past c j = list_any (λ k. k == j) (asked_jobs past c)

-- ---- one stretch after another

pub first_of-append : {X : Type 0} (xs ys : List X) → first_of (xs ++ ys) ≡ option_or (first_of xs) (first_of ys)
first_of-append [] ys = refl
first_of-append (x ∷ xs) ys = refl

pub each_of-append : {X : Type 0} (f : What → Option X) (xs ys : List Entry) → each_of f (xs ++ ys) ≡ each_of f xs ++ each_of f ys
each_of-append f xs ys = filter_map-append (λ (e : Entry). f e.what) xs ys

pub any-append : (p : What → Bool) (xs ys : List Entry) → any p (xs ++ ys) ≡ (any p xs || any p ys)
any-append p xs ys = list_any-append (λ (e : Entry). p e.what) xs ys

pub verdict_of-append : (c j : ℕ) (xs ys : List Entry) → verdict_of (xs ++ ys) c j ≡ option_or (verdict_of xs c j) (verdict_of ys c j)
verdict_of-append c j xs ys = ap first_of (each_of-append (verdict_in c j) xs ys) ∙ first_of-append (each_of (verdict_in c j) xs) (each_of (verdict_in c j) ys)

pub or_none : {X : Type 0} (o p : Option X) → p ≡ None → option_or o p ≡ o
or_none None p h = h
or_none (Some x) p h = refl

-- ---- settled and open jobs

pub unsettled : (past : List Entry) (c j : ℕ) → verdict_of past c j ≡ None → is_settled past c j ≡ false
unsettled [] c j h = refl
unsettled (e ∷ past) c j h = step e.what h (unsettled past c j)
  where
    step : (w : What) → first_of (cons_option (verdict_in c j w) (each_of (verdict_in c j) past)) ≡ None
        → (verdict_of past c j ≡ None → is_settled past c j ≡ false) → (settles c j w || is_settled past c j) ≡ false
    step (Settled child job v) h r = go (child == c && job == j) h
      where
        go : (b : Bool) → first_of (cons_option (cond b (Some v) None) (each_of (verdict_in c j) past)) ≡ None → (b || is_settled past c j) ≡ false
        go true h = absurd cc
        go false h = r h
    step w h r = r h

pub settled_none : (past : List Entry) (c j : ℕ) → is_settled past c j ≡ false → verdict_of past c j ≡ None
settled_none [] c j h = refl
settled_none (e ∷ past) c j h = step e.what h (settled_none past c j)
  where
    step : (w : What) → (settles c j w || is_settled past c j) ≡ false → (is_settled past c j ≡ false → verdict_of past c j ≡ None)
        → first_of (cons_option (verdict_in c j w) (each_of (verdict_in c j) past)) ≡ None
    step (Settled child job v) h r = go (child == c && job == j) h
      where
        go : (b : Bool) → (b || is_settled past c j) ≡ false → first_of (cons_option (cond b (Some v) None) (each_of (verdict_in c j) past)) ≡ None
        go true h = absurd cc
        go false h = r h
    step w h r = r h

pub filter_none : (p f : ℕ → Bool) (xs : List ℕ) → list_any p xs ≡ false → list_any p (filter f xs) ≡ false
filter_none p f [] h = refl
filter_none p f (x ∷ xs) h = go (f x) (filter_none p f xs (either_right (p x) (list_any p xs) h))
  where
    go : (b : Bool) → list_any p (filter f xs) ≡ false → list_any p (cond b (x ∷ filter f xs) (filter f xs)) ≡ false
    go true r = rw (either_left (p x) (list_any p xs) h) r
    go false r = r

-- a job that was not asked is not open
pub unasked_closed : (c j : ℕ) (past : List Entry) → is_asked past c j ≡ false → is_open past c j ≡ false
unasked_closed c j past h = filter_none (λ k. k == j) (λ j. not (is_settled past c j)) (asked_jobs past c) h

open_in : (past : List Entry) (c j : ℕ) (ks : List ℕ) → list_any (λ k. k == j) (filter (λ k. not (is_settled past c k)) ks) ≡ true → is_settled past c j ≡ false
open_in past c j [] h = absurd cc
open_in past c j (k ∷ ks) h = go (is_settled past c k) refl h (open_in past c j ks)
  where
    go : (b : Bool) → is_settled past c k ≡ b
        → list_any (λ k. k == j) (cond (not b) (k ∷ filter (λ k. not (is_settled past c k)) ks) (filter (λ k. not (is_settled past c k)) ks)) ≡ true
        → (list_any (λ k. k == j) (filter (λ k. not (is_settled past c k)) ks) ≡ true → is_settled past c j ≡ false) → is_settled past c j ≡ false
    go true e h r = r h
    go false e h r = by_number (k == j) refl h
      where
        by_number : (b : Bool) → (k == j) ≡ b → (b || list_any (λ k. k == j) (filter (λ k. not (is_settled past c k)) ks)) ≡ true → is_settled past c j ≡ false
        by_number true e' h = subst (λ (x : ℕ). is_settled past c x ≡ false) (same_number k j e') e
        by_number false e' h = r h

-- an open job is not settled
pub open_unsettled : (past : List Entry) (c j : ℕ) → is_open past c j ≡ true → is_settled past c j ≡ false
open_unsettled past c j h = open_in past c j (asked_jobs past c) h

-- ---- a child that has not spoken

pub silent_lines : (past : List Entry) (c : ℕ) → has_spoken past c ≡ false → got_lines past c ≡ []
silent_lines [] c h = refl
silent_lines (e ∷ past) c h = step e.what h (silent_lines past c)
  where
    step : (w : What) → (got_from c w || has_spoken past c) ≡ false → (has_spoken past c ≡ false → got_lines past c ≡ [])
        → cons_option (line_from c w) (got_lines past c) ≡ []
    step (Got child line) h r = go (child == c) h
      where
        go : (b : Bool) → (b || has_spoken past c) ≡ false → cons_option (cond b (Some line) None) (got_lines past c) ≡ []
        go true h = absurd cc
        go false h = r h
    step w h r = r h

-- ---- the verdicts of a list of jobs

abbrev pub settled_all : ℕ → ℕ → Verdict → List ℕ → List Entry
settled_all by child v ks = made_by by (map (λ (k : ℕ). Settled child k v) ks)

pub verdicts_part : (c j child by : ℕ) (past : List Entry) (v : Verdict) (ks : List ℕ) → part_from c j past (settled_all by child v ks) ≡ []
verdicts_part c j child by past v [] = refl
verdicts_part c j child by past v (k ∷ ks) = verdicts_part c j child by (past ++ entry by (Settled child k v) ∷ []) v ks

pub verdicts_job : (c by child : ℕ) (v : Verdict) (ks : List ℕ) → asked_jobs (settled_all by child v ks) c ≡ []
verdicts_job c by child v [] = refl
verdicts_job c by child v (k ∷ ks) = verdicts_job c by child v ks

pub verdicts_one : (c j by child : ℕ) (v : Verdict) (ks : List ℕ)
    → (verdict_of (settled_all by child v ks) c j ≡ None) ⊎ (verdict_of (settled_all by child v ks) c j ≡ Some v)
verdicts_one c j by child v [] = inl refl
verdicts_one c j by child v (k ∷ ks) = go (child == c && k == j) (verdicts_one c j by child v ks)
  where
    go : (b : Bool) → (verdict_of (settled_all by child v ks) c j ≡ None) ⊎ (verdict_of (settled_all by child v ks) c j ≡ Some v)
        → (first_of (cons_option (cond b (Some v) None) (each_of (verdict_in c j) (settled_all by child v ks))) ≡ None)
        ⊎ (first_of (cons_option (cond b (Some v) None) (each_of (verdict_in c j) (settled_all by child v ks))) ≡ Some v)
    go true r = inr refl
    go false r = r

pub verdicts_none : (c j by child : ℕ) (v : Verdict) (ks : List ℕ) → (child == c && list_any (λ k. k == j) ks) ≡ false
    → verdict_of (settled_all by child v ks) c j ≡ None
verdicts_none c j by child v [] h = refl
verdicts_none c j by child v (k ∷ ks) h =
    go (child == c) (k == j) (list_any (λ k. k == j) ks) h (verdicts_none c j by child v ks)
  where
    go : (a b r : Bool) → (a && (b || r)) ≡ false → ((a && r) ≡ false → verdict_of (settled_all by child v ks) c j ≡ None)
        → first_of (cons_option (cond (a && b) (Some v) None) (each_of (verdict_in c j) (settled_all by child v ks))) ≡ None
    go true true r h k = absurd cc
    go true false r h k = k h
    go false b r h k = k refl

-- the verdicts of jobs of child, each of them open, give none to a job that was not asked
pub none_unasked : (c j by child : ℕ) (v : Verdict) (past : List Entry) (ks : List ℕ) → is_asked past c j ≡ false
    → ((k : ℕ) → is_open past child k ≡ false → list_any (λ x. x == k) ks ≡ false)
    → verdict_of (settled_all by child v ks) c j ≡ None
none_unasked c j by child v past ks h among = verdicts_none c j by child v ks (go (child == c) refl)
  where
    go : (b : Bool) → (child == c) ≡ b → (b && list_any (λ k. k == j) ks) ≡ false
    go false e = refl
    go true e =
        let here : child ≡ c = same_number child c e in
        among j (subst (λ (d : ℕ). is_open past d j ≡ false) (sym here) (unasked_closed c j past h))
