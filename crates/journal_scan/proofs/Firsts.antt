-- The first of a list that is found without the list.
use Rattle.std.proofs.Common.{sym, ap, subst, ◌≡◌, ℕ, List, [], ◌∷◌, refl, Bool, true, false, Option, Some, None, cond}
use Rattle.std.specs.Prelude.{find, IfSome, filter, slice_get, option_and_then, is_some, ◌==◌, ◌&&◌, ◌||◌}
use Rattle.std.specs.List.{cons_option}
use Rattle.journal_model.specs.declared.entry.What.{What}
use Rattle.journal_model.specs.declared.entry.What.TheVariants.{Claim, Start, NoStart, Lead, Ask, Put, Sent, Mute, Got, End, Verdict as Settled, Lost, Answer as Answered, Note as Noted, Again}
use Rattle.journal_model.specs.declared.entry.Entry.{Entry}
use Rattle.journal_model.specs.declared.verdict.Verdict.{Verdict}
use Rattle.journal_model.specs.Journal.{first_of, each_of, is_settled, settles, verdict_in, verdict_of}
use Rattle.journal_model.specs.Parts.{ends_at}

pub first_filter : {X : Type 0} (p : X → Bool) (xs : List X) → first_of (filter p xs) ≡ find p xs
first_filter p [] = refl
first_filter p (x ∷ xs) = go (p x) (first_filter p xs)
  where
    go : (b : Bool) → first_of (filter p xs) ≡ find p xs → first_of (cond b (x ∷ filter p xs) (filter p xs)) ≡ cond b (Some x) (find p xs)
    go true r = refl
    go false r = r

-- what f gives of the first entry of which it gives something
pub first_given : {X : Type 0} (f : What → Option X) (p : What → Bool) → ((w : What) → p w ≡ is_some (f w))
    → (past : List Entry) → first_of (each_of f past) ≡ option_and_then (λ e. f e.what) (find (λ e. p e.what) past)
first_given f p same [] = refl
first_given {X = X} f p same (e ∷ past) = go (f e.what) (p e.what) (same e.what) refl (first_given f p same past)
  where
    go : (o : Option X) (b : Bool) → b ≡ is_some o → f e.what ≡ o
        → first_of (each_of f past) ≡ option_and_then (λ d. f d.what) (find (λ d. p d.what) past)
        → first_of (cons_option o (each_of f past)) ≡ option_and_then (λ d. f d.what) (cond b (Some e) (find (λ d. p d.what) past))
    go (Some x) true h e r = sym e
    go (Some x) false h e r = absurd cc
    go None true h e r = absurd cc
    go None false h e r = r

settles_gives : (c j : ℕ) (w : What) → settles c j w ≡ is_some (verdict_in c j w)
settles_gives c j (Settled child job verdict) = go (child == c && job == j)
  where
    go : (b : Bool) → b ≡ is_some (cond b (Some verdict) None)
    go true = refl
    go false = refl
settles_gives c j (Claim task child) = refl
settles_gives c j (Start child slot offer) = refl
settles_gives c j (NoStart slot) = refl
settles_gives c j (Lead child job line) = refl
settles_gives c j (Ask child job task line) = refl
settles_gives c j (Put child job line) = refl
settles_gives c j (Sent child) = refl
settles_gives c j (Mute child) = refl
settles_gives c j (Got child line) = refl
settles_gives c j (End child why) = refl
settles_gives c j (Lost child task) = refl
settles_gives c j (Answered task answer) = refl
settles_gives c j (Noted task chunk count) = refl
settles_gives c j (Again task answer) = refl

pub verdict_by_find : (past : List Entry) (c j : ℕ) → verdict_of past c j ≡ option_and_then (λ e. verdict_in c j e.what) (find (λ e. settles c j e.what) past)
verdict_by_find past c j = first_given (verdict_in c j) (settles c j) (settles_gives c j) past

-- a job is settled where it has a verdict
pub some_verdict : (past : List Entry) (c j : ℕ) → is_some (verdict_of past c j) ≡ is_settled past c j
some_verdict [] c j = refl
some_verdict (e ∷ past) c j = go (verdict_in c j e.what) (settles c j e.what) (settles_gives c j e.what) (some_verdict past c j)
  where
    go : (o : Option Verdict) (b : Bool) → b ≡ is_some o → is_some (verdict_of past c j) ≡ is_settled past c j
        → is_some (first_of (cons_option o (each_of (verdict_in c j) past))) ≡ (b || is_settled past c j)
    go (Some v) true h r = refl
    go (Some v) false h r = absurd cc
    go None true h r = absurd cc
    go None false h r = r

pub some_of : {X : Type 0} (P : X → Type 0) (o : Option X) (x : X) → IfSome o P → o ≡ Some x → P x
some_of P None x h e = absurd cc
some_of P (Some y) x h e = let is : y ≡ x = cc in subst P is h

-- whether the first entry is an end, by that entry alone
pub first_ends : (c at : ℕ) (es : List Entry) (e : Entry) → Some e ≡ slice_get es 0 → ends_at c at (e ∷ []) ≡ ends_at c at es
first_ends c at [] e h = absurd cc
first_ends c at (d ∷ es) e h = let same : e ≡ d = cc in ap (λ (x : Entry). ends_at c at (x ∷ [])) same

pub none_ends : (c at : ℕ) (es : List Entry) → None ≡ slice_get es 0 → false ≡ ends_at c at es
none_ends c at [] h = refl
none_ends c at (d ∷ es) h = absurd cc
