-- What roles do, put together.
use Rattle.std.proofs.Common.{◌≡◌, ℕ, List, [], ◌∷◌, ◌++◌, refl, sym, ap, subst, ◌∙◌, Bool, true, false, not, append_assoc, append-nil}
use Rattle.std.specs.Prelude.{◌||◌, ◌==◌}
use Rattle.std.specs.List.{list_all, list_any}
use Rattle.journal_model.specs.declared.entry.What.{What}
use Rattle.journal_model.specs.declared.entry.Entry.{Entry}
use Rattle.journal_model.specs.declared.opening.Opening.{Opening}
use Rattle.journal_model.specs.Journal.{any, starts, is_started, ends, is_ended, asks, asked_jobs}
use Rattle.journal_model.specs.Due.{made_by}
use Rattle.journal_model.proofs.Looks.{any-append, each_of-append}
use Rattle.std.proofs.lemmas.List.Folds.{list_any-append}
use Rattle.host_core.specs.Steps.{is_asked}
use Rattle.journal_model.specs.Shares.{are_others, are_by, are_own, makes_only, Moved}
use Rattle.child_link.specs.Doors.{Passed, Stands, DoorView, IsSameDoor}
use Rattle.ann_key.proofs.Booleans.{or_right as right_or}
use Rattle.journal_model.proofs.Testing.{only_others as others_make}
use Rattle.std.proofs.lemmas.Bool.{and_parts as both}
use Rattle.ann_key.proofs.Numbers.{same_number as same}

-- ---- lists of entries

pub all-append : (p : Entry → Bool) (xs ys : List Entry) → list_all p xs ≡ true → list_all p ys ≡ true → list_all p (xs ++ ys) ≡ true
all-append p [] ys h k = k
all-append p (x ∷ xs) ys h k = let t = both (p x) (list_all p xs) h in rw (t.0, all-append p xs ys t.1 k) refl

pub all_left : (p : Entry → Bool) (xs ys : List Entry) → list_all p (xs ++ ys) ≡ true → list_all p xs ≡ true
all_left p [] ys h = refl
all_left p (x ∷ xs) ys h = let t = both (p x) (list_all p (xs ++ ys)) h in rw (t.0, all_left p xs ys t.1) refl

pub all_right : (p : Entry → Bool) (xs ys : List Entry) → list_all p (xs ++ ys) ≡ true → list_all p ys ≡ true
all_right p [] ys h = h
all_right p (x ∷ xs) ys h = all_right p xs ys (both (p x) (list_all p (xs ++ ys)) h).1

all_weaker : (p q : Entry → Bool) → ((e : Entry) → p e ≡ true → q e ≡ true) → (xs : List Entry) → list_all p xs ≡ true → list_all q xs ≡ true
all_weaker p q w [] h = refl
all_weaker p q w (x ∷ xs) h = let t = both (p x) (list_all p xs) h in rw (w x t.0, all_weaker p q w xs t.1) refl

-- what others made isn't of a kind of which others made none
pub others_none : (p : What → Bool) (n : ℕ) (xs : List Entry) → are_others n xs ≡ true → are_own p n xs ≡ true → any p xs ≡ false
others_none p n [] a o = refl
others_none p n (x ∷ xs) a o =
    let t : (not (x.by == n) ≡ true) × (are_others n xs ≡ true) = both (not (x.by == n)) (are_others n xs) a in
    let u : ((not (p x.what) || x.by == n) ≡ true) × (are_own p n xs ≡ true) = both (not (p x.what) || x.by == n) (are_own p n xs) o in
    rw (other (p x.what) (x.by == n) t.0 u.0, others_none p n xs t.1 u.1) refl
  where
    other : (b c : Bool) → not c ≡ true → (not b || c) ≡ true → b ≡ false
    other b true h k = absurd cc
    other false false h k = refl
    other true false h k = absurd cc

-- a role that makes none of a kind leaves it to others, who made none
pub none_made : (m p : What → Bool) → ((w : What) → m w ≡ true → p w ≡ false) → (n : ℕ) (xs : List Entry) → makes_only m n xs ≡ true → are_own p n xs ≡ true → any p xs ≡ false
none_made m p apart n [] a o = refl
none_made m p apart n (x ∷ xs) a o =
    let t : ((not (x.by == n) || m x.what) ≡ true) × (makes_only m n xs ≡ true) = both (not (x.by == n) || m x.what) (makes_only m n xs) a in
    let u : ((not (p x.what) || x.by == n) ≡ true) × (are_own p n xs ≡ true) = both (not (p x.what) || x.by == n) (are_own p n xs) o in
    rw (one (m x.what) refl (p x.what) refl (x.by == n) t.0 u.0, none_made m p apart n xs t.1 u.1) refl
  where
    one : (a : Bool) → m x.what ≡ a → (b : Bool) → p x.what ≡ b → (c : Bool) → (not c || a) ≡ true → (not b || c) ≡ true → b ≡ false
    one a e false f c h k = refl
    one a e true f false h k = absurd cc
    one false e true f true h k = absurd cc
    one true e true f true h k = sym f ∙ apart x.what e

pub by_append : (n : ℕ) (xs ys : List Entry) → are_by n xs ≡ true → are_by n ys ≡ true → are_by n (xs ++ ys) ≡ true
by_append n xs ys h k = all-append (λ (e : Entry). e.by == n) xs ys h k

pub others_append : (n : ℕ) (xs ys : List Entry) → are_others n xs ≡ true → are_others n ys ≡ true → are_others n (xs ++ ys) ≡ true
others_append n xs ys h k = all-append (λ (e : Entry). not (e.by == n)) xs ys h k

pub made_are_by : (n : ℕ) (ws : List What) → are_by n (made_by n ws) ≡ true
made_are_by n [] = refl
made_are_by n (w ∷ ws) = rw (same n, made_are_by n ws) refl

made_only : (p : What → Bool) (n : ℕ) (ws : List What) → list_all p ws ≡ true → makes_only p n (made_by n ws) ≡ true
made_only p n [] h = refl
made_only p n (w ∷ ws) h = let t = both (p w) (list_all p ws) h in rw (right_or (not (n == n)) (p w) t.0, made_only p n ws t.1) refl

-- a role that is alone owns all
pub by_own : (p : What → Bool) (n : ℕ) (xs : List Entry) → are_by n xs ≡ true → are_own p n xs ≡ true
by_own p n xs h = all_weaker (λ (e : Entry). e.by == n) (λ (e : Entry). not (p e.what) || e.by == n) (λ e k. right_or (not (p e.what)) (e.by == n) k) xs h

-- ---- what a role did

-- others went on, and it made entries of its own kind
pub moved_by : {n : ℕ} {a : Bool} {makes mine : What → Bool} {o : Opening} {old new : List Entry} {ws : List Entry → List What} {Found : List Entry → Type 0} {Before After : Type 0}
    → (s : Stands o n a old new ws Found) → list_all makes (ws s.past) ≡ true
    → (any mine s.passed.others ≡ false → Before → After) → Moved n a makes mine old new Before After
moved_by {n} {a} {makes} {mine} {o} {old} {new} {ws} s own kept = record {
  more = s.passed.others ++ group;
  is = s.is ∙ ap (λ (l : List Entry). l ++ group) s.passed.is ∙ append_assoc old s.passed.others group;
  own = all-append (λ (e : Entry). not (e.by == n) || makes e.what) s.passed.others group (others_make makes n s.passed.others s.passed.apart)
      (made_only makes n (ws s.past) own);
  lone = λ h. by_append n s.passed.others group (subst (λ (l : List Entry). are_by n l ≡ true) (sym (s.passed.none h)) refl) (made_are_by n (ws s.past));
  kept = λ h. kept (others_none mine n s.passed.others s.passed.apart (all_left (λ (e : Entry). not (mine e.what) || e.by == n) s.passed.others group h));
}
  where
    group : List Entry
    group = made_by n (ws s.past)

-- others alone went on
pub moved_on : {n : ℕ} {a : Bool} {makes mine : What → Bool} {old new : List Entry} {Before After : Type 0}
    → (s : Passed n a old new) → (any mine s.others ≡ false → Before → After) → Moved n a makes mine old new Before After
moved_on {n} {a} {makes} {mine} s kept = record {
  more = s.others;
  is = s.is;
  own = others_make makes n s.others s.apart;
  lone = λ h. subst (λ (l : List Entry). are_by n l ≡ true) (sym (s.none h)) refl;
  kept = λ h. kept (others_none mine n s.others s.apart h);
}

-- nothing was done
pub moved_still : {n : ℕ} {a : Bool} {makes mine : What → Bool} {old new : List Entry} {Before After : Type 0} → new ≡ old → (Before → After) → Moved n a makes mine old new Before After
moved_still {n} {a} {makes} {mine} {old} e kept = record { more = []; is = e ∙ sym (append-nil old); own = refl; lone = λ h. refl; kept = λ h. kept }

-- one thing after another, by the same number
pub moved_both : {n m : ℕ} {a b : Bool} {makes mine : What → Bool} {x y z : List Entry} {P Q R : Type 0} → m ≡ n → b ≡ a
    → Moved n a makes mine x y P Q → Moved m b makes mine y z Q R → Moved n a makes mine x z P R
moved_both {n} {m} {a} {b} {makes} {mine} {x} {y} {z} {P} {Q} {R} en ea s t' =
    let t : Moved n a makes mine y z Q R = subst (λ (k : ℕ). Moved k a makes mine y z Q R) en (subst (λ (k : Bool). Moved m k makes mine y z Q R) ea t') in
    record {
      more = s.more ++ t.more;
      is = t.is ∙ ap (λ (l : List Entry). l ++ t.more) s.is ∙ append_assoc x s.more t.more;
      own = all-append (λ (e : Entry). not (e.by == n) || makes e.what) s.more t.more s.own t.own;
      lone = λ h. by_append n s.more t.more (s.lone h) (t.lone h);
      kept = λ h p.
          t.kept (all_right (λ (e : Entry). not (mine e.what) || e.by == n) s.more t.more h)
          (s.kept (all_left (λ (e : Entry). not (mine e.what) || e.by == n) s.more t.more h) p);
    }

-- the same, where the kinds are of one child under two names
pub moved_then : (makes mine : ℕ → What → Bool) {n m c d : ℕ} {a b : Bool} {x y z : List Entry} {P Q R : Type 0} → m ≡ n → b ≡ a → d ≡ c
    → Moved n a (makes c) (mine c) x y P Q → Moved m b (makes d) (mine d) y z Q R → Moved n a (makes c) (mine c) x z P R
moved_then makes mine {n} {m} {c} {d} {a} {b} {x} {y} {z} {P} {Q} {R} en ea ec s t =
    moved_both en ea s (subst (λ (k : ℕ). Moved m b (makes k) (mine k) y z Q R) ec t)

-- what was known before is known after more
pub moved_from : {n : ℕ} {a : Bool} {makes mine : What → Bool} {x y : List Entry} {P P' Q : Type 0} → (P' → P) → Moved n a makes mine x y P Q → Moved n a makes mine x y P' Q
moved_from f s = record { more = s.more; is = s.is; own = s.own; lone = s.lone; kept = λ h p. s.kept h (f p) }

-- what is of a wider kind is a role's own, and so what is of a kind
pub all_narrower : (p q : What → Bool) → ((w : What) → p w ≡ true → q w ≡ true) → (n : ℕ) (xs : List Entry) → are_own q n xs ≡ true → are_own p n xs ≡ true
all_narrower p q f n xs h = all_weaker (λ (e : Entry). not (q e.what) || e.by == n) (λ (e : Entry). not (p e.what) || e.by == n) (λ e k. less (p e.what) (q e.what) (e.by == n) (f e.what) k) xs h
  where
    less : (m m' b : Bool) → (m ≡ true → m' ≡ true) → (not m' || b) ≡ true → (not m || b) ≡ true
    less false m' b w h = refl
    less true true b w h = h
    less true false b w h = let bad : false ≡ true = w refl in absurd cc

-- what it makes is of a wider kind, others made nothing of a wider kind, and more is known
pub moved_wider : {n : ℕ} {a : Bool} {makes makes' mine mine' : What → Bool} {x y : List Entry} {P Q P' Q' : Type 0}
    → ((w : What) → makes w ≡ true → makes' w ≡ true) → ((w : What) → mine w ≡ true → mine' w ≡ true)
    → (s : Moved n a makes mine x y P Q)
    → (are_own mine' n s.more ≡ true → (P → Q) → P' → Q') → Moved n a makes' mine' x y P' Q'
moved_wider {n} {a} {makes} {makes'} {mine} {mine'} wide narrow s kept = record {
  more = s.more;
  is = s.is;
  own = all_weaker (λ (e : Entry). not (e.by == n) || makes e.what) (λ (e : Entry). not (e.by == n) || makes' e.what) (λ e h. grown (not (e.by == n)) (makes e.what) (makes' e.what) (wide e.what) h) s.more s.own;
  lone = s.lone;
  kept = λ h p. kept h (s.kept (shrunk h)) p;
}
  where
    grown : (b m m' : Bool) → (m ≡ true → m' ≡ true) → (b || m) ≡ true → (b || m') ≡ true
    grown true m m' w h = refl
    grown false m m' w h = w h

    shrunk : are_own mine' n s.more ≡ true → are_own mine n s.more ≡ true
    shrunk h = all_narrower mine mine' narrow n s.more h

-- ---- doors

pub same_both : {H : Type 0} {x y z : DoorView H} → IsSameDoor x y → IsSameDoor y z → IsSameDoor x z
same_both s t = record {
  opening = t.opening ∙ s.opening;
  number = t.number ∙ s.number;
  alone = t.alone ∙ s.alone;
  loans = t.loans ∙ s.loans;
  home = t.home ∙ s.home;
  legal = λ h. t.legal (s.legal h);
}

-- a rest changes nothing of it
pub rested : {H : Type 0} {x y z : DoorView H} → z ≡ y → IsSameDoor x y → IsSameDoor x z
rested {x = x} e t = subst (λ w. IsSameDoor x w) (sym e) t

-- and so the journal that it has seen
pub seen_still : {H : Type 0} {y z : DoorView H} → z ≡ y → y.seen ≡ z.seen
seen_still {H} e = sym (ap (λ (v : DoorView H). v.seen) e)

-- ---- what stays

pub any_on : (p : What → Bool) (old more new : List Entry) → new ≡ old ++ more → any p old ≡ true → any p new ≡ true
any_on p old more new e h = ap (any p) e ∙ any-append p old more ∙ ap (λ (b : Bool). b || any p more) h

pub asked_on : (old more new : List Entry) (c j : ℕ) → new ≡ old ++ more → is_asked old c j ≡ true → is_asked new c j ≡ true
asked_on old more new c j e a =
    ap (λ (x : List Entry). is_asked x c j) e ∙ ap (list_any (λ k. k == j)) (each_of-append (asks c) old more)
    ∙ list_any-append (λ k. k == j) (asked_jobs old c) (asked_jobs more c) ∙ ap (λ (b : Bool). b || list_any (λ k. k == j) (asked_jobs more c)) a

pub started_on : {n : ℕ} {a : Bool} {makes mine : What → Bool} {old new : List Entry} {P Q : Type 0} (c : ℕ) → Moved n a makes mine old new P Q → is_started old c ≡ true → is_started new c ≡ true
started_on {old = old} {new = new} c s h = any_on (starts c) old s.more new s.is h

pub ended_on : {n : ℕ} {a : Bool} {makes mine : What → Bool} {old new : List Entry} {P Q : Type 0} (c : ℕ) → Moved n a makes mine old new P Q → is_ended old c ≡ true → is_ended new c ≡ true
ended_on {old = old} {new = new} c s h = any_on (ends c) old s.more new s.is h
