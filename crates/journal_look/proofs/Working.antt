-- A task for which a number may make a request.
use Rattle.std.proofs.Common.{◌≡◌, ◌∙◌, ℕ, List, [], ◌∷◌, ◌++◌, refl, sym, ap, Bool, true, false, cond, Option, Some, None, inl, inr}
use Rattle.std.specs.Prelude.{◌==◌, ◌&&◌, ◌||◌, ◌⊎◌, not, find, option_map, is_some, IfSome, IsNone}
use Rattle.std.specs.List.{list_any}
use Rattle.journal_model.specs.declared.entry.Entry.{Entry}
use Rattle.journal_model.specs.Journal.{each_of}
use Rattle.journal_model.specs.Legality.{claimed_for, has_open_job, holder, is_busy_with, is_claimed_by, is_held_for, may_work}
use Rattle.journal_model.proofs.Named.{any_there, claimed_in}
use Rattle.journal_look.specs.declared.held.Held.{Held}
use Rattle.journal_look.specs.Holds.{AreHeld, held_of}
use Rattle.journal_look.proofs.InWay.{found_any, held_found}
use Rattle.ann_key.proofs.Booleans.{never_true as never}
use Rattle.ann_key.proofs.Lists.{found_so}
use Rattle.std.proofs.lemmas.Bool.{and_parts as both}

-- ---- the first that passes

pub none_found : {X : Type 0} (p : X → Bool) (xs : List X) → find p xs ≡ None → list_any p xs ≡ false
none_found p [] h = refl
none_found p (y ∷ ys) h = go (p y) h (none_found p ys)
  where
    go : (b : Bool) → cond b (Some y) (find p ys) ≡ None → (find p ys ≡ None → list_any p ys ≡ false) → (b || list_any p ys) ≡ false
    go true h r = absurd cc
    go false h r = r h

-- the same of what is found
pub find_some : (p : ℕ → Bool) (xs : List ℕ) (o : Option ℕ) → o ≡ find p xs → IfSome o (λ t. p t ≡ true)
find_some p xs None h = tt
find_some p xs (Some x) h = found_so p xs x (sym h)

pub find_none : (p : ℕ → Bool) (xs : List ℕ) (o : Option ℕ) → o ≡ find p xs → IsNone o → list_any p xs ≡ false
find_none p xs None h none = none_found p xs (sym h)
find_none p xs (Some x) h none = absurd cc

-- ---- no task at all

-- what isn't the main thread's own is for a task that is held for the child
own_or_held : (past : List Entry) (by t c : ℕ) → may_work past by t c ≡ true → (may_work past by 0 c ≡ true) ⊎ (is_busy_with past c t ≡ true)
own_or_held past by t c h = go (t == 0 && by == 0) refl h
  where
    go : (b : Bool) → (t == 0 && by == 0) ≡ b → (b || (is_claimed_by past by t && is_busy_with past c t && not (has_open_job past t))) ≡ true
        → (may_work past by 0 c ≡ true) ⊎ (is_busy_with past c t ≡ true)
    go true e h = inl (let main = (both (t == 0) (by == 0) e).1 in rw main refl)
    go false e h = inr (both (is_claimed_by past by t) (is_busy_with past c t) (both (is_claimed_by past by t && is_busy_with past c t) (not (has_open_job past t)) h).0).1

module _ (past : List Entry) (by c : ℕ) (own : may_work past by 0 c ≡ false) where
  pub no_held_work : (held : List Held) → AreHeld past held → list_any (λ h. may_work past by h.task c) held ≡ false → (t : ℕ) → may_work past by t c ≡ false
  no_held_work held are none t = never (may_work past by t c) (λ h. go h (own_or_held past by t c h))
    where
      go : may_work past by t c ≡ true → (may_work past by 0 c ≡ true) ⊎ (is_busy_with past c t ≡ true) → ⊥
      go h (inl mine) = let no : false ≡ true = sym own ∙ mine in cc
      go h (inr busy) =
          let here : is_held_for c (held_of held t) ≡ true = ap (is_held_for c) (sym (are.each t)) ∙ busy in
          let there = found_any (λ (u : ℕ). may_work past by u c) t held (held_found c (find (λ (x : Held). x.task == t) held) here) h in
          (let no : false ≡ true = sym none ∙ there in cc)

  pub no_claimed_work : list_any (λ t. may_work past by t c) (each_of (claimed_for c) past) ≡ false → (t : ℕ) → may_work past by t c ≡ false
  no_claimed_work none t = never (may_work past by t c) (λ h. go h (own_or_held past by t c h))
    where
      go : may_work past by t c ≡ true → (may_work past by 0 c ≡ true) ⊎ (is_busy_with past c t ≡ true) → ⊥
      go h (inl mine) = let no : false ≡ true = sym own ∙ mine in cc
      go h (inr busy) = claimed h (claimed_in past c t None busy)
        where
          claimed : may_work past by t c ≡ true → (is_held_for c None ≡ true) ⊎ (list_any (λ (v : ℕ). v == t) (each_of (claimed_for c) past) ≡ true) → ⊥
          claimed h (inl empty) = cc
          claimed h (inr there) =
              let found = any_there (λ (u : ℕ). may_work past by u c) t (each_of (claimed_for c) past) there h in
              (let no : false ≡ true = sym none ∙ found in cc)
