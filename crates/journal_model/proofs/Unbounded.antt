-- While a number holds a task, and neither claims nor closes it, nobody does.
use Rattle.std.proofs.Common.{◌≡◌, ℕ, ◌<◌, List, [], ◌∷◌, ◌++◌, refl, sym, subst, ◌∙◌, Bool, true, false, not, ◌==◌, Some, None, Option, arith, zero, suc}
use Rattle.std.specs.Prelude.{◌&&◌, ◌||◌, if◌then◌else◌, is_none}
use Rattle.std.specs.List.{list_all}
use Rattle.journal_model.specs.declared.holder.Holder.{Holder}
use Rattle.journal_model.specs.declared.entry.What.{What}
use Rattle.journal_model.specs.declared.entry.What.TheVariants.{Claim, Answer as Answered, Again}
use Rattle.journal_model.specs.declared.entry.Entry.{Entry}
use Rattle.journal_model.specs.declared.opening.Opening.{Opening}
use Rattle.journal_model.specs.Journal.{any, is_live, is_mute}
use Rattle.journal_model.specs.Legality.{Legal, claims, closes, holder, is_claimed_by, is_held_by, is_number, is_prepared, least_free, may_come, turned, turned_by}
use Rattle.journal_model.specs.Makers.{are_by_holder, is_by_holder, is_of_task}
use Rattle.journal_model.specs.Shares.{makes_only}
use Rattle.journal_model.proofs.Looks.{any-append, entry}
use Rattle.journal_model.proofs.Testing.{by_either}
use Rattle.journal_model.proofs.Working.{are_by_holder-append, due_untasked, held_taken, taken_some, tasks_kept, unclaimed_in, claims_of}
use Rattle.journal_model.proofs.Growing.{Legal-induction}
use Rattle.journal_model.proofs.Idling.{free_positive}
use Rattle.journal_model.specs.Due.{due_after}
use Rattle.std.proofs.lemmas.Bool.{not-true as not_true, and_parts as both, eqb-true as same_number}
use Rattle.ann_key.proofs.Booleans.{true_and_false as true_not_false, left_false as either_left, or_neither as neither}
use Rattle.ann_key.proofs.Numbers.{same_number as same}

-- the entry claims the task, or closes a run of it
abbrev pub bounds : ℕ → What → Bool
bounds t w = claims t w || closes t w

closes_of : (t : ℕ) (w : What) → closes t w ≡ true → is_of_task t w ≡ true
closes_of t (Answered task answer) h = h
closes_of t (Again task answer) h = h
closes_of t w h = absurd cc

-- what neither claims nor closes the task leaves its holder
pub unbounded_turned : (t by : ℕ) (h : Option Holder) (w : What) → claims t w ≡ false → closes t w ≡ false → turned_by t h by w ≡ h
unbounded_turned t by h (Claim task child) c k = rw c refl
unbounded_turned t by h (Answered task answer) c k = rw k refl
unbounded_turned t by h (Again task answer) c k = rw k refl
unbounded_turned t by h w c k = refl

module _ (t n : ℕ) where
  one_bound : (h : Option Holder) (e : Entry) → is_held_by n h ≡ true → is_by_holder t h e ≡ true → not (bounds t e.what && e.by == n) ≡ true → (claims t e.what ≡ false) × (closes t e.what ≡ false)
  one_bound None e held own none = absurd cc
  one_bound (Some x) e held own none =
      by_either (claims t e.what) (λ c. absurd (unfree (rw (claims_of t e.what c, c) at own)))
      (λ c. by_either (closes t e.what)
      (λ k. absurd (other (rw (closes_of t e.what k, c) at own) (rw (c, k) at none)))
      (λ k. (c, k)))
    where
      unfree : false ≡ true → ⊥
      unfree bad = absurd cc

      other : (x.by == e.by) ≡ true → not (e.by == n) ≡ true → ⊥
      other mine off =
          let here : (e.by == n) ≡ true = subst (λ (m : ℕ). (e.by == m) ≡ true) (sym (same_number x.by e.by mine) ∙ same_number x.by n held) (same e.by) in
          let bad : true ≡ false = sym here ∙ not_true (e.by == n) off in
          absurd cc

  unbounded_from : (h : Option Holder) (more : List Entry) → is_held_by n h ≡ true → are_by_holder t h more ≡ true → list_all (λ e. not (bounds t e.what && e.by == n)) more ≡ true
      → (any (claims t) more ≡ false) × (any (closes t) more ≡ false)
  unbounded_from h [] held own none = (refl, refl)
  unbounded_from h (e ∷ more) held own none =
      let o = both (is_by_holder t h e) (are_by_holder t (turned t h e) more) own in
      let s = both (not (bounds t e.what && e.by == n)) (list_all (λ x. not (bounds t x.what && x.by == n)) more) none in
      let one = one_bound h e held o.0 s.0 in
      let rest = unbounded_from h more held (subst (λ (x : Option Holder). are_by_holder t x more ≡ true) (unbounded_turned t e.by h e.what one.0 one.1) o.1) s.1 in
      (neither (claims t e.what) (any (claims t) more) one.0 rest.0, neither (closes t e.what) (any (closes t) more) one.1 rest.1)

pub unbounded : (o : Opening) (seen more : List Entry) (n t : ℕ) → 0 < t → Legal o (seen ++ more) → is_claimed_by seen n t ≡ true
    → list_all (λ e. not (bounds t e.what && e.by == n)) more ≡ true → (any (claims t) more ≡ false) × (any (closes t) more ≡ false)
unbounded o seen more n t pos legal held none =
    unbounded_from t n (holder seen t) more held
    (both (are_by_holder t None seen) (are_by_holder t (holder seen t) more) (sym (are_by_holder-append t None seen more) ∙ (tasks_kept o (seen ++ more) legal).own t pos)).1 none

-- a role that makes none of a kind makes none of it by its number
pub none_by : (makes p : What → Bool) → ((w : What) → makes w ≡ true → p w ≡ false) → (n : ℕ) (xs : List Entry) → makes_only makes n xs ≡ true → list_all (λ e. not (p e.what && e.by == n)) xs ≡ true
none_by makes p none n [] own = refl
none_by makes p none n (e ∷ xs) own =
    let s : ((not (e.by == n) || makes e.what) ≡ true) × (makes_only makes n xs ≡ true) = both (not (e.by == n) || makes e.what) (makes_only makes n xs) own in
    rw (one (e.by == n) (makes e.what) refl s.0, none_by makes p none n xs s.1) refl
  where
    one : (b m : Bool) → makes e.what ≡ m → (not b || m) ≡ true → not (p e.what && b) ≡ true
    one true true is h = rw (none e.what is) refl
    one true false is h = absurd cc
    one false m is h = off (p e.what)
      where
        off : (x : Bool) → not (x && false) ≡ true
        off true = refl
        off false = refl

-- number 0 is no task's, so it is never claimed
zero_never : (o : Opening) (journal : List Entry) → Legal o journal → any (claims 0) journal ≡ false
zero_never o journal legal =
    Legal-induction o (λ past. any (claims 0) past ≡ false) refl
    (λ past e l before may. any-append (claims 0) past (e ∷ due_after o past e)
    ∙ neither (any (claims 0) past) (any (claims 0) (e ∷ due_after o past e)) before
    (neither (claims 0 e.what) (any (claims 0) (due_after o past e)) (first past e.by e.what may) (unclaimed_in 0 (due_after o past e) (due_untasked o past e.by 0 e.what)))) journal legal
  where
    first : (past : List Entry) (by : ℕ) (w : What) → may_come o past by w ≡ true → claims 0 w ≡ false
    first past by (Claim task child) may =
        free_positive o past task (least_free o past) refl
        (both (is_number task (least_free o past)) ((child == 0 && by == 0) || (is_prepared past child && is_live past child && not (is_mute past child))) may).0
    first past by w may = refl

-- a task that is held is one
pub held_positive : (o : Opening) (seen more : List Entry) (n t : ℕ) → Legal o (seen ++ more) → is_claimed_by seen n t ≡ true → 0 < t
held_positive o seen more n t legal held = go t held
  where
    go : (u : ℕ) → is_claimed_by seen n u ≡ true → 0 < u
    go zero h = true_not_false (any (claims 0) seen) (taken_some seen n 0 (held_taken seen n 0 h))
        (either_left (any (claims 0) seen) (any (claims 0) more) (sym (any-append (claims 0) seen more) ∙ zero_never o (seen ++ more) legal))
    go (suc u) h = omega arith

-- what makes no claim of the task and closes no run of it
pub record Within (makes : What → Bool) (t : ℕ) : Type 0 where
  pub unclaimed : (w : What) → makes w ≡ true → claims t w ≡ false
  pub unclosed : (w : What) → makes w ≡ true → closes t w ≡ false
