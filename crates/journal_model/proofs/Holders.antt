-- Who holds a task, and the turn that it is in, while others make entries.
use Rattle.std.proofs.Common.{◌≡◌, ℕ, ◌+◌, ◌<◌, List, ◌++◌, sym, ap, ◌∙◌, Bool, true, false, not, ◌==◌, ◌⊎◌, inl, inr, arith, refl}
use Rattle.std.specs.Prelude.{◌&&◌}
use Rattle.journal_model.specs.declared.entry.Entry.{Entry}
use Rattle.journal_model.specs.declared.opening.Opening.{Opening}
use Rattle.journal_model.specs.Journal.{any}
use Rattle.journal_model.specs.Legality.{Legal, claims, renews, count, holder, is_claimed_by, is_held_by, turn_of_task}
use Rattle.journal_model.specs.Makers.{is_of_task, is_taken_by}
use Rattle.journal_model.specs.Shares.{are_others}
use Rattle.journal_model.proofs.Holding.{held_busy, held_claimed, holder_append}
use Rattle.journal_model.proofs.Idling.{claimed_positive}
use Rattle.journal_model.proofs.Testing.{all-each, by_either, differ_by, none-each}
use Rattle.journal_model.proofs.Working.{count-append, count_none, held_alone, held_taken_from}
use Rattle.ann_key.proofs.Booleans.{true_and_false as true_not_false}

-- ---- the holder

-- a number that takes no task holds none that it didn't hold before
pub untaken_unheld : (past more : List Entry) (n t : ℕ) → is_taken_by more n t ≡ false → is_claimed_by past n t ≡ false → is_claimed_by (past ++ more) n t ≡ false
untaken_unheld past more n t untaken free =
    by_either (is_claimed_by (past ++ more) n t)
    (λ h. go (held_taken_from t n (holder past t) more (sym (ap (is_held_by n) (holder_append past more t)) ∙ h))) (λ f. f)
  where
    go : (is_claimed_by past n t ≡ true) ⊎ (is_taken_by more n t ≡ true) → is_claimed_by (past ++ more) n t ≡ false
    go (inl k) = true_not_false (is_claimed_by past n t) k free
    go (inr k) = true_not_false (is_taken_by more n t) k untaken

-- others take nothing by a number
pub others_untaken : (n t : ℕ) (xs : List Entry) → are_others n xs ≡ true → is_taken_by xs n t ≡ false
others_untaken n t xs h = none-each (λ (x : Entry). x.by == n && claims t x.what) (λ (x : Entry). not (x.by == n)) (λ x d. differ_by (x.by == n) (claims t x.what) d) xs h

pub others_unheld : (past more : List Entry) (n t : ℕ) → are_others n more ≡ true → is_claimed_by past n t ≡ false → is_claimed_by (past ++ more) n t ≡ false
others_unheld past more n t apart free = untaken_unheld past more n t (others_untaken n t more apart) free

-- others make nothing of a task that a number holds
pub others_apart : (o : Opening) (seen more : List Entry) (n t : ℕ) → Legal o seen → Legal o (seen ++ more) → are_others n more ≡ true → is_claimed_by seen n t ≡ true
    → any (is_of_task t) more ≡ false
others_apart o seen more n t first whole apart held =
    held_alone o seen more n t (claimed_positive o seen first t (held_claimed seen t (held_busy n (holder seen t) held))) whole held
    (all-each (λ (e : Entry). not (e.by == n)) (λ (e : Entry). not (is_of_task t e.what && e.by == n)) (λ e k. not_both (is_of_task t e.what) (e.by == n) k) more apart)
  where
    not_both : (a b : Bool) → not b ≡ true → not (a && b) ≡ true
    not_both true b k = k
    not_both false b k = refl

-- ---- the turn

-- a task is in the same turn until it is to be run again
pub turn_stays : (past more : List Entry) (t : ℕ) → any (renews t) more ≡ false → turn_of_task (past ++ more) t ≡ turn_of_task past t
turn_stays past more t none =
    let whole = count-append (renews t) past more in
    let later = count_none (renews t) more none in
    omega (arith, whole, later)
