-- A child that was started has a number above 0.
use Rattle.std.proofs.Common.{◌≡◌, zero, suc, ℕ, ◌+◌, ◌<◌, List, [], ◌∷◌, ◌++◌, refl, ◌∙◌, true, false, ◌==◌, arith}
use Rattle.std.specs.Prelude.{◌&&◌, ◌^◌, nat_lt}
use Rattle.std.specs.List.{list_all}
use Rattle.journal_model.specs.declared.entry.What.{What}
use Rattle.journal_model.specs.declared.entry.What.TheVariants.{Put, Start, End, Verdict as Settled}
use Rattle.journal_model.specs.declared.entry.Entry.{Entry}
use Rattle.journal_model.specs.declared.opening.Opening.{Opening}
use Rattle.journal_model.specs.Journal.{is_started, starts}
use Rattle.journal_model.specs.Due.{due_after, due_by, made_by}
use Rattle.journal_model.specs.Legality.{Legal, count, is_start, may_come}
use Rattle.journal_model.proofs.Growing.{Legal-induction}
use Rattle.journal_model.proofs.Looks.{any-append, entry}
use Rattle.journal_model.proofs.Soft.{is_soft}
use Rattle.std.proofs.lemmas.Bool.{and_parts as both, ne_eqb as differ, eqb-true as same_number}
use Rattle.ann_key.proofs.Booleans.{true_and_false as true_not_false, or_neither as neither}
use Rattle.journal_model.proofs.Bounds.{due_soft as soft_due}

soft_unstarted : (c by : ℕ) (ws : List What) → list_all is_soft ws ≡ true → is_started (made_by by ws) c ≡ false
soft_unstarted c by [] h = refl
soft_unstarted c by (Settled child job verdict ∷ ws) h = soft_unstarted c by ws h
soft_unstarted c by (Put child job line ∷ ws) h = soft_unstarted c by ws h
soft_unstarted c by (End child why ∷ ws) h = soft_unstarted c by ws (both (is_soft (End child why)) (list_all is_soft ws) h).1
soft_unstarted c by (w ∷ ws) h = absurd cc

zero_unstarted : (o : Opening) (journal : List Entry) → Legal o journal → is_started journal 0 ≡ false
zero_unstarted o journal l =
    Legal-induction o (λ past. is_started past 0 ≡ false) refl (λ past e legal before may. step past e.by e.what before may) journal l
  where
    step : (past : List Entry) (by : ℕ) (w : What) → is_started past 0 ≡ false → may_come o past by w ≡ true → is_started (past ++ entry by w ∷ due_after o past (entry by w)) 0 ≡ false
    step past by w before may =
        any-append (starts 0) past (entry by w ∷ due_after o past (entry by w))
        ∙ neither (is_started past 0) (is_started (entry by w ∷ due_after o past (entry by w)) 0) before
        (neither (starts 0 w) (is_started (due_after o past (entry by w)) 0) (first w may) (soft_unstarted 0 by (due_by o past w) (soft_due o past w)))
      where
        first : (v : What) → may_come o past by v ≡ true → starts 0 v ≡ false
        first (Start child slot offer) m =
            let number : child ≡ count is_start past + 1 =
            same_number child (count is_start past + 1) (both (by == 0) (child == count is_start past + 1) (both (by == 0 && child == count is_start past + 1) (nat_lt child (2 ^ 32)) m).0).1 in
            differ child 0 (λ e. omega (arith, number, e))
        first v m = refl

pub started_positive : (o : Opening) (journal : List Entry) → Legal o journal → (c : ℕ) → is_started journal c ≡ true → 0 < c
started_positive o journal l zero h = true_not_false (is_started journal 0) h (zero_unstarted o journal l)
started_positive o journal l (suc c) h = omega arith
