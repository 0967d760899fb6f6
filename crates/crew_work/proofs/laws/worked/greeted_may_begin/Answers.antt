use Rattle.std.proofs.Common.{◌≡◌, ℕ, false, ◌==◌, refl, subst}
use Rattle.std.specs.Fmt.{digits}
use Rattle.std.specs.Prelude.{take}
use Rattle.journal_model.specs.Journal.{is_open}
use Rattle.journal_model.specs.Legality.{is_busy}
use Rattle.journal_model.specs.Rows.{tagged_greeting}
use Rattle.journal_model.proofs.Testing.{by_either}
use Rattle.crew_work.proofs.laws.worked.greeted_may_begin.Goals as goal
use Rattle.std.proofs.lemmas.Bool.{eqb-true as same_number}
use Rattle.ann_key.proofs.Booleans.{true_and_false as true_not_false}

pub returns-clause-at_rest : goal.returns-clause-at_rest
returns-clause-at_rest f = record {
  idle = λ t. refl;
  shut = λ c j.
      by_either (1 == c) (λ e. subst (λ (x : ℕ). is_open (take 10 tagged_greeting) x j ≡ false) (same_number 1 c e) refl) (λ e. rw e refl);
}

pub returns-clause-busy : goal.returns-clause-busy
returns-clause-busy f = λ r. true_not_false (is_busy tagged_greeting 1) refl (r.idle 1)

pub returns-clause-begins : goal.returns-clause-begins
unfolding digits
returns-clause-begins f = record { started = refl; tagged = refl; turn = refl; unclosed = λ e. absurd cc }

pub returns-clause-legal : goal.returns-clause-legal
unfolding digits
returns-clause-legal f = record { stands = (refl, (refl, (refl, (refl, (refl, (refl, (refl, (refl, (refl, (refl, tt)))))))))); nothing_due = refl }
