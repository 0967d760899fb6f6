use Rattle.std.proofs.Common.{◌≡◌, ℕ, false}
use Rattle.journal_model.specs.Legality.{Legal, is_busy}
use Rattle.journal_model.specs.Room.{claims_left}
use Rattle.child_life.specs.Start.Cores.{IsSameCore}
use Rattle.run_starts.specs.Rounds.{left_answer, unserved_answer}
use Rattle.run_starts.proofs.Zeros.{HasLeft}
use Rattle.run_starts.proofs.zero.answer_left.Given as goal

abbrev pub invariant-tasks : goal.invariant-tasks
invariant-tasks l = record {
  legal : Legal l.core.opening l.core.journal;
  rest : (t : ℕ) → is_busy l.core.journal t ≡ false;
  so_far : HasLeft l.initial.core.journal l.core.journal (left_answer l.initial.core.journal);
  unserved : l.unserved ≡ unserved_answer l.initial.core.journal;
  core : IsSameCore l.initial.core l.core;
}

abbrev pub decreases-tasks : goal.decreases-tasks
decreases-tasks l = claims_left l.core.opening l.core.journal
