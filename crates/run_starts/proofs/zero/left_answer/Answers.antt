use Rattle.std.proofs.Common.{sym, ap, ◌∙◌, Option}
use Rattle.journal_model.specs.declared.answer.Answer.{Answer}
use Rattle.run_starts.specs.Rounds.{or_unserved}
use Rattle.run_starts.proofs.Zeros.{first_turn}
use Rattle.run_starts.proofs.zero.left_answer.Goals as goal

pub returns-then-turn-eq1 : goal.returns-then-turn-eq1
returns-then-turn-eq1 c =
    c.requires.unserved
    ∙ ap (λ (a : Option Answer). or_unserved a c.args.journal.now.entries) (sym (first_turn c.args.journal.now.entries c.args.turn.task (sym c.requires.turn ∙ c.if-turn-eq1.true)))
