use Rattle.std.proofs.Common.{◌≡◌, ◌∙◌, List, ℕ, subst}
use Rattle.std.specs.Prelude.{IfOk}
use Rattle.kit_async_model.specs.Jobs.{due_in}
use Rattle.kit_async_model.proofs.Dues.{line_of, sayable_of, no_line}
use Rattle.kit_async_model.proofs.job.Job.due_lines.Goals as goal

pub one_line-requires : goal.one_line-requires
one_line-requires c = sayable_of c.in-Line.message (due_in c.args.setup.now c.args.self.now) c.in-Line.ensures

pub returns-in-Line : goal.returns-in-Line
returns-in-Line c =
    subst (λ (ls : List (List ℕ)). IfOk c.one_line.result (λ lines. lines ≡ ls))
    (line_of c.in-Line.message (due_in c.args.setup.now c.args.self.now) c.in-Line.ensures) c.one_line.ensures

pub returns-in-Silence : goal.returns-in-Silence
returns-in-Silence c = c.new-in-Silence.ensures ∙ c.new.ensures.items ∙ no_line c.due.result (due_in c.args.setup.now c.args.self.now) c.due.ensures c.in-Silence.is
