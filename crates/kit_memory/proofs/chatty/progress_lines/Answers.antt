use Rattle.std.proofs.Common.{ℕ, ◌+◌, ap, ◌∙◌, arith}
use Rattle.annex_model.specs.Messages.{Progress, remote_line}
use Rattle.kit_memory.proofs.Children.{progress_more}
use Rattle.kit_memory.proofs.chatty.progress_lines.Goals as goal

pub loop-number-preserved : goal.loop-number-preserved
loop-number-preserved c =
    rw c.in_ok-push.ensures.items
    (progress_more c.args.lines c.loop-number.told.items c.in_ok-line.line c.loop-number.invariant
    (c.loop-number.number, omega arith, c.in_ok-line.ensures.line ∙ ap (λ (k : ℕ). remote_line (Progress (k + 1))) c.from.ensures))
