use Rattle.std.proofs.Common.{◌∙◌, ap, not}
use Rattle.std.specs.Prelude.{nat_lt}
use Rattle.journal_look.specs.declared.life.Life.{Life}
use Rattle.journal_scan.proofs.Written.{all_sent}
use Rattle.journal_look.proofs.looks.is_all_sent.Goals as goal

pub returns : goal.returns
returns c =
    c.are_all_sent.ensures
    ∙ ap (λ (life : Life). not (nat_lt life.sent life.written)) c.life-life.ensures
    ∙ all_sent c.args.journal.now.entries c.args.child
