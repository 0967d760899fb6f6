use Rattle.std.proofs.Common.{◌∙◌, ap, arith, length-drop, not}
use Rattle.std.specs.List.{prefix_len}
use Rattle.journal_model.specs.declared.entry.Entry.{Entry}
use Rattle.journal_scan.specs.Looks.{is_written}
use Rattle.journal_look.proofs.Counting.{next_at}
use Rattle.journal_look.proofs.cursors.advanced.Goals as goal

pub returns-then-x-lt18446744073709551615-clause-at : goal.returns-then-x-lt18446744073709551615-clause-at
returns-then-x-lt18446744073709551615-clause-at c =
    next_at c.args.entries.now c.args.x c.before_written-n.result c.requires
    (c.before_written-n.ensures.value ∙ ap (prefix_len (λ (e : Entry). not (is_written c.args.x.child e.what))) c.behind.ensures)
    (omega (arith, length-drop c.args.x.from c.args.entries.now, c.len.ensures))
