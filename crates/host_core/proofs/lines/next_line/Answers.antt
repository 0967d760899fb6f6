use Rattle.std.proofs.Common.{◌≡◌, ◌∙◌, sym, true, false}
use Rattle.journal_model.specs.Journal.{unsent}
use Rattle.host_core.specs.Steps.{needs_memory, next_line}
use Rattle.host_core.proofs.Sparing.{line_first}
use Rattle.host_core.proofs.lines.next_line.Goals as goal
use Rattle.ann_key.proofs.Booleans.{true_and_false as true_not_false}

pub returns-in_err-with_newline-in-Some-clause-free : goal.returns-in_err-with_newline-in-Some-clause-free
returns-in_err-with_newline-in-Some-clause-free c = λ none.
    true_not_false (needs_memory (next_line c.args.rest (unsent c.args.journal.now.entries c.args.child)))
    (line_first c.args.rest (unsent c.args.journal.now.entries c.args.child) c.in-Some.line.now c.in-Some.ensures) none
