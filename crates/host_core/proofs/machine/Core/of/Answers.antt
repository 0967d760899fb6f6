use Rattle.std.proofs.Common.{rules, List, subst, sym}
use Rattle.journal_model.specs.declared.entry.Entry.{Entry}
use Rattle.task_queue.specs.Queues.{IsQueued}
use Rattle.host_core.specs.Runs.{AreRuns}
use Rattle.host_core.proofs.machine.Core.of.Goals as goal

pub invariant_of-result : goal.invariant_of-result
invariant_of-result c =
    let o = c.args.opening in
    let e = sym c.requires.journal.0 in (
      search rules,
      c.requires.begins,
      search rules,
      search rules,
      search rules,
      search rules,
      subst (λ (es : List Entry). AreRuns o es c.args.begun.runs.items) e c.requires.runs,
      subst (λ (es : List Entry). IsQueued o es c.args.begun.queue) e c.requires.queue,
    )
