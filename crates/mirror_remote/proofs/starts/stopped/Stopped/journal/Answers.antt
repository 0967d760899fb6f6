use Rattle.std.proofs.Common.{◌∙◌, ◌<◌, ◌≤◌, Some, List, ap, length, arith}
use Rattle.journal_model.specs.declared.entry.Entry.{Entry}
use Rattle.mirror_remote.proofs.StartsLemmas.Adding.{journal_at, journal_past}
use Rattle.mirror_remote.proofs.starts.stopped.Stopped.journal.Goals as goal

pub returns-then-n-len : goal.returns-then-n-len
returns-then-n-len g c =
    let cores = c.self.inside.cores in
    let within : c.args.n < length cores.items = omega (arith, c.if-n-len.true, c.len.ensures, cores.ok.0) in
    ap (λ (j : List Entry). Some j) c.journal.ensures
    ∙ journal_at c.args.self.now cores.items
    c.self.inside.wires.items
    c.self.inside.spare c.args.n c.index.result.now c.self.view_is within c.index.ensures

pub returns-else-n-len : goal.returns-else-n-len
returns-else-n-len g c =
    let cores = c.self.inside.cores in
    let past : length cores.items ≤ c.args.n = omega (arith, c.if-n-len.false, c.len.ensures, cores.ok.0) in
    journal_past c.args.self.now cores.items
    c.self.inside.wires.items
    c.self.inside.spare c.args.n c.self.view_is past
