use Rattle.std.proofs.Common.{◌∙◌, List, Some, ap}
use Rattle.journal_model.specs.declared.entry.Entry.{Entry}
use Rattle.mirror_remote.proofs.Lending.{lent_child, lent_log, lent_none, no_children, some_children}
use Rattle.mirror_remote.proofs.mirror.MirrorRemote.journal.Goals as goal

pub returns-then-is_empty : goal.returns-then-is_empty
returns-then-is_empty g c =
    let i = c.self.inside in
    lent_log c.args.self.now (g.P.Programs.told i.programs) i.children.items i.stopped.logs c.args.n c.self.view_is
    _ (no_children i.children.items _ c.is_empty.result i.children.ok.0 c.is_empty.ensures c.if-is_empty.true) c.journal.ensures

pub returns-in-Some : goal.returns-in-Some
returns-in-Some g c =
    let i = c.self.inside in
    ap (λ (j : List Entry). Some j) c.journal-in-Some.ensures
    ∙ lent_child c.args.self.now (g.P.Programs.told i.programs) i.children.items i.stopped.logs c.args.n c.self.view_is
    c.deref.result.now c.in-Some.child.now c.self.invariant.2 c.deref.ensures.value c.in-Some.ensures.lookup.3.0 c.in-Some.ensures.lookup.1

pub returns-in-None : goal.returns-in-None
returns-in-None g c =
    let i = c.self.inside in
    lent_none c.args.self.now (g.P.Programs.told i.programs) i.children.items i.stopped.logs c.args.n c.self.view_is
    c.deref.result.now c.self.invariant.2 (some_children i.children.items _ c.is_empty.result i.children.ok.0 c.is_empty.ensures c.if-is_empty.false) c.deref.ensures.value c.in-None.ensures.lookup.3
