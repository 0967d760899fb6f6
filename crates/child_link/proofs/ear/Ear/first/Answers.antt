use Rattle.std.proofs.Common.{ap, ◌∙◌}
use Rattle.journal_model.specs.Halves.{EarValue}
use Rattle.child_link.proofs.Firsts.{next_held}
use Rattle.wire_line.specs.declared.splitter.Next.TheVariants.{Line, Long, More}
use Rattle.child_link.proofs.ear.Ear.first.Goals as goal

pub returns-in-Ok : goal.returns-in-Ok
returns-in-Ok g c =
    let n = next_held c.self.inside.splitter.limit c.self.inside.splitter.bytes c.args.self.now.held (Line c.in-Line.line) c.self.invariant.1 (ap (λ (v : EarValue). v.held) c.self.view_is) c.in-Line.ensures.next in
    (n.0, c.in-Ok.ensures ∙ n.1)

pub returns-in-Long : goal.returns-in-Long
returns-in-Long g c =
    next_held c.self.inside.splitter.limit c.self.inside.splitter.bytes c.args.self.now.held Long c.self.invariant.1 (ap (λ (v : EarValue). v.held) c.self.view_is) c.in-Long.ensures.next

pub returns-in-More : goal.returns-in-More
returns-in-More g c =
    next_held c.self.inside.splitter.limit c.self.inside.splitter.bytes c.args.self.now.held More c.self.invariant.1 (ap (λ (v : EarValue). v.held) c.self.view_is) c.in-More.ensures.next

pub returns-in-Err : goal.returns-in-Err
returns-in-Err g c =
    let n = next_held c.self.inside.splitter.limit c.self.inside.splitter.bytes c.args.self.now.held (Line c.in-Line.line) c.self.invariant.1 (ap (λ (v : EarValue). v.held) c.self.view_is) c.in-Line.ensures.next in
    n.0
