use Rattle.std.proofs.Common.{inr, refl, true, false}
use Rattle.mirror_children.specs.Children.{child_value}
use Rattle.mirror_remote.proofs.StartsLemmas.Begun.{adds_of, came_stands, greeted_as, greeted_begins, may_adds, unstarted_as}
use Rattle.mirror_remote.proofs.starts.beginning.begin.Goals as goal

pub returns-in-Child-clause-begins : goal.returns-in-Child-clause-begins
returns-in-Child-clause-begins g c =
    let p = c.args.plan.now in
    let old = c.in-Ok.core in
    let new = c.greet.new.core in
    let ear = c.in-Child.link.ear in
    let mouth = c.in-Child.link.mouth in
    let fresh = c.in-Ok.ensures in
    let did = c.in-Child.ensures in
    greeted_begins p (g.P.Programs.told c.args.programs.now) (g.P.Programs.told c.greet.new.programs) c.args.children.now.items c.push_reserved.new.self.items (child_value p.number new ear mouth) c.in-Child.came
    c.stood.result c.push_reserved.ensures.items (greeted_as p old new ear mouth fresh.empty fresh.opening did.core did.tells.0 did.wired c.in-Child.link.one_child)
    (adds_of (g.P.Programs.told c.args.programs.now).starts (g.P.Programs.told c.greet.new.programs).starts p.program _ true c.view-program.ensures did.starts)
    (came_stands p old new ear mouth fresh.empty fresh.opening did.core did.tells.0 c.in-Child.came did.wired c.in-Child.link.one_child did.tells.1) c.stood.ensures

pub returns-in-StartFault-clause-begins : goal.returns-in-StartFault-clause-begins
returns-in-StartFault-clause-begins g c =
    let p = c.args.plan.now in
    let did = c.in-StartFault.ensures in (
      refl,
      refl,
      unstarted_as p c.in-Ok.core c.greet.new.core c.in-Ok.ensures.empty c.in-Ok.ensures.opening did.core did.tells,
      adds_of (g.P.Programs.told c.args.programs.now).starts (g.P.Programs.told c.greet.new.programs).starts p.program _ false c.view-program.ensures did.starts,
      did.fault refl,
    )

pub returns-in-NoMemory-clause-begins : goal.returns-in-NoMemory-clause-begins
returns-in-NoMemory-clause-begins g c =
    inr (refl, may_adds (g.P.Programs.told c.args.programs.now).starts (g.P.Programs.told c.greet.new.programs).starts c.args.plan.now.program _ c.view-program.ensures c.in-NoMemory.ensures.starts)
