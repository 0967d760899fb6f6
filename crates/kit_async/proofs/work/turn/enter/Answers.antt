use Rattle.std.proofs.Common.{◌∙◌}
use Rattle.kit_async.specs.Work.Passes.{Enters}
use Rattle.kit_async.proofs.WorkLemmas.Groups.{entered_stands, ok_none, ok_some}
use Rattle.kit_async.proofs.work.turn.enter.Goals as goal

pub returns-clause-stands : goal.returns-clause-stands
returns-clause-stands g c = entered_stands c.args.hall.now c.args.pass.now c.enter.new.pass c.args.event c.enter.result c.requires c.enter.ensures.pass c.enter.ensures.ok c.enter.ensures.err

pub returns-clause-some : goal.returns-clause-some
returns-clause-some g c = ok_some c.ok.result c.enter.result (Enters c.args.hall.now c.args.pass.now c.enter.new.pass c.args.event) c.ok.ensures.value c.enter.ensures.ok

pub returns-clause-none : goal.returns-clause-none
returns-clause-none g c = ok_none c.ok.result c.enter.result _ c.ok.ensures.value c.enter.ensures.err

pub returns-clause-free : goal.returns-clause-free
returns-clause-free g c = λ free. c.ok.ensures.variant ∙ c.enter.ensures.free free
