use Rattle.std.proofs.Common.{Some, IfOk, refl, subst}
use Rattle.annex_model.specs.Messages.{HostMessage}
use Rattle.kit_serve.specs.declared.kit.call.Asked.TheVariants.{Prepare}
use Rattle.kit_serve.specs.declared.kit.kit.Stage.TheVariants.{Waiting}
use Rattle.kit_serve.specs.Kit.Kits.{Asks}
use Rattle.kit_serve.specs.Kit.Stages.{Answers}
use Rattle.kit_serve.proofs.KitLemmas.Answering.{answers_asked, tries_asked}
use Rattle.kit_serve.proofs.kit.kit.Kit.prepare.Goals as goal

pub returns-clause-ok : goal.returns-clause-ok
returns-clause-ok g c =
    subst (λ (q : HostMessage). IfOk c.finish.result (Answers g.R.Remote.calls c.args.self.now c.finish.new.self (Asks (Prepare c.args.values.now)) (Some q))) c.prepare_request.ensures.message
    (answers_asked g.R.Remote.calls c.self.inside.remote c.ask_ready.new.remote c.self.inside.prepared c.self.inside.stage Waiting c.args.self.now c.finish.new.self
    _ (Prepare c.args.values.now) _ c.in_ok-said.said c.finish.result c.self.view_is refl c.in_ok-said.ensures.calls c.finish.ensures.after c.finish.ensures.ok)

pub returns-clause-err : goal.returns-clause-err
returns-clause-err g c =
    tries_asked g.R.Remote.calls c.self.inside.remote c.ask_ready.new.remote c.self.inside.prepared c.self.inside.stage c.args.self.now c.finish.new.self
    _ (Prepare c.args.values.now) c.in_ok-said.said c.finish.result c.self.view_is refl c.in_ok-said.ensures.calls c.finish.ensures.err
