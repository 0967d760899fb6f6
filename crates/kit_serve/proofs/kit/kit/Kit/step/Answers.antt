use Rattle.std.proofs.Common.{Bool, sym, subst, ◌∙◌}
use Rattle.wire_msg.specs.Shown.{host_shown}
use Rattle.kit_serve.specs.Kit.Stages.{Steps}
use Rattle.kit_serve.proofs.KitLemmas.Answering.{on_err}
use Rattle.kit_serve.proofs.KitLemmas.Following.{answers_step, tries_stop, silent_step}
use Rattle.kit_serve.proofs.kit.kit.Kit.step.Goals as goal

pub returns-then-is_over-clause-step : goal.returns-then-is_over-clause-step
returns-then-is_over-clause-step g c =
    let k = c.args.self.now in
    silent_step g.R.Remote.calls (g.R.Remote.settings k.remote) k (host_shown c.args.message.now) c.silence.result (sym c.is_over.ensures ∙ c.if-is_over.true) c.silence.ensures

pub returns-in_err-say-clause-stopped : goal.returns-in_err-say-clause-stopped
returns-in_err-say-clause-stopped g c =
    let k = c.args.self.now in
    on_err c.from_residual.result
    (tries_stop g.R.Remote.calls (g.R.Remote.settings k.remote) k c.answer.new.self (host_shown c.args.message.now) c.in_err-say.ensures.err.0 c.in_err-say.ensures.err.1)

pub returns-clause-step : goal.returns-clause-step
returns-clause-step g c =
    let k = c.args.self.now in
    subst (λ (b : Bool). Steps g.R.Remote.calls (g.R.Remote.settings k.remote) k c.answer.new.self (host_shown c.args.message.now) c.in_ok-say.say b) (sym c.is_over-2.ensures)
    (answers_step g.R.Remote.calls (g.R.Remote.settings k.remote) k c.answer.new.self (host_shown c.args.message.now) c.in_ok-say.say c.in_ok-say.ensures.ok c.in_ok-say.ensures.stage)
