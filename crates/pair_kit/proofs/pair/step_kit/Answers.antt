use Rattle.std.proofs.Common.{◌≡◌, refl, sym, ap, subst, ◌∙◌}
use Rattle.std.specs.Prelude.{IfSome}
use Rattle.kit_serve.specs.declared.kit.call.Call.{Call}
use Rattle.kit_serve.specs.Kit.Stages.{KitValue}
use Rattle.wire_msg.specs.Shown.{host_shown}
use Rattle.pair_kit.specs.Cues.{CueValue}
use Rattle.pair_kit.proofs.Kits.{steps_by}
use Rattle.pair_kit.proofs.pair.step_kit.Goals as goal

pub returns : goal.returns
returns c =
    let old = c.args.kit.now in
    let shows = c.remote_mut-3.ensures.shows in
    let before : KitValue CueValue = record old { remote = c.new.result } in
    let new : KitValue CueValue = record c.step.new.self { remote = c.take_call-call.new.self } in
    steps_by c.args.word old before c.step.new.self new (host_shown c.args.message.now) c.in_ok-step.step.say c.in_ok-step.step.over c.take_call-call.result
    (ap (λ (r : CueValue). let k : KitValue CueValue = record old { remote = r } in k) c.new.ensures) c.in_ok-step.ensures.step refl
    (ap (λ (r : CueValue). r.calls) (sym shows) ∙ c.take_call-call.ensures.calls)
    (λ e. ap (λ (r : CueValue). r.calls) (sym shows) ∙ c.take_call-call.ensures.none e)
    (subst (λ (r : CueValue). IfSome c.take_call-call.result (λ (call : Call). call.said ≡ r.word)) shows c.take_call-call.ensures.said)
