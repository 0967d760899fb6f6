use Rattle.std.proofs.Common.{refl, sym, ◌∙◌}
use Rattle.kit_serve.specs.Kit.Stages.{is_last}
use Rattle.kit_serve.specs.Kit.Descriptions.{untold}
use Rattle.kit_serve.specs.Sessions.{IsFoul, Spoke}
use Rattle.kit_memory.proofs.Children.{chats_utter, mixed_same, replied}
use Rattle.kit_memory.proofs.chatty.ChattyVoice.answer.Goals as goal

pub returns-then-step-clause-replies : goal.returns-then-step-clause-replies
returns-then-step-clause-replies g c =
    let settings = g.R.Remote.settings in
    let calls = g.R.Remote.calls in
    let n = c.self.inside.progress in
    let r = replied (Spoke settings calls (λ _. untold)) (λ kit. is_last kit.stage) IsFoul c.self.inside.kit c.answer.new.self c.args.line.now c.in_ok-step.field-0 c.in-Some.step
    c.in-Some.is c.in_ok-step.ensures.replies in
    rw (← c.self.view_is) (
      chats_utter settings calls (record { kit = c.self.inside.kit; progress = n }) (record { kit = c.answer.new.self; progress = n }) c.args.line.now c.in-Some.step.say c.in-Some.step.say
          r.0 refl (mixed_same n c.in-Some.step.say),
      r.1,
    )

pub returns-clause-replies : goal.returns-clause-replies
returns-clause-replies g c =
    let settings = g.R.Remote.settings in
    let calls = g.R.Remote.calls in
    let n = c.self.inside.progress in
    let r = replied (Spoke settings calls (λ _. untold)) (λ kit. is_last kit.stage) IsFoul c.self.inside.kit c.answer.new.self c.args.line.now c.in_ok-step.field-0 c.in-Some.step
    c.in-Some.is c.in_ok-step.ensures.replies in
    rw (← c.self.view_is) (
      chats_utter settings calls (record { kit = c.self.inside.kit; progress = n }) (record { kit = c.answer.new.self; progress = n }) c.args.line.now c.in-Some.step.say c.in_ok-say.say
          r.0 refl c.in_ok-say.ensures,
      sym c.if-step.false ∙ r.1,
    )
