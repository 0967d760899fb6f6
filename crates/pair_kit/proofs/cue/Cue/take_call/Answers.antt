use Rattle.std.proofs.Common.{◌≡◌, ap, subst}
use Rattle.std.specs.Prelude.{IfSome}
use Rattle.kit_serve.specs.declared.kit.call.Said.{Said}
use Rattle.kit_serve.specs.declared.kit.call.Call.{Call}
use Rattle.pair_kit.specs.Cues.{AreSaid}
use Rattle.pair_kit.proofs.CueCalls.{said_front, said_popped}
use Rattle.pair_kit.proofs.cue.Cue.take_call.Goals as goal

pub invariant_of-self : goal.invariant_of-self
invariant_of-self c =
    let i = c.self.inside in
    record { said = said_front i.word c.pop.new.self.items _ (subst (AreSaid i.word) c.pop.ensures.items c.self.invariant.said); line = c.self.invariant.line }

pub returns-clause-said : goal.returns-clause-said
returns-clause-said c =
    let i = c.self.inside in
    subst (λ (w : Said). IfSome c.pop.result (λ (call : Call). call.said ≡ w)) (ap (λ v. v.word) c.self.view_is)
    (said_popped i.word i.calls.items c.pop.new.self.items c.pop.result c.pop.ensures.items c.self.invariant.said)
