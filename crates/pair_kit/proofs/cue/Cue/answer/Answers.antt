use Rattle.std.proofs.Common.{sym, subst}
use Rattle.pair_kit.specs.Cues.{AreSaid}
use Rattle.pair_kit.proofs.CueCalls.{said_more}
use Rattle.pair_kit.proofs.cue.Cue.answer.Goals as goal

pub invariant_of-self-2 : goal.invariant_of-self-2
invariant_of-self-2 c =
    let i = c.self.inside in
    record {
      said = subst (AreSaid i.word) (sym c.in_ok-push.ensures.items) (said_more i.word i.calls.items _ c.self.invariant.said c.in_ok-kept.ensures);
      line = c.self.invariant.line;
    }
