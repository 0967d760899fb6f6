use Rattle.std.proofs.Common.{sym, ◌∙◌}
use Rattle.child_link.proofs.Settling.{out_passed, settled_then}
use Rattle.child_link.proofs.lone.Lone.settled.Goals as goal

pub unreachable-requires : goal.unreachable-requires
unreachable-requires g c = settled_then c.args.self.now.ear.child c.args.job c.look_up.ensures.passed c.requires.settled (sym c.look_up.ensures.verdict ∙ c.in-None.is)

pub returns-clause-heard : goal.returns-clause-heard
returns-clause-heard g c = out_passed c.args.self.now.ear.child c.args.job c.look_up.ensures.passed
