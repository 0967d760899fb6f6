use Rattle.std.proofs.Common.{◌∙◌, ap, sym, arith}
use Rattle.annex_model.specs.Messages.{remote_reading}
use Rattle.host_core.specs.Moves.{said_before}
use Rattle.host_core.proofs.Replaying.{found, passed, said_whole}
use Rattle.host_core.proofs.talks.last_said.Goals as goal

pub loop-rest-init : goal.loop-rest-init
loop-rest-init c =
    let past = c.args.journal.now.entries in
    (said_whole past c.args.child c.args.job ∙ ap (said_before past c.args.child c.args.job) (sym c.len-rest.ensures), omega (arith, c.len-rest.ensures))

pub returns-in-Some : goal.returns-in-Some
returns-in-Some c =
    found c.args.journal.now.entries c.args.child c.args.job c.loop-rest.rest (remote_reading c.in-Some.text.now)
    (omega (arith, c.loop-rest-test.true)) c.loop-rest.invariant.0 c.in-Some.ensures

pub loop-rest-preserved : goal.loop-rest-preserved
loop-rest-preserved c = (
  passed c.args.journal.now.entries c.args.child c.args.job c.loop-rest.rest (omega (arith, c.loop-rest-test.true)) c.loop-rest.invariant.0 c.in_default.ensures,
  omega (arith, c.loop-rest.invariant.1),
)
