use Rattle.kit_async.proofs.WorkLemmas.Writers.{wrote_both, wrote_none, wrote_rested}
use Rattle.kit_async.proofs.work.writer.speak.Goals as goal

pub loop-init : goal.loop-init
loop-init g c = record { can = tt; finite = tt; ran = wrote_none _ _ _ c.requires.stands c.requires.open }

pub write_turn-requires-clause-stands : goal.write_turn-requires-clause-stands
write_turn-requires-clause-stands g c = c.loop.invariant.ran.stands

pub write_turn-requires-clause-open : goal.write_turn-requires-clause-open
write_turn-requires-clause-open g c = c.loop.invariant.ran.sink.opened

pub rest-requires : goal.rest-requires
rest-requires g c = c.in-Rests.ensures.ran.stands.pass

pub loop-preserved-in-Went : goal.loop-preserved-in-Went
loop-preserved-in-Went g c = record { can = tt; finite = tt; ran = wrote_both _ _ _ _ _ _ _ _ c.loop.invariant.ran c.in-Went.ensures.ran }

pub loop-preserved : goal.loop-preserved
loop-preserved g c = record { can = tt; finite = tt; ran = wrote_rested _ _ _ _ _ _ (wrote_both _ _ _ _ _ _ _ _ c.loop.invariant.ran c.in-Rests.ensures.ran) c.rest.ensures }

pub returns-in-Over : goal.returns-in-Over
returns-in-Over g c = record { ran = wrote_both _ _ _ _ _ _ _ _ c.loop.invariant.ran c.in-Over.ensures.ran }
