use Rattle.kit_async.proofs.WorkLemmas.Workers.{ran_both, ran_none, ran_rested}
use Rattle.kit_async.proofs.work.worker.toil.Goals as goal

pub loop-init : goal.loop-init
loop-init g c = record { can = tt; finite = tt; ran = ran_none _ _ _ _ c.requires.stands }

pub work_turn-requires : goal.work_turn-requires
work_turn-requires g c = record { stands = c.loop.invariant.ran.stands }

pub rest-requires : goal.rest-requires
rest-requires g c = c.in-Rests.ensures.ran.stands.pass

pub loop-preserved-in-Went : goal.loop-preserved-in-Went
loop-preserved-in-Went g c = record { can = tt; finite = tt; ran = ran_both _ _ _ _ _ _ _ _ c.loop.invariant.ran c.in-Went.ensures.ran }

pub loop-preserved : goal.loop-preserved
loop-preserved g c = record { can = tt; finite = tt; ran = ran_rested _ _ _ _ _ _ _ (ran_both _ _ _ _ _ _ _ _ c.loop.invariant.ran c.in-Rests.ensures.ran) c.rest.ensures }

pub returns-in-Over : goal.returns-in-Over
returns-in-Over g c = record { ran = ran_both _ _ _ _ _ _ _ _ c.loop.invariant.ran c.in-Over.ensures.ran }
