use Rattle.kit_async.proofs.WorkLemmas.Readers.{ran_both, ran_none, ran_rested}
use Rattle.kit_async.proofs.work.reader.listen.Goals as goal

pub loop-init : goal.loop-init
loop-init g c = record { can = tt; finite = tt; limit = c.requires.limit; ran = ran_none _ _ _ c.requires.stands c.requires.open }

pub timed_turn-requires-clause-stands : goal.timed_turn-requires-clause-stands
timed_turn-requires-clause-stands g c = c.loop.invariant.ran.stands

pub timed_turn-requires-clause-open : goal.timed_turn-requires-clause-open
timed_turn-requires-clause-open g c = c.loop.invariant.ran.source.opened

pub rest-requires : goal.rest-requires
rest-requires g c = c.in-Rests.ensures.ran.stands.pass

pub loop-preserved-in-Went : goal.loop-preserved-in-Went
loop-preserved-in-Went g c = record { can = tt; finite = tt; limit = c.in-Went.ensures.limit; ran = ran_both _ _ _ _ _ _ _ _ c.loop.invariant.ran c.in-Went.ensures.ran }

pub loop-preserved : goal.loop-preserved
loop-preserved g c = record {
  can = tt;
  finite = tt;
  limit = c.in-Rests.ensures.limit;
  ran = ran_rested _ _ _ _ _ _ (ran_both _ _ _ _ _ _ _ _ c.loop.invariant.ran c.in-Rests.ensures.ran) c.rest.ensures;
}

pub returns-in-Over-clause-ran : goal.returns-in-Over-clause-ran
returns-in-Over-clause-ran g c = ran_both _ _ _ _ _ _ _ _ c.loop.invariant.ran c.in-Over.ensures.ran
