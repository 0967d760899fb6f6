use Rattle.std.proofs.Common.{arith, ◌∙◌}
use Rattle.ann_outside.proofs.Telling.{taken_next}
use Rattle.ann_outside.proofs.writing.write_all.Goals as goal

pub loop-at-preserved : goal.loop-at-preserved
loop-at-preserved g c = record {
  within = omega (arith, c.in_ok-at.ensures.bound);
  taken = taken_next (g.S.Sink.told c.args.sink.now).taken (g.S.Sink.told c.loop-at.sink).taken (g.S.Sink.told c.write.new.self).taken c.args.bytes.now c.loop-at.at _ c.loop-at.invariant.taken c.in_ok-at.ensures.bytes;
  silent = λ e. c.in_ok-at.ensures.silent (c.loop-at.invariant.silent e);
  faults = c.in_ok-at.ensures.cause.done ∙ c.loop-at.invariant.faults;
  opened = c.in_ok-at.ensures.open;
  number = c.in_ok-at.ensures.number ∙ c.loop-at.invariant.number;
}
