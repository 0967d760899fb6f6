use Rattle.std.proofs.Common.{◌∙◌, refl}
use Rattle.kit_async.specs.Work.Calling.{hand_of}
use Rattle.kit_async.proofs.Turning.{all_both, all_can, all_none, reads_none, reads_on, writes_none, writes_on}
use Rattle.kit_async.proofs.alone.take_turns.Goals as goal

pub loop-init : goal.loop-init
loop-init g c = record {
  can = tt;
  finite = tt;
  read = reads_none g.S.Source.told c.args.reader.now c.requires.reader;
  wrote = writes_none g.W.Sink.told c.args.writer.now c.requires.writer.0;
  written = c.requires.writer.1;
  workers = all_none (λ w. w.hall.now) (λ w. w.number) (λ w. w.pass) (λ w. hand_of (g.K.Remote.calls w.remote) (g.K.Remote.settings w.remote)) c.args.workers.now c.requires.workers;
}

pub step-requires-clause-workers : goal.step-requires-clause-workers
step-requires-clause-workers g c = all_can (λ w. w.hall.now) (λ w. w.number) (λ w. w.pass) (λ w. hand_of (g.K.Remote.calls w.remote) (g.K.Remote.settings w.remote)) c.args.workers.now c.loop.workers c.loop.invariant.workers

pub loop-preserved : goal.loop-preserved
loop-preserved g c =
    let i = c.loop.invariant in
    record {
      can = tt;
      finite = tt;
      read = reads_on g.S.Source.told c.args.reader.now c.loop.reader c.step.new.reader i.read c.step.ensures.read;
      wrote = writes_on g.W.Sink.told c.args.writer.now c.loop.writer c.step.new.writer i.wrote c.step.ensures.wrote;
      written = c.in-On.ensures.course;
      workers = all_both (λ w. w.hall.now) (λ w. w.number) (λ w. w.pass) (λ w. hand_of (g.K.Remote.calls w.remote) (g.K.Remote.settings w.remote)) c.args.workers.now c.loop.workers c.step.new.workers i.workers c.step.ensures.workers;
    }

pub returns-in-Threads-clause-read : goal.returns-in-Threads-clause-read
returns-in-Threads-clause-read g c = reads_on g.S.Source.told c.args.reader.now c.loop.reader c.step.new.reader c.loop.invariant.read c.step.ensures.read

pub returns-in-Threads-clause-wrote : goal.returns-in-Threads-clause-wrote
returns-in-Threads-clause-wrote g c = writes_on g.W.Sink.told c.args.writer.now c.loop.writer c.step.new.writer c.loop.invariant.wrote c.step.ensures.wrote

pub returns-in-Threads-clause-workers : goal.returns-in-Threads-clause-workers
returns-in-Threads-clause-workers g c = all_both (λ w. w.hall.now) (λ w. w.number) (λ w. w.pass) (λ w. hand_of (g.K.Remote.calls w.remote) (g.K.Remote.settings w.remote)) c.args.workers.now c.loop.workers c.step.new.workers c.loop.invariant.workers c.step.ensures.workers

pub returns-in-Ended-clause-read : goal.returns-in-Ended-clause-read
returns-in-Ended-clause-read g c = reads_on g.S.Source.told c.args.reader.now c.loop.reader c.step.new.reader c.loop.invariant.read c.step.ensures.read

pub returns-in-Ended-clause-wrote : goal.returns-in-Ended-clause-wrote
returns-in-Ended-clause-wrote g c = writes_on g.W.Sink.told c.args.writer.now c.loop.writer c.step.new.writer c.loop.invariant.wrote c.step.ensures.wrote

pub returns-in-Ended-clause-workers : goal.returns-in-Ended-clause-workers
returns-in-Ended-clause-workers g c = all_both (λ w. w.hall.now) (λ w. w.number) (λ w. w.pass) (λ w. hand_of (g.K.Remote.calls w.remote) (g.K.Remote.settings w.remote)) c.args.workers.now c.loop.workers c.step.new.workers c.loop.invariant.workers c.step.ensures.workers
