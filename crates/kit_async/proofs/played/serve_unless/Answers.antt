use Rattle.kit_async.specs.Work.Calling.{hand_of}
use Rattle.kit_async.proofs.Turning.{all_none, reads_none, writes_none}
use Rattle.kit_async.proofs.played.serve_unless.Goals as goal

pub returns-else-not-ran-clause-workers : goal.returns-else-not-ran-clause-workers
returns-else-not-ran-clause-workers g c = all_none (λ w. w.hall.now) (λ w. w.number) (λ w. w.pass) (λ w. hand_of (g.K.Remote.calls w.remote) (g.K.Remote.settings w.remote)) c.args.workers.now c.requires.workers

pub returns-else-not-ran-clause-read : goal.returns-else-not-ran-clause-read
returns-else-not-ran-clause-read g c = reads_none g.S.Source.told c.args.reader.now c.requires.reader

pub returns-else-not-ran-clause-wrote : goal.returns-else-not-ran-clause-wrote
returns-else-not-ran-clause-wrote g c = writes_none g.W.Sink.told c.args.writer.now c.requires.writer
