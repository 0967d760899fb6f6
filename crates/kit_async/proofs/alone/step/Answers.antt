use Rattle.std.proofs.Common.{sym, ◌∙◌}
use Rattle.kit_async.specs.Work.Calling.{hand_of}
use Rattle.kit_async.proofs.Turning.{all_none, transfer_tagged}
use Rattle.kit_async.proofs.alone.step.Goals as goal

pub returns-then-holds_transfer-clause-workers : goal.returns-then-holds_transfer-clause-workers
returns-then-holds_transfer-clause-workers g c = all_none (λ w. w.hall.now) (λ w. w.number) (λ w. w.pass) (λ w. hand_of (g.K.Remote.calls w.remote) (g.K.Remote.settings w.remote)) c.args.workers.now c.requires.workers

pub returns-then-holds_transfer-clause-course : goal.returns-then-holds_transfer-clause-course
returns-then-holds_transfer-clause-course g c = (c.if-hands_on.true, transfer_tagged c.args.reader.now.splitter.bytes (sym c.holds_transfer.ensures ∙ c.if-holds_transfer.true))

pub returns-then-not-tells-clause-workers : goal.returns-then-not-tells-clause-workers
returns-then-not-tells-clause-workers g c = all_none (λ w. w.hall.now) (λ w. w.number) (λ w. w.pass) (λ w. hand_of (g.K.Remote.calls w.remote) (g.K.Remote.settings w.remote)) c.args.workers.now c.requires.workers

pub returns-then-holds_tagged-clause-workers : goal.returns-then-holds_tagged-clause-workers
returns-then-holds_tagged-clause-workers g c = all_none (λ w. w.hall.now) (λ w. w.number) (λ w. w.pass) (λ w. hand_of (g.K.Remote.calls w.remote) (g.K.Remote.settings w.remote)) c.args.workers.now c.requires.workers
