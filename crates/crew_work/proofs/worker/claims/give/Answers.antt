use Rattle.std.proofs.Common.{refl}
use Rattle.crew_work.proofs.WorkerLemmas.Claiming.{gives}
use Rattle.crew_work.proofs.worker.claims.give.Goals as goal

pub returns-clause-given : goal.returns-clause-given
returns-clause-given g c = gives c.args.answer c.step-done.result c.requires (c.step-done.ensures.free refl) c.step-done.ensures.stepped
