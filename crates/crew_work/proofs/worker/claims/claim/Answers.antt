use Rattle.std.proofs.Common.{sym, subst}
use Rattle.journal_model.specs.declared.opening.Opening.{Opening}
use Rattle.journal_model.specs.Legality.{Legal}
use Rattle.crew_work.specs.declared.worker.claims.Claimed.{Claimed}
use Rattle.crew_work.specs.Worker.Works.{HasClaimed}
use Rattle.crew_work.proofs.WorkerLemmas.Claiming.{has_claimed}
use Rattle.crew_work.proofs.worker.claims.claim.Goals as goal

pub returns-clause-claims : goal.returns-clause-claims
returns-clause-claims g c =
    let x = g.D.Door.view c.args.door.now in
    let new = (g.D.Door.view c.step.new.self).seen in
    let d = c.in-Ok.ensures.door in
    let legal : Legal x.opening new = subst (λ (w : Opening). Legal w new) d.opening (d.legal c.requires.serves.legal) in
    subst (λ (r : Claimed). HasClaimed x.opening x.number x.alone x.seen new c.args.child r) (sym c.claimed_of.ensures)
    (has_claimed c.args.child c.requires.serves c.requires.rests legal c.in-Ok.ensures.stepped)
