use Rattle.std.proofs.Common.{subst}
use Rattle.journal_model.specs.Legality.{Legal}
use Rattle.journal_model.specs.declared.opening.Opening.{Opening}
use Rattle.host_talk.specs.Request.Requests.{message_of, name_of}
use Rattle.crew_work.proofs.BesideLemmas.Asking.{asked_as, grows_as}
use Rattle.crew_work.proofs.beside.job_asker.ask_for.Goals as goal

pub returns-clause-asked : goal.returns-clause-asked
returns-clause-asked g c =
    let old = g.D.Door.view c.args.door.now in
    let new = g.D.Door.view c.ask_job.new.door in
    asked_as old.opening old.number c.args.task old.alone old.seen new.seen c.args.child (name_of c.args.request.now) (message_of c.args.request.now) _ c.ask_job.result c.requires
    (subst (λ (o : Opening). Legal o new.seen) c.ask_job.ensures.door.opening (c.ask_job.ensures.door.legal c.requires.legal)) c.ask_job.ensures.asked c.ask_job.ensures.none

pub returns-clause-grows : goal.returns-clause-grows
returns-clause-grows g c =
    let old = g.D.Door.view c.args.door.now in
    let new = g.D.Door.view c.ask_job.new.door in
    grows_as old.opening old.number c.args.task old.alone old.seen new.seen c.args.child (name_of c.args.request.now) (message_of c.args.request.now) _ c.ask_job.result c.ask_job.ensures.asked c.ask_job.ensures.none
