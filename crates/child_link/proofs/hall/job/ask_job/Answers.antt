use Rattle.std.proofs.Common.{refl, ap, ◌∙◌}
use Rattle.std.proofs.Common.{Some, None}
use Rattle.host_talk.specs.Request.Requests.{message_of, name_of}
use Rattle.child_link.specs.declared.events.Asked.TheVariants.{Job, Lost, Odd}
use Rattle.child_link.proofs.Roles.{same_both, moved_still}
use Rattle.child_link.proofs.Asking.{asked_as, asked_now, settled_so, lost_so, grows_on, grows_child, grows_asked, asked_grown, settled_named}
use Rattle.child_link.proofs.hall.job.ask_job.Goals as goal

pub returns-in_err-job-clause-grows : goal.returns-in_err-job-clause-grows
returns-in_err-job-clause-grows g c = grows_on c.in_err-job.ensures.err

pub wait_for-requires : goal.wait_for-requires
wait_for-requires g c = record { asked = asked_now (g.D.Door.view c.args.door.now).opening (g.D.Door.view c.args.door.now).number (g.D.Door.view c.args.door.now).alone (g.D.Door.view c.args.door.now).seen (g.D.Door.view c.ask.new.door).seen c.args.child c.args.task (name_of c.args.request.now) (message_of c.args.request.now) c.in-Job.job (asked_as (g.D.Door.view c.args.door.now).opening (g.D.Door.view c.args.door.now).number (g.D.Door.view c.args.door.now).alone (g.D.Door.view c.args.door.now).seen (g.D.Door.view c.ask.new.door).seen c.args.task c.args.request.now c.in_ok-request.request c.in_ok-job.field-0 (Job c.in-Job.job) refl c.in_ok-request.ensures c.in-Job.is c.in_ok-job.ensures.asked) }

pub returns-in-Job-clause-asked : goal.returns-in-Job-clause-asked
returns-in-Job-clause-asked g c = settled_so (g.D.Door.view c.args.door.now).opening (g.D.Door.view c.args.door.now).number (g.D.Door.view c.args.door.now).alone (g.D.Door.view c.args.door.now).seen (g.D.Door.view c.ask.new.door).seen c.args.child c.args.task (name_of c.args.request.now) (message_of c.args.request.now) (λ job. Unit {0}) c.in-Job.job c.wait_for.result c.wait_for.ensures.small c.ask.ensures.door.number c.ask.ensures.door.alone (asked_as (g.D.Door.view c.args.door.now).opening (g.D.Door.view c.args.door.now).number (g.D.Door.view c.args.door.now).alone (g.D.Door.view c.args.door.now).seen (g.D.Door.view c.ask.new.door).seen c.args.task c.args.request.now c.in_ok-request.request c.in_ok-job.field-0 (Job c.in-Job.job) refl c.in_ok-request.ensures c.in-Job.is c.in_ok-job.ensures.asked) tt (grows_child c.wait_for.ensures.grows) c.wait_for.ensures.verdict

pub returns-in-Job-clause-named : goal.returns-in-Job-clause-named
returns-in-Job-clause-named g c =
    settled_named (g.D.Door.view c.args.door.now).opening (g.D.Door.view c.wait_for.new.door).opening (g.D.Door.view c.args.door.now).number (g.D.Door.view c.ask.new.door).number (g.D.Door.view c.args.door.now).alone (g.D.Door.view c.ask.new.door).alone
    (g.D.Door.view c.args.door.now).seen (g.D.Door.view c.ask.new.door).seen (g.D.Door.view c.wait_for.new.door).seen c.args.child c.args.task (name_of c.args.request.now) (message_of c.args.request.now) c.in-Job.job c.wait_for.result (c.wait_for.ensures.door.opening ∙ c.ask.ensures.door.opening) c.wait_for.ensures.small
    c.requires.legal (c.wait_for.ensures.door.legal (c.ask.ensures.door.legal c.requires.legal)) (asked_as (g.D.Door.view c.args.door.now).opening (g.D.Door.view c.args.door.now).number (g.D.Door.view c.args.door.now).alone (g.D.Door.view c.args.door.now).seen (g.D.Door.view c.ask.new.door).seen c.args.task c.args.request.now c.in_ok-request.request c.in_ok-job.field-0 (Job c.in-Job.job) refl c.in_ok-request.ensures c.in-Job.is c.in_ok-job.ensures.asked) c.wait_for.ensures.grows c.wait_for.ensures.verdict

pub returns-in-Job-clause-grows : goal.returns-in-Job-clause-grows
returns-in-Job-clause-grows g c = grows_asked (g.D.Door.view c.args.door.now).opening c.args.child c.args.task (name_of c.args.request.now) (message_of c.args.request.now) (Job c.in-Job.job) c.ask.ensures.door.number c.ask.ensures.door.alone (asked_as (g.D.Door.view c.args.door.now).opening (g.D.Door.view c.args.door.now).number (g.D.Door.view c.args.door.now).alone (g.D.Door.view c.args.door.now).seen (g.D.Door.view c.ask.new.door).seen c.args.task c.args.request.now c.in_ok-request.request c.in_ok-job.field-0 (Job c.in-Job.job) refl c.in_ok-request.ensures c.in-Job.is c.in_ok-job.ensures.asked) c.wait_for.ensures.grows

pub returns-in-Job-clause-door : goal.returns-in-Job-clause-door
returns-in-Job-clause-door g c = same_both c.ask.ensures.door c.wait_for.ensures.door

pub returns-in-Lost-Some-clause-asked : goal.returns-in-Lost-Some-clause-asked
returns-in-Lost-Some-clause-asked g c = lost_so (g.D.Door.view c.args.door.now).opening (g.D.Door.view c.args.door.now).number (g.D.Door.view c.args.door.now).alone (g.D.Door.view c.args.door.now).seen (g.D.Door.view c.ask.new.door).seen c.args.child c.args.task (name_of c.args.request.now) (message_of c.args.request.now) (λ job. Unit {0}) (Some c.in-Lost-Some.why) (asked_as (g.D.Door.view c.args.door.now).opening (g.D.Door.view c.args.door.now).number (g.D.Door.view c.args.door.now).alone (g.D.Door.view c.args.door.now).seen (g.D.Door.view c.ask.new.door).seen c.args.task c.args.request.now c.in_ok-request.request c.in_ok-job.field-0 (Lost (Some c.in-Lost-Some.why)) refl c.in_ok-request.ensures (c.in-Lost-Some.is ∙ ap Lost c.in-Lost-Some.field-0-is) c.in_ok-job.ensures.asked)

pub returns-in-Lost-Some-clause-grows : goal.returns-in-Lost-Some-clause-grows
returns-in-Lost-Some-clause-grows g c = asked_grown (g.D.Door.view c.args.door.now).opening c.args.child c.args.task (name_of c.args.request.now) (message_of c.args.request.now) (Lost (Some c.in-Lost-Some.why)) (asked_as (g.D.Door.view c.args.door.now).opening (g.D.Door.view c.args.door.now).number (g.D.Door.view c.args.door.now).alone (g.D.Door.view c.args.door.now).seen (g.D.Door.view c.ask.new.door).seen c.args.task c.args.request.now c.in_ok-request.request c.in_ok-job.field-0 (Lost (Some c.in-Lost-Some.why)) refl c.in_ok-request.ensures (c.in-Lost-Some.is ∙ ap Lost c.in-Lost-Some.field-0-is) c.in_ok-job.ensures.asked)

pub returns-in-Lost-None-clause-asked : goal.returns-in-Lost-None-clause-asked
returns-in-Lost-None-clause-asked g c = lost_so (g.D.Door.view c.args.door.now).opening (g.D.Door.view c.args.door.now).number (g.D.Door.view c.args.door.now).alone (g.D.Door.view c.args.door.now).seen (g.D.Door.view c.ask.new.door).seen c.args.child c.args.task (name_of c.args.request.now) (message_of c.args.request.now) (λ job. Unit {0}) None (asked_as (g.D.Door.view c.args.door.now).opening (g.D.Door.view c.args.door.now).number (g.D.Door.view c.args.door.now).alone (g.D.Door.view c.args.door.now).seen (g.D.Door.view c.ask.new.door).seen c.args.task c.args.request.now c.in_ok-request.request c.in_ok-job.field-0 (Lost None) refl c.in_ok-request.ensures (c.in-Lost-None.is ∙ ap Lost c.in-Lost-None.field-0-is) c.in_ok-job.ensures.asked)

pub returns-in-Lost-None-clause-grows : goal.returns-in-Lost-None-clause-grows
returns-in-Lost-None-clause-grows g c = asked_grown (g.D.Door.view c.args.door.now).opening c.args.child c.args.task (name_of c.args.request.now) (message_of c.args.request.now) (Lost None) (asked_as (g.D.Door.view c.args.door.now).opening (g.D.Door.view c.args.door.now).number (g.D.Door.view c.args.door.now).alone (g.D.Door.view c.args.door.now).seen (g.D.Door.view c.ask.new.door).seen c.args.task c.args.request.now c.in_ok-request.request c.in_ok-job.field-0 (Lost None) refl c.in_ok-request.ensures (c.in-Lost-None.is ∙ ap Lost c.in-Lost-None.field-0-is) c.in_ok-job.ensures.asked)

pub returns-in-Odd-clause-grows : goal.returns-in-Odd-clause-grows
returns-in-Odd-clause-grows g c = asked_grown (g.D.Door.view c.args.door.now).opening c.args.child c.args.task (name_of c.args.request.now) (message_of c.args.request.now) Odd (asked_as (g.D.Door.view c.args.door.now).opening (g.D.Door.view c.args.door.now).number (g.D.Door.view c.args.door.now).alone (g.D.Door.view c.args.door.now).seen (g.D.Door.view c.ask.new.door).seen c.args.task c.args.request.now c.in_ok-request.request c.in_ok-job.field-0 Odd refl c.in_ok-request.ensures c.in-Odd.is c.in_ok-job.ensures.asked)

pub returns-in_err-request-clause-grows : goal.returns-in_err-request-clause-grows
returns-in_err-request-clause-grows g c = moved_still refl (λ u. u)
