use Rattle.std.proofs.Common.{ap, ◌∙◌}
use Rattle.child_link.proofs.Roles.{moved_both, moved_wider, same_both}
use Rattle.child_link.proofs.Asking.{asked_as, asked_now, unsettled_now, settled_so, lost_so, settled_named}
use Rattle.std.proofs.Common.{Some, None}
use Rattle.child_link.specs.Asks.{HeardOut}
use Rattle.child_link.proofs.Settling.{none_unheard, unheard_out}
use Rattle.child_link.proofs.Writings.{lone_on, lone_asked}
use Rattle.host_talk.specs.Request.Requests.{message_of, name_of}
use Rattle.child_link.specs.declared.events.Asked.TheVariants.{Job, Lost, Odd}
use Rattle.child_link.proofs.Linked.{link_asks}
use Rattle.child_link.proofs.lone.Lone.ask.Goals as goal

pub returns-in_err-job-clause-moved : goal.returns-in_err-job-clause-moved
returns-in_err-job-clause-moved g c = lone_on c.args.self.now.ear c.args.self.now.mouth c.args.self.now.one_child c.in_err-job.ensures.err

pub settle-requires-clause-asked : goal.settle-requires-clause-asked
settle-requires-clause-asked g c = asked_now (g.D.Door.view c.args.door.now).opening (g.D.Door.view c.args.door.now).number (g.D.Door.view c.args.door.now).alone (g.D.Door.view c.args.door.now).seen (g.D.Door.view c.ask.new.door).seen c.args.self.now.ear.child c.args.task (name_of c.args.request.now) (message_of c.args.request.now) c.in-Job.job (asked_as (g.D.Door.view c.args.door.now).opening (g.D.Door.view c.args.door.now).number (g.D.Door.view c.args.door.now).alone (g.D.Door.view c.args.door.now).seen (g.D.Door.view c.ask.new.door).seen c.args.task c.args.request.now c.in_ok-request.request c.in_ok-job.field-0 (Job c.in-Job.job) c.child-child.ensures c.in_ok-request.ensures c.in-Job.is c.in_ok-job.ensures.asked)

pub returns-in-Job-clause-asked : goal.returns-in-Job-clause-asked
returns-in-Job-clause-asked g c =
    settled_so (g.D.Door.view c.args.door.now).opening (g.D.Door.view c.args.door.now).number (g.D.Door.view c.args.door.now).alone (g.D.Door.view c.args.door.now).seen (g.D.Door.view c.ask.new.door).seen c.args.self.now.ear.child c.args.task (name_of c.args.request.now) (message_of c.args.request.now) (λ job. HeardOut c.args.self.now.ear.child job (g.D.Door.view c.settle.new.door).seen) c.in-Job.job c.settle.result c.settle.ensures.small c.ask.ensures.door.number c.ask.ensures.door.alone
    (asked_as (g.D.Door.view c.args.door.now).opening (g.D.Door.view c.args.door.now).number (g.D.Door.view c.args.door.now).alone (g.D.Door.view c.args.door.now).seen (g.D.Door.view c.ask.new.door).seen c.args.task c.args.request.now c.in_ok-request.request c.in_ok-job.field-0 (Job c.in-Job.job) c.child-child.ensures c.in_ok-request.ensures c.in-Job.is c.in_ok-job.ensures.asked)
    (unheard_out (g.D.Door.view c.ask.new.door).seen c.args.self.now.ear.child c.in-Job.job (none_unheard (g.D.Door.view c.ask.new.door).seen c.args.self.now.ear.child c.in-Job.job
    (unsettled_now (g.D.Door.view c.args.door.now).opening (g.D.Door.view c.args.door.now).number (g.D.Door.view c.args.door.now).alone (g.D.Door.view c.args.door.now).seen (g.D.Door.view c.ask.new.door).seen c.args.self.now.ear.child c.args.task (name_of c.args.request.now) (message_of c.args.request.now) c.in-Job.job c.requires.legal (asked_as (g.D.Door.view c.args.door.now).opening (g.D.Door.view c.args.door.now).number (g.D.Door.view c.args.door.now).alone (g.D.Door.view c.args.door.now).seen (g.D.Door.view c.ask.new.door).seen c.args.task c.args.request.now c.in_ok-request.request c.in_ok-job.field-0 (Job c.in-Job.job) c.child-child.ensures c.in_ok-request.ensures c.in-Job.is c.in_ok-job.ensures.asked))))
    c.settle.ensures.heard c.settle.ensures.verdict

pub returns-in-Job-clause-moved : goal.returns-in-Job-clause-moved
returns-in-Job-clause-moved g c =
    moved_both c.ask.ensures.door.number c.ask.ensures.door.alone (lone_asked (g.D.Door.view c.args.door.now).opening c.args.task (name_of c.args.request.now) (message_of c.args.request.now) c.args.self.now.ear c.args.self.now.mouth c.args.self.now.one_child (Job c.in-Job.job) (asked_as (g.D.Door.view c.args.door.now).opening (g.D.Door.view c.args.door.now).number (g.D.Door.view c.args.door.now).alone (g.D.Door.view c.args.door.now).seen (g.D.Door.view c.ask.new.door).seen c.args.task c.args.request.now c.in_ok-request.request c.in_ok-job.field-0 (Job c.in-Job.job) c.child-child.ensures c.in_ok-request.ensures c.in-Job.is c.in_ok-job.ensures.asked))
    (moved_wider (link_asks c.args.self.now.ear.child) (λ w h. h) c.settle.ensures.moved (λ h f p. f p))

pub returns-in-Job-clause-door : goal.returns-in-Job-clause-door
returns-in-Job-clause-door g c = same_both c.ask.ensures.door c.settle.ensures.door

pub returns-in-Job-clause-named : goal.returns-in-Job-clause-named
returns-in-Job-clause-named g c =
    settled_named (g.D.Door.view c.args.door.now).opening (g.D.Door.view c.settle.new.door).opening (g.D.Door.view c.args.door.now).number (g.D.Door.view c.ask.new.door).number (g.D.Door.view c.args.door.now).alone (g.D.Door.view c.ask.new.door).alone
    (g.D.Door.view c.args.door.now).seen (g.D.Door.view c.ask.new.door).seen (g.D.Door.view c.settle.new.door).seen c.args.self.now.ear.child c.args.task (name_of c.args.request.now) (message_of c.args.request.now) c.in-Job.job c.settle.result (c.settle.ensures.door.opening ∙ c.ask.ensures.door.opening) c.settle.ensures.small
    c.requires.legal (c.settle.ensures.door.legal (c.ask.ensures.door.legal c.requires.legal)) (asked_as (g.D.Door.view c.args.door.now).opening (g.D.Door.view c.args.door.now).number (g.D.Door.view c.args.door.now).alone (g.D.Door.view c.args.door.now).seen (g.D.Door.view c.ask.new.door).seen c.args.task c.args.request.now c.in_ok-request.request c.in_ok-job.field-0 (Job c.in-Job.job) c.child-child.ensures c.in_ok-request.ensures c.in-Job.is c.in_ok-job.ensures.asked) c.settle.ensures.moved c.settle.ensures.verdict

pub returns-in-Lost-Some-clause-asked : goal.returns-in-Lost-Some-clause-asked
returns-in-Lost-Some-clause-asked g c = lost_so (g.D.Door.view c.args.door.now).opening (g.D.Door.view c.args.door.now).number (g.D.Door.view c.args.door.now).alone (g.D.Door.view c.args.door.now).seen (g.D.Door.view c.ask.new.door).seen c.args.self.now.ear.child c.args.task (name_of c.args.request.now) (message_of c.args.request.now) (λ job. HeardOut c.args.self.now.ear.child job (g.D.Door.view c.ask.new.door).seen) (Some c.in-Lost-Some.why) (asked_as (g.D.Door.view c.args.door.now).opening (g.D.Door.view c.args.door.now).number (g.D.Door.view c.args.door.now).alone (g.D.Door.view c.args.door.now).seen (g.D.Door.view c.ask.new.door).seen c.args.task c.args.request.now c.in_ok-request.request c.in_ok-job.field-0 (Lost (Some c.in-Lost-Some.why)) c.child-child.ensures c.in_ok-request.ensures (c.in-Lost-Some.is ∙ ap Lost c.in-Lost-Some.field-0-is) c.in_ok-job.ensures.asked)

pub returns-in-Lost-Some-clause-moved : goal.returns-in-Lost-Some-clause-moved
returns-in-Lost-Some-clause-moved g c = lone_asked (g.D.Door.view c.args.door.now).opening c.args.task (name_of c.args.request.now) (message_of c.args.request.now) c.args.self.now.ear c.args.self.now.mouth c.args.self.now.one_child (Lost (Some c.in-Lost-Some.why)) (asked_as (g.D.Door.view c.args.door.now).opening (g.D.Door.view c.args.door.now).number (g.D.Door.view c.args.door.now).alone (g.D.Door.view c.args.door.now).seen (g.D.Door.view c.ask.new.door).seen c.args.task c.args.request.now c.in_ok-request.request c.in_ok-job.field-0 (Lost (Some c.in-Lost-Some.why)) c.child-child.ensures c.in_ok-request.ensures (c.in-Lost-Some.is ∙ ap Lost c.in-Lost-Some.field-0-is) c.in_ok-job.ensures.asked)

pub returns-in-Lost-None-clause-asked : goal.returns-in-Lost-None-clause-asked
returns-in-Lost-None-clause-asked g c = lost_so (g.D.Door.view c.args.door.now).opening (g.D.Door.view c.args.door.now).number (g.D.Door.view c.args.door.now).alone (g.D.Door.view c.args.door.now).seen (g.D.Door.view c.ask.new.door).seen c.args.self.now.ear.child c.args.task (name_of c.args.request.now) (message_of c.args.request.now) (λ job. HeardOut c.args.self.now.ear.child job (g.D.Door.view c.ask.new.door).seen) None (asked_as (g.D.Door.view c.args.door.now).opening (g.D.Door.view c.args.door.now).number (g.D.Door.view c.args.door.now).alone (g.D.Door.view c.args.door.now).seen (g.D.Door.view c.ask.new.door).seen c.args.task c.args.request.now c.in_ok-request.request c.in_ok-job.field-0 (Lost None) c.child-child.ensures c.in_ok-request.ensures (c.in-Lost-None.is ∙ ap Lost c.in-Lost-None.field-0-is) c.in_ok-job.ensures.asked)

pub returns-in-Lost-None-clause-moved : goal.returns-in-Lost-None-clause-moved
returns-in-Lost-None-clause-moved g c = lone_asked (g.D.Door.view c.args.door.now).opening c.args.task (name_of c.args.request.now) (message_of c.args.request.now) c.args.self.now.ear c.args.self.now.mouth c.args.self.now.one_child (Lost None) (asked_as (g.D.Door.view c.args.door.now).opening (g.D.Door.view c.args.door.now).number (g.D.Door.view c.args.door.now).alone (g.D.Door.view c.args.door.now).seen (g.D.Door.view c.ask.new.door).seen c.args.task c.args.request.now c.in_ok-request.request c.in_ok-job.field-0 (Lost None) c.child-child.ensures c.in_ok-request.ensures (c.in-Lost-None.is ∙ ap Lost c.in-Lost-None.field-0-is) c.in_ok-job.ensures.asked)

pub returns-in-Odd-clause-moved : goal.returns-in-Odd-clause-moved
returns-in-Odd-clause-moved g c = lone_asked (g.D.Door.view c.args.door.now).opening c.args.task (name_of c.args.request.now) (message_of c.args.request.now) c.args.self.now.ear c.args.self.now.mouth c.args.self.now.one_child Odd (asked_as (g.D.Door.view c.args.door.now).opening (g.D.Door.view c.args.door.now).number (g.D.Door.view c.args.door.now).alone (g.D.Door.view c.args.door.now).seen (g.D.Door.view c.ask.new.door).seen c.args.task c.args.request.now c.in_ok-request.request c.in_ok-job.field-0 Odd c.child-child.ensures c.in_ok-request.ensures c.in-Odd.is c.in_ok-job.ensures.asked)
