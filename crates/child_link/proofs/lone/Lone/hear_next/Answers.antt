use Rattle.std.proofs.Common.{refl, sym, ap, ◌∙◌}
use Rattle.child_link.proofs.Roles.{moved_both, moved_from, same_both}
use Rattle.child_link.proofs.Linked.{link_on, link_ear}
use Rattle.child_link.proofs.Asking.{asked_moved, has_verdict}
use Rattle.child_link.proofs.Writings.{lone_on, lone_waits, lone_heard}
use Rattle.child_link.proofs.Settling.{waits_on, waits_out, hearing_out, over_settled}
use Rattle.journal_model.specs.Wires.{may_hear}
use Rattle.host_core.specs.declared.event.Reply.TheVariants.{Wait, Over}
use Rattle.child_link.proofs.Hearing.{says_listen}
use Rattle.child_link.proofs.Replying.{started_then, asked_then}
use Rattle.child_link.proofs.lone.Lone.hear_next.Goals as goal

pub hear-requires-clause-turn : goal.hear-requires-clause-turn
hear-requires-clause-turn g c = ap (may_hear (g.D.Door.view c.listen.new.door).seen) (sym c.child-child.ensures) ∙ c.in-Read.ensures.listening.1

pub returns-in-Rest-clause-settling : goal.returns-in-Rest-clause-settling
returns-in-Rest-clause-settling g c = λ none.
    over_settled (g.D.Door.view c.args.door.now).opening (g.D.Door.view c.listen.new.door).opening (g.D.Door.view c.args.door.now).number c.args.self.now.ear.child c.args.job (g.D.Door.view c.listen.new.door).seen Wait
    (c.listen.ensures.door.legal c.requires.legal) (started_then c.args.self.now.ear.child c.listen.ensures.passed c.requires.started) (asked_then c.args.self.now.ear.child c.args.job c.listen.ensures.passed c.requires.asked) refl
    (says_listen {o = (g.D.Door.view c.args.door.now).opening} {n = (g.D.Door.view c.args.door.now).number} (g.D.Door.view c.listen.new.door).seen Wait refl refl c.child-child.ensures c.in-Rest.ensures.listening) none

pub returns-in-Rest-clause-heard : goal.returns-in-Rest-clause-heard
returns-in-Rest-clause-heard g c = waits_out c.args.self.now.ear.child c.args.job c.listen.ensures.passed

pub returns-in-Rest-clause-moved : goal.returns-in-Rest-clause-moved
returns-in-Rest-clause-moved g c = moved_from (λ h. h.0) (lone_on c.args.self.now.ear c.args.self.now.mouth c.args.self.now.one_child c.listen.ensures.passed)

pub returns-in-Over-clause-settling : goal.returns-in-Over-clause-settling
returns-in-Over-clause-settling g c = λ none.
    over_settled (g.D.Door.view c.args.door.now).opening (g.D.Door.view c.listen.new.door).opening (g.D.Door.view c.args.door.now).number c.args.self.now.ear.child c.args.job (g.D.Door.view c.listen.new.door).seen Over
    (c.listen.ensures.door.legal c.requires.legal) (started_then c.args.self.now.ear.child c.listen.ensures.passed c.requires.started) (asked_then c.args.self.now.ear.child c.args.job c.listen.ensures.passed c.requires.asked) refl
    (says_listen {o = (g.D.Door.view c.args.door.now).opening} {n = (g.D.Door.view c.args.door.now).number} (g.D.Door.view c.listen.new.door).seen Over refl refl c.child-child.ensures c.in-Over.ensures.listening) none

pub returns-in-Over-clause-heard : goal.returns-in-Over-clause-heard
returns-in-Over-clause-heard g c = waits_out c.args.self.now.ear.child c.args.job c.listen.ensures.passed

pub returns-in-Over-clause-moved : goal.returns-in-Over-clause-moved
returns-in-Over-clause-moved g c = moved_from (λ h. h.0) (lone_on c.args.self.now.ear c.args.self.now.mouth c.args.self.now.one_child c.listen.ensures.passed)

pub returns-in-Fed-clause-moved : goal.returns-in-Fed-clause-moved
returns-in-Fed-clause-moved g c =
    moved_both c.listen.ensures.door.number c.listen.ensures.door.alone (lone_waits c.args.self.now.ear c.args.self.now.mouth c.args.self.now.one_child c.listen.ensures.passed)
    (lone_heard (g.D.Door.view c.listen.new.door).opening c.args.self.now.ear c.hear.new.self c.args.self.now.mouth c.hear.result c.hear.ensures.same.0
    (link_ear c.args.self.now.ear c.hear.new.self c.args.self.now.mouth c.args.self.now.one_child c.hear.ensures.same.0 c.hear.ensures.moved c.hear.ensures.turned) c.hear.ensures.heard)

pub returns-in-Fed-clause-heard : goal.returns-in-Fed-clause-heard
returns-in-Fed-clause-heard g c = moved_both c.listen.ensures.door.number c.listen.ensures.door.alone (waits_on c.args.self.now.ear.child c.args.job c.listen.ensures.passed) (hearing_out (g.D.Door.view c.listen.new.door).opening (g.D.Door.view c.listen.new.door).number (g.D.Door.view c.listen.new.door).alone (g.D.Door.view c.listen.new.door).seen (g.D.Door.view c.hear.new.door).seen c.args.self.now.ear c.hear.new.self c.args.job c.hear.result c.hear.ensures.heard)

pub returns-in-Fed-clause-door : goal.returns-in-Fed-clause-door
returns-in-Fed-clause-door g c = same_both c.listen.ensures.door c.hear.ensures.door

pub returns-in-Read-hear-clause-moved : goal.returns-in-Read-hear-clause-moved
returns-in-Read-hear-clause-moved g c =
    moved_both c.listen.ensures.door.number c.listen.ensures.door.alone (lone_waits c.args.self.now.ear c.args.self.now.mouth c.args.self.now.one_child c.listen.ensures.passed)
    (lone_heard (g.D.Door.view c.listen.new.door).opening c.args.self.now.ear c.hear.new.self c.args.self.now.mouth c.hear.result c.hear.ensures.same.0
    (link_ear c.args.self.now.ear c.hear.new.self c.args.self.now.mouth c.args.self.now.one_child c.hear.ensures.same.0 c.hear.ensures.moved c.hear.ensures.turned) c.hear.ensures.heard)

pub returns-in-Read-hear-clause-heard : goal.returns-in-Read-hear-clause-heard
returns-in-Read-hear-clause-heard g c = moved_both c.listen.ensures.door.number c.listen.ensures.door.alone (waits_on c.args.self.now.ear.child c.args.job c.listen.ensures.passed) (hearing_out (g.D.Door.view c.listen.new.door).opening (g.D.Door.view c.listen.new.door).number (g.D.Door.view c.listen.new.door).alone (g.D.Door.view c.listen.new.door).seen (g.D.Door.view c.hear.new.door).seen c.args.self.now.ear c.hear.new.self c.args.job c.hear.result c.hear.ensures.heard)

pub returns-in-Read-hear-clause-door : goal.returns-in-Read-hear-clause-door
returns-in-Read-hear-clause-door g c = same_both c.listen.ensures.door c.hear.ensures.door

pub returns-in-Over-hear-clause-moved : goal.returns-in-Over-hear-clause-moved
returns-in-Over-hear-clause-moved g c =
    moved_both c.listen.ensures.door.number c.listen.ensures.door.alone (lone_waits c.args.self.now.ear c.args.self.now.mouth c.args.self.now.one_child c.listen.ensures.passed)
    (lone_heard (g.D.Door.view c.listen.new.door).opening c.args.self.now.ear c.hear.new.self c.args.self.now.mouth c.hear.result c.hear.ensures.same.0
    (link_ear c.args.self.now.ear c.hear.new.self c.args.self.now.mouth c.args.self.now.one_child c.hear.ensures.same.0 c.hear.ensures.moved c.hear.ensures.turned) c.hear.ensures.heard)

pub returns-in-Over-hear-clause-heard : goal.returns-in-Over-hear-clause-heard
returns-in-Over-hear-clause-heard g c = moved_both c.listen.ensures.door.number c.listen.ensures.door.alone (waits_on c.args.self.now.ear.child c.args.job c.listen.ensures.passed) (hearing_out (g.D.Door.view c.listen.new.door).opening (g.D.Door.view c.listen.new.door).number (g.D.Door.view c.listen.new.door).alone (g.D.Door.view c.listen.new.door).seen (g.D.Door.view c.hear.new.door).seen c.args.self.now.ear c.hear.new.self c.args.job c.hear.result c.hear.ensures.heard)

pub returns-in-Over-hear-clause-door : goal.returns-in-Over-hear-clause-door
returns-in-Over-hear-clause-door g c = same_both c.listen.ensures.door c.hear.ensures.door

pub returns-in-Over-hear-clause-settling : goal.returns-in-Over-hear-clause-settling
returns-in-Over-hear-clause-settling g c = λ none.
    has_verdict (g.D.Door.view c.hear.new.door).opening (g.D.Door.view c.hear.new.door).seen c.args.self.now.ear.child c.args.job ((same_both c.listen.ensures.door c.hear.ensures.door).legal c.requires.legal)
    (c.hear.ensures.over c.in-Over-hear.is)
    (asked_moved c.args.self.now.ear.child c.args.self.now.ear.child c.args.job refl (moved_both c.listen.ensures.door.number c.listen.ensures.door.alone (link_on c.args.self.now.ear c.args.self.now.mouth c.args.self.now.one_child c.listen.ensures.passed)
    (link_ear c.args.self.now.ear c.hear.new.self c.args.self.now.mouth c.args.self.now.one_child c.hear.ensures.same.0 c.hear.ensures.moved c.hear.ensures.turned)) c.requires.asked) none
