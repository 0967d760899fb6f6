use Rattle.std.proofs.Common.{refl, sym, ap, subst, ◌∙◌, ℕ}
use Rattle.child_link.proofs.Roles.{moved_both, moved_then, moved_on, moved_wider, started_on}
use Rattle.journal_model.specs.Shares.{is_of_child, by_link}
use Rattle.journal_model.specs.Journal.{is_started}
use Rattle.host_core.specs.declared.event.Reply.TheVariants.{Wait, Over}
use Rattle.child_link.specs.Asks.{IsWritten, HeardOut}
use Rattle.child_link.proofs.Writings.{lone_mouth, lone_waited}
use Rattle.child_link.proofs.Asking.{asked_moved}
use Rattle.child_link.proofs.Settling.{unheard_out, mouth_unheard, says_written, out_passed, waited_out}
use Rattle.child_link.proofs.lone.Lone.settle_next.Goals as goal

pub returns-in-Some-clause-heard : goal.returns-in-Some-clause-heard
returns-in-Some-clause-heard g c = out_passed c.args.self.now.ear.child c.args.job c.look_up.ensures.passed

pub returns-in-Again-clause-moved : goal.returns-in-Again-clause-moved
returns-in-Again-clause-moved g c = moved_then by_link is_of_child c.look_up.ensures.door.number c.look_up.ensures.door.alone c.look_up.ensures.same.0.0 c.look_up.ensures.moved (lone_mouth c.look_up.new.self.ear c.look_up.new.self.mouth c.turn.new.self c.look_up.new.self.one_child c.turn.ensures.moved)

pub returns-in-Again-clause-heard : goal.returns-in-Again-clause-heard
returns-in-Again-clause-heard g c = moved_both c.look_up.ensures.door.number c.look_up.ensures.door.alone (moved_on c.look_up.ensures.passed (λ none h. h))
    (moved_wider (λ w k. k) (λ w k. k) (mouth_unheard {X = Unit {0}} c.look_up.new.self.mouth c.args.self.now.ear.child c.args.job (c.look_up.new.self.one_child ∙ c.look_up.ensures.same.0.0) c.turn.ensures.moved (sym c.in_default.ensures.verdict)) (λ own u k. unheard_out (g.D.Door.view c.turn.new.door).seen c.args.self.now.ear.child c.args.job (u tt)))

pub hear_next-requires-clause-asked : goal.hear_next-requires-clause-asked
hear_next-requires-clause-asked g c = asked_moved c.args.self.now.ear.child c.look_up.new.self.ear.child c.args.job c.look_up.ensures.same.0.0 (moved_then by_link is_of_child c.look_up.ensures.door.number c.look_up.ensures.door.alone c.look_up.ensures.same.0.0 c.look_up.ensures.moved (lone_mouth c.look_up.new.self.ear c.look_up.new.self.mouth c.turn.new.self c.look_up.new.self.one_child c.turn.ensures.moved)) c.requires.asked

pub hear_next-requires-in-Over-clause-asked : goal.hear_next-requires-in-Over-clause-asked
hear_next-requires-in-Over-clause-asked g c = asked_moved c.args.self.now.ear.child c.look_up.new.self.ear.child c.args.job c.look_up.ensures.same.0.0 (moved_then by_link is_of_child c.look_up.ensures.door.number c.look_up.ensures.door.alone c.look_up.ensures.same.0.0 c.look_up.ensures.moved (lone_mouth c.look_up.new.self.ear c.look_up.new.self.mouth c.turn.new.self c.look_up.new.self.one_child c.turn.ensures.moved)) c.requires.asked

pub returns-in-Rest-clause-moved : goal.returns-in-Rest-clause-moved
returns-in-Rest-clause-moved g c =
    lone_waited c.args.self.now.ear.child c.look_up.new.self.ear.child c.look_up.new.self.ear c.turn.new.self (c.turn.ensures.door.number ∙ c.look_up.ensures.door.number) (c.turn.ensures.door.alone ∙ c.look_up.ensures.door.alone) c.look_up.ensures.same.0.0
    (moved_then by_link is_of_child c.look_up.ensures.door.number c.look_up.ensures.door.alone c.look_up.ensures.same.0.0 c.look_up.ensures.moved (lone_mouth c.look_up.new.self.ear c.look_up.new.self.mouth c.turn.new.self c.look_up.new.self.one_child c.turn.ensures.moved))
    (subst (λ (k : ℕ). IsWritten k (g.D.Door.view c.turn.new.door).seen) c.look_up.new.self.one_child (says_written (g.D.Door.view c.look_up.new.door).opening (g.D.Door.view c.look_up.new.door).number c.look_up.new.self.mouth.child (g.D.Door.view c.turn.new.door).seen Wait (started_on c.look_up.new.self.mouth.child c.turn.ensures.moved (ap (is_started (g.D.Door.view c.look_up.new.door).seen) (c.look_up.new.self.one_child ∙ c.look_up.ensures.same.0.0) ∙ started_on c.args.self.now.ear.child c.look_up.ensures.moved c.requires.started)) refl (c.turn.ensures.rest c.in-Rest.is)))
    c.hear_next.ensures.moved

pub returns-in-Rest-clause-heard : goal.returns-in-Rest-clause-heard
returns-in-Rest-clause-heard g c = waited_out c.args.self.now.ear.child c.look_up.new.self.ear.child c.args.job (c.turn.ensures.door.number ∙ c.look_up.ensures.door.number) (c.turn.ensures.door.alone ∙ c.look_up.ensures.door.alone) c.look_up.ensures.same.0.0
    (moved_both c.look_up.ensures.door.number c.look_up.ensures.door.alone (moved_on c.look_up.ensures.passed (λ none h. h)) (mouth_unheard {X = HeardOut c.args.self.now.ear.child c.args.job (g.D.Door.view c.args.door.now).seen} c.look_up.new.self.mouth c.args.self.now.ear.child c.args.job (c.look_up.new.self.one_child ∙ c.look_up.ensures.same.0.0) c.turn.ensures.moved (sym c.in_default.ensures.verdict)))
    (subst (λ (k : ℕ). IsWritten k (g.D.Door.view c.turn.new.door).seen) (c.look_up.new.self.one_child ∙ c.look_up.ensures.same.0.0) (says_written (g.D.Door.view c.look_up.new.door).opening (g.D.Door.view c.look_up.new.door).number c.look_up.new.self.mouth.child (g.D.Door.view c.turn.new.door).seen Wait (started_on c.look_up.new.self.mouth.child c.turn.ensures.moved (ap (is_started (g.D.Door.view c.look_up.new.door).seen) (c.look_up.new.self.one_child ∙ c.look_up.ensures.same.0.0) ∙ started_on c.args.self.now.ear.child c.look_up.ensures.moved c.requires.started)) refl (c.turn.ensures.rest c.in-Rest.is)))
    c.hear_next.ensures.heard

pub returns-in-Over-clause-moved : goal.returns-in-Over-clause-moved
returns-in-Over-clause-moved g c =
    lone_waited c.args.self.now.ear.child c.look_up.new.self.ear.child c.look_up.new.self.ear c.turn.new.self (c.turn.ensures.door.number ∙ c.look_up.ensures.door.number) (c.turn.ensures.door.alone ∙ c.look_up.ensures.door.alone) c.look_up.ensures.same.0.0
    (moved_then by_link is_of_child c.look_up.ensures.door.number c.look_up.ensures.door.alone c.look_up.ensures.same.0.0 c.look_up.ensures.moved (lone_mouth c.look_up.new.self.ear c.look_up.new.self.mouth c.turn.new.self c.look_up.new.self.one_child c.turn.ensures.moved))
    (subst (λ (k : ℕ). IsWritten k (g.D.Door.view c.turn.new.door).seen) c.look_up.new.self.one_child (says_written (g.D.Door.view c.look_up.new.door).opening (g.D.Door.view c.look_up.new.door).number c.look_up.new.self.mouth.child (g.D.Door.view c.turn.new.door).seen Over (started_on c.look_up.new.self.mouth.child c.turn.ensures.moved (ap (is_started (g.D.Door.view c.look_up.new.door).seen) (c.look_up.new.self.one_child ∙ c.look_up.ensures.same.0.0) ∙ started_on c.args.self.now.ear.child c.look_up.ensures.moved c.requires.started)) refl (c.turn.ensures.over c.in-Over.is)))
    c.hear_next-in-Over.ensures.moved

pub returns-in-Over-clause-heard : goal.returns-in-Over-clause-heard
returns-in-Over-clause-heard g c = waited_out c.args.self.now.ear.child c.look_up.new.self.ear.child c.args.job (c.turn.ensures.door.number ∙ c.look_up.ensures.door.number) (c.turn.ensures.door.alone ∙ c.look_up.ensures.door.alone) c.look_up.ensures.same.0.0
    (moved_both c.look_up.ensures.door.number c.look_up.ensures.door.alone (moved_on c.look_up.ensures.passed (λ none h. h)) (mouth_unheard {X = HeardOut c.args.self.now.ear.child c.args.job (g.D.Door.view c.args.door.now).seen} c.look_up.new.self.mouth c.args.self.now.ear.child c.args.job (c.look_up.new.self.one_child ∙ c.look_up.ensures.same.0.0) c.turn.ensures.moved (sym c.in_default.ensures.verdict)))
    (subst (λ (k : ℕ). IsWritten k (g.D.Door.view c.turn.new.door).seen) (c.look_up.new.self.one_child ∙ c.look_up.ensures.same.0.0) (says_written (g.D.Door.view c.look_up.new.door).opening (g.D.Door.view c.look_up.new.door).number c.look_up.new.self.mouth.child (g.D.Door.view c.turn.new.door).seen Over (started_on c.look_up.new.self.mouth.child c.turn.ensures.moved (ap (is_started (g.D.Door.view c.look_up.new.door).seen) (c.look_up.new.self.one_child ∙ c.look_up.ensures.same.0.0) ∙ started_on c.args.self.now.ear.child c.look_up.ensures.moved c.requires.started)) refl (c.turn.ensures.over c.in-Over.is)))
    c.hear_next-in-Over.ensures.heard
