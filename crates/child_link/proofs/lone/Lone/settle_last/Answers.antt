use Rattle.std.proofs.Common.{refl, sym, ap, ◌∙◌, ℕ}
use Rattle.child_link.proofs.Roles.{moved_then, same_both, started_on}
use Rattle.journal_model.specs.Shares.{is_of_child, by_link}
use Rattle.journal_model.specs.Journal.{is_started, verdict_of}
use Rattle.child_link.proofs.Asking.{asked_moved, has_verdict}
use Rattle.child_link.proofs.Settling.{out_passed, given_up_out, heard_then}
use Rattle.child_link.proofs.Writings.{lone_ended}
use Rattle.journal_model.specs.declared.verdict.Why.TheVariants.{Memory}
use Rattle.child_link.proofs.lone.Lone.settle_last.Goals as goal

pub returns-in-Some-clause-heard : goal.returns-in-Some-clause-heard
returns-in-Some-clause-heard g c = out_passed c.args.self.now.ear.child c.args.job c.look_up.ensures.passed

pub give_up-requires : goal.give_up-requires
give_up-requires g c = record { started = ap (is_started (g.D.Door.view c.look_up.new.door).seen) c.look_up.ensures.same.0.0 ∙ started_on c.args.self.now.ear.child c.look_up.ensures.moved c.requires.started }

pub settled-requires-clause-asked : goal.settled-requires-clause-asked
settled-requires-clause-asked g c = asked_moved c.args.self.now.ear.child c.give_up.new.self.ear.child c.args.job (c.give_up.ensures.same.0.0 ∙ c.look_up.ensures.same.0.0) (moved_then by_link is_of_child c.look_up.ensures.door.number c.look_up.ensures.door.alone c.look_up.ensures.same.0.0 c.look_up.ensures.moved (lone_ended {o = (g.D.Door.view c.look_up.new.door).opening} c.look_up.new.self.ear c.give_up.new.self.ear c.look_up.new.self.mouth c.give_up.new.self.mouth Memory refl c.give_up.ensures.same.0.0 c.give_up.ensures.moved c.give_up.ensures.ends)) c.requires.asked

pub settled-requires-clause-settled : goal.settled-requires-clause-settled
settled-requires-clause-settled g c = λ none.
    has_verdict (g.D.Door.view c.give_up.new.door).opening (g.D.Door.view c.give_up.new.door).seen c.look_up.new.self.ear.child c.args.job ((same_both c.look_up.ensures.door c.give_up.ensures.door).legal c.requires.legal) c.give_up.ensures.over
    (asked_moved c.args.self.now.ear.child c.look_up.new.self.ear.child c.args.job c.look_up.ensures.same.0.0 (moved_then by_link is_of_child c.look_up.ensures.door.number c.look_up.ensures.door.alone c.look_up.ensures.same.0.0 c.look_up.ensures.moved (lone_ended {o = (g.D.Door.view c.look_up.new.door).opening} c.look_up.new.self.ear c.give_up.new.self.ear c.look_up.new.self.mouth c.give_up.new.self.mouth Memory refl c.give_up.ensures.same.0.0 c.give_up.ensures.moved c.give_up.ensures.ends)) c.requires.asked)
    (ap (λ (k : ℕ). verdict_of (g.D.Door.view c.give_up.new.door).seen k c.args.job) (sym c.give_up.ensures.same.0.0) ∙ none)

pub returns-clause-moved : goal.returns-clause-moved
returns-clause-moved g c = moved_then by_link is_of_child (c.give_up.ensures.door.number ∙ c.look_up.ensures.door.number) (c.give_up.ensures.door.alone ∙ c.look_up.ensures.door.alone) (c.give_up.ensures.same.0.0 ∙ c.look_up.ensures.same.0.0) (moved_then by_link is_of_child c.look_up.ensures.door.number c.look_up.ensures.door.alone c.look_up.ensures.same.0.0 c.look_up.ensures.moved (lone_ended {o = (g.D.Door.view c.look_up.new.door).opening} c.look_up.new.self.ear c.give_up.new.self.ear c.look_up.new.self.mouth c.give_up.new.self.mouth Memory refl c.give_up.ensures.same.0.0 c.give_up.ensures.moved c.give_up.ensures.ends)) c.settled.ensures.moved

pub returns-clause-door : goal.returns-clause-door
returns-clause-door g c = same_both (same_both c.look_up.ensures.door c.give_up.ensures.door) c.settled.ensures.door

pub returns-clause-verdict : goal.returns-clause-verdict
returns-clause-verdict g c = ap (λ (k : ℕ). verdict_of (g.D.Door.view c.settled.new.door).seen k c.args.job) (sym (c.give_up.ensures.same.0.0 ∙ c.look_up.ensures.same.0.0)) ∙ c.settled.ensures.verdict

pub returns-clause-heard : goal.returns-clause-heard
returns-clause-heard g c =
    heard_then c.args.self.now.ear.child c.give_up.new.self.ear.child c.args.job (c.give_up.ensures.door.number ∙ c.look_up.ensures.door.number) (c.give_up.ensures.door.alone ∙ c.look_up.ensures.door.alone) (c.give_up.ensures.same.0.0 ∙ c.look_up.ensures.same.0.0)
    (given_up_out (g.D.Door.view c.look_up.new.door).opening c.args.self.now.ear.child c.look_up.new.self.ear.child c.args.job Memory c.look_up.ensures.door.number c.look_up.ensures.door.alone c.look_up.ensures.same.0.0 refl c.look_up.ensures.passed
    (sym c.in_default.ensures.verdict) c.give_up.ensures.ends)
    c.settled.ensures.heard
