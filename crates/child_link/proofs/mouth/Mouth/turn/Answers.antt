use Rattle.std.proofs.Common.{refl, sym, subst, ap}
use Rattle.journal_model.specs.Halves.{MouthValue}
use Rattle.host_core.specs.declared.event.Reply.TheVariants.{Wait, Over}
use Rattle.child_link.specs.declared.ear.Turn.TheVariants.{Again}
use Rattle.child_link.specs.Moves.{MouthMoved}
use Rattle.child_link.specs.Writings.{IsSpeaking, mouth_value}
use Rattle.child_link.proofs.Roles.{moved_both}
use Rattle.child_link.proofs.Mouths.{mouth_on, mouth_ends}
use Rattle.child_link.proofs.Hearing.{says_fetch}
use Rattle.child_link.proofs.Writings.{writing_so}
use Rattle.child_link.proofs.mouth.Mouth.turn.Goals as goal

pub returns-then-self-clause-moved : goal.returns-then-self-clause-moved
returns-then-self-clause-moved g c =
    let d = c.args.door.now in
    subst (λ (m : MouthValue). MouthMoved (g.D.Door.view d).number (g.D.Door.view d).alone (g.D.Door.view d).seen (g.D.Door.view c.give_up.new.door).seen c.args.self.now m) (sym c.give_up.ensures.same)
    (mouth_ends c.args.self.now c.give_up.ensures.ends)

pub returns-in-Ok-Line-clause-moved : goal.returns-in-Ok-Line-clause-moved
returns-in-Ok-Line-clause-moved g c =
    let d = c.args.door.now in
    let before = c.self.inside.inlet in
    let after = c.send.new.inlet in
    let v = mouth_value c.self.inside.child (g.I.Sink.told before) in
    let w = mouth_value c.self.inside.child (g.I.Sink.told after) in
    subst (λ (m : MouthValue). MouthMoved (g.D.Door.view d).number (g.D.Door.view d).alone (g.D.Door.view d).seen (g.D.Door.view c.send.new.door).seen m w) c.self.view_is
    (moved_both c.fetch.ensures.door.number c.fetch.ensures.door.alone (mouth_on v c.fetch.ensures.passed) c.send.ensures.moved)

pub returns-in-Ok-Line-clause-turned : goal.returns-in-Ok-Line-clause-turned
returns-in-Ok-Line-clause-turned g c =
    let d = c.args.door.now in
    let before = c.self.inside.inlet in
    let after = c.send.new.inlet in
    let v = mouth_value c.self.inside.child (g.I.Sink.told before) in
    let w = mouth_value c.self.inside.child (g.I.Sink.told after) in
    subst (λ (m : MouthValue). IsSpeaking (g.D.Door.view d).opening (g.D.Door.view d).number (g.D.Door.view d).alone (g.D.Door.view d).seen (g.D.Door.view c.send.new.door).seen m w Again) c.self.view_is (
      (g.D.Door.view c.fetch.new.door).seen,
      c.fetch.ensures.passed,
      (
        c.in-Ok-Line.line,
        (rw c.in-Ok-Line.field-0-is at c.in-Ok-Line.ensures.line),
        writing_so v w c.in-Ok-Line.line c.fetch.ensures.door.opening c.fetch.ensures.door.number c.fetch.ensures.door.alone c.send.ensures.writing,
      ),
    )

pub returns-in-Ok-Rest-clause-moved : goal.returns-in-Ok-Rest-clause-moved
returns-in-Ok-Rest-clause-moved g c = mouth_on c.args.self.now c.fetch.ensures.passed

pub returns-in-Ok-Rest-clause-rest : goal.returns-in-Ok-Rest-clause-rest
returns-in-Ok-Rest-clause-rest g c = λ _. says_fetch {o = (g.D.Door.view c.args.door.now).opening} {n = (g.D.Door.view c.args.door.now).number} (g.D.Door.view c.fetch.new.door).seen Wait refl refl (ap (λ (m : MouthValue). m.child) c.self.view_is) (rw c.in-Ok-Rest.field-0-is at c.in-Ok-Rest.ensures.line)

pub returns-in-Ok-Over-clause-moved : goal.returns-in-Ok-Over-clause-moved
returns-in-Ok-Over-clause-moved g c = mouth_on c.args.self.now c.fetch.ensures.passed

pub returns-in-Ok-Over-clause-over : goal.returns-in-Ok-Over-clause-over
returns-in-Ok-Over-clause-over g c = λ _. says_fetch {o = (g.D.Door.view c.args.door.now).opening} {n = (g.D.Door.view c.args.door.now).number} (g.D.Door.view c.fetch.new.door).seen Over refl refl (ap (λ (m : MouthValue). m.child) c.self.view_is) (rw c.in-Ok-Over.field-0-is at c.in-Ok-Over.ensures.line)

pub returns-in-Err-clause-moved : goal.returns-in-Err-clause-moved
returns-in-Err-clause-moved g c =
    let d = c.fetch.new.door in
    moved_both c.fetch.ensures.door.number c.fetch.ensures.door.alone (mouth_on c.args.self.now c.fetch.ensures.passed)
    (subst (λ (m : MouthValue). MouthMoved (g.D.Door.view d).number (g.D.Door.view d).alone (g.D.Door.view d).seen (g.D.Door.view c.give_up-in-Err.new.door).seen c.args.self.now m) (sym c.give_up-in-Err.ensures.same)
    (mouth_ends c.args.self.now c.give_up-in-Err.ensures.ends))
