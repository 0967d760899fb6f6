use Rattle.std.proofs.Common.{refl, sym, ap, ◌∙◌}
use Rattle.journal_model.specs.declared.verdict.Why.TheVariants.{Full, Memory}
use Rattle.child_link.proofs.Roles.{moved_both, moved_from, same_both}
use Rattle.child_link.proofs.Hearing.{ear_gives_up, turn_over, untaken, ear_fed, turn_fed}
use Rattle.annex_model.specs.Lines.{has_newline}
use Rattle.journal_model.specs.Journal.{is_started, is_ended}
use Rattle.child_link.proofs.Ears.{ear_on}
use Rattle.child_link.proofs.Turns.{turn_on}
use Rattle.child_link.proofs.Replying.{over_by, started_then}
use Rattle.child_link.proofs.ear.Ear.feed.Goals as goal
use Rattle.child_link.proofs.Hearing.{ends_behind, unfed_came, fed_came}
use Rattle.wire_line.proofs.Firsts.{no_newline_before as line_whole}

pub got-requires-clause-line : goal.got-requires-clause-line
got-requires-clause-line g c = ap has_newline c.requires.line.1 ∙ line_whole c.args.self.now.held

pub stop-requires-clause-started : goal.stop-requires-clause-started
stop-requires-clause-started g c = started_then c.child-child.result c.in-Err.ensures.err (ap (is_started (g.D.Door.view c.args.door.now).seen) c.child-child.ensures ∙ c.requires.started)

pub returns-in-Ok-true-clause-moved : goal.returns-in-Ok-true-clause-moved
returns-in-Ok-true-clause-moved g c =
    ear_fed (g.D.Door.view c.args.door.now).opening c.args.self.now c.child-child.result c.child-child.ensures c.drop_line.new.self c.args.line c.in-Ok-true.field-0 c.in-Ok-true.field-0-test c.drop_line.ensures.same c.requires.line c.drop_line.ensures.cut c.drop_line.ensures.fewer c.in-Ok-true.ensures.ok

pub returns-in-Ok-true-clause-turned : goal.returns-in-Ok-true-clause-turned
returns-in-Ok-true-clause-turned g c =
    turn_fed (g.D.Door.view c.args.door.now).opening c.args.self.now c.child-child.result c.child-child.ensures c.args.line c.in-Ok-true.field-0 c.in-Ok-true.field-0-test c.in-Ok-true.ensures.ok

pub returns-in-Ok-false-clause-moved : goal.returns-in-Ok-false-clause-moved
returns-in-Ok-false-clause-moved g c =
    ear_gives_up c.args.self.now c.child-child.result c.child-child.ensures Full refl refl tt
    (untaken (g.D.Door.view c.args.door.now).opening c.args.self.now c.child-child.result c.child-child.ensures c.args.line c.in-Ok-false.field-0 c.in-Ok-false.field-0-test c.in-Ok-false.ensures.ok)

pub returns-in-Ok-false-clause-turned : goal.returns-in-Ok-false-clause-turned
returns-in-Ok-false-clause-turned g c =
    moved_from (λ h. h.1) (turn_over c.args.self.now c.child-child.result c.child-child.ensures Full refl
    (untaken (g.D.Door.view c.args.door.now).opening c.args.self.now c.child-child.result c.child-child.ensures c.args.line c.in-Ok-false.field-0 c.in-Ok-false.field-0-test c.in-Ok-false.ensures.ok))

pub returns-in-Ok-false-clause-over : goal.returns-in-Ok-false-clause-over
returns-in-Ok-false-clause-over g c = λ _.
    ap (is_ended (g.D.Door.view c.got.new.door).seen) (sym c.child-child.ensures)
    ∙ over_by {o = (g.D.Door.view c.args.door.now).opening} c.child-child.result Full (untaken (g.D.Door.view c.args.door.now).opening c.args.self.now c.child-child.result c.child-child.ensures c.args.line c.in-Ok-false.field-0 c.in-Ok-false.field-0-test c.in-Ok-false.ensures.ok)

pub returns-in-Err-clause-moved : goal.returns-in-Err-clause-moved
returns-in-Err-clause-moved g c =
    moved_both c.got.ensures.door.number c.got.ensures.door.alone (ear_on c.args.self.now c.in-Err.ensures.err)
    (ear_gives_up c.args.self.now c.child-child.result c.child-child.ensures Memory refl refl tt c.stop.ensures.ends)

pub returns-in-Err-clause-turned : goal.returns-in-Err-clause-turned
returns-in-Err-clause-turned g c =
    moved_from (λ h. h.1) (moved_both c.got.ensures.door.number c.got.ensures.door.alone (turn_on c.args.self.now.child c.in-Err.ensures.err)
    (turn_over c.args.self.now c.child-child.result c.child-child.ensures Memory refl c.stop.ensures.ends))

pub returns-in-Err-clause-over : goal.returns-in-Err-clause-over
returns-in-Err-clause-over g c = λ _. ap (is_ended (g.D.Door.view c.stop.new.door).seen) (sym c.child-child.ensures) ∙ c.stop.ensures.over

pub returns-in-Err-clause-door : goal.returns-in-Err-clause-door
returns-in-Err-clause-door g c = same_both c.got.ensures.door c.stop.ensures.door

pub returns-in-Ok-true-clause-came : goal.returns-in-Ok-true-clause-came
returns-in-Ok-true-clause-came g c = fed_came c.args.self.now c.drop_line.new.self c.child-child.result c.child-child.ensures c.args.line c.in-Ok-true.field-0 c.in-Ok-true.field-0-test c.requires.line.0 c.drop_line.ensures.same c.drop_line.ensures.fewer c.in-Ok-true.ensures.ok

pub returns-in-Ok-false-clause-came : goal.returns-in-Ok-false-clause-came
returns-in-Ok-false-clause-came g c = unfed_came c.args.self.now c.args.self.now c.child-child.result c.child-child.ensures Full refl refl (untaken (g.D.Door.view c.args.door.now).opening c.args.self.now c.child-child.result c.child-child.ensures c.args.line c.in-Ok-false.field-0 c.in-Ok-false.field-0-test c.in-Ok-false.ensures.ok)

pub returns-in-Err-clause-came : goal.returns-in-Err-clause-came
returns-in-Err-clause-came g c = unfed_came c.args.self.now c.args.self.now c.child-child.result c.child-child.ensures Memory refl refl (ends_behind c.child-child.result Memory c.got.ensures.door.opening c.got.ensures.door.number c.got.ensures.door.alone c.in-Err.ensures.err c.got.ensures.door.legal c.stop.ensures.ends)
