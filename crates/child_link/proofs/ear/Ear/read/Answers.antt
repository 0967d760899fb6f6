use Rattle.std.proofs.Common.{refl, ap, ◌∙◌, List, ℕ, not, length, length-append, arith}
use Rattle.journal_model.specs.Wires.{IsLittle}
use Rattle.child_link.specs.Fills.{GrowsBy}
use Rattle.journal_model.specs.declared.verdict.Why.TheVariants.{Eof, ReadFault, Memory}
use Rattle.child_link.proofs.Roles.{moved_still}
use Rattle.child_link.proofs.Hearing.{turn_over, ear_filled, ear_read_over}
use Rattle.annex_model.specs.Lines.{has_newline}
use Rattle.child_link.proofs.Hearing.{not_eof, not_fault, eof_not_fault, fault_not_eof}
use Rattle.child_link.proofs.ear.Ear.read.Goals as goal
use Rattle.child_link.proofs.Hearing.{over_heard, short_not_long}
use Rattle.wire_line.proofs.Limits.{no_line}
use Rattle.journal_model.specs.Limits.{longest_line}

pub returns-in-Got-clause-moved : goal.returns-in-Got-clause-moved
returns-in-Got-clause-moved g c =
    let grown : GrowsBy 4096 c.args.self.now.held c.fill.new.self.held = c.in-Got.ensures.more refl in
    let little : IsLittle c.fill.new.self.held = omega (arith, c.requires.more.1, grown.few, ap (λ (bs : List ℕ). length bs) grown.is, length-append c.args.self.now.held grown.piece) in
    moved_still refl (ear_filled (g.D.Door.view c.args.door.now).seen c.args.self.now c.fill.new.self c.fill.ensures.fills little c.requires.live)

pub returns-in-End-clause-moved : goal.returns-in-End-clause-moved
returns-in-End-clause-moved g c =
    ear_read_over c.args.self.now c.fill.new.self c.child-child.result Eof c.child-child.ensures c.fill.ensures.fills (c.in-End.ensures.kept refl) c.requires.more.1 c.requires.live refl (ap (λ (x : List ℕ). not (has_newline x)) (c.in-End.ensures.kept refl) ∙ ap not (no_line longest_line c.args.self.now.held c.requires.more.0 c.requires.more.1)) (λ e. c.in-End.ensures.end refl) eof_not_fault c.stop.ensures.ends

pub returns-in-End-clause-turned : goal.returns-in-End-clause-turned
returns-in-End-clause-turned g c = turn_over c.args.self.now c.child-child.result c.child-child.ensures Eof refl c.stop.ensures.ends

pub returns-in-Fault-clause-moved : goal.returns-in-Fault-clause-moved
returns-in-Fault-clause-moved g c =
    ear_read_over c.args.self.now c.fill.new.self c.child-child.result ReadFault c.child-child.ensures c.fill.ensures.fills (c.in-Fault.ensures.kept refl) c.requires.more.1 c.requires.live refl (ap (λ (x : List ℕ). not (has_newline x)) (c.in-Fault.ensures.kept refl) ∙ ap not (no_line longest_line c.args.self.now.held c.requires.more.0 c.requires.more.1)) fault_not_eof (λ e. c.in-Fault.ensures.fault refl) c.stop-in-Fault.ensures.ends

pub returns-in-Fault-clause-turned : goal.returns-in-Fault-clause-turned
returns-in-Fault-clause-turned g c = turn_over c.args.self.now c.child-child.result c.child-child.ensures ReadFault refl c.stop-in-Fault.ensures.ends

pub returns-in-NoRoom-clause-moved : goal.returns-in-NoRoom-clause-moved
returns-in-NoRoom-clause-moved g c =
    ear_read_over c.args.self.now c.fill.new.self c.child-child.result Memory c.child-child.ensures c.fill.ensures.fills (c.in-NoRoom.ensures.kept refl) c.requires.more.1 c.requires.live refl tt (not_eof Memory refl) (not_fault Memory refl) c.stop-in-NoRoom.ensures.ends

pub returns-in-NoRoom-clause-turned : goal.returns-in-NoRoom-clause-turned
returns-in-NoRoom-clause-turned g c = turn_over c.args.self.now c.child-child.result c.child-child.ensures Memory refl c.stop-in-NoRoom.ensures.ends

pub returns-in-End-clause-heard : goal.returns-in-End-clause-heard
returns-in-End-clause-heard g c = over_heard c.args.self.now c.fill.new.self c.child-child.result c.child-child.ensures Eof refl (short_not_long c.args.self.now.held c.requires.more) c.stop.ensures.ends

pub returns-in-Fault-clause-heard : goal.returns-in-Fault-clause-heard
returns-in-Fault-clause-heard g c = over_heard c.args.self.now c.fill.new.self c.child-child.result c.child-child.ensures ReadFault refl (short_not_long c.args.self.now.held c.requires.more) c.stop-in-Fault.ensures.ends

pub returns-in-NoRoom-clause-heard : goal.returns-in-NoRoom-clause-heard
returns-in-NoRoom-clause-heard g c = over_heard c.args.self.now c.fill.new.self c.child-child.result c.child-child.ensures Memory refl (short_not_long c.args.self.now.held c.requires.more) c.stop-in-NoRoom.ensures.ends
