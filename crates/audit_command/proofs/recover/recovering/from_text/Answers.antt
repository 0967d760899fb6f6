use Rattle.std.proofs.Common.{Option, Ok, refl, sym, subst}
use Rattle.ann_outside.specs.Told.{DeskTold}
use Rattle.journal_look.specs.declared.journal.Journal.{Journal}
use Rattle.journal_model.specs.declared.opening.Opening.{Opening}
use Rattle.audit_command.specs.Recoveries.{EndsRecovery, RecoverDesks, RecoverNames, TextIs}
use Rattle.audit_command.specs.declared.recover.made.RecoverEnd.{RecoverEnd}
use Rattle.audit_command.specs.declared.recover.text.TextRead.{TextRead}
use Rattle.audit_command.specs.declared.recover.text.TextRead.TheVariants.{SoFar}
use Rattle.audit_command.proofs.Recovering.{so_far_may_begin, text_run, text_unbegun}
use Rattle.audit_command.proofs.recover.recovering.from_text.Goals as goal

pub from_run-requires : goal.from_run-requires
from_run-requires g c =
    let read = (g.D.Desk.told c.args.reader.now).files in
    let some = subst (λ (r : TextRead). TextIs c.args.text_name.now read (Ok r)) c.in-Ok-SoFar-Some.field-0-is c.in-Ok-SoFar-Some.ensures.told in
    let run = subst (λ (r : Option (Opening × Journal)). TextIs c.args.text_name.now read (Ok (SoFar r))) c.in-Ok-SoFar-Some.field-0-0-is some in
    record { begins = so_far_may_begin c.in-Ok-SoFar-Some.opening c.in-Ok-SoFar-Some.journal.entries run.2.0 run.2.2 }

pub returns-in-Ok-SoFar-Some-clause-ends : goal.returns-in-Ok-SoFar-Some-clause-ends
returns-in-Ok-SoFar-Some-clause-ends g c =
    let read = (g.D.Desk.told c.args.reader.now).files in
    let told = (g.D.Desk.told c.args.keeper.now).files in
    let some = subst (λ (r : TextRead). TextIs c.args.text_name.now read (Ok r)) c.in-Ok-SoFar-Some.field-0-is c.in-Ok-SoFar-Some.ensures.told in
    let run = subst (λ (r : Option (Opening × Journal)). TextIs c.args.text_name.now read (Ok (SoFar r))) c.in-Ok-SoFar-Some.field-0-0-is some in
    text_run (record { journal = c.args.text_name.now; keep = c.args.kept_name.now })
    (record { read = read; reader = g.D.Desk.told c.read_text.new.desk; told = told; keeper = g.D.Desk.told c.from_run.new.desk })
    c.in-Ok-SoFar-Some.opening c.in-Ok-SoFar-Some.journal.entries c.from_run.result.journal.entries c.from_run.result.end run.0 run.1 run.2 c.from_run.ensures.ends

pub returns-in-Ok-SoFar-None-clause-ends : goal.returns-in-Ok-SoFar-None-clause-ends
returns-in-Ok-SoFar-None-clause-ends g c =
    let names : RecoverNames = record { journal = c.args.text_name.now; keep = c.args.kept_name.now } in
    let read = (g.D.Desk.told c.args.reader.now).files in
    let keeper : DeskTold = g.D.Desk.told c.args.keeper.now in
    let d : RecoverDesks = record { read = read; reader = g.D.Desk.told c.read_text.new.desk; told = keeper.files; keeper = keeper } in
    let some = subst (λ (r : TextRead). TextIs c.args.text_name.now read (Ok r)) c.in-Ok-SoFar-None.field-0-is c.in-Ok-SoFar-None.ensures.told in
    let run = subst (λ (r : Option (Opening × Journal)). TextIs c.args.text_name.now read (Ok (SoFar r))) c.in-Ok-SoFar-None.field-0-0-is some in
    subst (λ (end : RecoverEnd). EndsRecovery names d c.nothing_done.result.journal.entries end) (sym c.nothing_done.ensures.1)
    (text_unbegun names d c.nothing_done.result.journal.entries c.nothing_done.ensures.0 refl run)
