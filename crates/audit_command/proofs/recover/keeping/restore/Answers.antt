use Rattle.std.proofs.Common.{Ok, inl, subst}
use Rattle.std.specs.Prelude.{IfSome}
use Rattle.ann_outside.proofs.TextFileLemmas.Naming.{names_both, names_wider}
use Rattle.kept_file.specs.Desk.KeptDesks.{IsKeptAt, IsReadAs}
use Rattle.kept_file.specs.declared.desk.reading.KeptRead.{KeptRead}
use Rattle.kept_file.proofs.DeskLemmas.Naming.{kept_read_named}
use Rattle.audit_command.proofs.Restoring.{bad_kept, if_ok, large_kept, restored_over}
use Rattle.audit_command.proofs.recover.keeping.restore.Goals as goal

pub returns-in_err-registers-clause-calls : goal.returns-in_err-registers-clause-calls
returns-in_err-registers-clause-calls g c = names_wider (λ other is. inl is) (kept_read_named c.args.name.now c.read_kept.result c.read_kept.ensures.read)

pub returns-in-Kept-clause-restored : goal.returns-in-Kept-clause-restored
returns-in-Kept-clause-restored g c =
    let told = (g.D.Desk.told c.args.desk.now).files in
    let old = (g.D.Desk.told c.args.desk.now).log in
    let new = (g.D.Desk.told c.read_kept.new.desk).log in
    let name = c.args.name.now in
    let read = subst (λ (k : KeptRead). IsReadAs old new name (Ok k)) c.in-Kept.is c.in_ok-registers.ensures.read in
    let known = subst (λ (k : KeptRead). IfSome told (λ files. IsKeptAt name files (Ok k))) c.in-Kept.is c.in_ok-registers.ensures.told in
    if_ok c.restore_over.result
    (λ end over.
    restored_over name told (g.D.Desk.told c.read_kept.new.desk).files (g.D.Desk.told c.restore_over.new.desk) c.args.core.now c.read_kept.ensures.files old new c.in-Kept.registers c.in-Kept.notes end read known over)
    c.restore_over.ensures.restored

pub returns-in-Kept-clause-calls : goal.returns-in-Kept-clause-calls
returns-in-Kept-clause-calls g c =
    names_both (names_wider (λ other is. inl is) (kept_read_named c.args.name.now c.read_kept.result c.read_kept.ensures.read)) c.restore_over.ensures.calls

pub returns-in-BadLine-clause-restored : goal.returns-in-BadLine-clause-restored
returns-in-BadLine-clause-restored g c =
    let told = (g.D.Desk.told c.args.desk.now).files in
    let old = (g.D.Desk.told c.args.desk.now).log in
    let new = (g.D.Desk.told c.read_kept.new.desk).log in
    let name = c.args.name.now in
    let read = subst (λ (k : KeptRead). IsReadAs old new name (Ok k)) c.in-BadLine.is c.in_ok-registers.ensures.read in
    let known = subst (λ (k : KeptRead). IfSome told (λ files. IsKeptAt name files (Ok k))) c.in-BadLine.is c.in_ok-registers.ensures.told in
    bad_kept name told (g.D.Desk.told c.read_kept.new.desk) c.args.core.now.opening c.args.core.now.journal c.read_kept.ensures.files old new _ read known

pub returns-in-TooLarge-clause-restored : goal.returns-in-TooLarge-clause-restored
returns-in-TooLarge-clause-restored g c =
    let told = (g.D.Desk.told c.args.desk.now).files in
    let name = c.args.name.now in
    let known = subst (λ (k : KeptRead). IfSome told (λ files. IsKeptAt name files (Ok k))) c.in-TooLarge.is c.in_ok-registers.ensures.told in
    large_kept name told (g.D.Desk.told c.read_kept.new.desk) c.args.core.now.opening c.args.core.now.journal c.read_kept.ensures.files known

pub returns-in-BadLine-clause-calls : goal.returns-in-BadLine-clause-calls
returns-in-BadLine-clause-calls g c = names_wider (λ other is. inl is) (kept_read_named c.args.name.now c.read_kept.result c.read_kept.ensures.read)

pub returns-in-TooLarge-clause-calls : goal.returns-in-TooLarge-clause-calls
returns-in-TooLarge-clause-calls g c = names_wider (λ other is. inl is) (kept_read_named c.args.name.now c.read_kept.result c.read_kept.ensures.read)

pub returns-in-Fault-clause-calls : goal.returns-in-Fault-clause-calls
returns-in-Fault-clause-calls g c = names_wider (λ other is. inl is) (kept_read_named c.args.name.now c.read_kept.result c.read_kept.ensures.read)
