use Rattle.kept_file.specs.Text.KeptFiles.{kept_text}
use Rattle.kept_file.proofs.DeskLemmas.Naming.{kept_written_named}
use Rattle.audit_command.proofs.recover.keeping.restore_over.Goals as goal

pub returns-in_err-written-clause-calls : goal.returns-in_err-written-clause-calls
returns-in_err-written-clause-calls g c = kept_written_named c.args.name.now (kept_text c.opening.result.now.registers c.registers.result.now c.notes.result.now) c.write_kept.result c.write_kept.ensures.calls

pub returns-clause-calls : goal.returns-clause-calls
returns-clause-calls g c = kept_written_named c.args.name.now (kept_text c.opening.result.now.registers c.registers.result.now c.notes.result.now) c.write_kept.result c.write_kept.ensures.calls
