use Rattle.ann_outside.proofs.TextFileLemmas.Naming.{reads_named}
use Rattle.audit_command.proofs.recover.text.read_text.Goals as goal

pub returns-in_err-text-clause-calls : goal.returns-in_err-text-clause-calls
returns-in_err-text-clause-calls g c = reads_named c.read_file.ensures.read

pub returns-in-Text-clause-calls : goal.returns-in-Text-clause-calls
returns-in-Text-clause-calls g c = reads_named c.read_file.ensures.read

pub returns-in-TooLarge-clause-calls : goal.returns-in-TooLarge-clause-calls
returns-in-TooLarge-clause-calls g c = reads_named c.read_file.ensures.read

pub returns-in-Missing-clause-calls : goal.returns-in-Missing-clause-calls
returns-in-Missing-clause-calls g c = reads_named c.read_file.ensures.read
