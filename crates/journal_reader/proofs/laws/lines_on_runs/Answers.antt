use Rattle.journal_reader.proofs.RunLines.{head_goes, early_head_goes, no_head, most_goes, too_many, missing, none_early, entry_goes, no_early_entry}
use Rattle.journal_reader.proofs.laws.lines_on_runs.Goals as goal

pub returns-clause-head : goal.returns-clause-head
returns-clause-head c = head_goes

pub returns-clause-early_head : goal.returns-clause-early_head
returns-clause-early_head c = early_head_goes

pub returns-clause-no_head : goal.returns-clause-no_head
returns-clause-no_head c = no_head

pub returns-clause-most : goal.returns-clause-most
returns-clause-most c = most_goes

pub returns-clause-too_many : goal.returns-clause-too_many
returns-clause-too_many c = too_many

pub returns-clause-missing : goal.returns-clause-missing
returns-clause-missing c = missing

pub returns-clause-early : goal.returns-clause-early
returns-clause-early c = none_early

pub returns-clause-entry : goal.returns-clause-entry
returns-clause-entry c = entry_goes

pub returns-clause-early_entry : goal.returns-clause-early_entry
returns-clause-early_entry c = no_early_entry
