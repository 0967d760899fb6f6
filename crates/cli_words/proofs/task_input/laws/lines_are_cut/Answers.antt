use Rattle.cli_words.proofs.TaskInputLemmas.Cuts.{all_lines, ended_lines}
use Rattle.cli_words.proofs.task_input.laws.lines_are_cut.Goals as goal

pub returns-clause-ended : goal.returns-clause-ended
returns-clause-ended c = ended_lines

pub returns-clause-all : goal.returns-clause-all
returns-clause-all c = all_lines
