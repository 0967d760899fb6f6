use Rattle.plain_lines.proofs.WordsLemmas.Passing.{remote_passes, host_passes}
use Rattle.plain_lines.proofs.words.laws.other_lines_pass.Goals as goal

pub returns-clause-remote : goal.returns-clause-remote
returns-clause-remote c = λ line dropped version loose. remote_passes _ _ _ _ _ line dropped version loose

pub returns-clause-host : goal.returns-clause-host
returns-clause-host c = λ oldest line names value. host_passes _ _ _ _ _ _ _ line names value
