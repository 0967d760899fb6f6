use Rattle.std.specs.Fmt.{digits}
use Rattle.std.proofs.Common.{refl}
use Rattle.journal_text.proofs.entries.laws.worked_lines.Goals as goal

pub returns-clause-start : goal.returns-clause-start
unfolding digits
returns-clause-start c = refl

pub returns-clause-got : goal.returns-clause-got
unfolding digits
returns-clause-got c = refl

pub returns-clause-empty_line : goal.returns-clause-empty_line
unfolding digits
returns-clause-empty_line c = refl

pub returns-clause-foul : goal.returns-clause-foul
unfolding digits
returns-clause-foul c = refl

pub returns-clause-ended : goal.returns-clause-ended
unfolding digits
returns-clause-ended c = refl

pub returns-clause-size : goal.returns-clause-size
unfolding digits
returns-clause-size c = refl

pub returns-clause-again : goal.returns-clause-again
unfolding digits
returns-clause-again c = refl

pub returns-clause-renamed : goal.returns-clause-renamed
unfolding digits
returns-clause-renamed c = refl
