use Rattle.std.proofs.Common.{refl}
use Rattle.std.specs.Char.{encode_utf8}
use Rattle.std.specs.Str.{is_utf8, chars}
use Rattle.task_text.proofs.laws.worked_names.Goals as goal

pub returns-clause-none : goal.returns-clause-none
unfolding is_utf8 chars encode_utf8
returns-clause-none c = refl

pub returns-clause-empty : goal.returns-clause-empty
unfolding is_utf8 chars encode_utf8
returns-clause-empty c = refl

pub returns-clause-second_tab : goal.returns-clause-second_tab
unfolding is_utf8 chars encode_utf8
returns-clause-second_tab c = refl

pub returns-clause-no_text : goal.returns-clause-no_text
unfolding is_utf8 chars encode_utf8
returns-clause-no_text c = refl

pub returns-clause-line_end : goal.returns-clause-line_end
unfolding is_utf8 chars encode_utf8
returns-clause-line_end c = refl

pub returns-clause-right : goal.returns-clause-right
unfolding is_utf8 chars encode_utf8
returns-clause-right c = refl
