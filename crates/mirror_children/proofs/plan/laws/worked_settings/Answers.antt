use Rattle.std.proofs.Common.{refl}
use Rattle.std.specs.Str.{chars, is_utf8}
use Rattle.std.specs.Char.{encode_utf8}
use Rattle.mirror_children.proofs.plan.laws.worked_settings.Goals as goal

pub returns-clause-program : goal.returns-clause-program
unfolding is_utf8 chars encode_utf8
returns-clause-program c = refl

pub returns-clause-settings : goal.returns-clause-settings
unfolding is_utf8 chars encode_utf8
returns-clause-settings c = refl

pub returns-clause-empty_value : goal.returns-clause-empty_value
unfolding is_utf8 chars encode_utf8
returns-clause-empty_value c = refl
