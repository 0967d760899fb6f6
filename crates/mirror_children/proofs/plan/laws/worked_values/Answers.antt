use Rattle.std.proofs.Common.{refl}
use Rattle.std.specs.Str.{chars, is_utf8}
use Rattle.std.specs.Char.{encode_utf8}
use Rattle.mirror_children.proofs.plan.laws.worked_values.Goals as goal

pub returns-clause-good : goal.returns-clause-good
unfolding is_utf8 chars encode_utf8
returns-clause-good c = refl

pub returns-clause-bad : goal.returns-clause-bad
unfolding is_utf8 chars encode_utf8
returns-clause-bad c = refl
