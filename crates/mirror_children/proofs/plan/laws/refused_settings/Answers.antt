use Rattle.std.proofs.Common.{refl}
use Rattle.std.specs.Str.{chars, is_utf8}
use Rattle.std.specs.Char.{encode_utf8}
use Rattle.mirror_children.proofs.plan.laws.refused_settings.Goals as goal

pub returns-clause-no_text : goal.returns-clause-no_text
unfolding is_utf8 chars encode_utf8
returns-clause-no_text c = refl
