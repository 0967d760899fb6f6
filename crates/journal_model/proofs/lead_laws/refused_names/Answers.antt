use Rattle.std.proofs.Common.{refl}
use Rattle.std.specs.Fmt.{digits}
use Rattle.std.specs.Char.{encode_utf8}
use Rattle.std.specs.Str.{is_utf8, chars}
use Rattle.journal_model.proofs.lead_laws.refused_names.Goals as goal

pub returns-clause-empty : goal.returns-clause-empty
unfolding digits is_utf8 chars encode_utf8
returns-clause-empty c = refl

pub returns-clause-other_tag : goal.returns-clause-other_tag
unfolding digits is_utf8 chars encode_utf8
returns-clause-other_tag c = refl

pub returns-clause-no_tag : goal.returns-clause-no_tag
unfolding digits is_utf8 chars encode_utf8
returns-clause-no_tag c = refl

pub returns-clause-spaceless : goal.returns-clause-spaceless
unfolding digits is_utf8 chars encode_utf8
returns-clause-spaceless c = refl

pub returns-clause-no_text : goal.returns-clause-no_text
unfolding digits is_utf8 chars encode_utf8
returns-clause-no_text c = refl

pub returns-clause-other_job : goal.returns-clause-other_job
unfolding digits is_utf8 chars encode_utf8
returns-clause-other_job c = refl

pub returns-clause-by_other : goal.returns-clause-by_other
unfolding digits is_utf8 chars encode_utf8
returns-clause-by_other c = refl

pub returns-clause-request : goal.returns-clause-request
unfolding digits is_utf8 chars encode_utf8
returns-clause-request c = refl
