use Rattle.journal_model.proofs.BaseText.{base_is_the_base}
use Rattle.journal_model.proofs.register_laws.base_text_is_the_base.Goals as goal

pub returns : goal.returns
returns c = base_is_the_base
