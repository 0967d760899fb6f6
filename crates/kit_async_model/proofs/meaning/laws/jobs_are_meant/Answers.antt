use Rattle.kit_async_model.proofs.MeaningLemmas.Meant.{jobs_are_meant}
use Rattle.kit_async_model.proofs.meaning.laws.jobs_are_meant.Goals as goal

pub returns : goal.returns
returns c = λ setup past rest line number h heard. jobs_are_meant setup past rest line number h heard
