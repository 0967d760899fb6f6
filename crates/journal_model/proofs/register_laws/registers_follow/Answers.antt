use Rattle.journal_model.proofs.Registering.{replies_same}
use Rattle.journal_model.proofs.UrlsFollow.{values_follow, urls_at_rise}
use Rattle.journal_model.proofs.register_laws.registers_follow.Goals as goal

pub returns-clause-values : goal.returns-clause-values
returns-clause-values c = values_follow

pub returns-clause-replies : goal.returns-clause-replies
returns-clause-replies c = replies_same

pub returns-clause-rising : goal.returns-clause-rising
returns-clause-rising c = urls_at_rise
