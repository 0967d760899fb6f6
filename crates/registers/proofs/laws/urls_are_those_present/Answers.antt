use Rattle.registers.proofs.Readings.{any_url, urls_rise}
use Rattle.registers.proofs.laws.urls_are_those_present.Goals as goal

pub returns-clause-present : goal.returns-clause-present
returns-clause-present c = λ r key prefix url. any_url key prefix url r.urls

pub returns-clause-rising : goal.returns-clause-rising
returns-clause-rising c = λ r key prefix kept. urls_rise key prefix r.urls kept.urls_rise
