use Rattle.registers.proofs.Readings.{text_at-put, pair_at-put, state_of-with_state, has_url-with_url}
use Rattle.registers.proofs.laws.what_is_set_is_read.Goals as goal

pub returns-clause-config : goal.returns-clause-config
returns-clause-config c = λ r name value other. text_at-put r.config name value other

pub returns-clause-creds : goal.returns-clause-creds
returns-clause-creds c = λ r setting user password other. pair_at-put r.creds setting (user, password) other

pub returns-clause-state : goal.returns-clause-state
returns-clause-state c = state_of-with_state

pub returns-clause-url : goal.returns-clause-url
returns-clause-url c = has_url-with_url
