use Rattle.std.proofs.Common.{◌&&◌}
use Rattle.std.proofs.lemmas.Bool.{and_parts as both}
use Rattle.registers.specs.Registers.{is_line, is_word}
use Rattle.registers.proofs.Settings.{kept_nothing, kept_config, kept_creds, kept_wanted, kept_state, kept_url}
use Rattle.registers.proofs.laws.settings_are_kept.Goals as goal

pub returns-clause-none : goal.returns-clause-none
returns-clause-none c = kept_nothing

pub returns-clause-config : goal.returns-clause-config
returns-clause-config c = λ r name value kept. kept_config r kept name value

pub returns-clause-creds : goal.returns-clause-creds
returns-clause-creds c = λ r setting user password kept fit.
    let words = both (is_word setting) (is_word user && is_line password) fit in
    let login = both (is_word user) (is_line password) words.1 in
    kept_creds r kept setting user password words.0 login.0 login.1

pub returns-clause-wanted : goal.returns-clause-wanted
returns-clause-wanted c = λ r expression kept. kept_wanted r kept expression

pub returns-clause-state : goal.returns-clause-state
returns-clause-state c = λ r key value kept. kept_state r kept key value

pub returns-clause-url : goal.returns-clause-url
returns-clause-url c = λ r key url present kept. kept_url r kept key url present
