use Rattle.std.proofs.Common.{refl, [], nat_lt, length, ◌&&◌, List, ℕ}
use Rattle.registers.specs.Registers.{is_line, is_word, is_key_word}
use Rattle.registers.proofs.Readings.{read_passes, second_passes, urls_pass, lines_fit}
use Rattle.registers.proofs.laws.what_is_read_is_kept.Goals as goal
use Rattle.std.proofs.lemmas.Bool.{and_parts as both}

pub returns-clause-config : goal.returns-clause-config
returns-clause-config c = λ r name kept. read_passes is_word is_line [] refl name r.config kept.config_texts

pub returns-clause-user : goal.returns-clause-user
returns-clause-user c = λ r setting kept. let read = read_passes is_word (λ (v : List ℕ × List ℕ). is_word v.0 && is_line v.1) ([], []) refl setting r.creds kept.creds_texts in (both _ _ read).0

pub returns-clause-password : goal.returns-clause-password
returns-clause-password c = λ r setting kept. let read = read_passes is_word (λ (v : List ℕ × List ℕ). is_word v.0 && is_line v.1) ([], []) refl setting r.creds kept.creds_texts in (both _ _ read).1

pub returns-clause-state : goal.returns-clause-state
returns-clause-state c = λ r key kept.
    read_passes is_key_word is_line [] refl key r.state (second_passes is_key_word (λ value. nat_lt 0 (length value)) is_line r.state kept.state_texts)

pub returns-clause-urls : goal.returns-clause-urls
returns-clause-urls c = λ r key prefix kept. urls_pass is_key_word is_line key prefix r.urls kept.urls_texts

pub returns-clause-lines : goal.returns-clause-lines
returns-clause-lines c = lines_fit
