use Rattle.std.proofs.Common.{◌≡◌, length, rules}
use Rattle.std.specs.List.{position_or_len}
use Rattle.cli_words.specs.Settings.{is_equals}
use Rattle.cli_words.proofs.Spelt.{no_setting}
use Rattle.cli_words.proofs.settings.setting_in.Goals as goal

pub returns-in_default : goal.returns-in_default
returns-in_default c =
    let none : position_or_len is_equals c.args.word.now ≡ length c.args.word.now = search rules in
    no_setting c.args.word.now none
