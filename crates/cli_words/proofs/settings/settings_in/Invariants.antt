use Rattle.std.proofs.Common.{◌≡◌, true, take}
use Rattle.std.specs.Prelude.{map}
use Rattle.std.specs.List.{list_all}
use Rattle.cli_words.specs.Values.{texts_of}
use Rattle.cli_words.specs.Settings.{setting_at, spells_setting}
use Rattle.cli_words.proofs.settings.settings_in.Given as goal

abbrev pub invariant-loop-word : goal.invariant-loop-word
invariant-loop-word l = (list_all spells_setting (take l.word-index (texts_of l.words)) ≡ true)
    × (l.list.items ≡ map setting_at (take l.word-index (texts_of l.words)))
