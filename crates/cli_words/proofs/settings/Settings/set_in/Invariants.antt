use Rattle.std.proofs.Common.{◌≡◌, take}
use Rattle.cli_words.specs.Settings.{set_all}
use Rattle.cli_words.proofs.settings.Settings.set_in.Given as goal

abbrev pub invariant-loop-setting : goal.invariant-loop-setting
invariant-loop-setting l = l.registers ≡ set_all l.initial.registers (take l.setting-index l.setting-items)
