-- The settings of `init`.
use Rattle.std.specs.Prelude.{ℕ, ◌==◌, ◌&&◌, nat_lt, Bool, if◌then◌else◌, List, length, fold, map, Option, Some, None}
use Rattle.std.specs.List.{list_all, list_any, before_first, after_first}
use Rattle.registers.specs.Registers.{RegisterFile, with_config, is_line, is_word}
use Rattle.cli_words.specs.declared.settings.Setting.{Setting}

-- a name that isn't empty and holds no space, and a value, neither with a line's end
abbrev pub is_setting : Setting → Bool
is_setting s = nat_lt 0 (length s.name) && (is_word s.name && is_line s.value)

abbrev pub is_equals : ℕ → Bool
is_equals b = b == 61

-- what stands before the first `=` of the word, and all after it
abbrev pub setting_at : List ℕ → Setting
setting_at word = record { name = before_first is_equals word; value = after_first is_equals word }

-- the word has an `=`, and that is a setting
abbrev pub spells_setting : List ℕ → Bool
spells_setting word = list_any is_equals word && is_setting (setting_at word)

abbrev pub setting_in : List ℕ → Option Setting
setting_in word = if spells_setting word then Some (setting_at word) else None

-- one of each word, where each spells one
abbrev pub settings_in : List (List ℕ) → Option (List Setting)
settings_in words = if list_all spells_setting words then Some (map setting_at words) else None

-- the registers with these config values, set one after the other
abbrev pub set_all : RegisterFile → List Setting → RegisterFile
set_all r settings = fold (λ r (s : Setting). with_config r s.name s.value) r settings
