-- The set registers one after the other, as a kept file has them.
use Rattle.std.specs.Prelude.{ℕ, Bool, ◌&&◌, List, [], ◌∷◌, ◌++◌, map, length, nat_lt, fold, true}
use Rattle.registers.specs.declared.line.RegLine.{RegLine}
use Rattle.registers.specs.declared.line.RegLine.TheVariants.{Config, Wanted, State, Url}
use Rattle.registers.specs.Registers.{RegisterFile, with_config, with_wanted, with_state, with_url, is_line, is_word, is_key_word}

pub data Line : Type 0 where
  ConfigLine : List ℕ → List ℕ → Line
  WantedLine : List ℕ → Line
  StateLine : List ℕ → List ℕ → Line
  UrlLine : List ℕ → List ℕ → Line

-- what the borrowed texts of a line are
abbrev pub line_of : RegLine → Line
line_of (Config name value) = ConfigLine name.now value.now
line_of (Wanted value) = WantedLine value.now
line_of (State key value) = StateLine key.now value.now
line_of (Url key url) = UrlLine key.now url.now

-- an empty expression is no line
abbrev pub wanted_lines : List ℕ → List Line
wanted_lines [] = []
wanted_lines (b ∷ bytes) = WantedLine (b ∷ bytes) ∷ []

-- by key, and by key and URL
abbrev pub keyed_lines_of : RegisterFile → List Line
keyed_lines_of r = map (λ e. StateLine e.0 e.1) r.state ++ map (λ e. UrlLine e.0 e.1) r.urls

abbrev pub later_lines_of : RegisterFile → List Line
later_lines_of r = wanted_lines r.wanted ++ keyed_lines_of r

-- by name, the wanted expression, and those of keys; creds have no line
abbrev pub lines_of : RegisterFile → List Line
lines_of r = map (λ e. ConfigLine e.0 e.1) r.config ++ later_lines_of r

-- ---- lines that are set again, as a reader of a kept file does

abbrev pub set_by_line : RegisterFile → Line → RegisterFile
set_by_line r (ConfigLine name value) = with_config r name value
set_by_line r (WantedLine value) = with_wanted r value
set_by_line r (StateLine key value) = with_state r key value
set_by_line r (UrlLine key url) = with_url r key url true

abbrev pub set_by_lines : RegisterFile → List Line → RegisterFile
set_by_lines r lines = fold set_by_line r lines

-- which texts stand where in a line
abbrev pub is_fit : Line → Bool
is_fit (ConfigLine name value) = is_word name && is_line value
is_fit (WantedLine value) = is_line value
is_fit (StateLine key value) = is_key_word key && (nat_lt 0 (length value) && is_line value)
is_fit (UrlLine key url) = is_key_word key && is_line url
