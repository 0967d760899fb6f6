-- Neither end finds fault with what the other says.
use Rattle.std.specs.Prelude.{ℕ, ◌≡◌, Bool, true, false, List}
use Rattle.std.specs.List.{list_any}
use Rattle.annex_model.specs.Messages.{remote_reading}
use Rattle.journal_model.specs.declared.verdict.Why.{Why}
use Rattle.journal_model.specs.declared.verdict.Why.TheVariants.{Foul, Error, Version}
use Rattle.journal_model.specs.declared.entry.What.{What}
use Rattle.journal_model.specs.declared.entry.What.TheVariants.{End}
use Rattle.journal_model.specs.Due.{is_error}
use Rattle.journal_model.specs.Journal.{any}
use Rattle.pair_kit.specs.Pairs.{said_lines, pair_of}
use Rattle.pair_kit.specs.Worlds.{WorldValue}

-- the child was ended for what it said
abbrev pub is_fault : Why → Bool
is_fault (Foul at) = true
is_fault (Error at) = true
is_fault (Version at) = true
is_fault why = false

abbrev pub finds_fault : What → Bool
finds_fault (End child why) = is_fault why
finds_fault w = false

-- the line spells ERROR
abbrev pub is_error_line : List ℕ → Bool
is_error_line line = is_error (remote_reading line)

-- No child was ended for what it said, and no kit said ERROR.
pub record AtPeace (w : WorldValue) : Type 0 where
  pub host : any finds_fault w.journal ≡ false
  pub kits : (c : ℕ) → list_any is_error_line (said_lines (pair_of w.pairs c).taken) ≡ false
