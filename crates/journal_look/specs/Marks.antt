-- Marks that a journal keeps, so that a question needn't go through what is over.
use Rattle.std.specs.Prelude.{ℕ, ◌≡◌, ◌<◌, ◌&&◌, nat_lt, if◌then◌else◌, true, List}
use Rattle.journal_model.specs.declared.entry.What.{What}
use Rattle.journal_model.specs.declared.entry.What.TheVariants.{Again}
use Rattle.journal_model.specs.declared.entry.Entry.{Entry}
use Rattle.journal_model.specs.Legality.{is_claimed}

-- the mark after an entry that frees a task below it
abbrev pub lowered : What → ℕ → ℕ
lowered (Again task answer) mark = if nat_lt 0 task && nat_lt task mark then task else mark
lowered w mark = mark

-- each task below t is claimed
pub record AreClaimed (entries : List Entry) (t : ℕ) : Type 0 where
  pub each : (u : ℕ) → 0 < u → u < t → is_claimed entries u ≡ true
