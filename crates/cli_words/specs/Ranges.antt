-- In which ranges the values of a run's words are.
use Rattle.std.specs.Prelude.{◌≡◌, ◌≤◌, ◌<◌, false}
use Rattle.annex_model.specs.Lines.{has_newline}
use Rattle.journal_model.specs.Limits.{most_again}
use Rattle.cli_words.specs.declared.command.Command.{Command}
use Rattle.cli_words.specs.declared.command.Command.TheVariants.{Rehearse, Run, Walk}
use Rattle.cli_words.specs.declared.command.RunWords.{RunWords}
use Rattle.cli_words.specs.Words.{most_chunk, most_rehearsed, most_seed}

-- 1 to 64 tasks are done at a time; chunks have at most so many bytes, and 0 stands for whole files; a child may be started 1 to 16 times,
-- a task may be run again at most so often, and the folder's name holds no line's end
pub record IsRanged (words : RunWords) : Type 0 where
  pub jobs : (0 < words.jobs) × (words.jobs ≤ 64)
  pub chunk : words.chunk ≤ most_chunk
  pub some : 0 < words.starts
  pub few : words.starts ≤ 16
  pub again : words.again ≤ most_again
  pub work : has_newline words.work ≡ false

-- so it is, where the words are a run's; and a rehearsal, in a world or not, has as great a seed at most, and 1 to so many tasks
abbrev pub HasRanges : Command → Type 0
HasRanges (Run words) = IsRanged words
HasRanges (Rehearse seed tasks) = (seed ≤ most_seed) × (0 < tasks) × (tasks ≤ most_rehearsed)
HasRanges (Walk seed tasks) = (seed ≤ most_seed) × (0 < tasks) × (tasks ≤ most_rehearsed)
HasRanges command = Unit {0}
