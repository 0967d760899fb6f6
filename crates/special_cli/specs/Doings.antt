-- What comes of the tasks of an input.
use Rattle.std.specs.Prelude.{ℕ, ◌≡◌, Option}
use Rattle.cli_words.specs.declared.command.RunWords.{RunWords}
use Rattle.child_life.specs.End.Outsides.{OutsideValue}
use Rattle.run_and_check.specs.Run.Inputs.{InputFlow}
use Rattle.run_and_check.specs.Run.Runs.{MadeValue, HasDone}
use Rattle.run_and_check.specs.declared.run.made.RunEnd.{RunEnd}
use Rattle.run_and_check.specs.declared.run.made.RunEnd.TheVariants as R
use Rattle.special_cli.specs.declared.end.End.{End}
use Rattle.special_cli.specs.declared.end.End.TheVariants.{Refused, Memory, BadKept, KeptTooLarge, FileFailed, InputFailed, Done}
use Rattle.special_cli.specs.Left.{Left, RanValue}

-- what is to be told of a run that ended so
abbrev pub end_of : RunEnd → End
end_of (R.BadKept line) = BadKept line
end_of R.KeptTooLarge = KeptTooLarge
end_of R.FileFailed = FileFailed
end_of R.InputFailed = InputFailed
end_of (R.Refused line reason) = Refused line reason
end_of R.Memory = Memory
end_of (R.Done written) = Done written

-- what is left of a run is what it made
abbrev pub made_in : Left → RunEnd → MadeValue
made_in left end = record { journal = left.journal; answers = left.answers; wires = left.wires; tables = left.tables; end = end }

-- the tasks were done, and what came of it is left
abbrev pub HasRun : RunWords → Option ℕ → OutsideValue → InputFlow → RanValue → Type 0
HasRun words clock before input ran = (end : RunEnd) × HasDone words clock before input ran.left.outside (made_in ran.left end) × (ran.end ≡ end_of end)
