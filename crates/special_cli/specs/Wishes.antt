-- What the words ask for.
use Rattle.std.specs.Prelude.{ℕ, List, Option, Some, IfSome}
use Rattle.task_text.specs.ChunkLog.ChunkLines.{IsWrittenUuid}
use Rattle.cli_words.specs.declared.command.Command.{Command}
use Rattle.cli_words.specs.declared.command.Command.TheVariants.{Init, Run}
use Rattle.cli_words.specs.Identities.{IsFit}
use Rattle.cli_words.specs.Ranges.{HasRanges}
use Rattle.cli_words.specs.Words.{command_of}

-- each command is taken up
abbrev pub wish_of : List (List ℕ) → Option Command
wish_of words = command_of words

-- the UUID of a setup or a run is in its written form
abbrev pub HasWrittenUuid : Option Command → Type 0
HasWrittenUuid (Some (Init words)) = IsWrittenUuid words.uuid
HasWrittenUuid (Some (Run words)) = IsWrittenUuid words.uuid
HasWrittenUuid command = Unit {0}

-- what cli_words says of the words that it reads
pub record AreRead (command : Option Command) : Type 0 where
  pub fit : IfSome command IsFit
  pub uuid : HasWrittenUuid command
  pub ranges : IfSome command HasRanges
