-- What is told of an init.
use Rattle.std.specs.Prelude.{◌≡◌, []}
use Rattle.child_life.specs.End.Outsides.{OutsideValue}
use Rattle.cli_words.specs.declared.command.InitWords.{InitWords}
use Rattle.info_and_init.specs.Init.Inits.{InitValue, HasSetUp as HasMade}
use Rattle.info_and_init.specs.declared.init.made.InitEnd.{InitEnd}
use Rattle.info_and_init.specs.declared.init.made.InitEnd.TheVariants as I
use Rattle.special_cli.specs.declared.end.End.{End}
use Rattle.special_cli.specs.declared.end.End.TheVariants.{Memory, BadKept, KeptTooLarge, FileFailed, SetUp, NotSetUp}
use Rattle.special_cli.specs.Left.{Left, RanValue}

-- what is to be told of an init that ended so
abbrev pub end_of_init : InitEnd → End
end_of_init (I.BadKept line) = BadKept line
end_of_init I.KeptTooLarge = KeptTooLarge
end_of_init I.FileFailed = FileFailed
end_of_init I.Memory = Memory
end_of_init (I.SetUp written) = SetUp written
end_of_init (I.NotSetUp answer) = NotSetUp answer

-- what is left of an init is what it made
abbrev pub set_up_in : Left → InitEnd → InitValue
set_up_in left end = record { journal = left.journal; wires = left.wires; tables = left.tables; end = end }

-- the remote was set up so, and what came of it is left
pub record HasSetUp (words : InitWords) (before : OutsideValue) (ran : RanValue) : Type 0 where
  pub end : InitEnd
  pub made : HasMade words before ran.left.outside (set_up_in ran.left end)
  pub none : ran.left.answers ≡ []
  pub end_is : ran.end ≡ end_of_init end
