-- Who the remote is, by the words, and what is set.
use Rattle.std.specs.Prelude.{List, [], codes, IsTrue}
use Rattle.std.specs.List.{list_all}
use Rattle.journal_model.specs.Replies.{IsLineIdentity}
use Rattle.cli_words.specs.Settings.{is_setting}
use Rattle.cli_words.specs.declared.settings.Setting.{Setting}
use Rattle.journal_model.specs.declared.opening.Identity.{Identity}
use Rattle.cli_words.specs.declared.command.Command.{Command}
use Rattle.cli_words.specs.declared.command.Command.TheVariants.{Init, Run}
use Rattle.cli_words.specs.declared.command.InitWords.{InitWords}
use Rattle.cli_words.specs.declared.command.RunWords.{RunWords}

-- the nil UUID, the name remote, and the git directory .git
abbrev pub nobody : Identity
nobody = record { uuid = codes "00000000-0000-0000-0000-000000000000"; name = codes "remote"; gitdir = codes ".git" }

abbrev pub init_identity : InitWords → Identity
init_identity words = record nobody { uuid = words.uuid }

abbrev pub run_identity : RunWords → Identity
run_identity words = record { uuid = words.uuid; name = words.name; gitdir = words.gitdir }

abbrev pub identity_of : Command → Identity
identity_of (Init words) = init_identity words
identity_of (Run words) = run_identity words
identity_of _ = nobody

abbrev pub settings_of : Command → List Setting
settings_of (Init words) = words.settings
settings_of _ = []

-- what was read of the words can be set, and said to a child
pub record IsFit (command : Command) : Type 0 where
  pub settings : IsTrue (list_all is_setting (settings_of command))
  pub identity : IsLineIdentity (identity_of command)
