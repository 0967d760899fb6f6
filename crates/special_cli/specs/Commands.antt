-- What comes of a command, before it is told.
use Rattle.std.specs.Prelude.{ℕ, ◌≡◌, ◌⊎◌, List, [], Option, None, Some}
use Rattle.journal_model.specs.declared.answer.Answer.{Answer}
use Rattle.special_cli.specs.declared.end.End.{End}
use Rattle.special_cli.specs.declared.end.End.TheVariants.{Usage, Shown, Refused, Memory, Answered}
use Rattle.cli_words.specs.declared.refusals.Reason.{Reason}
use Rattle.run_and_check.specs.declared.check.made.CheckEnd.{CheckEnd}
use Rattle.run_and_check.specs.declared.check.made.CheckEnd.TheVariants as C
use Rattle.run_and_check.specs.Check.Checks.{IsAnswered, IsChecked}
use Rattle.info_and_init.specs.Info.Informs.{HasInformed as HasMade}
use Rattle.info_and_init.specs.declared.info.made.InfoEnd.{InfoEnd}
use Rattle.special_cli.specs.Informs.{end_of_info, informed_in}
use Rattle.child_life.specs.End.Outsides.{OutsideValue}
use Rattle.special_cli.specs.Left.{Left, RanValue, IsIdle}
use Rattle.child_life.specs.End.Programs.{Leaves}
use Rattle.special_cli.specs.Setups.{HasSetUp}
use Rattle.special_cli.specs.Doings.{HasRun}
use Rattle.special_cli.specs.Audits.{HasAudited}
use Rattle.special_cli.specs.Recoveries.{HasRecovered}
use Rattle.special_cli.specs.Rehearsals.{HasRehearsed}
use Rattle.special_cli.specs.Walks.{WalksTasks}
use Rattle.run_and_check.specs.Run.Inputs.{InputFlow, IsUnread}
use Rattle.cli_words.specs.Refusals.{reason_refused, refusal_if}
use Rattle.cli_words.specs.declared.command.Command.{Command}
use Rattle.cli_words.specs.declared.command.Command.TheVariants.{Check, Info, Init, Run, Audit, Recover, Rehearse, Walk, Show}

-- nothing came of it but what is to be told: this, or running out of memory
pub record ComesToNothing (before : OutsideValue) (ran : RanValue) (end : End) : Type 0 where
  pub end_is : (ran.end ≡ end) ⊎ (ran.end ≡ Memory)
  pub idle : IsIdle before ran.left

-- no desk was asked for
pub record HasNoDesk (before : OutsideValue) (left : Left) : Type 0 where
  pub made : left.outside.made ≡ before.made
  pub tables : left.tables ≡ []

-- ---- check

-- what is to be told of it
abbrev pub end_of_check : CheckEnd → End
end_of_check C.Answered = Answered
end_of_check C.Memory = Memory

-- there is the one answer, or none was found for lack of memory
abbrev pub EndsCheck : Left → End → Type 0
EndsCheck left Answered = (answer : Answer) × IsAnswered left.journal left.answers answer
EndsCheck left Memory = left.answers ≡ []
EndsCheck left end = ⊥

pub record HasChecked (clock : Option ℕ) (program key : List ℕ) (before : OutsideValue) (ran : RanValue) : Type 0 where
  pub checked : IsChecked clock key ran.left.journal
  pub ends : EndsCheck ran.left ran.end
  pub objects : Leaves (ran.end ≡ Memory) program ran.left.journal before.programs ran.left.outside.programs ran.left.wires
  pub desks : HasNoDesk before ran.left

-- ---- info

-- the child was asked so, and what came of it is left
pub record HasInformed (program : List ℕ) (key : Option (List ℕ)) (before : OutsideValue) (ran : RanValue) : Type 0 where
  pub end : InfoEnd
  pub made : HasMade program key before.programs ran.left.outside.programs (informed_in ran.left end)
  pub none : ran.left.answers ≡ []
  pub desks : HasNoDesk before ran.left
  pub end_is : ran.end ≡ end_of_info end

-- ---- the words

-- a key that is refused ends a command before anything is started
abbrev pub UnlessRefused : Option Reason → OutsideValue → RanValue → Type 0 → Type 0
UnlessRefused None before ran P = P
UnlessRefused (Some reason) before ran P = ComesToNothing before ran (Refused 1 reason)

-- what comes of what the words ask for
abbrev pub Runs : Option ℕ → OutsideValue → InputFlow → Option Command → RanValue → Type 0
Runs clock before input None ran = ComesToNothing before ran Usage
Runs clock before input (Some (Show page)) ran = ComesToNothing before ran (Shown page)
Runs clock before input (Some (Check program key)) ran = UnlessRefused (reason_refused key) before ran (HasChecked clock program key before ran)
Runs clock before input (Some (Info program key)) ran = UnlessRefused (refusal_if key) before ran (HasInformed program key before ran)
Runs clock before input (Some (Init words)) ran = HasSetUp words before ran
Runs clock before input (Some (Run words)) ran = HasRun words clock before input ran
Runs clock before input (Some Audit) ran = HasAudited before input ran
Runs clock before input (Some (Recover journal keep)) ran = IsUnread input × HasRecovered (record { journal = journal; keep = keep }) before ran
Runs clock before input (Some (Rehearse seed tasks)) ran = IsUnread input × HasRehearsed seed tasks before ran
Runs clock before input (Some (Walk seed tasks)) ran = IsUnread input × WalksTasks seed tasks before ran
