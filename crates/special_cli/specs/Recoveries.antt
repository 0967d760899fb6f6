-- What comes of a recovery.
use Rattle.std.specs.Prelude.{ℕ, ◌≡◌, ◌≤◌, ◌+◌, if◌then◌else◌, Bool, false, List, [], ◌∷◌, ◌++◌, length, codes, decimal, Option, Some, None}
use Rattle.std.specs.List.{list_all}
use Rattle.audit_command.specs.Recoveries.{RecoverNames, RecoveredValue, HasRecovered as HasMade}
use Rattle.audit_command.specs.declared.recover.made.RecoverEnd.{RecoverEnd}
use Rattle.audit_command.specs.declared.recover.made.RecoverEnd.TheVariants as R
use Rattle.child_life.specs.End.Outsides.{OutsideValue}
use Rattle.cli_words.specs.declared.command.Command.{Command}
use Rattle.cli_words.specs.declared.command.Command.TheVariants.{Recover}
use Rattle.cli_words.specs.declared.refusals.Reason.TheVariants.{Entry as BadEntry}
use Rattle.journal_audit.specs.declared.found.Audit.TheVariants.{Wrong}
use Rattle.journal_model.specs.declared.answer.Answer.{Answer}
use Rattle.journal_model.specs.declared.entry.Entry.{Entry}
use Rattle.journal_model.specs.Output.{answer_line}
use Rattle.special_cli.specs.Endings.{is_well}
use Rattle.special_cli.specs.Left.{Left, RanValue}
use Rattle.special_cli.specs.declared.end.End.{End}
use Rattle.special_cli.specs.declared.end.End.TheVariants.{Refused, Memory, FileFailed, Audited, Unbegun, Recovered}

-- the files of a recovery
abbrev pub recover_in : Option Command → Option RecoverNames
recover_in (Some (Recover journal keep)) = Some (record { journal = journal; keep = keep })
recover_in wish = None

-- ---- what is printed of it

-- the line of a task with its answer, or of one that has none so far
abbrev pub recovered_line : List Entry → ℕ → Option Answer → List ℕ
recovered_line journal task None = decimal task ++ (codes " open" ++ 10 ∷ [])
recovered_line journal task (Some answer) = answer_line journal task answer

-- the lines of the tasks from this one on
abbrev pub recovered_lines : List Entry → ℕ → List (Option Answer) → List ℕ
recovered_lines journal task [] = []
recovered_lines journal task (answer ∷ answers) = recovered_line journal task answer ++ recovered_lines journal (task + 1) answers

-- there is an answer, and it is well
abbrev pub is_well_so_far : Option Answer → Bool
is_well_so_far None = false
is_well_so_far (Some answer) = is_well answer

-- the status that goes with it: 0 where each is so
abbrev pub recovered_status : List (Option Answer) → ℕ
recovered_status answers = if list_all is_well_so_far answers then 0 else 1

-- ---- what it comes to

-- what is to be told of a recovery that ended so
abbrev pub end_of_recovery : RecoverEnd → End
end_of_recovery R.FileFailed = FileFailed
end_of_recovery R.TextTooLarge = FileFailed
end_of_recovery (R.Refused line) = Refused line BadEntry
end_of_recovery R.Memory = Memory
end_of_recovery R.Unbegun = Unbegun
end_of_recovery (R.Wrong misplaced) = Audited (Wrong misplaced.entry misplaced.kind)
end_of_recovery (R.Answered answers kept) = Recovered answers kept

-- what is left of a recovery is what it made
abbrev pub recovered_in : Left → RecoverEnd → RecoveredValue
recovered_in left end = record { journal = left.journal; tables = left.tables; end = end }

-- the text was recovered so, and what came of it is left; the programs are as before
pub record HasRecovered (names : RecoverNames) (before : OutsideValue) (ran : RanValue) : Type 0 where
  pub end : RecoverEnd
  pub made : HasMade names before.made ran.left.outside.made (recovered_in ran.left end)
  pub programs : ran.left.outside.programs ≡ before.programs
  pub answers : ran.left.answers ≡ []
  pub wires : ran.left.wires ≡ []
  pub end_is : ran.end ≡ end_of_recovery end

-- the tasks of a recovery are as few as a text may have
abbrev pub HasFew : End → Type 0
HasFew (Recovered answers kept) = length answers.items ≤ 65536
HasFew end = Unit {0}
