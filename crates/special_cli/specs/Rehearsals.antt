-- What comes of a rehearsal.
use Rattle.std.specs.Prelude.{ℕ, ◌≡◌, ◌==◌, if◌then◌else◌, List, [], ◌++◌, Option, Some, None}
use Rattle.child_life.specs.End.Outsides.{OutsideValue}
use Rattle.cli_words.specs.declared.command.Command.{Command}
use Rattle.cli_words.specs.declared.command.Command.TheVariants.{Rehearse}
use Rattle.journal_audit.specs.declared.found.Audit.{Audit}
use Rattle.journal_model.specs.declared.answer.Answer.{Answer}
use Rattle.rehearse_plan.specs.Tallies.{count_lines, count_of}
use Rattle.rehearse_plan.specs.declared.tally.Word.TheVariants.{Other}
use Rattle.rehearse_command.specs.Rehearsals.{HasRehearsed as HasMade}
use Rattle.rehearse_command.specs.declared.made.RehearsalEnd.{RehearsalEnd}
use Rattle.rehearse_command.specs.declared.made.RehearsalEnd.TheVariants as R
use Rattle.special_cli.specs.Audits.{found_line, found_status}
use Rattle.special_cli.specs.Left.{Left, RanValue}
use Rattle.special_cli.specs.declared.end.End.{End}
use Rattle.special_cli.specs.declared.end.End.TheVariants.{Memory, Rehearsed}

-- the seed of a rehearsal, and how many tasks it has
abbrev pub rehearsal_in : Option Command → Option (ℕ × ℕ)
rehearsal_in (Some (Rehearse seed tasks)) = Some (seed, tasks)
rehearsal_in wish = None

-- what is printed of it: the counts of its answers, and what was found of its journal
abbrev pub rehearsal_text : List Answer → Audit → List ℕ
rehearsal_text answers found = count_lines answers ++ found_line found

-- the status that goes with it: 0 where each answer has a word of its own, and the journal is legal
abbrev pub rehearsal_status : List Answer → Audit → ℕ
rehearsal_status answers found = if count_of Other answers == 0 then found_status found else 1

-- what is to be told of it
abbrev pub end_of_rehearsal : RehearsalEnd → End
end_of_rehearsal R.Memory = Memory
end_of_rehearsal (R.Done found) = Rehearsed found

-- the programs and the desks that were handed in are as before, and no wire and no table is left
pub record IsUntouched (before : OutsideValue) (left : Left) : Type 0 where
  pub outside : left.outside ≡ before
  pub wires : left.wires ≡ []
  pub tables : left.tables ≡ []

-- The tasks were done over remotes of its own, and what came of them is left.
pub record HasRehearsed (seed tasks : ℕ) (before : OutsideValue) (ran : RanValue) : Type 0 where
  pub end : RehearsalEnd
  pub made : HasMade seed tasks ran.left.journal ran.left.answers end
  pub untouched : IsUntouched before ran.left
  pub end_is : ran.end ≡ end_of_rehearsal end
