-- What comes of a rehearsal in a closed world.
use Rattle.std.specs.Prelude.{ℕ, ◌≡◌, ◌==◌, ◌&&◌, Bool, if◌then◌else◌, List, ◌∷◌, ◌++◌, [], length, codes, decimal, Option, Some, None}
use Rattle.child_life.specs.End.Outsides.{OutsideValue}
use Rattle.cli_words.specs.declared.command.Command.{Command}
use Rattle.cli_words.specs.declared.command.Command.TheVariants.{Walk}
use Rattle.journal_audit.specs.declared.found.Audit.{Audit}
use Rattle.journal_model.specs.declared.answer.Answer.{Answer}
use Rattle.rehearse_plan.specs.Tallies.{count_lines, count_of}
use Rattle.rehearse_plan.specs.declared.tally.Word.TheVariants.{Got, Other}
use Rattle.rehearse_command.specs.Walk.Walks.{EndsWalk}
use Rattle.rehearse_command.specs.declared.walk.made.WalkEnd.{WalkEnd}
use Rattle.rehearse_command.specs.declared.walk.made.WalkEnd.TheVariants as W
use Rattle.special_cli.specs.Audits.{found_line, found_status}
use Rattle.special_cli.specs.Left.{RanValue}
use Rattle.special_cli.specs.Rehearsals.{IsUntouched}
use Rattle.special_cli.specs.declared.end.End.{End}
use Rattle.special_cli.specs.declared.end.End.TheVariants.{Memory, Walked}

-- the seed of a walk, and how many tasks it has
abbrev pub walk_in : Option Command → Option (ℕ × ℕ)
walk_in (Some (Walk seed tasks)) = Some (seed, tasks)
walk_in wish = None

-- ---- what is printed of it

abbrev pub equal_line : ℕ → List ℕ
equal_line equal = codes "equal " ++ (decimal equal ++ 10 ∷ [])

-- the counts of its answers, how many tasks got the content of their keys, and what was found of its journal
abbrev pub walk_text : List Answer → ℕ → Audit → List ℕ
walk_text answers equal found = (count_lines answers ++ equal_line equal) ++ found_line found

-- each task is answered, by a word of its own, and each that was got has the content of its key
abbrev pub is_walk_well : ℕ → List Answer → ℕ → Bool
is_walk_well tasks answers equal = length answers == tasks && (count_of Other answers == 0 && count_of Got answers == equal)

-- the status that goes with it
abbrev pub walk_status : ℕ → List Answer → ℕ → Audit → ℕ
walk_status tasks answers equal found = if is_walk_well tasks answers equal then found_status found else 1

-- ---- what it comes to

-- what is to be told of a walk of so many tasks that ended so
abbrev pub end_of_walk : ℕ → WalkEnd → End
end_of_walk tasks W.Memory = Memory
end_of_walk tasks (W.Done equal found) = Walked tasks equal found

-- The tasks were done in a world of its own, and what came of them is left.
pub record WalksTasks (seed tasks : ℕ) (before : OutsideValue) (ran : RanValue) : Type 0 where
  pub end : WalkEnd
  pub ends : EndsWalk seed tasks ran.left.journal ran.left.answers end
  pub untouched : IsUntouched before ran.left
  pub end_is : ran.end ≡ end_of_walk tasks end
