use Rattle.std.proofs.Common.{◌≡◌, take}
use Rattle.std.specs.Prelude.{map}
use Rattle.std.specs.List.{concat}
use Rattle.rehearse_plan.specs.Tallies.{count_line, words}
use Rattle.rehearse_plan.proofs.tally.print_counts.Given as goal

-- the lines of so many words were made
abbrev pub invariant-words : goal.invariant-words
invariant-words l = l.text.items ≡ concat (map (count_line l.initial.answers) (take l.word-index words))
