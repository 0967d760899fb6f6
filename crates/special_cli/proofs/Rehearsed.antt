-- A rehearsal has an answer for each of its tasks at most.
use Rattle.std.proofs.Common.{◌≡◌, ◌∙◌, ◌≤◌, ℕ, List, length, Option, Some, sym, ap, inl, arith}
use Rattle.std.proofs.lemmas.List.{length-map}
use Rattle.std.proofs.lemmas.List.FromFn.{length-map-range_with_len, length-range_with_len}
use Rattle.child_life.specs.End.Outsides.{OutsideValue}
use Rattle.journal_model.specs.declared.answer.Answer.{Answer}
use Rattle.journal_model.specs.declared.entry.Entry.{Entry}
use Rattle.journal_model.specs.Legality.{numbers_of}
use Rattle.run_answers.specs.Answers.{answer_of}
use Rattle.rehearse_plan.specs.Plans.{opening_of, task_of, tasks_of}
use Rattle.rehearse_command.specs.Rehearsals.{HasRehearsed as HasMade}
use Rattle.rehearse_command.specs.declared.made.RehearsalEnd.{RehearsalEnd}
use Rattle.rehearse_command.specs.declared.made.RehearsalEnd.TheVariants.{Memory, Done}
use Rattle.special_cli.specs.Left.{RanValue, IsIdle}
use Rattle.special_cli.specs.Rehearsals.{HasRehearsed}
use Rattle.special_cli.specs.declared.end.End.TheVariants.{Memory as NoRoom}

pub few_rehearsed : (seed tasks : ℕ) (journal : List Entry) (answers : List Answer) (end : RehearsalEnd) → tasks ≤ 65536 → HasMade seed tasks journal answers end → length answers ≤ 65536
few_rehearsed seed tasks journal answers Memory few h = let z : length answers ≡ 0 = ap (λ (xs : List Answer). length xs) h.1 in omega (arith, z)
few_rehearsed seed tasks journal answers (Done found) few h =
    let own : length (tasks_of seed tasks) ≡ tasks = length-map-range_with_len (task_of seed tasks) 1 tasks in
    let numbers : length (numbers_of (opening_of seed tasks)) ≡ length (tasks_of seed tasks) = length-range_with_len 1 (length (tasks_of seed tasks)) in
    let all : length answers ≡ length (numbers_of (opening_of seed tasks)) =
    sym (length-map answers (λ (a : Answer). Some a)) ∙ ap (λ (os : List (Option Answer)). length os) h.answers_are ∙ length-map (numbers_of (opening_of seed tasks)) (answer_of journal) in
    omega (arith, few, own, numbers, all)

-- nothing was done, for no memory was found
pub nothing_rehearsed : (seed tasks : ℕ) (before : OutsideValue) (ran : RanValue) → ran.end ≡ NoRoom → IsIdle before ran.left → HasRehearsed seed tasks before ran
nothing_rehearsed seed tasks before ran e idle = record {
  end = Memory;
  made = (inl idle.journal, idle.answers);
  untouched = record { outside = idle.outside; wires = idle.wires; tables = idle.tables };
  end_is = e;
}
