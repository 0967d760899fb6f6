-- What a walk comes to has an answer for each of its tasks at most.
use Rattle.std.proofs.Common.{◌≡◌, ◌∙◌, ◌≤◌, ℕ, List, [], ◌∷◌, length, Option, Some, None, ap, arith}
use Rattle.std.specs.Prelude.{filter_map}
use Rattle.std.specs.List.{cons_option}
use Rattle.std.proofs.lemmas.List.FromFn.{length-map-range_with_len, length-range_with_len}
use Rattle.journal_model.specs.declared.answer.Answer.{Answer}
use Rattle.journal_model.specs.declared.entry.Entry.{Entry}
use Rattle.journal_model.specs.declared.opening.Opening.{Opening}
use Rattle.journal_model.specs.Legality.{numbers_of}
use Rattle.journal_audit.specs.Audits.{IsAudit}
use Rattle.journal_audit.specs.declared.found.Audit.{Audit}
use Rattle.rehearse_plan.specs.Plans.{opening_of, task_of, tasks_of}
use Rattle.run_answers.specs.Answers.{answer_of, given}
use Rattle.rehearse_command.specs.declared.world.walked.Walk.{Walk}
use Rattle.rehearse_command.specs.Walk.Walks.{EndsWalk, HasWalked, IsWalkOf}
use Rattle.rehearse_command.specs.declared.walk.made.WalkEnd.{WalkEnd}
use Rattle.rehearse_command.specs.declared.walk.made.WalkEnd.TheVariants.{Memory, Done}

some_few : {X Y : Type 0} (f : X → Option Y) (xs : List X) → length (filter_map f xs) ≤ length xs
some_few f [] = omega arith
some_few {X} {Y} f (x ∷ xs) = go (f x) (some_few f xs)
  where
    go : (o : Option Y) → length (filter_map f xs) ≤ length xs → length (cons_option o (filter_map f xs)) ≤ length (x ∷ xs)
    go None h = omega (arith, h)
    go (Some y) h = omega (arith, h)

pub few_walked : (seed tasks : ℕ) (journal : List Entry) (answers : List Answer) (end : WalkEnd) → tasks ≤ 65536 → EndsWalk seed tasks journal answers end → length answers ≤ 65536
few_walked seed tasks journal answers (Done equal found) few h =
    let own : length (tasks_of seed tasks) ≡ tasks = length-map-range_with_len (task_of seed tasks) 1 tasks in
    let numbers : length (numbers_of (opening_of seed tasks)) ≡ length (tasks_of seed tasks) = length-range_with_len 1 (length (tasks_of seed tasks)) in
    let less : length (filter_map (answer_of h.world.journal) (numbers_of h.world.opening)) ≤ length (numbers_of h.world.opening) =
    some_few (answer_of h.world.journal) (numbers_of h.world.opening) in
    let opened : length (numbers_of h.world.opening) ≡ length (numbers_of (opening_of seed tasks)) = ap (λ (o : Opening). length (numbers_of o)) h.opening_is in
    let all : length answers ≡ length (filter_map (answer_of h.world.journal) (numbers_of h.world.opening)) = ap (λ (xs : List Answer). length xs) h.answers_are in
    omega (arith, few, own, numbers, less, opened, all)
few_walked seed tasks journal answers Memory few (none, empty) = let z : length answers ≡ 0 = ap (λ (xs : List Answer). length xs) empty in omega (arith, z)

-- what was read of the walk's world
pub has_walked : (seed tasks : ℕ) (walk : Walk) (journal : List Entry) (answers : List Answer) (equal : ℕ) (found : Audit) → IsWalkOf seed tasks walk → journal ≡ walk.world.journal
    → answers ≡ given walk.world.opening walk.world.journal → equal ≡ walk.equal → IsAudit walk.world.opening walk.world.journal found → HasWalked seed tasks journal answers equal found
has_walked seed tasks walk journal answers equal found is same given_are counted audit = record {
  world = walk.world;
  walked = is.walked;
  stands = is.stands;
  files = is.files;
  opening_is = is.opening;
  journal_is = same;
  answers_are = given_are;
  equal_is = counted ∙ is.equal;
  audit = audit;
}
