use Rattle.std.proofs.Common.{ℕ, ◌≡◌, ◌∙◌, ◌<◌, ◌≤◌, ◌+◌, Bool, true, false, List, Option, cond, get_or, length, take, sym, ap, subst, arith}
use Rattle.std.specs.Prelude.{map, filter, nat_lt}
use Rattle.task_text.specs.declared.task.Task.{Task}
use Rattle.journal_model.specs.declared.answer.Answer.{Answer}
use Rattle.journal_model.specs.declared.entry.Entry.{Entry}
use Rattle.journal_model.specs.declared.opening.Opening.{Opening}
use Rattle.journal_model.specs.Legality.{numbers_of}
use Rattle.run_answers.specs.Answers.{answer_of}
use Rattle.rehearse_command.specs.World.Walks.{is_equal}
use Rattle.rehearse_command.proofs.WorldLemmas.Summing.{no_gap, answer_there, sum_more, sum_all}
use Rattle.rehearse_command.proofs.world.sums.equal_in.Goals as goal
use Rattle.rehearse_command.proofs.world.sums.equal_in.Goals.{then-branch, else-branch}

pub unreachable-requires : goal.unreachable-requires
unreachable-requires c =
    let w = c.args.world.now in
    let answers : c.in_ok-answers.answers.items ≡ map (answer_of w.journal) (numbers_of w.opening) =
    c.in_ok-answers.ensures ∙ ap (λ (o : Opening). map (answer_of c.core.result.now.journal) (numbers_of o)) c.core.ensures.opening
    ∙ ap (λ (j : List Entry). map (answer_of j) (numbers_of w.opening)) c.core.ensures.journal in
    let tasks : length c.view.result.now ≡ length w.opening.tasks =
    ap (λ (ts : List Task). length ts) c.view.ensures ∙ ap (λ (o : Opening). length o.tasks) (c.opening.ensures ∙ c.core-2.ensures.opening) in
    no_gap w.opening w.journal c.in_ok-answers.answers.items c.tasks.before answers
    (ap (λ (xs : List (Option Answer)). nat_lt c.tasks.before (length xs)) (sym c.deref.ensures.value) ∙ sym c.in_default.ensures.lookup.0)
    (subst (λ n. c.tasks.before < n) tasks c.tasks-test.true)

pub is_equal-requires-clause-answer : goal.is_equal-requires-clause-answer
is_equal-requires-clause-answer c =
    let w = c.args.world.now in
    let answers : c.in_ok-answers.answers.items ≡ map (answer_of w.journal) (numbers_of w.opening) =
    c.in_ok-answers.ensures ∙ ap (λ (o : Opening). map (answer_of c.core.result.now.journal) (numbers_of o)) c.core.ensures.opening
    ∙ ap (λ (j : List Entry). map (answer_of j) (numbers_of w.opening)) c.core.ensures.journal in
    let tasks : length c.view.result.now ≡ length w.opening.tasks =
    ap (λ (ts : List Task). length ts) c.view.ensures ∙ ap (λ (o : Opening). length o.tasks) (c.opening.ensures ∙ c.core-2.ensures.opening) in
    let a = c.in-Some.answer.now in
    answer_there w.opening w.journal c.in_ok-answers.answers.items c.tasks.before a answers
    (c.in-Some.ensures.lookup.3.1 a ∙ ap (λ (xs : List (Option Answer)). get_or xs c.tasks.before a) c.deref.ensures.value) (subst (λ n. c.tasks.before < n) tasks c.tasks-test.true)

pub tasks-preserved : goal.tasks-preserved
tasks-preserved c =
    let w = c.args.world.now in
    let p : ℕ → Bool = is_equal c.args.seed c.args.tasks w in
    let tasks : length c.view.result.now ≡ length w.opening.tasks =
    ap (λ (ts : List Task). length ts) c.view.ensures ∙ ap (λ (o : Opening). length o.tasks) (c.opening.ensures ∙ c.core-2.ensures.opening) in
    let more = sum_more p w.opening c.tasks.before c.in_ok-is_equal.field-0 (subst (λ n. c.tasks.before < n) tasks c.tasks-test.true) c.in_ok-is_equal.ensures in
    elim c.if-branch.branch [
      | then-branch b ↦ (omega (arith, b.equal-is, more, ap (λ (x : Bool). cond {A = ℕ} x 1 0) b.if-branch.true, c.tasks.invariant.0), omega (arith, b.equal-is, c.tasks.invariant.1))
      | else-branch b ↦ (omega (arith, b.equal-is, more, ap (λ (x : Bool). cond {A = ℕ} x 1 0) b.if-branch.false, c.tasks.invariant.0), omega (arith, b.equal-is, c.tasks.invariant.1))
    ]

pub returns : goal.returns
returns c =
    let w = c.args.world.now in
    let tasks : length c.view.result.now ≡ length w.opening.tasks =
    ap (λ (ts : List Task). length ts) c.view.ensures ∙ ap (λ (o : Opening). length o.tasks) (c.opening.ensures ∙ c.core-2.ensures.opening) in
    c.tasks.invariant.0 ∙ sum_all (is_equal c.args.seed c.args.tasks w) w.opening c.tasks.before (omega (arith, tasks, c.tasks-test.false))
