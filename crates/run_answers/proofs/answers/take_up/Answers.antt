use Rattle.std.proofs.Common.{◌≡◌, ◌-◌, ◌+◌, ◌<◌, ◌≤◌, ◌≢◌, ◌∙◌, ℕ, true, false, Some, None, length, get_or, set, sym, ap, subst, arith}
use Rattle.std.specs.Prelude.{is_some}
use Rattle.std.proofs.lemmas.List.{get_or_default}
use Rattle.journal_model.specs.declared.entry.Entry.{Entry}
use Rattle.run_answers.specs.Answering.{TakesUp}
use Rattle.run_answers.proofs.Answering.{shown_answer, takes_quiet, takes_outside, takes_again, takes_first}
use Rattle.run_answers.proofs.answers.take_up.Goals as goal
use Rattle.run_answers.proofs.answers.take_up.Goals.{then-task-eq0-via-then-task-eq0, then-task-eq0-via-else-task-eq0+then-places-task}

pub returns-in_default : goal.returns-in_default
returns-in_default c = takes_quiet c.args.entry c.args.places.now c.in_default.not-Answer

pub returns-then-task-eq0 : goal.returns-then-task-eq0
returns-then-task-eq0 c =
    let out : (k : ℕ) → k < length c.args.places.now → c.in-Answer.task ≢ k + 1 = λ k within.
    elim c.then-task-eq0.branch [ then-task-eq0-via-then-task-eq0 w ↦ omega (arith, w.if-task-eq0.true) | then-task-eq0-via-else-task-eq0+then-places-task w ↦ omega (arith, w.if-places-task.true, within) ] in
    subst (λ (e : Entry). TakesUp e c.args.places.now c.args.places.now) (sym (shown_answer c.args.entry c.in-Answer.task c.in-Answer.answer c.in-Answer.is))
    (takes_outside c.args.entry.by c.in-Answer.task c.in-Answer.answer c.args.places.now out)

pub returns-then-is_some : goal.returns-then-is_some
returns-then-is_some c =
    let places = c.args.places.now in
    let task = c.in-Answer.task in
    let some : 0 < task = omega (arith, c.if-task-eq0.false) in
    let within : task ≤ length places = c.if-places-task.false in
    let there : is_some (get_or places (task - 1) None) ≡ true =
    ap is_some (get_or_default places (task - 1) None c.index-places-task.result (omega (arith, some, within))) ∙ sym c.if-is_some.ensures in
    subst (λ (e : Entry). TakesUp e places places) (sym (shown_answer c.args.entry task c.in-Answer.answer c.in-Answer.is))
    (takes_again c.args.entry.by task c.in-Answer.answer places some within there)

pub returns : goal.returns
returns c =
    let places = c.args.places.now in
    let task = c.in-Answer.task in
    let some : 0 < task = omega (arith, c.if-task-eq0.false) in
    let within : task ≤ length places = c.if-places-task.false in
    let empty : is_some (get_or places (task - 1) None) ≡ false =
    ap is_some (get_or_default places (task - 1) None c.index-places-task.result (omega (arith, some, within))) ∙ sym c.if-is_some.ensures in
    subst (λ (e : Entry). TakesUp e places (set places (task - 1) (Some c.in-Answer.answer))) (sym (shown_answer c.args.entry task c.in-Answer.answer c.in-Answer.is))
    (takes_first c.args.entry.by task c.in-Answer.answer places some within empty)
