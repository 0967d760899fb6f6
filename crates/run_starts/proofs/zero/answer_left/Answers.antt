use Rattle.std.proofs.Common.{◌≡◌, ◌<◌, ◌∙◌, ap, false, subst, sym, ℕ, List, true}
use Rattle.journal_model.specs.declared.answer.Answer.{Answer}
use Rattle.journal_model.specs.declared.entry.Entry.{Entry}
use Rattle.journal_model.specs.declared.opening.Opening.{Opening}
use Rattle.journal_model.specs.Legality.{Legal}
use Rattle.journal_model.specs.Room.{claims_left}
use Rattle.run_starts.specs.Rounds.{left_answer, unserved_answer}
use Rattle.run_starts.specs.Stints.{AnswersLeft, AnswersOne}
use Rattle.run_starts.proofs.Ending.{cores_both}
use Rattle.run_starts.proofs.Stinting.{one_rests}
use Rattle.run_starts.proofs.Zeros.{HasLeft, answers_as, fewer_now, left_over, left_still, left_then, unserved_still}
use Rattle.run_starts.proofs.zero.answer_left.Goals as goal

-- what was answered so far leaves how each task is answered that is left
now_left : (old mid : List Entry) (h : HasLeft old mid (left_answer old)) (t : ℕ) → left_answer mid t ≡ left_answer old t
now_left old mid h t = ap (λ (j : List Entry). left_answer j t) h.is ∙ left_still old (left_answer old) h.tasks t

pub answer_left_one-requires-clause-unserved : goal.answer_left_one-requires-clause-unserved
answer_left_one-requires-clause-unserved c =
    let h = c.tasks.invariant.so_far in
    let old = c.args.core.now.journal in
    c.tasks.invariant.unserved ∙ sym (ap unserved_answer h.is ∙ unserved_still old (left_answer old) h.tasks)

pub returns-then-not-answer_left_one-clause-answers : goal.returns-then-not-answer_left_one-clause-answers
returns-then-not-answer_left_one-clause-answers c =
    let p = c.tasks.core.opening in
    let old = c.args.core.now.journal in
    let mid = c.tasks.core.journal in
    let new = c.answer_left_one.new.core.journal in
    subst (λ (w : Opening). AnswersLeft w old new (left_answer old)) c.tasks.invariant.core.opening
    (left_over p old mid new (left_answer old) c.tasks.invariant.so_far (answers_as p mid new (left_answer mid) (left_answer old) false (now_left old mid c.tasks.invariant.so_far) c.if-not-answer_left_one.ensures.answers))

pub tasks-smaller : goal.tasks-smaller
tasks-smaller c =
    let a = c.if-not-answer_left_one.ensures.answers in
    let new = c.answer_left_one.new.core.journal in
    let eo = c.answer_left_one.ensures.core.opening in
    let legal = subst (λ (w : Opening). Legal w new) eo (c.answer_left_one.ensures.core.legal c.tasks.invariant.legal) in
    subst (λ (w : Opening). claims_left w new < claims_left c.tasks.core.opening c.tasks.core.journal) (sym eo)
    (fewer_now c.tasks.core.opening c.tasks.core.journal new a.0 (left_answer c.tasks.core.journal a.0) legal a.2)

pub tasks-preserved : goal.tasks-preserved
tasks-preserved c =
    let a = c.if-not-answer_left_one.ensures.answers in
    let old = c.args.core.now.journal in
    let mid = c.tasks.core.journal in
    let new = c.answer_left_one.new.core.journal in
    record {
      legal = c.answer_left_one.ensures.core.legal c.tasks.invariant.legal;
      rest = one_rests c.tasks.core.opening mid new (left_answer mid) true a c.tasks.invariant.rest;
      so_far = left_then c.tasks.core.opening old mid new (left_answer old) c.tasks.invariant.so_far
          (answers_as c.tasks.core.opening mid new (left_answer mid) (left_answer old) true (now_left old mid c.tasks.invariant.so_far) a);
      unserved = c.tasks.invariant.unserved;
      core = cores_both c.tasks.invariant.core c.answer_left_one.ensures.core;
    }
