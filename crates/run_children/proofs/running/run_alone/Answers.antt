use Rattle.std.proofs.Common.{◌≡◌, arith, false, true, refl, subst, sym, ap, ◌∙◌}
use Rattle.std.proofs.lemmas.Result.{err_from_is_err_and}
use Rattle.journal_model.specs.declared.opening.Opening.{Opening}
use Rattle.journal_model.specs.Legality.{Legal}
use Rattle.host_core.specs.Steps.{are_all_claimed}
use Rattle.run_starts.specs.Rounds.{left_answer}
use Rattle.run_starts.specs.Stints.{AnswersLeft}
use Rattle.run_starts.proofs.Ending.{cores_both, leaves_kept, leaves_or, left_nothing, left_some}
use Rattle.run_children.proofs.Between.{all_over, ran_jobs, whole_of}
use Rattle.run_children.proofs.Leftover.{jobs_left, kept_left}
use Rattle.run_children.proofs.running.run_alone.Goals as goal

pub returns-then-unclaimed-gt0 : goal.returns-then-unclaimed-gt0
returns-then-unclaimed-gt0 g c =
    let o = c.args.core.now.opening in
    let p = c.start_all.new.core.opening in
    let mid = c.start_all.new.core.journal in
    let new = c.answer_left.new.core.journal in
    let t = c.in_ok-start_all.ensures.started in
    let same_opening = c.start_all.ensures.core.opening in
    let left : are_all_claimed o mid ≡ false =
    ap (λ (w : Opening). are_all_claimed w mid) (sym same_opening) ∙ left_some p mid c.unclaimed.result c.unclaimed.ensures (λ z. (let some = c.if-unclaimed-gt0.true in omega (arith, some, z))) in
    let b = whole_of _ t.3 t.5.0 in
    let over = all_over b t.5.1 left in
    let a : AnswersLeft o mid new (left_answer mid) = subst (λ (w : Opening). AnswersLeft w mid new (left_answer mid)) same_opening c.answer_left.ensures.answers in
    let legal : Legal o new =
    subst (λ (w : Opening). Legal w new) (c.answer_left.ensures.core.opening ∙ same_opening) (c.answer_left.ensures.core.legal (subst (λ (w : Opening). Legal w mid) (sym same_opening) t.3.legal)) in
    let some = c.requires.may.desks.0 in
    record {
      ran = ran_jobs t.4 (jobs_left b some over.0 over.1 a legal);
      whole = a.all;
      last = (jobs_left b some over.0 over.1 a legal).last refl a.all;
      leaves = leaves_kept _ (kept_left b some over.0 over.1 a legal c.in_ok-start_all.ensures.kept);
      core = cores_both c.start_all.ensures.core c.answer_left.ensures.core;
    }

pub returns-else-unclaimed-gt0 : goal.returns-else-unclaimed-gt0
returns-else-unclaimed-gt0 g c =
    let t = c.start_all.ensures.started in
    let mid = c.start_all.new.core.journal in
    let all : are_all_claimed c.args.core.now.opening mid ≡ true =
    ap (λ (w : Opening). are_all_claimed w mid) (sym c.start_all.ensures.core.opening)
    ∙ left_nothing c.start_all.new.core.opening mid c.unclaimed.result c.unclaimed.ensures (let none = c.if-unclaimed-gt0.false in omega (arith, none)) in
    record {
      ran = ran_jobs t.4 t.3;
      whole = all;
      last = t.3.last refl all;
      leaves = leaves_kept _ c.in_ok-start_all.ensures.kept;
      core = c.start_all.ensures.core;
    }

pub returns-in_err-start_all-clause-ran : goal.returns-in_err-start_all-clause-ran
returns-in_err-start_all-clause-ran g c = (let t = c.start_all.ensures.started in ran_jobs t.4 t.3)

pub returns-in_err-start_all-clause-leaves : goal.returns-in_err-start_all-clause-leaves
returns-in_err-start_all-clause-leaves g c =
    let p = err_from_is_err_and c.from_residual.result c.from_residual.ensures.1 in
    let k = c.in_err-start_all.ensures.kept in
    rw p.1 (leaves_or _ refl k.1 k.2)
