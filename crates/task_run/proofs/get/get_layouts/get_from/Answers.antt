use Rattle.std.proofs.Common.{refl}
use Rattle.std.specs.Prelude.{Ok}
use Rattle.std.proofs.lemmas.Result.{err_from_is_err_and}
use Rattle.journal_model.specs.declared.answer.Answer.TheVariants.{Got}
use Rattle.task_model.proofs.Causes.{from_quiet}
use Rattle.task_run.proofs.GetLemmas.BeginLaws.{causes_behind}
use Rattle.task_run.proofs.GetLemmas.GetAlls.{got_over, got_plain}
use Rattle.task_run.proofs.get.get_layouts.get_from.Goals as goal

pub returns-in-Failed-clause-ran : goal.returns-in-Failed-clause-ran
returns-in-Failed-clause-ran g c =
    let r = rw c.in-Failed.is at c.in_ok-try_chunks.ensures.ran in
    got_plain _ _ _ _ _ _ _ _ _ _ _ _ _ r c.get_whole.ensures.ran

pub returns-in-Failed-clause-on : goal.returns-in-Failed-clause-on
returns-in-Failed-clause-on g c = g.met.A.Asker.goes_both c.args.asker.now c.try_chunks.new.asker c.get_whole.new.asker c.try_chunks.ensures.on c.get_whole.ensures.on

pub returns-in-Over-clause-ran : goal.returns-in-Over-clause-ran
returns-in-Over-clause-ran g c =
    let r = rw c.in-Over.is at c.in_ok-try_chunks.ensures.ran in
    got_over _ _ _ _ _ _ _ _ _ _ _ r

pub returns-in_err-try_chunks-clause-ran : goal.returns-in_err-try_chunks-clause-ran
returns-in_err-try_chunks-clause-ran g c =
    let p = err_from_is_err_and c.from_residual.result c.from_residual.ensures.1 in
    let r = c.in_err-try_chunks.ensures.ran in
    rw (p.1, p.2) record { grown = r.grown; goes = r.goes }

pub returns-in-Failed-clause-causes : goal.returns-in-Failed-clause-causes
returns-in-Failed-clause-causes g c = causes_behind _ _ _ (Ok Got) _ (rw c.in-Failed.is at c.in_ok-try_chunks.ensures.causes) refl (from_quiet _ _ _ c.get_whole.ensures.causes)
