use Rattle.std.proofs.Common.{refl, ◌≤◌}
use Rattle.std.specs.Prelude.{Ok}
use Rattle.std.proofs.lemmas.Result.{err_from_is_err_and}
use Rattle.ann_outside.specs.declared.file_desk.DeskError.TheVariants as E
use Rattle.task_run.proofs.GetLemmas.ChunkNumbers.{held_most, held_within}
use Rattle.task_run.proofs.GetLemmas.BeginLaws.{begins_unlooked, begins_unmade, begins_made, begins_resumed, begins_unresumed, causes_behind, can_cut, causes_call, causes_missed, causes_done, back}
use Rattle.journal_model.specs.declared.answer.Answer.TheVariants.{Got}
use Rattle.task_run.proofs.get.get_begin.begin_part.Goals as goal

pub end_of-keep-requires-clause-there : goal.end_of-keep-requires-clause-there
end_of-keep-requires-clause-there g c = rw c.held-held.ensures (held_most c.args.size c.args.chunk c.in-Ok.n)

pub resume-requires-clause-held : goal.resume-requires-clause-held
resume-requires-clause-held g c =
    let k : c.end_of-keep.result ≤ c.in-Ok.n = rw (c.end_of-keep.ensures, c.held-held.ensures) (held_within c.args.size c.args.chunk c.in-Ok.n c.requires.chunk) in
    rw c.in-Ok.ensures.files (can_cut c.args.part.now _ _ _ k c.in-Ok.ensures.told)

pub returns-in-Done-clause-begun : goal.returns-in-Done-clause-begun
returns-in-Done-clause-begun g c =
    let r = rw (c.in-Done.is, c.end_of-keep.ensures, c.held-held.ensures) at c.in_ok-resume-in-Ok.ensures.resumed in
    rw c.held-held.ensures (begins_resumed _ _ _ _ _ _ _ _ _ _ c.in-Ok.ensures.log r)

pub returns-in-Fault-clause-begun : goal.returns-in-Fault-clause-begun
returns-in-Fault-clause-begun g c =
    let r = rw (c.in-Fault.is, c.end_of-keep.ensures, c.held-held.ensures) at c.in_ok-resume-in-Ok.ensures.resumed in
    begins_unresumed _ _ _ _ _ _ _ _ _ E.Failed c.in-Ok.ensures.log r

pub returns-in-Missing-clause-begun : goal.returns-in-Missing-clause-begun
returns-in-Missing-clause-begun g c =
    let r = rw (c.in-Missing.is, c.end_of-keep.ensures, c.held-held.ensures) at c.in_ok-resume-in-Ok.ensures.resumed in
    begins_unresumed _ _ _ _ _ _ _ _ _ E.Missing c.in-Ok.ensures.log r

pub returns-in_err-resume-in-Ok-clause-begun : goal.returns-in_err-resume-in-Ok-clause-begun
returns-in_err-resume-in-Ok-clause-begun g c =
    let r = rw (c.end_of-keep.ensures, c.held-held.ensures) at c.in_err-resume-in-Ok.ensures.resumed in
    let p = err_from_is_err_and c.from_residual.result c.from_residual.ensures.1 in
    rw (p.1, p.2) (begins_unresumed _ _ _ _ _ _ _ _ _ E.NoMemory c.in-Ok.ensures.log r)

pub returns-in-Ok-create-clause-begun : goal.returns-in-Ok-create-clause-begun
returns-in-Ok-create-clause-begun g c =
    let l = rw c.in-Err-Missing.field-0-is at c.in-Err-Missing.ensures.log in
    rw c.held.ensures (begins_made _ _ _ _ _ _ _ l c.in-Ok-create.ensures.log)

pub returns-in-Err-clause-begun : goal.returns-in-Err-clause-begun
returns-in-Err-clause-begun g c =
    let l = rw c.in-Err-Missing.field-0-is at c.in-Err-Missing.ensures.log in
    rw (c.not_begun.ensures, c.refused.ensures) (begins_unmade _ _ _ _ _ _ _ _ l c.in-Err.ensures.log)

pub returns-in-Err-Failed-clause-begun : goal.returns-in-Err-Failed-clause-begun
returns-in-Err-Failed-clause-begun g c = begins_unlooked _ _ _ _ _ _ E.Failed (λ e. cc) (rw c.in-Err-Failed.field-0-is at c.in-Err-Failed.ensures.log)

pub returns-in-Err-NoMemory-clause-begun : goal.returns-in-Err-NoMemory-clause-begun
returns-in-Err-NoMemory-clause-begun g c = begins_unlooked _ _ _ _ _ _ E.NoMemory (λ e. cc) (rw c.in-Err-NoMemory.field-0-is at c.in-Err-NoMemory.ensures.log)

pub returns-in-Err-Failed-clause-causes : goal.returns-in-Err-Failed-clause-causes
returns-in-Err-Failed-clause-causes g c = causes_call _ _ E.Failed _ refl (rw c.in-Err-Failed.field-0-is at c.in-Err-Failed.ensures.causes)

pub returns-in-Err-NoMemory-clause-causes : goal.returns-in-Err-NoMemory-clause-causes
returns-in-Err-NoMemory-clause-causes g c = causes_call _ _ E.NoMemory _ refl (rw c.in-Err-NoMemory.field-0-is at c.in-Err-NoMemory.ensures.causes)

pub returns-in-Ok-create-clause-causes : goal.returns-in-Ok-create-clause-causes
returns-in-Ok-create-clause-causes g c =
    causes_behind _ _ _ (Ok Got) _ (causes_missed _ _ _ refl (rw c.in-Err-Missing.field-0-is at c.in-Err-Missing.ensures.causes)) refl (causes_done _ _ _ _ refl c.in-Ok-create.ensures.causes)

pub returns-in-Err-clause-causes : goal.returns-in-Err-clause-causes
returns-in-Err-clause-causes g c =
    let k = causes_behind _ _ _ (Ok Got) _ (causes_missed _ _ _ refl (rw c.in-Err-Missing.field-0-is at c.in-Err-Missing.ensures.causes)) refl (causes_call _ _ c.in-Err.error _ refl c.in-Err.ensures.causes) in
    rw (c.not_begun.ensures, c.refused.ensures) (back _ _ _ k)
