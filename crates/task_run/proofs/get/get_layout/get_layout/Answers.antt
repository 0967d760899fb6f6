use Rattle.std.proofs.Common.{refl}
use Rattle.std.specs.Prelude.{Ok}
use Rattle.std.proofs.lemmas.Result.{err_from_is_err_and}
use Rattle.ann_key.specs.KeyRefs.{parts_of}
use Rattle.journal_model.specs.declared.answer.Answer.TheVariants.{Got}
use Rattle.task_model.proofs.Causes.{from_quiet}
use Rattle.task_run.proofs.GetLemmas.BeginLaws.{causes_behind, over_back}
use Rattle.task_run.proofs.GetLemmas.GetLayouts.{begins_held, begins_room, layout_unbegun, layout_begun, layout_lacked, layout_unwhole, layout_settled}
use Rattle.task_run.proofs.get.get_layout.get_layout.Goals as goal

pub returns-then-most-asked-clause-ran : goal.returns-then-most-asked-clause-ran
returns-then-most-asked-clause-ran g c = layout_unbegun _ _ _ _ _ _ _ _ _

pub chunks-requires-clause-held : goal.chunks-requires-clause-held
chunks-requires-clause-held g c = begins_held _ _ _ _ _ _ _ _ (rw c.in-Held.is at c.in_ok-held.ensures.begun) c.new-checker.ensures.length_is

pub chunks-requires-clause-room : goal.chunks-requires-clause-room
chunks-requires-clause-room g c = begins_room _ _ _ _ _ _ _ _ (rw c.in-Held.is at c.in_ok-held.ensures.begun) c.new-checker.ensures.length_is

pub returns-in-Whole-clause-ran : goal.returns-in-Whole-clause-ran
returns-in-Whole-clause-ran g c =
    let s = c.settle.ensures.calls in
    rw (c.over.ensures, s.2) (layout_settled _ _ _ _ _ _ _ _ _ _ _ _ _ _ _ _ _ _ _ _ s.0 (rw c.in-Held.is at c.in_ok-held.ensures.begun) (rw c.in-Whole.is at c.in_ok-went-in-Held.ensures.ran)
    c.new-checker.ensures (λ bytes h. c.finish.ensures.said (parts_of c.args.layout.get.key) bytes h) s.1 c.args.layout.get.named c.args.layout.sized c.args.layout.chunked)

pub returns-in-Whole-clause-causes : goal.returns-in-Whole-clause-causes
returns-in-Whole-clause-causes g c =
    let b = rw c.in-Held.is at c.in_ok-held.ensures.causes in
    let d = from_quiet _ _ _ (rw c.in-Whole.is at c.in_ok-went-in-Held.ensures.causes) in
    rw c.over.ensures (over_back _ _ _ (causes_behind _ _ _ (Ok Got) _ b refl (causes_behind _ _ _ (Ok Got) _ d refl (from_quiet _ _ _ c.settle.ensures.causes))))

pub returns-in_default-clause-ran : goal.returns-in_default-clause-ran
returns-in_default-clause-ran g c =
    layout_unwhole _ _ _ _ _ _ _ _ _ _ _ _ _ _ _ _ _ _ _ (rw c.in-Held.is at c.in_ok-held.ensures.begun) c.in_ok-went-in-Held.ensures.ran (λ e. c.in_default.not-Whole cc) c.args.layout.get.named c.args.layout.sized c.args.layout.chunked

pub returns-in_default-clause-causes : goal.returns-in_default-clause-causes
returns-in_default-clause-causes g c = causes_behind _ _ _ (Ok Got) _ (rw c.in-Held.is at c.in_ok-held.ensures.causes) refl (from_quiet _ _ _ c.in_ok-went-in-Held.ensures.causes)

pub returns-in_err-went-in-Held-clause-ran : goal.returns-in_err-went-in-Held-clause-ran
returns-in_err-went-in-Held-clause-ran g c =
    let p = err_from_is_err_and c.from_residual-in_err-went-in-Held.result c.from_residual-in_err-went-in-Held.ensures.1 in
    rw (p.1, p.2) (layout_unwhole _ _ _ _ _ _ _ _ _ _ _ _ _ _ _ _ _ _ _ (rw c.in-Held.is at c.in_ok-held.ensures.begun) c.in_err-went-in-Held.ensures.ran (λ e. cc) c.args.layout.get.named c.args.layout.sized c.args.layout.chunked)

pub returns-in_err-went-in-Held-clause-causes : goal.returns-in_err-went-in-Held-clause-causes
returns-in_err-went-in-Held-clause-causes g c =
    let p = err_from_is_err_and c.from_residual-in_err-went-in-Held.result c.from_residual-in_err-went-in-Held.ensures.1 in
    rw (p.1, p.2) (causes_behind _ _ _ (Ok Got) _ (rw c.in-Held.is at c.in_ok-held.ensures.causes) refl (from_quiet _ _ _ c.in_err-went-in-Held.ensures.causes))

pub returns-in-Over-clause-ran : goal.returns-in-Over-clause-ran
returns-in-Over-clause-ran g c = layout_begun _ _ _ _ _ _ _ _ _ _ _ _ _ _ (rw c.in-Over.is at c.in_ok-held.ensures.begun) c.args.layout.get.named c.args.layout.sized c.args.layout.chunked

pub returns-in_err-held-clause-ran : goal.returns-in_err-held-clause-ran
returns-in_err-held-clause-ran g c =
    let p = err_from_is_err_and c.from_residual.result c.from_residual.ensures.1 in
    rw (p.1, p.2) (layout_lacked _ _ _ _ _ _ _ _ _ _ _ _ _ _ c.in_err-held.ensures.begun c.args.layout.get.named c.args.layout.sized c.args.layout.chunked)

pub returns-in-Over-clause-on : goal.returns-in-Over-clause-on
returns-in-Over-clause-on g c = g.met.A.Asker.stays c.args.asker.now c.requires.ready

pub returns-in_err-held-clause-on : goal.returns-in_err-held-clause-on
returns-in_err-held-clause-on g c = g.met.A.Asker.stays c.args.asker.now c.requires.ready
