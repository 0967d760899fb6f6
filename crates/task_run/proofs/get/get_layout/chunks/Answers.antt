use Rattle.std.proofs.Common.{◌≡◌, ◌∙◌, refl, arith}
use Rattle.std.specs.Prelude.{◌+◌}
use Rattle.std.proofs.lemmas.Result.{err_from_is_err_and}
use Rattle.task_text.specs.Layouts.Layouts.{count_of}
use Rattle.task_run.specs.declared.get.get_chunk.Went.TheVariants as T
use Rattle.task_run.proofs.GetLemmas.GetChunks.{so_far_none, so_far_more, chunks_whole, chunks_ended}
use Rattle.task_run.proofs.get.get_layout.chunks.Goals as goal
use Rattle.task_model.proofs.Texts.{same_on as same_both}

pub loop-i-init : goal.loop-i-init
loop-i-init g c = record {
  so_far = so_far_none _ _ _ _ _ _ _ _ _ _ _;
  room = c.requires.room;
  on = g.met.A.Asker.stays c.args.asker.now c.requires.ready;
  notes = refl;
  same = record { task_is = refl; may_note_is = refl; loans_are = refl };
  quiet = refl;
}

pub next_chunk-requires-clause-ready : goal.next_chunk-requires-clause-ready
next_chunk-requires-clause-ready g c = g.met.A.Asker.is_ready c.args.asker.now c.loop-i.asker c.loop-i.invariant.on

pub loop-i-preserved : goal.loop-i-preserved
loop-i-preserved g c =
    let r = rw c.in-Whole.is at c.in_ok-went.ensures.ran in
    let m = rw c.in-Whole.is at c.in_ok-went.ensures.room in
    let q = rw c.in-Whole.is at c.in_ok-went.ensures.causes in
    let two : c.loop-i.i + 2 ≡ c.loop-i.i + 1 + 1 = omega arith in
    record {
      so_far = rw c.in_ok-went.ensures.counted (so_far_more _ _ _ _ _ _ _ _ _ _ _ _ _ _ _ _ _ _ _ c.loop-i.invariant.so_far (omega arith) (omega (arith, c.count-count.ensures)) c.requires.few r.grown (r.one T.Whole refl) r.goes);
      room = rw two at (m refl);
      on = g.met.A.Asker.goes_both c.args.asker.now c.loop-i.asker c.next_chunk.new.asker c.loop-i.invariant.on c.next_chunk.ensures.on;
      notes = c.in_ok-went.ensures.notes ∙ c.loop-i.invariant.notes;
      same = same_both c.loop-i.invariant.same c.in_ok-went.ensures.same;
      quiet = q.quiet refl ∙ c.loop-i.invariant.quiet;
    }

pub returns-in_err-went-clause-ran : goal.returns-in_err-went-clause-ran
returns-in_err-went-clause-ran g c =
    let r = c.in_err-went.ensures.ran in
    let p = err_from_is_err_and c.from_residual.result c.from_residual.ensures.1 in
    rw (p.1, p.2, c.in_err-went.ensures.counted) (chunks_ended _ _ _ _ _ _ _ _ _ _ _ _ _ _ _ _ _ _ _ _ c.loop-i.invariant.so_far (omega arith) (omega (arith, c.count-count.ensures)) c.requires.few r.grown (λ e. absurd cc) (λ e. cc) r.goes)

pub returns-in_err-went-clause-on : goal.returns-in_err-went-clause-on
returns-in_err-went-clause-on g c = g.met.A.Asker.goes_both c.args.asker.now c.loop-i.asker c.next_chunk.new.asker c.loop-i.invariant.on c.next_chunk.ensures.on

pub returns-in_default-clause-ran : goal.returns-in_default-clause-ran
returns-in_default-clause-ran g c =
    let r = c.in_ok-went.ensures.ran in
    rw c.in_ok-went.ensures.counted (chunks_ended _ _ _ _ _ _ _ _ _ _ _ _ _ _ _ _ _ _ _ _ c.loop-i.invariant.so_far (omega arith) (omega (arith, c.count-count.ensures)) c.requires.few r.grown (λ e. r.one _ refl) (λ e. c.in_default.not-Whole cc) r.goes)

pub returns-in_default-clause-on : goal.returns-in_default-clause-on
returns-in_default-clause-on g c = g.met.A.Asker.goes_both c.args.asker.now c.loop-i.asker c.next_chunk.new.asker c.loop-i.invariant.on c.next_chunk.ensures.on

pub returns-clause-ran : goal.returns-clause-ran
returns-clause-ran g c =
    let e : c.loop-i.i ≡ count_of c.args.layout.size c.args.layout.chunk = omega (arith, c.count-count.ensures) in
    chunks_whole _ _ _ _ _ _ _ _ _ _ _ _ _ _ _ (rw e at c.loop-i.invariant.so_far)
