use Rattle.std.proofs.Common.{◌∙◌, sym, ap, arith}
use Rattle.std.specs.Prelude.{◌+◌, ◌-◌, ℕ}
use Rattle.std.proofs.lemmas.Result.{err_from_is_err_and}
use Rattle.ann_key.specs.Keys.{with_chunk, key_reading}
use Rattle.ann_key.specs.KeyRefs.{parts_of, text_of}
use Rattle.ann_key.proofs.Spelling.{read_of_spelled}
use Rattle.task_text.specs.Layouts.Layouts.{chunk_part}
use Rattle.task_run.specs.Get.LayoutRuns.{turn_at}
use Rattle.task_model.proofs.SentKeys.{chunk_sent}
use Rattle.task_run.proofs.GetLemmas.ChunkNumbers.{in_order, room_next}
use Rattle.task_model.proofs.FileNames.{fetch_differs}
use Rattle.task_run.proofs.GetLemmas.GetTurns.{grown_by, take_ran, take_most, take_one, next_unasked}
use Rattle.task_run.proofs.get.get_layout.next_chunk.Goals as goal

pub returns-in_err-fetch-clause-ran : goal.returns-in_err-fetch-clause-ran
returns-in_err-fetch-clause-ran g c =
    let p = err_from_is_err_and c.from_residual.result c.from_residual.ensures.1 in
    rw (p.1, p.2) (next_unasked _ _ _ _ _ _ _ _ _ _ _ _)

pub returns-in_err-piece-clause-ran : goal.returns-in_err-piece-clause-ran
returns-in_err-piece-clause-ran g c =
    let p = err_from_is_err_and c.from_residual-in_err-piece.result c.from_residual-in_err-piece.ensures.1 in
    rw (p.1, p.2) (next_unasked _ _ _ _ _ _ _ _ _ _ _ _)

pub returns-in_err-piece-clause-on : goal.returns-in_err-piece-clause-on
returns-in_err-piece-clause-on g c = g.met.A.Asker.stays c.args.asker.now c.requires.ready

pub overflow_sub-chunk : goal.overflow_sub-chunk
overflow_sub-chunk g c = rw c.range-from.ensures (in_order c.args.layout.size c.args.layout.chunk c.args.i c.args.layout.chunked c.requires.there)

pub take_chunk-requires-clause-key : goal.take_chunk-requires-clause-key
take_chunk-requires-clause-key g c = rw c.view-2.ensures (chunk_sent (text_of c.args.layout.get.key) (parts_of c.args.layout.get.key) c.args.layout.chunk (c.args.i + 1) _ c.args.layout.get.key.spelled c.args.layout.get.sent c.in_ok-piece.ensures)

pub take_chunk-requires-clause-names : goal.take_chunk-requires-clause-names
take_chunk-requires-clause-names g c = λ e. fetch_differs c.args.layout.get.setup.now c.args.layout.get.turn (c.args.asked.now + 1) c.args.layout.get.file.now (sym (c.view.ensures ∙ c.in_ok-fetch.ensures.name) ∙ e ∙ c.args.layout.get.named)

pub returns-clause-ran : goal.returns-clause-ran
returns-clause-ran g c =
    let t = c.take_chunk.ensures.took in
    let layout = c.args.layout in
    let get = layout.get in
    let key = parts_of get.key in
    record {
      grown = grown_by _ _ _ _ _ _ _ _ _ _ _ t.how t.so;
      goes = λ file b cur got left calls held bytes p n room w k.
          take_ran (turn_at get.setup.now get.turn key file layout.chunk b) cur got left (chunk_part key layout.size layout.chunk (c.args.i + 1)) (c.args.asked.now + 1)
          calls held bytes _ layout.size _ _ _ _ _ _ _ _ _ _ t.how t.so p (c.view.ensures ∙ c.in_ok-fetch.ensures.name) w k (omega (arith, n)) room
          (ap key_reading c.view-2.ensures ∙ read_of_spelled _ (with_chunk layout.chunk (c.args.i + 1) key) c.in_ok-piece.ensures) layout.sized (ap (λ (r : ℕ × ℕ). r.1 - r.0) c.range-from.ensures);
      one = λ went e. take_one _ _ _ _ _ _ _ _ _ _ _ t.how t.so went e;
    }

pub returns-clause-room : goal.returns-clause-room
returns-clause-room g c = λ e.
    let t = c.take_chunk.ensures.took in
    let m = take_most _ _ _ _ _ _ _ _ _ _ _ t.how t.so e in
    room_next c.args.layout.size c.args.layout.chunk c.args.i _ _ c.args.layout.chunked c.requires.there c.requires.room (rw c.range-from.ensures at m)
