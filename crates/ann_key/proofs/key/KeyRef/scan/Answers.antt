use Rattle.std.proofs.Common.{◌≡◌, ◌+◌, ◌-◌, take, drop, length, refl, sym, ap, ◌∙◌, true, None}
use Rattle.std.proofs.lemmas.List.{take_rest}
use Rattle.std.proofs.lemmas.Result.{err_from_is_err_and}
use Rattle.ann_key.specs.Keys.{is_name}
use Rattle.ann_key.specs.KeyErrors.{IsError}
use Rattle.ann_key.proofs.Places.{FrontAt, Before, backend_front, size_front, mtime_front, field_stop, chunk_stop, name_stop, reading_before, outside_before, tail_before}
use Rattle.ann_key.proofs.key.KeyRef.scan.Goals as goal

pub returns-in_err-size-clause-reading : goal.returns-in_err-size-clause-reading
returns-in_err-size-clause-reading c =
    let bytes = c.args.bytes.now in
    let n = c.in_ok-backend_end.backend_end in
    let e : IsError bytes c.in_err-size.field-0.0 =
    field_stop bytes n n 115 None None c.in_err-size.field-0.0 (backend_front bytes n c.in_ok-backend_end.ensures) c.in_err-size.ensures refl in
    let p = err_from_is_err_and c.from_residual-in_err-size.result c.from_residual-in_err-size.ensures.1 in
    rw (p.1, p.2) e

pub returns-in_err-mtime-clause-reading : goal.returns-in_err-mtime-clause-reading
returns-in_err-mtime-clause-reading c =
    let bytes = c.args.bytes.now in
    let n = c.in_ok-backend_end.backend_end in
    let f : FrontAt bytes n c.in_ok-size.at c.in_ok-size.size None None =
    size_front bytes n c.in_ok-size.at c.in_ok-size.size (backend_front bytes n c.in_ok-backend_end.ensures) c.in_ok-size.ensures in
    let e : IsError bytes c.in_err-mtime.field-0.0 =
    field_stop bytes n c.in_ok-size.at 109 c.in_ok-size.size None c.in_err-mtime.field-0.0 f c.in_err-mtime.ensures refl in
    let p = err_from_is_err_and c.from_residual-in_err-mtime.result c.from_residual-in_err-mtime.ensures.1 in
    rw (p.1, p.2) e

pub returns-in_err-chunk-clause-reading : goal.returns-in_err-chunk-clause-reading
returns-in_err-chunk-clause-reading c =
    let bytes = c.args.bytes.now in
    let n = c.in_ok-backend_end.backend_end in
    let f : FrontAt bytes n c.in_ok-mtime.at c.in_ok-size.size c.in_ok-mtime.mtime None =
    mtime_front bytes n c.in_ok-size.at c.in_ok-mtime.at c.in_ok-size.size c.in_ok-mtime.mtime
    (size_front bytes n c.in_ok-size.at c.in_ok-size.size (backend_front bytes n c.in_ok-backend_end.ensures) c.in_ok-size.ensures)
    c.in_ok-mtime.ensures in
    let e : IsError bytes c.in_err-chunk.field-0.0 =
    chunk_stop bytes n c.in_ok-mtime.at c.in_ok-size.size c.in_ok-mtime.mtime c.in_err-chunk.field-0.0 f c.in_err-chunk.ensures in
    let p = err_from_is_err_and c.from_residual-in_err-chunk.result c.from_residual-in_err-chunk.ensures.1 in
    rw (p.1, p.2) e

pub returns-in_err-name-clause-reading : goal.returns-in_err-name-clause-reading
returns-in_err-name-clause-reading c =
    let bytes = c.args.bytes.now in
    let n = c.in_ok-backend_end.backend_end in
    let b : Before bytes n c.in_ok-size.at c.in_ok-mtime.at c.in_ok-chunk.at c.in_ok-size.size c.in_ok-mtime.mtime c.in_ok-chunk.chunk =
    record { backend = c.in_ok-backend_end.ensures; size_scan = c.in_ok-size.ensures; mtime_scan = c.in_ok-mtime.ensures; chunk_scan = c.in_ok-chunk.ensures } in
    let e : IsError bytes c.in_err-name.field-0.0 =
    name_stop bytes n c.in_ok-size.at c.in_ok-mtime.at c.in_ok-chunk.at c.in_ok-size.size c.in_ok-mtime.mtime c.in_ok-chunk.chunk c.in_err-name.field-0.0 b c.in_err-name.ensures in
    let p = err_from_is_err_and c.from_residual-in_err-name.result c.from_residual-in_err-name.ensures.1 in
    rw (p.1, p.2) e

pub invariant_of-result : goal.invariant_of-result
invariant_of-result c =
    let bytes = c.args.bytes.now in
    let n = c.in_ok-backend_end.backend_end in
    let b : Before bytes n c.in_ok-size.at c.in_ok-mtime.at c.in_ok-chunk.at c.in_ok-size.size c.in_ok-mtime.mtime c.in_ok-chunk.chunk =
    record { backend = c.in_ok-backend_end.ensures; size_scan = c.in_ok-size.ensures; mtime_scan = c.in_ok-mtime.ensures; chunk_scan = c.in_ok-chunk.ensures } in
    let s = c.in_ok-name.ensures in
    let name : is_name (drop (c.in_ok-chunk.at + 2) bytes) ≡ true = ap is_name (sym s.2) ∙ s.1 in
    let tail : take (length bytes - c.in_ok-chunk.at) (drop c.in_ok-chunk.at bytes) ≡ drop c.in_ok-chunk.at bytes = take_rest bytes c.in_ok-chunk.at in
    record {
      spelled = rw s.2 (reading_before bytes n c.in_ok-size.at c.in_ok-mtime.at c.in_ok-chunk.at c.in_ok-size.size c.in_ok-mtime.mtime c.in_ok-chunk.chunk b s.0 name);
      outside = rw (s.2, tail) (outside_before bytes n c.in_ok-size.at c.in_ok-mtime.at c.in_ok-chunk.at c.in_ok-size.size c.in_ok-mtime.mtime c.in_ok-chunk.chunk b s.0 name);
      ends = rw (s.2, tail) (tail_before bytes c.in_ok-chunk.at s.0);
    }
