-- A layout of chunks, from its begin to its end.
use Rattle.std.proofs.Common.{◌≡◌, ◌∙◌, ℕ, ◌+◌, ◌≤◌, ◌<◌, ◌==◌, false, List, [], ◌∷◌, ◌++◌, length, refl, sym, ap, subst, arith, append_assoc, append-nil}
use Rattle.std.specs.Prelude.{Option, Some, Result, Ok, Err}
use Rattle.std.proofs.lemmas.Bool.{ne_eqb}
use Rattle.ann_key.specs.Keys.{Parts}
use Rattle.ann_key.specs.declared.bytes.NoMemory.{NoMemory}
use Rattle.ann_digest.specs.Fits.{IsSaidOf}
use Rattle.ann_digest.specs.Checkers.{Holds, taken_of}
use Rattle.ann_digest.specs.declared.fit.Fit.{Fit}
use Rattle.ann_digest.specs.declared.checker.Checker.{Checker}
use Rattle.ann_outside.specs.Calls.{Log, logged}
use Rattle.ann_outside.specs.declared.file_desk.Call.{Call}
use Rattle.task_text.specs.Layouts.Layouts.{Part, count_of, from_of, to_of, held_of}
use Rattle.task_model.proofs.CopyingLemmas.CopyLaws.{gained_nothing, gained_more}
use Rattle.journal_model.specs.declared.answer.Answer.{Answer}
use Rattle.journal_model.specs.declared.answer.Answer.TheVariants as A
use Rattle.task_model.specs.Askers.{Asking}
use Rattle.task_model.specs.declared.setup.Setup.{Setup}
use Rattle.task_model.specs.declared.turn.TaskTurn.{TaskTurn}
use Rattle.task_run.specs.declared.get.get_chunk.Went.{Went}
use Rattle.task_run.specs.declared.get.get_chunk.Went.TheVariants as T
use Rattle.task_run.specs.declared.get.get_begin.Begun.{Begun}
use Rattle.task_run.specs.declared.get.get_begin.Begun.TheVariants as B
use Rattle.task_model.specs.Names.{part_of}
use Rattle.task_model.specs.Reads.{bytes_of}
use Rattle.task_model.specs.Ran.{answered, refusal}
use Rattle.task_model.specs.Fetching.{Outcome, if_made, settling, settled}
use Rattle.task_run.specs.Get.ChunkFetches.{over_with}
use Rattle.task_run.specs.Get.Fronts.{Turn, Between, Ended}
use Rattle.task_run.specs.Get.LayoutRuns.{Behind, place_at, turn_at, parts_from, ChunksEnd, ChunksRan, LayoutEnd, LayoutRan}
use Rattle.task_run.specs.Get.PartBegins.{Begin, Unlooked, Unmade, Made, Uncut, Unread, Resumed, keep_of, begin_calls, unbegun, begin_result, BeginIs, Begins}
use Rattle.task_run.proofs.GetLemmas.FetchLaws.{gained_settling}
use Rattle.task_run.proofs.GetLemmas.ChunkNumbers.{held_most, from_is}
use Rattle.task_run.proofs.GetLemmas.GetFronts.{ended_memory}
use Rattle.task_run.proofs.GetLemmas.GetParts.{settle_end, between_fore, of_none}
use Rattle.task_run.proofs.GetLemmas.GetBegins.{BeginEnd, begin_end}

-- ---- what is held

not_held : (k : ℕ) (r : Result Answer NoMemory) → unbegun r ≡ Ok (B.Held k) → ⊥
not_held k (Ok answer) e = cc
not_held k (Err x) e = cc

held_same : (j k : ℕ) (x y : Result Begun NoMemory) → x ≡ Ok (B.Held j) → y ≡ Ok (B.Held k) → x ≡ y → j ≡ k
held_same j k x y e f g = cc

by_begin : (part : List ℕ) (size chunk k : ℕ) (before after : Checker) (how : Begin) → BeginIs part size chunk before after how → begin_result size chunk how ≡ Ok (B.Held k) → taken_of before ≡ 0
    → (n : ℕ) × (held_of size chunk n ≡ k) × (taken_of after ≤ keep_of size chunk n)
by_begin part size chunk k before after (Unlooked e) so is z = absurd (not_held k (refusal e) is)
by_begin part size chunk k before after (Unmade e) so is z = absurd (not_held k (refusal e) is)
by_begin part size chunk k before after Made so is z = let t : taken_of after ≡ taken_of before = ap taken_of so in (0, held_same (held_of size chunk 0) k _ _ refl refl is, omega (arith, t, z))
by_begin part size chunk k before after (Uncut n e) so is z = absurd (not_held k (refusal e) is)
by_begin part size chunk k before after (Unread n pieces e) so is z = absurd (not_held k (refusal e) is)
by_begin part size chunk k before after (Resumed n pieces ending) so is z =
    let t = so.2.taken in let m = so.1 in (n, held_same (held_of size chunk n) k _ _ refl refl is, omega (arith, t, m, z))

pub begins_held : (part : List ℕ) (size chunk k : ℕ) (before after : Checker) (old new : Option Log) → Begins part size chunk before after old new (Ok (B.Held k)) → taken_of before ≡ 0 → k ≤ count_of size chunk
begins_held part size chunk k before after old new b z =
    let r = by_begin part size chunk k before after b.how b.so (sym b.result_is) z in
    let m = held_most size chunk r.0 in
    let e = r.1 in
    omega (arith, m, e)

pub begins_room : (part : List ℕ) (size chunk k : ℕ) (before after : Checker) (old new : Option Log) → Begins part size chunk before after old new (Ok (B.Held k)) → taken_of before ≡ 0 → taken_of after ≤ from_of chunk (k + 1)
begins_room part size chunk k before after old new b z =
    let r = by_begin part size chunk k before after b.how b.so (sym b.result_is) z in
    let f = from_is chunk k in
    let e : keep_of size chunk r.0 ≡ to_of size chunk k = ap (to_of size chunk) r.1 in
    let t = r.2 in
    omega (arith, f, e, t)

-- ---- how it ends

chunk_some : (chunk : ℕ) → 0 < chunk → (chunk == 0) ≡ false
chunk_some chunk h = ne_eqb chunk 0 (λ e. omega (arith, h, e))

begun_at : (setup : Setup) (t : TaskTurn) (key : Parts) (file part : List ℕ) (size chunk : ℕ) (before after : Checker) (old new : Option Log) (result : Result Begun NoMemory) → (g : Begins part size chunk before after old new result)
    → part ≡ part_of file → key.size ≡ Some size → 0 < chunk → (b : Behind) → 1 ≤ length b.rest → Between (place_at setup t key file b.sizes) b.past b.done b.tried (chunk ∷ b.rest) b.calls
    → BeginEnd (turn_at setup t key file chunk b) size b.calls (begin_calls part size chunk g.how) before after result
begun_at setup t key file part size chunk before after old new result g p s some b r w =
    let u = turn_at setup t key file chunk b in
    let P : Result Begun NoMemory → Type 0 = λ x. BeginEnd u size b.calls (begin_calls part size chunk g.how) before after x in
    let Q : List ℕ → Type 0 = λ x. BeginIs x size chunk before after g.how → BeginEnd u size b.calls (begin_calls x size chunk g.how) before after (begin_result size chunk g.how) in
    subst P (sym g.result_is) (subst Q (sym p) (λ so. begin_end u size b.calls before after g.how w r some (chunk_some chunk some) s so) g.so)

-- no memory was found before
pub layout_unbegun : (setup : Setup) (t : TaskTurn) (key : Parts) (file : List ℕ) (chunk first : ℕ) (pairs : List Asking) (log : Option Log) (e : NoMemory)
    → LayoutRan setup t key file chunk first first pairs pairs log log (Err e)
layout_unbegun setup t key file chunk first pairs log e = record {
  grown = record { asked = []; made = []; pairs_are = sym (append-nil pairs); log_is = gained_nothing log };
  goes = λ b n r w.
      let p = place_at setup t key file b.sizes in
      let P : List Asking → Type 0 = λ l. Ended p l (b.calls ++ []) A.Memory in
      subst P (sym (append-nil b.past)) (ended_memory p b.past (b.calls ++ [])
      (between_fore p b.past b.done b.tried chunk b.rest b.calls [] [] w (of_none p b.calls) refl (omega arith) (omega arith) (rw (append-nil b.calls) w.sound.held)) (rw (append-nil b.calls) w.free));
  counted = λ e. absurd cc;
}

-- it was over after the begin of part
pub layout_begun : (setup : Setup) (t : TaskTurn) (key : Parts) (file part : List ℕ) (size chunk first : ℕ) (pairs : List Asking) (before after : Checker) (old new : Option Log) (answer : Answer)
    → Begins part size chunk before after old new (Ok (B.Over answer)) → part ≡ part_of file → key.size ≡ Some size → 0 < chunk
    → LayoutRan setup t key file chunk first first pairs pairs old new (Ok (T.Over answer))
layout_begun setup t key file part size chunk first pairs before after old new answer g p s some = record {
  grown = record { asked = []; made = begin_calls part size chunk g.how; pairs_are = sym (append-nil pairs); log_is = g.calls };
  goes = λ b n r w. let P : List Asking → Type 0 = λ l. Ended (place_at setup t key file b.sizes) l (b.calls ++ begin_calls part size chunk g.how) answer in
      subst P (sym (append-nil b.past)) (begun_at setup t key file part size chunk before after old new (Ok (B.Over answer)) g p s some b r w);
  counted = λ e. absurd cc;
}

pub layout_lacked : (setup : Setup) (t : TaskTurn) (key : Parts) (file part : List ℕ) (size chunk first : ℕ) (pairs : List Asking) (before after : Checker) (old new : Option Log) (e : NoMemory)
    → Begins part size chunk before after old new (Err e) → part ≡ part_of file → key.size ≡ Some size → 0 < chunk
    → LayoutRan setup t key file chunk first first pairs pairs old new (Err e)
layout_lacked setup t key file part size chunk first pairs before after old new e g p s some = record {
  grown = record { asked = []; made = begin_calls part size chunk g.how; pairs_are = sym (append-nil pairs); log_is = g.calls };
  goes = λ b n r w. let P : List Asking → Type 0 = λ l. Ended (place_at setup t key file b.sizes) l (b.calls ++ begin_calls part size chunk g.how) A.Memory in
      subst P (sym (append-nil b.past)) (begun_at setup t key file part size chunk before after old new (Err e) g p s some b r w);
  counted = λ e. absurd cc;
}

-- the chunks didn't all come
not_whole_end : (u : Turn) (parts : List Part) (calls made more : List Call) (reads : List (ℕ × List ℕ)) (before after : Checker) (asked : List Asking) (result : Result Went NoMemory) → (result ≡ Ok T.Whole → ⊥)
    → ChunksEnd u parts (calls ++ made) reads before after asked more result → LayoutEnd u calls asked (made ++ more) result
not_whole_end u parts calls made more reads before after asked (Ok T.Whole) bad h = absurd (bad refl)
not_whole_end u parts calls made more reads before after asked (Ok T.Failed) bad h =
    let P : List Call → Type 0 = λ l. Between u.place (u.past ++ asked) (u.done ++ parts ∷ []) (u.tried ++ u.chunk ∷ []) u.rest l in (parts, subst P (append_assoc calls made more) h)
not_whole_end u parts calls made more reads before after asked (Ok (T.Over answer)) bad h = let P : List Call → Type 0 = λ l. Ended u.place (u.past ++ asked) l answer in subst P (append_assoc calls made more) h
not_whole_end u parts calls made more reads before after asked (Err e) bad h = let P : List Call → Type 0 = λ l. Ended u.place (u.past ++ asked) l A.Memory in subst P (append_assoc calls made more) h

pub layout_unwhole : (setup : Setup) (t : TaskTurn) (key : Parts) (file part : List ℕ) (size chunk held first now : ℕ) (pairs later : List Asking) (before between after : Checker) (old on new : Option Log) (result : Result Went NoMemory)
    → Begins part size chunk before between old on (Ok (B.Held held)) → ChunksRan setup t key size chunk held part first now pairs later on new between after result → (result ≡ Ok T.Whole → ⊥)
    → part ≡ part_of file → key.size ≡ Some size → 0 < chunk → LayoutRan setup t key file chunk first now pairs later old new result
layout_unwhole setup t key file part size chunk held first now pairs later before between after old on new result g c bad p s some = record {
  grown = record { asked = c.grown.asked; made = begin_calls part size chunk g.how ++ c.grown.made; pairs_are = c.grown.pairs_are; log_is = gained_more old on new (begin_calls part size chunk g.how) c.grown.made g.calls c.grown.log_is };
  goes = λ b n r w.
      let u = turn_at setup t key file chunk b in
      let e = begun_at setup t key file part size chunk before between old on (Ok (B.Held held)) g p s some b r w in
      not_whole_end u (parts_from key size chunk held) b.calls (begin_calls part size chunk g.how) c.grown.made e.0 between after c.grown.asked result bad
      (c.goes file b (b.calls ++ begin_calls part size chunk g.how) e.0 p n e.1 e.2);
  counted = c.counted;
}

over_end : (u : Turn) (calls made : List Call) (asked : List Asking) (r : Result Answer NoMemory) → Ended u.place (u.past ++ asked) (calls ++ made) (answered r) → LayoutEnd u calls asked made (over_with r)
over_end u calls made asked (Ok answer) h = h
over_end u calls made asked (Err e) h = h

over_unfailed : (r : Result Answer NoMemory) → over_with r ≡ Ok T.Failed → ⊥
over_unfailed (Ok answer) e = cc
over_unfailed (Err x) e = cc

-- all came, and part is settled
pub layout_settled : (setup : Setup) (t : TaskTurn) (key : Parts) (file part : List ℕ) (size chunk held first now : ℕ) (pairs later : List Asking) (before between after : Checker) (old on mid new : Option Log) (fit : Fit) (r : Outcome)
    → Begins part size chunk before between old on (Ok (B.Held held)) → ChunksRan setup t key size chunk held part first now pairs later on mid between after (Ok T.Whole)
    → Holds before key [] → ((bytes : List ℕ) → Holds after key bytes → IsSaidOf key bytes fit) → new ≡ logged mid (settling (record { file = file; part = part; fetch = [] }) fit r)
    → part ≡ part_of file → key.size ≡ Some size → 0 < chunk → LayoutRan setup t key file chunk first now pairs later old new (over_with (settled fit r))
layout_settled setup t key file part size chunk held first now pairs later before between after old on mid new fit r g c k said l p s some = record {
  grown = record {
    asked = c.grown.asked;
    made = begin_calls part size chunk g.how ++ (c.grown.made ++ last part);
    pairs_are = c.grown.pairs_are;
    log_is = gained_more old on new (begin_calls part size chunk g.how) (c.grown.made ++ last part) g.calls
        (gained_more on mid new c.grown.made (last part) c.grown.log_is (gained_settling (record { file = file; part = part; fetch = [] }) fit mid new r l));
  };
  goes = λ b n d w.
      let u = turn_at setup t key file chunk b in
      let made : List Call = begin_calls part size chunk g.how in
      let e = begun_at setup t key file part size chunk before between old on (Ok (B.Held held)) g p s some b d w in
      let h = c.goes file b (b.calls ++ made) e.0 p n e.1 e.2 in
      let fits : IsSaidOf key (bytes_of e.0 ++ h.0) fit = said (bytes_of e.0 ++ h.0) (h.3.holds key (bytes_of e.0) (e.3.holds key [] k)) in
      let z = settle_end u c.grown.asked (parts_from key size chunk held) ((b.calls ++ made) ++ c.grown.made) e.0 h.0 fit r h.1 h.2 (chunk_some chunk some) fits in
      let P : List Call → Type 0 = λ x. Ended u.place (u.past ++ c.grown.asked) x (answered (settled fit r)) in
      let Q : List ℕ → Type 0 = λ x. Ended u.place (u.past ++ c.grown.asked) (((b.calls ++ made) ++ c.grown.made) ++ last x) (answered (settled fit r)) in
      over_end u b.calls (made ++ (c.grown.made ++ last part)) c.grown.asked (settled fit r)
      (subst P (append_assoc (b.calls ++ made) c.grown.made (last part) ∙ append_assoc b.calls made (c.grown.made ++ last part)) (subst Q (sym p) z));
  counted = λ e. absurd (over_unfailed (settled fit r) e);
}
  where
    last : List ℕ → List Call
    last x = if_made r (settling (record { file = file; part = x; fetch = [] }) fit r)
