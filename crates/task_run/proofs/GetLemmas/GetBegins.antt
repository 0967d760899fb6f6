-- The begin of a layout of chunks.
use Rattle.std.proofs.Common.{◌≡◌, ◌∙◌, ℕ, ◌+◌, ◌-◌, ◌≤◌, ◌<◌, ◌==◌, ◌⊎◌, inl, inr, Bool, true, false, not, List, [], ◌∷◌, ◌++◌, length, map, drop, refl, sym, ap, subst, arith, append_assoc, append-nil, length-append}
use Rattle.std.specs.Prelude.{if◌then◌else◌, bytes_eq, is_some, Option, Some, None, unwrap_or, Result, Ok, Err}
use Rattle.std.specs.List.{list_all, filter_map, concat, range_with_len}
use Rattle.std.proofs.lemmas.Bool.{cases_lt}
use Rattle.std.proofs.lemmas.List.{drop_at}
use Rattle.std.proofs.lemmas.List.Elements.{filter_map-append}
use Rattle.std.proofs.lemmas.List.FromFn.{length-map-range_with_len}
use Rattle.ann_key.specs.Keys.{Parts}
use Rattle.ann_key.specs.declared.bytes.NoMemory.{NoMemory}
use Rattle.ann_digest.specs.declared.checker.Checker.{Checker}
use Rattle.task_text.specs.Layouts.Layouts.{Part, chunk_part, count_of, to_of, held_of, layout}
use Rattle.ann_outside.specs.declared.file_desk.DeskError.{DeskError}
use Rattle.ann_outside.specs.declared.file_desk.DeskError.TheVariants as E
use Rattle.ann_outside.specs.declared.file_desk.Call.{Call}
use Rattle.ann_outside.specs.declared.file_desk.Call.TheVariants.{Size, ReadAt, Create, Cut}
use Rattle.task_model.specs.Copying.Copies.{EndsWhole, Checks}
use Rattle.task_model.specs.Copying.Resumes.{read_calls}
use Rattle.task_model.proofs.CopyingLemmas.CopyLaws.{checks_nothing}
use Rattle.journal_model.specs.declared.answer.Answer.{Answer}
use Rattle.journal_model.specs.declared.answer.Answer.TheVariants as A
use Rattle.task_model.specs.Askers.{Asking}
use Rattle.task_run.specs.declared.get.get_begin.Begun.{Begun}
use Rattle.task_run.specs.declared.get.get_begin.Begun.TheVariants as B
use Rattle.task_model.specs.Stops.{call_stop}
use Rattle.task_model.specs.Names.{part_of}
use Rattle.task_model.specs.Layouts.{parts_of_layout}
use Rattle.task_model.specs.Requests.{AskInOrder}
use Rattle.task_model.specs.Reads.{length_or_none, reads_of, read_of, bytes_of, is_run, is_reading, is_known, appended, piece_of, holds, are_found_so}
use Rattle.task_model.specs.Gets.{fetch_request, begins, lengths_at_begin, wanted, parts_wanted, held_reads, since_begin}
use Rattle.task_model.specs.Ran.{answered, refusal}
use Rattle.task_model.specs.Fetching.{Outcome}
use Rattle.task_run.specs.Get.Fronts.{Place, Turn, first_in, Sound, are_free, Within, Kept, Between, Ended, begin_of}
use Rattle.task_run.specs.Get.LayoutRuns.{parts_from, parts_between}
use Rattle.task_run.specs.Get.PartBegins.{Begin, Unlooked, Unmade, Made, Uncut, Unread, Resumed, keep_of, begin_calls, begin_result, BeginIs}
use Rattle.task_model.proofs.HeldLaws.{is_looking, holds_more, so_behind, holds_cut}
use Rattle.task_run.proofs.GetLemmas.LastCalls.{after_last-at}
use Rattle.task_model.proofs.GetCallsLaws.{known_add, known_skip, placed, run_placed, bytes_placed}
use Rattle.task_run.proofs.GetLemmas.GetEnds.{whole_reading, stop_is}
use Rattle.task_run.proofs.GetLemmas.GetFronts.{Fore, ended_memory, ended_stopped}
use Rattle.task_run.proofs.GetLemmas.GetChunks.{whole_of, none_from, first_from}
use Rattle.task_run.proofs.GetLemmas.ChunkNumbers.{held_within, begins_within, from_is, held_most}
use Rattle.task_run.proofs.GetLemmas.GetParts.{OfPart, of_none, of_more, of_size, of_create, of_cut, of_read, sound_part, between_fore}
use Rattle.task_text.proofs.LayoutsLemmas.Joined.{reaches}
use Rattle.ann_key.proofs.Booleans.{false_is_true as apart}
use Rattle.ann_key.proofs.Lists.{same_name, all_more as list_all-append}
use Rattle.ann_key.proofs.Numbers.{same_number as nat_same}
use Rattle.task_model.proofs.Across.{bytes_more}

-- ---- what is wanted

-- the chunks that aren't held begin where the held ones end
keep_is : (key : Parts) (size chunk k : ℕ) → 0 < chunk → key.size ≡ Some size → k ≤ count_of size chunk → begin_of key (parts_from key size chunk k) ≡ to_of size chunk k
keep_is key size chunk k some s most = by_order (cases_lt k (count_of size chunk))
  where
    by_order : (k < count_of size chunk) ⊎ (count_of size chunk ≤ k) → begin_of key (parts_from key size chunk k) ≡ to_of size chunk k
    by_order (inl h) =
        let f = from_is chunk k in
        let w = begins_within size chunk k some h in
        ap (begin_of key) (first_from key size chunk k h) ∙ omega (arith, f, w)
    by_order (inr h) =
        let e : k ≡ count_of size chunk = omega (arith, h, most) in
        let r = reaches size chunk some in
        let n : unwrap_or key.size 0 ≡ size = ap (λ (o : Option ℕ). unwrap_or o 0) s in
        ap (λ j. begin_of key (parts_from key size chunk j)) e ∙ ap (begin_of key) (none_from key size chunk) ∙ rw e (omega (arith, n, r))

wanted_are : (key : Parts) (size chunk n : ℕ) → (chunk == 0) ≡ false → key.size ≡ Some size → parts_wanted key chunk n ≡ parts_from key size chunk (held_of size chunk n)
wanted_are key size chunk n c s =
    let z : unwrap_or key.size 0 ≡ size = ap (λ (o : Option ℕ). unwrap_or o 0) s in
    let k = held_most size chunk n in
    let l : length (parts_between key size chunk 0 (held_of size chunk n)) ≡ held_of size chunk n =
    length-map-range_with_len (chunk_part key size chunk) 1 (held_of size chunk n - 0) ∙ omega arith in
    let all : map (chunk_part key size chunk) (range_with_len 1 (count_of size chunk)) ≡ parts_between key size chunk 0 (held_of size chunk n) ++ parts_from key size chunk (held_of size chunk n) =
    let e : count_of size chunk ≡ count_of size chunk - 0 = omega arith in
    ap (λ m. map (chunk_part key size chunk) (range_with_len 1 m)) e ∙ sym (whole_of key size chunk 0 (held_of size chunk n) (omega arith) k) in
    ap (λ (b : Bool). if b then parts_of_layout key 0 else drop (held_of (unwrap_or key.size 0) chunk n) (parts_of_layout key chunk)) c
    ∙ ap (λ (m : ℕ). drop (held_of m chunk n) (layout key m chunk)) z
    ∙ ap (λ (b : Bool). drop (held_of size chunk n) (if b then record { key = key; from = 0; to = size } ∷ [] else map (chunk_part key size chunk) (range_with_len 1 (count_of size chunk)))) c
    ∙ ap (drop (held_of size chunk n)) all
    ∙ drop_at (parts_between key size chunk 0 (held_of size chunk n)) (parts_from key size chunk (held_of size chunk n)) (held_of size chunk n) l

-- ---- how the begin ends

-- the state after it
abbrev pub BeginEnd : Turn → ℕ → List Call → List Call → Checker → Checker → Result Begun NoMemory → Type 0
BeginEnd u size calls made before after (Ok (B.Held k)) =
    (reads : List (ℕ × List ℕ)) × Within u [] [] (parts_from u.place.key size u.chunk k) (calls ++ made) × Kept u [] [] (parts_from u.place.key size u.chunk k) (calls ++ made) reads []
    × Checks before after (bytes_of reads)
BeginEnd u size calls made before after (Ok (B.Over answer)) = Ended u.place u.past (calls ++ made) answer
BeginEnd u size calls made before after (Err e) = Ended u.place u.past (calls ++ made) A.Memory

abbrev BetweenAt : Turn → List Call → Type 0
BetweenAt u calls = Between u.place u.past u.done u.tried (u.chunk ∷ u.rest) calls

-- the calls so far: part was looked up, and has n bytes
record Looked (u : Turn) (calls seg : List Call) (n : ℕ) : Type 0 where
  pub of_part : OfPart u.place calls seg
  pub free : are_free u.place seg ≡ true
  pub found : filter_map (length_or_none (part_of u.place.file)) seg ≡ n ∷ []
  pub held : is_run 0 (held_reads u.place.file (calls ++ seg)) ≡ true

looked_fore : (u : Turn) (calls seg : List Call) (n : ℕ) → BetweenAt u calls → 1 ≤ length u.rest → Looked u calls seg n → Fore u.place u.past (calls ++ seg)
looked_fore u calls seg n b r l = between_fore u.place u.past u.done u.tried u.chunk u.rest calls seg (n ∷ []) b l.of_part l.found (omega arith) r l.held

looked_free : (u : Turn) (calls seg : List Call) (n : ℕ) → BetweenAt u calls → Looked u calls seg n → are_free u.place (calls ++ seg) ≡ true
looked_free u calls seg n b l = list_all-append _ calls seg b.free l.free

looked_memory : (u : Turn) (calls seg : List Call) (n : ℕ) → BetweenAt u calls → 1 ≤ length u.rest → Looked u calls seg n → Ended u.place u.past (calls ++ seg) A.Memory
looked_memory u calls seg n b r l = ended_memory u.place u.past (calls ++ seg) (looked_fore u calls seg n b r l) (looked_free u calls seg n b l)

-- and a call that stops it
looked_stopped : (u : Turn) (calls seg : List Call) (n : ℕ) (y : Call) (answer : Answer) → BetweenAt u calls → 1 ≤ length u.rest → Looked u calls seg n → OfPart u.place (calls ++ seg) (y ∷ [])
    → length_or_none (part_of u.place.file) y ≡ None → is_run 0 (held_reads u.place.file (calls ++ (seg ++ y ∷ []))) ≡ true → call_stop (part_of u.place.file) y ≡ Some answer
    → Ended u.place u.past (calls ++ (seg ++ y ∷ [])) answer
looked_stopped u calls seg n y answer b r l o none held stop =
    let P : List Call → Type 0 = λ x. Ended u.place u.past x answer in
    let Q : List Call → Type 0 = λ x. Fore u.place u.past x in
    let found : filter_map (length_or_none (part_of u.place.file)) (seg ++ y ∷ []) ≡ n ∷ [] =
    filter_map-append (length_or_none (part_of u.place.file)) seg (y ∷ []) ∙ rw (l.found, none) refl in
    subst P (append_assoc calls seg (y ∷ []))
    (ended_stopped u.place u.past (calls ++ seg) y answer
    (subst Q (sym (append_assoc calls seg (y ∷ []))) (between_fore u.place u.past u.done u.tried u.chunk u.rest calls (seg ++ y ∷ []) (n ∷ []) b (of_more u.place calls seg (y ∷ []) l.of_part o) found (omega arith) r held))
    (looked_free u calls seg n b l) stop)

-- ---- reading what is held

-- the calls after that which looked part up
since_size : (u : Turn) (calls more : List Call) (n : ℕ) → list_all (λ call. not (begins (part_of u.place.file) call)) more ≡ true
    → since_begin u.place.file (calls ++ Size (part_of u.place.file) (Ok n) ∷ more) ≡ more
since_size u calls more n h = after_last-at (begins (part_of u.place.file)) calls (Size (part_of u.place.file) (Ok n)) more h (same_name (part_of u.place.file))

reads_no_begin : (part : List ℕ) (at : ℕ) (pieces : List (List ℕ)) → list_all (λ call. not (begins part call)) (read_calls part at pieces) ≡ true
reads_no_begin part at [] = refl
reads_no_begin part at (piece ∷ pieces) = reads_no_begin part (at + length piece) pieces

reads_placed : (part : List ℕ) (at : ℕ) (pieces : List (List ℕ)) → reads_of part (read_calls part at pieces) ≡ placed at pieces
reads_placed part at [] = refl
reads_placed part at (piece ∷ pieces) = rw (same_name part) (ap (λ l. (at, piece) ∷ l) (reads_placed part (at + length piece) pieces))

reads_free : (p : Place) (at : ℕ) (pieces : List (List ℕ)) → are_free p (read_calls (part_of p.file) at pieces) ≡ true
reads_free p at [] = refl
reads_free p at (piece ∷ pieces) = reads_free p (at + length piece) pieces

reads_found : (part : List ℕ) (at : ℕ) (pieces : List (List ℕ)) → filter_map (length_or_none part) (read_calls part at pieces) ≡ []
reads_found part at [] = refl
reads_found part at (piece ∷ pieces) = reads_found part (at + length piece) pieces

reads_unwritten : (part : List ℕ) (at : ℕ) (pieces : List (List ℕ)) → filter_map (piece_of part) (read_calls part at pieces) ≡ []
reads_unwritten part at [] = refl
reads_unwritten part at (piece ∷ pieces) = reads_unwritten part (at + length piece) pieces

of_reads : (p : Place) (front : List Call) (at : ℕ) (pieces : List (List ℕ)) → is_known (part_of p.file) front ≡ true → OfPart p front (read_calls (part_of p.file) at pieces)
of_reads p front at [] k = of_none p front
of_reads p front at (piece ∷ pieces) k =
    of_more p front (ReadAt (part_of p.file) at (Ok piece) ∷ []) (read_calls (part_of p.file) (at + length piece) pieces) (of_read p front at (Ok piece) k)
    (of_reads p (front ++ ReadAt (part_of p.file) at (Ok piece) ∷ []) (at + length piece) pieces (known_skip (part_of p.file) front (ReadAt (part_of p.file) at (Ok piece)) refl k))

known_reads : (part : List ℕ) (front : List Call) (at : ℕ) (pieces : List (List ℕ)) → is_known part front ≡ true → is_known part (front ++ read_calls part at pieces) ≡ true
known_reads part front at [] k = rw (append-nil front) k
known_reads part front at (piece ∷ pieces) k =
    let P : List Call → Type 0 = λ l. is_known part l ≡ true in
    subst P (append_assoc front (ReadAt part at (Ok piece) ∷ []) (read_calls part (at + length piece) pieces))
    (known_reads part (front ++ ReadAt part at (Ok piece) ∷ []) (at + length piece) pieces (known_skip part front (ReadAt part at (Ok piece)) refl k))

-- part was looked up, and what it held was checked
opened : (u : Turn) (size : ℕ) (calls seg : List Call) (n : ℕ) (reads : List (ℕ × List ℕ)) → BetweenAt u calls → 1 ≤ length u.rest → Looked u calls seg n
    → 0 < u.chunk → (u.chunk == 0) ≡ false → u.place.key.size ≡ Some size
    → held_reads u.place.file (calls ++ seg) ≡ reads → is_known (part_of u.place.file) (calls ++ seg) ≡ true → appended (part_of u.place.file) (since_begin u.place.file (calls ++ seg)) ≡ []
    → is_reading 0 (keep_of size u.chunk n) reads ≡ true
    → ((before : List ℕ) → are_found_so (part_of u.place.file) (Some before) (calls ++ seg) ≡ true → holds (part_of u.place.file) (Some before) (calls ++ seg) ≡ Some (bytes_of reads))
    → Within u [] [] (parts_from u.place.key size u.chunk (held_of size u.chunk n)) (calls ++ seg) × Kept u [] [] (parts_from u.place.key size u.chunk (held_of size u.chunk n)) (calls ++ seg) reads []
opened u size calls seg n reads b r l some c s held known unwritten reading content = (
  record {
    tries = b.tries;
    all_done = refl;
    in_order = λ more next h.
        let e : first_in u + 0 ≡ first_in u = omega arith in
        let P : ℕ → Type 0 = λ k. AskInOrder (fetch_request u.place.setup u.place.turn) k more next in subst P e h;
    aligned = refl;
    wants = λ later.
        ap (λ (x : List ℕ). wanted u.place.key u.place.sizes (x ++ later)) lengths
        ∙ ap (wanted u.place.key u.place.sizes) (append_assoc (lengths_at_begin u.place.file calls) (n ∷ []) later)
        ∙ b.wants (n ∷ later)
        ∙ ap (λ (t : Bool). u.done ++ (if t then parts_wanted u.place.key 0 0 ∷ wanted u.place.key u.rest (n ∷ later) else parts_wanted u.place.key u.chunk n ∷ wanted u.place.key u.rest later)) c
        ∙ ap (λ (x : List Part). u.done ++ x ∷ wanted u.place.key u.rest later) (wanted_are u.place.key size u.chunk n c s);
    begun = omega (arith, count);
    begun_chunked = let z : length u.place.sizes ≡ length u.tried + length (u.chunk ∷ u.rest) = ap length b.tries.sizes_are ∙ length-append u.tried (u.chunk ∷ u.rest) in let e = b.tries.each_done in omega (arith, count, z, e, r);
    right = refl;
    read = refl;
    sound = let P : List Asking → Type 0 = λ x. Sound u.place x (calls ++ seg) in subst P (sym (append-nil u.past)) (sound_part u.place u.past calls seg b.sound l.of_part l.held);
    free = looked_free u calls seg n b l;
  },
  record {
    begun = count;
    known = known;
    held_are = held;
    held_whole = ap (λ k. is_reading 0 k reads) (keep_is u.place.key size u.chunk (held_of size u.chunk n) some s (held_most size u.chunk n)) ∙ reading;
    bytes_are = refl;
    moved = unwritten;
    content = λ before found. content before found ∙ ap Some (sym (append-nil (bytes_of reads)));
    whole = refl;
  },
)
  where
    lengths : lengths_at_begin u.place.file (calls ++ seg) ≡ lengths_at_begin u.place.file calls ++ n ∷ []
    lengths = filter_map-append (length_or_none (part_of u.place.file)) calls seg ∙ ap (λ x. lengths_at_begin u.place.file calls ++ x) l.found

    count : length (lengths_at_begin u.place.file (calls ++ seg)) ≡ length u.done + 1
    count = ap length lengths ∙ length-append (lengths_at_begin u.place.file calls) (n ∷ []) ∙ ap (λ k. k + 1) b.begun

looked_size : (u : Turn) (calls : List Call) (n : ℕ) → Looked u calls (Size (part_of u.place.file) (Ok n) ∷ []) n
looked_size u calls n = record {
  of_part = of_size u.place calls (Ok n);
  free = refl;
  found = rw (same_name (part_of u.place.file)) refl;
  held = ap (λ l. is_run 0 (reads_of (part_of u.place.file) l)) (since_size u calls [] n refl);
}

missed_held : (u : Turn) (calls : List Call) → is_run 0 (held_reads u.place.file (calls ++ Size (part_of u.place.file) (Err E.Missing) ∷ [])) ≡ true
missed_held u calls = ap (λ l. is_run 0 (reads_of (part_of u.place.file) l)) (after_last-at (begins (part_of u.place.file)) calls (Size (part_of u.place.file) (Err E.Missing)) [] refl (same_name (part_of u.place.file)))

looked_missed : (u : Turn) (calls : List Call) → Looked u calls (Size (part_of u.place.file) (Err E.Missing) ∷ []) 0
looked_missed u calls = record {
  of_part = of_size u.place calls (Err E.Missing);
  free = rw (same_name (part_of u.place.file)) refl;
  found = rw (same_name (part_of u.place.file)) refl;
  held = missed_held u calls;
}

-- after Create nothing was read
created_since : (u : Turn) (calls : List Call) (r : Outcome) → since_begin u.place.file (calls ++ Size (part_of u.place.file) (Err E.Missing) ∷ Create (part_of u.place.file) r ∷ []) ≡ []
created_since u calls r =
    let P : List Call → Type 0 = λ l. since_begin u.place.file l ≡ [] in
    subst P (append_assoc calls (Size (part_of u.place.file) (Err E.Missing) ∷ []) (Create (part_of u.place.file) r ∷ []))
    (after_last-at (begins (part_of u.place.file)) (calls ++ Size (part_of u.place.file) (Err E.Missing) ∷ []) (Create (part_of u.place.file) r) [] refl (same_name (part_of u.place.file)))

looked_made : (u : Turn) (calls : List Call) → Looked u calls (Size (part_of u.place.file) (Err E.Missing) ∷ Create (part_of u.place.file) (Ok tt) ∷ []) 0
looked_made u calls = record {
  of_part = of_more u.place calls (Size (part_of u.place.file) (Err E.Missing) ∷ []) (Create (part_of u.place.file) (Ok tt) ∷ []) (of_size u.place calls (Err E.Missing)) (of_create u.place (calls ++ Size (part_of u.place.file) (Err E.Missing) ∷ []) (Ok tt));
  free = rw (same_name (part_of u.place.file)) refl;
  found = rw (same_name (part_of u.place.file)) refl;
  held = ap (λ l. is_run 0 (reads_of (part_of u.place.file) l)) (created_since u calls (Ok tt));
}

abbrev resumed_calls : List ℕ → ℕ → ℕ → List (List ℕ) → List Call → List Call
resumed_calls part n keep pieces more = Size part (Ok n) ∷ Cut part keep (Ok tt) ∷ (read_calls part 0 pieces ++ more)

known_size : (u : Turn) (calls : List Call) (n : ℕ) → is_known (part_of u.place.file) (calls ++ Size (part_of u.place.file) (Ok n) ∷ []) ≡ true
known_size u calls n = known_add (part_of u.place.file) calls (Size (part_of u.place.file) (Ok n)) (rw (same_name (part_of u.place.file)) refl)

-- the front of a resumption
abbrev cut_front : List ℕ → ℕ → ℕ → List Call
cut_front part n keep = Size part (Ok n) ∷ Cut part keep (Ok tt) ∷ []

known_cut : (u : Turn) (calls : List Call) (n keep : ℕ) → is_known (part_of u.place.file) (calls ++ cut_front (part_of u.place.file) n keep) ≡ true
known_cut u calls n keep =
    let P : List Call → Type 0 = λ l. is_known (part_of u.place.file) l ≡ true in
    subst P (append_assoc calls (Size (part_of u.place.file) (Ok n) ∷ []) (Cut (part_of u.place.file) keep (Ok tt) ∷ []))
    (known_skip (part_of u.place.file) (calls ++ Size (part_of u.place.file) (Ok n) ∷ []) (Cut (part_of u.place.file) keep (Ok tt)) refl (known_size u calls n))

known_pieces : (u : Turn) (calls : List Call) (n keep : ℕ) (pieces : List (List ℕ)) → is_known (part_of u.place.file) ((calls ++ cut_front (part_of u.place.file) n keep) ++ read_calls (part_of u.place.file) 0 pieces) ≡ true
known_pieces u calls n keep pieces = known_reads (part_of u.place.file) (calls ++ cut_front (part_of u.place.file) n keep) 0 pieces (known_cut u calls n keep)

of_cut_front : (u : Turn) (calls : List Call) (n keep : ℕ) → OfPart u.place calls (cut_front (part_of u.place.file) n keep)
of_cut_front u calls n keep =
    of_more u.place calls (Size (part_of u.place.file) (Ok n) ∷ []) (Cut (part_of u.place.file) keep (Ok tt) ∷ []) (of_size u.place calls (Ok n))
    (of_cut u.place (calls ++ Size (part_of u.place.file) (Ok n) ∷ []) keep (Ok tt) (known_size u calls n))

-- what is after the pieces: nothing, or reads that go on from there
record Rest (u : Turn) (calls : List Call) (n keep : ℕ) (pieces : List (List ℕ)) (more : List Call) : Type 0 where
  pub of_part : OfPart u.place ((calls ++ cut_front (part_of u.place.file) n keep) ++ read_calls (part_of u.place.file) 0 pieces) more
  pub run : is_run (length (concat pieces)) (reads_of (part_of u.place.file) more) ≡ true
  pub no_begin : list_all (λ call. not (begins (part_of u.place.file) call)) more ≡ true
  pub no_length : filter_map (length_or_none (part_of u.place.file)) more ≡ []
  pub unwritten : filter_map (piece_of (part_of u.place.file)) more ≡ []

rest_none : (u : Turn) (calls : List Call) (n keep : ℕ) (pieces : List (List ℕ)) → Rest u calls n keep pieces []
rest_none u calls n keep pieces = record { of_part = of_none u.place _; run = refl; no_begin = refl; no_length = refl; unwritten = refl }

rest_read : (u : Turn) (calls : List Call) (n keep : ℕ) (pieces : List (List ℕ)) (r : Result (List ℕ) DeskError) → is_run (length (concat pieces)) (reads_of (part_of u.place.file) (ReadAt (part_of u.place.file) (length (concat pieces)) r ∷ [])) ≡ true
    → Rest u calls n keep pieces (ReadAt (part_of u.place.file) (length (concat pieces)) r ∷ [])
rest_read u calls n keep pieces r run = record { of_part = of_read u.place _ (length (concat pieces)) r (known_pieces u calls n keep pieces); run = run; no_begin = refl; no_length = refl; unwritten = refl }

rest_ending : (u : Turn) (calls : List Call) (n keep left : ℕ) (pieces : List (List ℕ)) (ending : List Call) → EndsWhole (part_of u.place.file) (length (concat pieces)) left ending → Rest u calls n keep pieces ending
rest_ending u calls n keep left pieces [] e = rest_none u calls n keep pieces
rest_ending u calls n keep left pieces (call ∷ []) e =
    rw e (rest_read u calls n keep pieces (Ok []) (rw (same_name (part_of u.place.file)) (rw (nat_same (length (concat pieces))) refl)))
rest_ending u calls n keep left pieces (call ∷ next ∷ more) e = absurd e

resumed_no_begin : (u : Turn) (calls : List Call) (n keep : ℕ) (pieces : List (List ℕ)) (more : List Call) → Rest u calls n keep pieces more
    → list_all (λ call. not (begins (part_of u.place.file) call)) (Cut (part_of u.place.file) keep (Ok tt) ∷ (read_calls (part_of u.place.file) 0 pieces ++ more)) ≡ true
resumed_no_begin u calls n keep pieces more r = list_all-append (λ call. not (begins (part_of u.place.file) call)) (read_calls (part_of u.place.file) 0 pieces) more (reads_no_begin (part_of u.place.file) 0 pieces) r.no_begin

resumed_reads : (u : Turn) (calls : List Call) (n keep : ℕ) (pieces : List (List ℕ)) (more : List Call) → Rest u calls n keep pieces more
    → held_reads u.place.file (calls ++ resumed_calls (part_of u.place.file) n keep pieces more) ≡ placed 0 pieces ++ reads_of (part_of u.place.file) more
resumed_reads u calls n keep pieces more r =
    ap (reads_of (part_of u.place.file)) (since_size u calls _ n (resumed_no_begin u calls n keep pieces more r))
    ∙ filter_map-append (read_of (part_of u.place.file)) (read_calls (part_of u.place.file) 0 pieces) more
    ∙ ap (λ l. l ++ reads_of (part_of u.place.file) more) (reads_placed (part_of u.place.file) 0 pieces)

resumed_run : (u : Turn) (calls : List Call) (n keep : ℕ) (pieces : List (List ℕ)) (more : List Call) → Rest u calls n keep pieces more
    → is_run 0 (held_reads u.place.file (calls ++ resumed_calls (part_of u.place.file) n keep pieces more)) ≡ true
resumed_run u calls n keep pieces more r = ap (is_run 0) (resumed_reads u calls n keep pieces more r) ∙ run_placed 0 pieces (reads_of (part_of u.place.file) more) (let e : 0 + length (concat pieces) ≡ length (concat pieces) = omega arith in rw e r.run)

resumed_of : (u : Turn) (calls : List Call) (n keep : ℕ) (pieces : List (List ℕ)) (more : List Call) → Rest u calls n keep pieces more → OfPart u.place calls (resumed_calls (part_of u.place.file) n keep pieces more)
resumed_of u calls n keep pieces more r =
    of_more u.place calls (cut_front (part_of u.place.file) n keep) (read_calls (part_of u.place.file) 0 pieces ++ more) (of_cut_front u calls n keep)
    (of_more u.place (calls ++ cut_front (part_of u.place.file) n keep) (read_calls (part_of u.place.file) 0 pieces) more
    (of_reads u.place (calls ++ cut_front (part_of u.place.file) n keep) 0 pieces (known_cut u calls n keep)) r.of_part)

looked_resumed : (u : Turn) (calls : List Call) (n keep : ℕ) (pieces : List (List ℕ)) (more : List Call) → Rest u calls n keep pieces more → are_free u.place more ≡ true
    → Looked u calls (resumed_calls (part_of u.place.file) n keep pieces more) n
looked_resumed u calls n keep pieces more r free = record {
  of_part = resumed_of u calls n keep pieces more r;
  free = list_all-append _ (read_calls (part_of u.place.file) 0 pieces) more (reads_free u.place 0 pieces) free;
  found =
      let none : filter_map (length_or_none (part_of u.place.file)) (read_calls (part_of u.place.file) 0 pieces ++ more) ≡ [] =
      filter_map-append (length_or_none (part_of u.place.file)) (read_calls (part_of u.place.file) 0 pieces) more ∙ rw (reads_found (part_of u.place.file) 0 pieces, r.no_length) refl in
      rw (same_name (part_of u.place.file)) (rw none refl);
  held = resumed_run u calls n keep pieces more r;
}

ending_free : (p : Place) (at left : ℕ) (ending : List Call) → EndsWhole (part_of p.file) at left ending → are_free p ending ≡ true
ending_free p at left [] e = refl
ending_free p at left (call ∷ []) e = rw e refl
ending_free p at left (call ∷ next ∷ more) e = absurd e

ending_bytes : (part : List ℕ) (at left : ℕ) (ending : List Call) → EndsWhole part at left ending → bytes_of (reads_of part ending) ≡ []
ending_bytes part at left [] e = refl
ending_bytes part at left (call ∷ []) e = rw e (rw (same_name part) refl)
ending_bytes part at left (call ∷ next ∷ more) e = absurd e

known_ending : (part : List ℕ) (front : List Call) (at left : ℕ) (ending : List Call) → EndsWhole part at left ending → is_known part front ≡ true → is_known part (front ++ ending) ≡ true
known_ending part front at left [] e k = rw (append-nil front) k
known_ending part front at left (call ∷ []) e k = rw e (known_skip part front (ReadAt part at (Ok [])) refl k)
known_ending part front at left (call ∷ next ∷ more) e k = absurd e

-- a call of part that is refused after what was resumed
unread_stopped : (u : Turn) (calls : List Call) (n keep : ℕ) (pieces : List (List ℕ)) (e : DeskError) → BetweenAt u calls → 1 ≤ length u.rest → (e ≡ E.NoMemory → ⊥)
    → Ended u.place u.past (calls ++ resumed_calls (part_of u.place.file) n keep pieces (ReadAt (part_of u.place.file) (length (concat pieces)) (Err e) ∷ [])) (answered (refusal e))
unread_stopped u calls n keep pieces e b r ne =
    let part : List ℕ = part_of u.place.file in
    let y : Call = ReadAt part (length (concat pieces)) (Err e) in
    let rest : Rest u calls n keep pieces (y ∷ []) = rest_read u calls n keep pieces (Err e) (rw (same_name part) refl) in
    let split : resumed_calls part n keep pieces (y ∷ []) ≡ resumed_calls part n keep pieces [] ++ y ∷ [] = ap (λ l. Size part (Ok n) ∷ Cut part keep (Ok tt) ∷ (l ++ y ∷ [])) (sym (append-nil (read_calls part 0 pieces))) in
    let whole : (calls ++ cut_front part n keep) ++ read_calls part 0 pieces ≡ calls ++ resumed_calls part n keep pieces [] =
    append_assoc calls (cut_front part n keep) (read_calls part 0 pieces) ∙ ap (λ l. calls ++ (Size part (Ok n) ∷ Cut part keep (Ok tt) ∷ l)) (sym (append-nil (read_calls part 0 pieces))) in
    let P : List Call → Type 0 = λ l. Ended u.place u.past (calls ++ l) (answered (refusal e)) in
    let Q : List Call → Type 0 = λ l. OfPart u.place l (y ∷ []) in
    let R : List Call → Type 0 = λ l. is_run 0 (held_reads u.place.file (calls ++ l)) ≡ true in
    subst P (sym split)
    (looked_stopped u calls (resumed_calls part n keep pieces []) n y (answered (refusal e)) b r (looked_resumed u calls n keep pieces [] (rest_none u calls n keep pieces) refl)
    (subst Q whole rest.of_part) refl (subst R split (resumed_run u calls n keep pieces (y ∷ []) rest)) (stop_is e ne))

-- ---- what part holds then

reads_looking : (part : List ℕ) (at : ℕ) (pieces : List (List ℕ)) → list_all is_looking (read_calls part at pieces) ≡ true
reads_looking part at [] = refl
reads_looking part at (piece ∷ pieces) = reads_looking part (at + length piece) pieces

ending_looking : (part : List ℕ) (at left : ℕ) (ending : List Call) → EndsWhole part at left ending → list_all is_looking ending ≡ true
ending_looking part at left [] e = refl
ending_looking part at left (call ∷ []) e = rw e refl
ending_looking part at left (call ∷ next ∷ more) e = absurd e

-- it was made
holds_made : (u : Turn) (calls : List Call) (before : List ℕ)
    → holds (part_of u.place.file) (Some before) (calls ++ Size (part_of u.place.file) (Err E.Missing) ∷ Create (part_of u.place.file) (Ok tt) ∷ []) ≡ Some []
holds_made u calls before =
    holds_more (part_of u.place.file) (Some before) calls (Size (part_of u.place.file) (Err E.Missing) ∷ Create (part_of u.place.file) (Ok tt) ∷ [])
    ∙ made (holds (part_of u.place.file) (Some before) calls)
  where
    made : (o : Option (List ℕ)) → (if bytes_eq (part_of u.place.file) (part_of u.place.file) then Some [] else o) ≡ Some []
    made o = rw (same_name (part_of u.place.file)) refl

-- it was cut, and what was left is what was read
holds_resumed : (u : Turn) (calls : List Call) (n keep : ℕ) (more : List Call) (reads : List (ℕ × List ℕ)) → BetweenAt u calls → list_all is_looking more ≡ true
    → reads_of (part_of u.place.file) more ≡ reads → is_reading 0 keep reads ≡ true
    → (before : List ℕ) → are_found_so (part_of u.place.file) (Some before) (calls ++ Size (part_of u.place.file) (Ok n) ∷ Cut (part_of u.place.file) keep (Ok tt) ∷ more) ≡ true
    → holds (part_of u.place.file) (Some before) (calls ++ Size (part_of u.place.file) (Ok n) ∷ Cut (part_of u.place.file) keep (Ok tt) ∷ more) ≡ Some (bytes_of reads)
holds_resumed u calls n keep more reads b looks are reading before found =
    holds_more part (Some before) calls seg ∙ by_held (holds part (Some before) calls) (b.sound.told before) (so_behind part (Some before) calls seg found)
  where
    part : List ℕ
    part = part_of u.place.file

    seg : List Call
    seg = Size part (Ok n) ∷ Cut part keep (Ok tt) ∷ more

    by_held : (o : Option (List ℕ)) → is_some o ≡ true → are_found_so part o seg ≡ true → holds part o seg ≡ Some (bytes_of reads)
    by_held None k f = apart k
    by_held (Some held) k f =
        holds_cut part held keep more looks (ap (is_reading 0 keep) are ∙ reading) (so_behind part (Some held) (Size part (Ok n) ∷ []) (Cut part keep (Ok tt) ∷ more) f)
        ∙ ap (λ l. Some (bytes_of l)) are

pub begin_end : (u : Turn) (size : ℕ) (calls : List Call) (before after : Checker) (how : Begin) → BetweenAt u calls → 1 ≤ length u.rest → 0 < u.chunk → (u.chunk == 0) ≡ false → u.place.key.size ≡ Some size
    → BeginIs (part_of u.place.file) size u.chunk before after how → BeginEnd u size calls (begin_calls (part_of u.place.file) size u.chunk how) before after (begin_result size u.chunk how)
begin_end u size calls before after (Unlooked E.NoMemory) b r some c s so =
    ended_memory u.place u.past (calls ++ []) (between_fore u.place u.past u.done u.tried u.chunk u.rest calls [] [] b (of_none u.place calls) refl (omega arith) (omega arith) (rw (append-nil calls) b.sound.held)) (rw (append-nil calls) b.free)
begin_end u size calls before after (Unlooked E.Failed) b r some c s so =
    ended_stopped u.place u.past calls (Size (part_of u.place.file) (Err E.Failed)) A.FileFault
    (between_fore u.place u.past u.done u.tried u.chunk u.rest calls (Size (part_of u.place.file) (Err E.Failed) ∷ []) [] b (of_size u.place calls (Err E.Failed)) (rw (same_name (part_of u.place.file)) refl) (omega arith) (omega arith)
    (ap (λ l. is_run 0 (reads_of (part_of u.place.file) l)) (after_last-at (begins (part_of u.place.file)) calls (Size (part_of u.place.file) (Err E.Failed)) [] refl (same_name (part_of u.place.file))))) b.free refl
begin_end u size calls before after (Unlooked E.Missing) b r some c s so = absurd (so refl)
begin_end u size calls before after (Unmade E.NoMemory) b r some c s so = looked_memory u calls _ 0 b r (looked_missed u calls)
begin_end u size calls before after (Unmade E.Failed) b r some c s so =
    looked_stopped u calls (Size (part_of u.place.file) (Err E.Missing) ∷ []) 0 (Create (part_of u.place.file) (Err E.Failed)) A.FileFault b r (looked_missed u calls) (of_create u.place _ (Err E.Failed)) refl
    (ap (λ l. is_run 0 (reads_of (part_of u.place.file) l)) (created_since u calls (Err E.Failed))) refl
begin_end u size calls before after (Unmade E.Missing) b r some c s so =
    looked_stopped u calls (Size (part_of u.place.file) (Err E.Missing) ∷ []) 0 (Create (part_of u.place.file) (Err E.Missing)) A.NoFile b r (looked_missed u calls) (of_create u.place _ (Err E.Missing)) refl
    (ap (λ l. is_run 0 (reads_of (part_of u.place.file) l)) (created_since u calls (Err E.Missing))) refl
begin_end u size calls before after Made b r some c s so =
    let part : List ℕ = part_of u.place.file in
    let o = opened u size calls (Size part (Err E.Missing) ∷ Create part (Ok tt) ∷ []) 0 [] b r (looked_made u calls) some c s
    (ap (reads_of part) (created_since u calls (Ok tt)))
    (let P : List Call → Type 0 = λ l. is_known part l ≡ true in subst P (append_assoc calls (Size part (Err E.Missing) ∷ []) (Create part (Ok tt) ∷ [])) (known_add part (calls ++ Size part (Err E.Missing) ∷ []) (Create part (Ok tt)) (rw (same_name part) refl)))
    (ap (appended part) (created_since u calls (Ok tt)))
    (let w = held_within size u.chunk 0 some in let e : keep_of size u.chunk 0 ≡ 0 = omega (arith, w) in ap (λ k. is_reading 0 k []) e)
    (λ before found. holds_made u calls before) in
    let P : Checker → Type 0 = λ k. Checks before k [] in
    ([], o.0, o.1, subst P (sym so) (checks_nothing before))
begin_end u size calls before after (Uncut n E.NoMemory) b r some c s so = looked_memory u calls _ n b r (looked_size u calls n)
begin_end u size calls before after (Uncut n E.Failed) b r some c s so =
    looked_stopped u calls (Size (part_of u.place.file) (Ok n) ∷ []) n (Cut (part_of u.place.file) (keep_of size u.chunk n) (Err E.Failed)) A.FileFault b r (looked_size u calls n) (of_cut u.place _ _ (Err E.Failed) (known_size u calls n)) refl
    (ap (λ l. is_run 0 (reads_of (part_of u.place.file) l)) (since_size u calls (Cut (part_of u.place.file) (keep_of size u.chunk n) (Err E.Failed) ∷ []) n refl)) refl
begin_end u size calls before after (Uncut n E.Missing) b r some c s so =
    looked_stopped u calls (Size (part_of u.place.file) (Ok n) ∷ []) n (Cut (part_of u.place.file) (keep_of size u.chunk n) (Err E.Missing)) A.NoFile b r (looked_size u calls n) (of_cut u.place _ _ (Err E.Missing) (known_size u calls n)) refl
    (ap (λ l. is_run 0 (reads_of (part_of u.place.file) l)) (since_size u calls (Cut (part_of u.place.file) (keep_of size u.chunk n) (Err E.Missing) ∷ []) n refl)) refl
begin_end u size calls before after (Unread n pieces E.NoMemory) b r some c s so =
    looked_memory u calls _ n b r (looked_resumed u calls n (keep_of size u.chunk n) pieces [] (rest_none u calls n (keep_of size u.chunk n) pieces) refl)
begin_end u size calls before after (Unread n pieces E.Failed) b r some c s so = unread_stopped u calls n (keep_of size u.chunk n) pieces E.Failed b r (λ e. cc)
begin_end u size calls before after (Unread n pieces E.Missing) b r some c s so = unread_stopped u calls n (keep_of size u.chunk n) pieces E.Missing b r (λ e. cc)
begin_end u size calls before after (Resumed n pieces ending) b r some c s so =
    let part : List ℕ = part_of u.place.file in
    let keep : ℕ = keep_of size u.chunk n in
    let rest : Rest u calls n keep pieces ending = rest_ending u calls n keep (keep - length (concat pieces)) pieces ending so.0 in
    let run : is_run 0 (placed 0 pieces ++ reads_of part ending) ≡ true = ap (is_run 0) (sym (resumed_reads u calls n keep pieces ending rest)) ∙ resumed_run u calls n keep pieces ending rest in
    let none : filter_map (piece_of part) (read_calls part 0 pieces ++ ending) ≡ [] = filter_map-append (piece_of part) (read_calls part 0 pieces) ending ∙ rw (reads_unwritten part 0 pieces, rest.unwritten) refl in
    let known : is_known part (calls ++ resumed_calls part n keep pieces ending) ≡ true =
    let e : calls ++ resumed_calls part n keep pieces ending ≡ ((calls ++ cut_front part n keep) ++ read_calls part 0 pieces) ++ ending =
    sym (append_assoc calls (cut_front part n keep) (read_calls part 0 pieces ++ ending)) ∙ sym (append_assoc (calls ++ cut_front part n keep) (read_calls part 0 pieces) ending) in
    ap (is_known part) e ∙ known_ending part ((calls ++ cut_front part n keep) ++ read_calls part 0 pieces) (length (concat pieces)) (keep - length (concat pieces)) ending so.0 (known_pieces u calls n keep pieces) in
    let o = opened u size calls (resumed_calls part n keep pieces ending) n (placed 0 pieces ++ reads_of part ending) b r
    (looked_resumed u calls n keep pieces ending rest (ending_free u.place (length (concat pieces)) (keep - length (concat pieces)) ending so.0)) some c s
    (resumed_reads u calls n keep pieces ending rest) known
    (ap (appended part) (since_size u calls _ n (resumed_no_begin u calls n keep pieces ending rest)) ∙ ap concat none)
    (whole_reading part keep pieces ending so.0 so.1 run)
    (holds_resumed u calls n keep (read_calls part 0 pieces ++ ending) (placed 0 pieces ++ reads_of part ending) b
    (list_all-append is_looking (read_calls part 0 pieces) ending (reads_looking part 0 pieces) (ending_looking part (length (concat pieces)) (keep - length (concat pieces)) ending so.0))
    (filter_map-append (read_of part) (read_calls part 0 pieces) ending ∙ ap (λ l. l ++ reads_of part ending) (reads_placed part 0 pieces))
    (whole_reading part keep pieces ending so.0 so.1 run)) in
    let bytes : concat pieces ≡ bytes_of (placed 0 pieces ++ reads_of part ending) =
    sym (bytes_more (placed 0 pieces) (reads_of part ending) ∙ ap (λ l. bytes_of (placed 0 pieces) ++ l) (ending_bytes part (length (concat pieces)) (keep - length (concat pieces)) ending so.0) ∙ append-nil (bytes_of (placed 0 pieces)) ∙ bytes_placed 0 pieces) in
    let P : List ℕ → Type 0 = λ l. Checks before after l in
    (placed 0 pieces ++ reads_of part ending, o.0, o.1, subst P bytes so.2)
