-- A get keeps the content that one run of a task stored in chunks.
use Rattle.std.proofs.Common.{◌≡◌, ◌∙◌, ◌⊎◌, inl, inr, ℕ, zero, suc, ◌+◌, ◌==◌, Bool, true, false, not, List, [], ◌∷◌, ◌++◌, length, take, drop, reverse, refl, sym, ap, subst, arith, ◌<◌}
use Rattle.std.specs.Prelude.{◌≢◌, ◌&&◌, cond, if◌then◌else◌, All, Option, Some, None, is_some, option_map, option_and_then, map, unwrap_or}
use Rattle.std.specs.List.{cons_option, concat, slice_range, range_with_len}
use Rattle.std.specs.Option.{option_or}
use Rattle.std.proofs.lemmas.Bool.{and_parts, eq-eqb}
use Rattle.std.proofs.lemmas.List.{take-append-drop, length-map}
use Rattle.std.proofs.lemmas.Slice.Eq.{bytes_eq-Decides}
use Rattle.ann_key.specs.Keys.{Parts, key_reading, with_chunk}
use Rattle.ann_digest.specs.Fits.{FitsKey}
use Rattle.ann_outside.specs.Files.{content as held_in}
use Rattle.annex_model.specs.Messages.{HostMessage, Transfer, host_reading}
use Rattle.task_text.specs.Layouts.Layouts.{Part, chunk_part, count_of, from_of, to_of}
use Rattle.task_text.proofs.LayoutsLemmas.Joined.{ranges_are_the_whole}
use Rattle.journal_model.specs.declared.verdict.Verdict.{Verdict}
use Rattle.journal_model.specs.declared.entry.What.{What}
use Rattle.journal_model.specs.declared.entry.What.TheVariants.{Ask}
use Rattle.journal_model.specs.declared.entry.Entry.{Entry}
use Rattle.journal_model.specs.declared.opening.Opening.{Opening}
use Rattle.journal_model.specs.Journal.{verdict_of, addressed}
use Rattle.journal_model.specs.Legality.{Legal, task_of, is_done, turn_of_task}
use Rattle.journal_model.proofs.Looks.{verdict_of-append}
use Rattle.task_text.specs.declared.task.Task.{Task}
use Rattle.task_model.specs.Askers.{Asking}
use Rattle.task_model.specs.declared.setup.Setup.{Setup}
use Rattle.task_model.specs.declared.turn.TaskTurn.{TaskTurn}
use Rattle.task_model.specs.Askings.{past_claim, asking_of, askings_from, name_before, run_askings, run_notings}
use Rattle.task_model.specs.Requests.{AsksFor, AskInOrder}
use Rattle.task_model.specs.Layouts.{parts_of_layout}
use Rattle.task_model.specs.Reads.{holds}
use Rattle.task_model.specs.Gets.{asked_last, first_asked}
use Rattle.task_model.specs.Runs.{is_chunked}
use Rattle.task_model.specs.RunLaws.{sizes_got}
use Rattle.run_starts.specs.TaskLaws.Changes.{Request, request_in, requests, requests_from, changes_key, is_storing, last_change, is_done_by, Retrieves}
use Rattle.run_starts.specs.TaskLaws.Faithful.{Told, file_named, is_chunking, sent, IsStoredFor, AreStoredFor}
use Rattle.run_starts.specs.TaskLaws.Kept.{chunk_last, fetch_of, Keeps}
use Rattle.run_starts.specs.TaskLaws.Retrieval.{StoredInChunks, KeepsStoredContent}
use Rattle.run_starts.specs.TaskLaws.Sent.{IsRangeSent}
use Rattle.run_starts.proofs.TaskLawsLemmas.Members.{IsIn, is_in, in_option}
use Rattle.run_starts.proofs.TaskLawsLemmas.WithinRuns.{within_run, in_reversed, found_in, in_front}
use Rattle.run_starts.proofs.TaskLawsLemmas.Sending.{chunk_ranges, store_asks, content_long}
use Rattle.task_model.specs.Stores.{ChunkStoreAsks}
use Rattle.run_starts.proofs.TaskLawsLemmas.Keeping.{some_part}
use Rattle.run_starts.proofs.TaskLawsLemmas.Retrieving.{keeps_stored, ran_in}
use Rattle.ann_key.proofs.Booleans.{false_is_true as apart}
use Rattle.ann_key.proofs.Lists.{found_so as found_passes}

-- ---- what stored a key

-- a STORE of this key into some file, done before
record IsStore (journal : List Entry) (key : List ℕ) (s : Request) : Type 0 where
  file : List ℕ
  asks : s.asks ≡ Transfer true key file
  verdict : Verdict
  settled : verdict_of journal s.child s.job ≡ Some verdict
  there : IsIn s (requests journal)

storing_is : (key : List ℕ) (q : HostMessage) → is_storing q ≡ true → changes_key key q ≡ true → (file : List ℕ) × (q ≡ Transfer true key file)
storing_is key (Transfer true k file) s c = (file, ap (λ (x : List ℕ). Transfer true x file) ((bytes_eq-Decides k key).0 c))
storing_is key q s c = apart s

later_verdict : (journal : List Entry) (place c j : ℕ) → is_done (verdict_of (take place journal) c j) ≡ true → (v : Verdict) × (verdict_of journal c j ≡ Some v)
later_verdict journal place c j h = by_front (verdict_of (take place journal) c j) refl h
  where
    by_front : (o : Option Verdict) → verdict_of (take place journal) c j ≡ o → is_done o ≡ true → (v : Verdict) × (verdict_of journal c j ≡ Some v)
    by_front None e d = apart d
    by_front (Some v) e d =
        let split : verdict_of journal c j ≡ option_or (verdict_of (take place journal) c j) (verdict_of (drop place journal) c j) =
        ap (λ (x : List Entry). verdict_of x c j) (sym (take-append-drop place journal)) ∙ verdict_of-append c j (take place journal) (drop place journal) in
        (v, split ∙ ap (λ (o : Option Verdict). option_or o (verdict_of (drop place journal) c j)) e)

store_of : (journal : List Entry) (r s : Request) (key file : List ℕ) → Retrieves journal r s key file → IsStore journal key s
store_of journal r s key file got = by_change (last_change journal key got.answered) refl got.stored
  where
    by_change : (o : Option Request) → last_change journal key got.answered ≡ o
        → option_and_then (λ (x : Request). if is_storing x.asks && is_done_by journal r.at x then Some x else None) o ≡ Some s → IsStore journal key s
    by_change None e f = absurd (let k : None ≡ Some s = f in cc)
    by_change (Some x) e f = by_test (is_storing x.asks && is_done_by journal r.at x) refl f
      where
        by_test : (b : Bool) → (is_storing x.asks && is_done_by journal r.at x) ≡ b → cond b (Some x) None ≡ Some s → IsStore journal key s
        by_test false t f = absurd (let k : None ≡ Some s = f in cc)
        by_test true t f =
            let k : Some x ≡ Some s = f in
            let is : x ≡ s = cc in
            let both = and_parts (is_storing x.asks) (is_done_by journal r.at x) t in
            let named = storing_is key x.asks both.0 (found_passes (λ (y : Request). changes_key key y.asks) (reverse (requests (take got.answered journal))) x e) in
            let later = later_verdict journal r.at x.child x.job both.1 in
            let P : Request → Type 0 = λ y. IsStore journal key y in
            let found : IsIn x (requests journal) = in_front journal got.answered x (in_reversed x (requests (take got.answered journal)) (found_in (λ (y : Request). changes_key key y.asks) (reverse (requests (take got.answered journal))) x e)) in
            subst P is (record { file = named.0; asks = named.1; verdict = later.0; settled = later.1; there = found })

-- ---- a request within a run is one of its askings

-- the request, with this verdict, is one of these, whatever name was said before it
abbrev IsAmong : HostMessage → Verdict → List Asking → Type 0
IsAmong q v asked = (name : Option (List ℕ)) × IsIn (record { request = Some q; name = name; verdict = v }) asked

among : (journal : List Entry) (u : ℕ) (past entries : List Entry) (s : Request) (v : Verdict) → IsIn s (requests_from past entries) → s.turn.task ≡ u → verdict_of journal s.child s.job ≡ Some v
    → IsAmong s.asks v (askings_from journal u past entries)
among journal u past [] s v h t e = absurd h
among journal u past (entry ∷ rest) s v h t e = by_what entry.what h (λ k. among journal u (past ++ entry ∷ []) rest s v k t e)
  where
    later : (w : What) → IsAmong s.asks v (askings_from journal u (past ++ entry ∷ []) rest)
        → IsAmong s.asks v (cons_option (asking_of journal u past w) (askings_from journal u (past ++ entry ∷ []) rest))
    later w m = (m.0, in_option (record { request = Some s.asks; name = m.0; verdict = v }) (asking_of journal u past w) (askings_from journal u (past ++ entry ∷ []) rest) m.1)

    by_what : (w : What) → IsIn s (cons_option (request_in past w) (requests_from (past ++ entry ∷ []) rest))
        → (IsIn s (requests_from (past ++ entry ∷ []) rest) → IsAmong s.asks v (askings_from journal u (past ++ entry ∷ []) rest))
        → IsAmong s.asks v (cons_option (asking_of journal u past w) (askings_from journal u (past ++ entry ∷ []) rest))
    by_what (Ask child job task line) k more = by_reading (host_reading (addressed past child line).1) refl k
      where
        by_reading : (o : Option HostMessage) → host_reading (addressed past child line).1 ≡ o
            → IsIn s (cons_option (option_map (λ q. record { at = length past; child = child; job = job; turn = record { task = task; turn = turn_of_task past task }; asks = q }) o) (requests_from (past ++ entry ∷ []) rest))
            → IsAmong s.asks v (cons_option (asking_of journal u past (Ask child job task line)) (askings_from journal u (past ++ entry ∷ []) rest))
        by_reading None r k = later (Ask child job task line) (more k)
        by_reading (Some q) r (inr k) = later (Ask child job task line) (more k)
        by_reading (Some q) r (inl is) =
            let of_task : (task == u) ≡ true = same task (ap (λ (x : Request). x.turn.task) is ∙ t) in
            let settled : verdict_of journal child job ≡ Some v = ap (λ (x : Request). verdict_of journal x.child x.job) is ∙ e in
            let asks : host_reading (addressed past child line).1 ≡ Some s.asks = r ∙ ap (λ (x : Request). Some x.asks) is in
            let one : asking_of journal u past (Ask child job task line) ≡ Some (record { request = Some s.asks; name = name_before past child job; verdict = v }) =
            ap (λ (b : Bool). if b then option_map (λ w. record { request = host_reading (addressed past child line).1; name = name_before past child job; verdict = w }) (verdict_of journal child job) else None) of_task
            ∙ ap (λ (o : Option Verdict). option_map (λ w. record { request = host_reading (addressed past child line).1; name = name_before past child job; verdict = w }) o) settled
            ∙ ap (λ (o : Option HostMessage). Some (record { request = o; name = name_before past child job; verdict = v })) asks in
            let P : Option Asking → Type 0 = λ o. IsIn (record { request = Some s.asks; name = name_before past child job; verdict = v }) (cons_option o (askings_from journal u (past ++ entry ∷ []) rest)) in
            (name_before past child job, subst P (sym one) (inl refl))
          where
            same : (n : ℕ) → n ≡ u → (n == u) ≡ true
            same n e = rw e (eq-eqb u u refl)
    by_what w k more = later w (more k)

-- ---- one key has one range

in_layout : (k : Parts) (size chunk from count : ℕ) (p : Part) → IsIn p (map (chunk_part k size chunk) (range_with_len from count)) → (n : ℕ) × (p ≡ chunk_part k size chunk n)
in_layout k size chunk from zero p h = absurd h
in_layout k size chunk from (suc count) p (inl e) = (from, sym e)
in_layout k size chunk from (suc count) p (inr h) = in_layout k size chunk (from + 1) count p h

-- a part is that of the whole content, or of a chunk
record IsChunkOf (k : Parts) (chunk : ℕ) (p : Part) : Type 0 where
  number : ℕ
  is : p ≡ chunk_part k (unwrap_or k.size 0) chunk number

part_is : (k : Parts) (chunk : ℕ) (p : Part) → IsIn p (parts_of_layout k chunk) → ((chunk == 0 ≡ true) × (p.key ≡ k)) ⊎ IsChunkOf k chunk p
part_is k chunk p h = by_test (chunk == 0) refl h
  where
    whole : Part
    whole = record { key = k; from = 0; to = unwrap_or k.size 0 }

    by_test : (b : Bool) → (chunk == 0) ≡ b → IsIn p (cond b (record { key = k; from = 0; to = unwrap_or k.size 0 } ∷ []) (map (chunk_part k (unwrap_or k.size 0) chunk) (range_with_len 1 (count_of (unwrap_or k.size 0) chunk))))
        → ((chunk == 0 ≡ true) × (p.key ≡ k)) ⊎ IsChunkOf k chunk p
    by_test true e (inl is) = inl (e, ap (λ (x : Part). x.key) (sym is))
    by_test true e (inr h) = absurd h
    by_test false e h = let n = in_layout k (unwrap_or k.size 0) chunk 1 (count_of (unwrap_or k.size 0) chunk) p h in inr (record { number = n.0; is = n.1 })

record SameRange (k l : Parts) (p q : Part) : Type 0 where
  from : p.from ≡ q.from
  to : p.to ≡ q.to
  size : k.size ≡ l.size

same_range : (k l : Parts) (c d : ℕ) (p q : Part) → k.chunk ≡ None → (d == 0) ≡ false → IsIn p (parts_of_layout k c) → IsIn q (parts_of_layout l d) → p.key ≡ q.key → SameRange k l p q
same_range k l c d p q base some hp hq e = by_q (part_is l d q hq)
  where
    by_p : (y : IsChunkOf l d q) → ((c == 0 ≡ true) × (p.key ≡ k)) ⊎ IsChunkOf k c p → SameRange k l p q
    by_p y (inl x) =
        let keys : k ≡ with_chunk d y.number l = sym x.1 ∙ e ∙ ap (λ (z : Part). z.key) y.is in
        let no : None ≡ Some (d, y.number) = sym base ∙ ap (λ (z : Parts). z.chunk) keys in
        absurd cc
    by_p y (inr x) =
        let keys : with_chunk c x.number k ≡ with_chunk d y.number l = ap (λ (z : Part). z.key) (sym x.is) ∙ e ∙ ap (λ (z : Part). z.key) y.is in
        let sizes : k.size ≡ l.size = ap (λ (z : Parts). z.size) keys in
        let chunks : Some (c, x.number) ≡ Some (d, y.number) = ap (λ (z : Parts). z.chunk) keys in
        let chunk : c ≡ d = ap (λ (o : Option (ℕ × ℕ)). (unwrap_or o (0, 0)).0) chunks in
        let number : x.number ≡ y.number = ap (λ (o : Option (ℕ × ℕ)). (unwrap_or o (0, 0)).1) chunks in
        record {
          from = ap (λ (z : Part). z.from) x.is ∙ ap (λ (m : ℕ). from_of m x.number) chunk ∙ ap (from_of d) number ∙ ap (λ (z : Part). z.from) (sym y.is);
          to =
              ap (λ (z : Part). z.to) x.is ∙ ap (λ (o : Option ℕ). to_of (unwrap_or o 0) c x.number) sizes ∙ ap (λ (m : ℕ). to_of (unwrap_or l.size 0) m x.number) chunk
              ∙ ap (to_of (unwrap_or l.size 0) d) number ∙ ap (λ (z : Part). z.to) (sym y.is);
          size = sizes;
        }

    by_q : ((d == 0 ≡ true) × (q.key ≡ l)) ⊎ IsChunkOf l d q → SameRange k l p q
    by_q (inl y) = apart (sym some ∙ y.0)
    by_q (inr y) = by_p y (part_is k c p hp)

-- ---- one store

-- tasks are numbered from 1
pub task_above : (o : Opening) (u : ℕ) (task : Task) → task_of o u ≡ Some task → 0 < u
task_above o zero task e = absurd (let k : None ≡ Some task = e in cc)
task_above o (suc u) task e = omega arith

chunk_set : (setup : Setup) (k : Parts) → is_chunked setup k ≡ true → (setup.chunk == 0) ≡ false
chunk_set setup k h = by_test (setup.chunk == 0) (and_parts (not (setup.chunk == 0)) (is_some k.size) h).0
  where
    by_test : (b : Bool) → not b ≡ true → b ≡ false
    by_test true e = apart e
    by_test false e = refl

-- what a store of the task sent, and that it asked something
record RangeIs (o : Opening) (setup : Setup) (told : Told) (k l : Parts) (content : List ℕ) (s : Request) (p : Part) (asked : List Asking) : Type 0 where
  bytes : sent o setup told s ≡ slice_range content p.from p.to
  size : k.size ≡ l.size
  some : asked ≢ []

some_in : {X : Type 0} (x : X) (xs : List X) → IsIn x xs → xs ≢ []
some_in {X} x xs h e = let P : List X → Type 0 = λ ys. IsIn x ys in subst P e h

range_is : (ask : ℕ → List ℕ → HostMessage) (o : Opening) (setup : Setup) (told : Told) (journal : List Entry) (t u : TaskTurn) (n chunk : ℕ) (key : Parts) (content : List ℕ) (stores : List Request) (one : StoredInChunks o setup told journal u content stores)
    (p : Part) (a : Asking) (s : Request) → key.chunk ≡ None → IsIn p (parts_of_layout key chunk) → AsksFor ask n p.key a → IsStoredFor journal t a.request s
    → s.turn ≡ u → Legal o journal → RangeIs o setup told key one.key content s p (run_askings one.run.run)
range_is ask o setup told journal t u n chunk key content stores one p a s base place asks stored of_task legal = by_request a.request asks stored
  where
    store_run : ChunkStoreAsks setup u one.key one.run.task.file (run_askings one.run.run) (told.calls u) (run_notings one.run.run)
    store_run = store_asks one.run.task u setup one.run.layouts (run_askings one.run.run) (told.calls u) (run_notings one.run.run) one.run.run.answer one.key one.keyed one.work one.chunked (ran_in o setup (told.calls u) one.number u journal one.run)

    chunking : is_chunking setup (task_of o s.turn.task) ≡ true
    chunking =
        let keyed : key_reading one.run.task.key ≡ Some one.key = one.keyed in
        let of : is_chunking setup (Some one.run.task) ≡ true = rw keyed one.chunked in
        ap (λ (m : TaskTurn). is_chunking setup (task_of o m.task)) of_task ∙ ap (is_chunking setup) one.run.is ∙ of

    by_request : (request : Option HostMessage) → AsksFor ask n p.key (record { request = request; name = a.name; verdict = a.verdict }) → IsStoredFor journal t request s
        → RangeIs o setup told key one.key content s p (run_askings one.run.run)
    by_request (Some (Transfer false text file)) q (r, of_t, got) =
        let store : IsStore journal text s = store_of journal r s text file got in
        let found : IsAmong s.asks store.verdict (run_askings one.run.run) =
        among journal u.task (past_claim one.run.run) one.run.run.within s store.verdict
        (within_run o journal u.task one.run.run s (task_above o u.task one.run.task one.run.is) legal store.there (ap (λ (m : TaskTurn). m.task) of_task) (ap (λ (m : TaskTurn). m.turn) of_task ∙ sym one.run.turn))
        (ap (λ (m : TaskTurn). m.task) of_task) store.settled in
        let asking : Asking = record { request = Some s.asks; name = found.0; verdict = store.verdict } in
        let range : IsRangeSent setup one.key content (told.calls u) text store.file =
        chunk_ranges setup u one.key one.run.task.file content (run_askings one.run.run) (told.calls u) (run_notings one.run.run) asking text store.file store_run one.shows found.1
        (ap (λ (x : HostMessage). Some x) store.asks) in
        let keys : Some p.key ≡ Some range.part.key = sym q.1 ∙ range.keyed in
        let same : SameRange key one.key p range.part =
        same_range key one.key chunk setup.chunk p range.part base (chunk_set setup one.key one.chunked) place (is_in range.part (parts_of_layout one.key setup.chunk) range.there)
        (ap (λ (x : Option Parts). (unwrap_or x p.key)) keys) in
        record {
          bytes =
              ap (λ (b : Bool). if b then unwrap_or (holds (file_named s.asks) None (told.calls s.turn)) [] else unwrap_or (held_in (file_named s.asks) (told.before s.turn)) []) chunking
              ∙ ap (λ (m : TaskTurn). unwrap_or (holds (file_named s.asks) None (told.calls m)) []) of_task
              ∙ ap (λ (x : HostMessage). unwrap_or (holds (file_named x) None (told.calls u)) []) store.asks
              ∙ ap (λ (o : Option (List ℕ)). unwrap_or o []) range.bytes
              ∙ ap (λ (m : ℕ). slice_range content m range.part.to) (sym same.from)
              ∙ ap (λ (m : ℕ). slice_range content p.from m) (sym same.to);
          size = same.size;
          some = some_in asking (run_askings one.run.run) found.1;
        }
    by_request request q got = absurd got

-- ---- all of them

-- the content's ranges, one by one, and what is so where there is one
record RangesAre (o : Opening) (setup : Setup) (told : Told) (k l : Parts) (content : List ℕ) (stores : List Request) (parts : List Part) (asked : List Asking) : Type 0 where
  bytes : map (sent o setup told) stores ≡ map (λ (part : Part). slice_range content part.from part.to) parts
  size : parts ≢ [] → k.size ≡ l.size
  some : parts ≢ [] → asked ≢ []

ranges_are : (ask : ℕ → List ℕ → HostMessage) (o : Opening) (setup : Setup) (told : Told) (journal : List Entry) (t u : TaskTurn) (n chunk : ℕ) (key : Parts) (content : List ℕ) (all : List Request) (one : StoredInChunks o setup told journal u content all)
    (parts : List Part) (asked : List Asking) (stores : List Request) → key.chunk ≡ None → ((p : Part) → IsIn p parts → IsIn p (parts_of_layout key chunk))
    → AskInOrder ask n (map (λ (p : Part). p.key) parts) asked → length asked ≡ length parts → AreStoredFor journal t asked stores → ((s : Request) → IsIn s stores → s.turn ≡ u) → Legal o journal
    → RangesAre o setup told key one.key content stores parts (run_askings one.run.run)
ranges_are ask o setup told journal t u n chunk key content all one [] [] [] base place asks long stored known legal =
    record { bytes = refl; size = λ some. absurd (some refl); some = λ some. absurd (some refl) }
ranges_are ask o setup told journal t u n chunk key content all one [] [] (s ∷ stores) base place asks long stored known legal = absurd stored
ranges_are ask o setup told journal t u n chunk key content all one [] (a ∷ more) stores base place asks long stored known legal = absurd asks
ranges_are ask o setup told journal t u n chunk key content all one (p ∷ parts) [] stores base place asks long stored known legal = absurd (omega arith)
ranges_are ask o setup told journal t u n chunk key content all one (p ∷ parts) (a ∷ more) [] base place asks long stored known legal = absurd stored
ranges_are ask o setup told journal t u n chunk key content all one (p ∷ parts) (a ∷ more) (s ∷ stores) base place asks long stored known legal =
    let here : RangeIs o setup told key one.key content s p (run_askings one.run.run) =
    range_is ask o setup told journal t u n chunk key content all one p a s base (place p (inl refl)) asks.0 stored.0 (known s (inl refl)) legal in
    let count : length more ≡ length parts = omega arith in
    let rest : RangesAre o setup told key one.key content stores parts (run_askings one.run.run) =
    ranges_are ask o setup told journal t u (n + 1) chunk key content all one parts more stores base (λ q h. place q (inr h)) asks.1 count stored.1 (λ x h. known x (inr h)) legal in
    record {
      bytes = ap (λ (x : List ℕ). x ∷ map (sent o setup told) stores) here.bytes ∙ ap (λ (xs : List (List ℕ)). slice_range content p.from p.to ∷ xs) rest.bytes;
      size = λ some. here.size;
      some = λ some. here.some;
    }

each_in : {X : Type 0} (P : X → Type 0) (xs : List X) → All P xs → (x : X) → IsIn x xs → P x
each_in P [] all x h = absurd h
each_in P (y ∷ ys) all x (inl e) = subst P e (all 0 y (omega arith))
each_in P (y ∷ ys) all x (inr h) = each_in P ys (λ k d below. all (suc k) d (omega arith)) x h

pub keeps_stored_content : KeepsStoredContent
keeps_stored_content o setup told journal number t u key content stores legal faithful got base one = record {
  appended_are = kept.appended_are ∙ whole;
  checked_are = kept.checked_are ∙ whole;
  holds_all = λ before found. kept.holds_all before found ∙ ap Some whole;
  fits = let P : List ℕ → Type 0 = λ x. FitsKey key x in subst P whole kept.fits;
  renamed = kept.renamed;
}
  where
    kept : Keeps got.run.task.work setup t key (sizes_got got.run.task.work key got.run.layouts) got.run.task.file (run_askings got.run.run) (told.calls t) (map (sent o setup told) stores)
    kept = keeps_stored o setup told journal number t key stores faithful got

    chunk : ℕ
    chunk = chunk_last (sizes_got got.run.task.work key got.run.layouts) (run_askings got.run.run)

    long : length (asked_last (run_askings got.run.run)) ≡ length (parts_of_layout key (chunk_last (sizes_got got.run.task.work key got.run.layouts) (run_askings got.run.run)))
    long = kept.all ∙ length-map (parts_of_layout key (chunk_last (sizes_got got.run.task.work key got.run.layouts) (run_askings got.run.run))) (λ (part : Part). part.key)

    ranges : RangesAre o setup told key one.key content stores (parts_of_layout key (chunk_last (sizes_got got.run.task.work key got.run.layouts) (run_askings got.run.run))) (run_askings one.run.run)
    ranges =
        ranges_are (fetch_of got.run.task.work setup t) o setup told journal t u (first_asked (run_askings got.run.run)) (chunk_last (sizes_got got.run.task.work key got.run.layouts) (run_askings got.run.run)) key content stores one
        (parts_of_layout key (chunk_last (sizes_got got.run.task.work key got.run.layouts) (run_askings got.run.run))) (asked_last (run_askings got.run.run)) stores base (λ p h. h) kept.in_order long got.stored
        (each_in (λ (s : Request). s.turn ≡ u) stores one.of_run) legal

    some : parts_of_layout key (chunk_last (sizes_got got.run.task.work key got.run.layouts) (run_askings got.run.run)) ≢ []
    some = some_part key (unwrap_or key.size 0) (chunk_last (sizes_got got.run.task.work key got.run.layouts) (run_askings got.run.run))

    content_is : length content ≡ unwrap_or key.size 0
    content_is = by_size one.key.size refl (and_parts (not (setup.chunk == 0)) (is_some one.key.size) one.chunked).1
      where
        by_size : (x : Option ℕ) → one.key.size ≡ x → is_some x ≡ true → length content ≡ unwrap_or key.size 0
        by_size None e h = apart h
        by_size (Some size) e h =
            content_long setup u size one.key one.run.task.file content (run_askings one.run.run) (told.calls u) (run_notings one.run.run) e
            (store_asks one.run.task u setup one.run.layouts (run_askings one.run.run) (told.calls u) (run_notings one.run.run) one.run.run.answer one.key one.keyed one.work one.chunked (ran_in o setup (told.calls u) one.number u journal one.run))
            one.shows (ranges.some some)
            ∙ ap (λ (y : Option ℕ). unwrap_or y 0) (sym (ranges.size some ∙ e))

    whole : concat (map (sent o setup told) stores) ≡ content
    whole = ap concat ranges.bytes ∙ ranges_are_the_whole key (unwrap_or key.size 0) (chunk_last (sizes_got got.run.task.work key got.run.layouts) (run_askings got.run.run)) content content_is
