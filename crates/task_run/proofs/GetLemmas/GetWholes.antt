-- The plain layout, tried after others.
use Rattle.std.proofs.Common.{◌≡◌, ◌∙◌, ℕ, ◌+◌, ◌-◌, ◌≤◌, ◌<◌, ◌^◌, ◌==◌, Bool, true, false, not, List, [], ◌∷◌, ◌++◌, length, refl, sym, ap, subst, arith, append_assoc, append-nil, length-append, eq-eqb}
use Rattle.std.specs.Prelude.{◌&&◌, if◌then◌else◌, bytes_eq, Option, Some, None, unwrap_or, filter, Result, Ok, Err}
use Rattle.std.specs.Bool.{MatchBool}
use Rattle.std.specs.List.{list_all, filter_map, concat}
use Rattle.std.proofs.lemmas.List.Elements.{filter_map-append}
use Rattle.ann_key.specs.Keys.{Parts, key_reading}
use Rattle.ann_key.specs.declared.bytes.NoMemory.{NoMemory}
use Rattle.ann_digest.specs.Fits.{IsSaidOf}
use Rattle.ann_digest.specs.declared.fit.Fit.TheVariants as F
use Rattle.task_text.specs.Layouts.Layouts.{Part}
use Rattle.ann_outside.specs.declared.file_desk.DeskError.TheVariants as E
use Rattle.ann_outside.specs.Calls.{Log}
use Rattle.ann_outside.specs.declared.file_desk.Call.{Call}
use Rattle.ann_outside.specs.declared.file_desk.Call.TheVariants.{Size, Create, Rename, Remove}
use Rattle.task_model.specs.Copying.Copies.{EndsWhole}
use Rattle.journal_model.specs.declared.answer.Answer.{Answer}
use Rattle.journal_model.specs.declared.answer.Answer.TheVariants as A
use Rattle.task_model.specs.Askers.{Asking, AsksOne}
use Rattle.std.specs.List.{last_or}
use Rattle.annex_model.specs.Messages.{HostMessage, Transfer}
use Rattle.journal_model.specs.declared.verdict.Verdict.{Verdict}
use Rattle.journal_model.specs.declared.verdict.Verdict.TheVariants as V
use Rattle.task_model.specs.Stops.{is_done, call_stop, is_done_at, AnsweredBy, all_but_last, failed_at, last_failed}
use Rattle.task_model.specs.declared.setup.Setup.{Setup}
use Rattle.task_model.specs.declared.turn.TaskTurn.{TaskTurn}
use Rattle.task_model.specs.Names.{part_of, fetch_file}
use Rattle.task_model.specs.Stores.{is_size}
use Rattle.task_model.specs.Requests.{AsksFor, AskInOrder}
use Rattle.task_model.specs.Reads.{lengths_found, reads_of, read_of, bytes_of, is_known, is_reading, takes_away, is_last, is_removed, is_renaming, appended, holds, piece_of}
use Rattle.task_model.specs.Discipline.{are_found}
use Rattle.task_model.specs.Gets.{fetch_request, begins, since_begin, lengths_at_begin, wanted, is_wrong, is_read_whole, bytes_fetched, IsSaid, fit_in, is_got, is_failed, failures, GetAsks, Decides, GetAnswers}
use Rattle.task_model.specs.Ran.{answered, is_verdict_of, undone_answer}
use Rattle.task_model.specs.Fetching.{Fetches, Files3, Outcome, if_made, discarded, kept, Move, NotMade, NotCopied, NotRemoved, Settled, move_calls, move_result, MoveIs, Fetch, NotSized, WrongSize, Moved, fetch_calls, fetch_result, FetchIs}
use Rattle.task_run.specs.Get.Fronts.{Place, Turn, fetch_at, is_apart, is_calm, Tried, Sound, Within, Between, Ended}
use Rattle.task_run.specs.Get.LayoutRuns.{place_at, WholeRan}
use Rattle.task_run.specs.Get.WholeFetches.{TakesWhole}
use Rattle.task_model.proofs.CopyingLemmas.CopyLaws.{gained_nothing}
use Rattle.task_model.proofs.HeldLaws.{is_growing, holds_more, holds_grown}
use Rattle.task_run.proofs.GetLemmas.LastCalls.{after_last-at}
use Rattle.task_run.proofs.GetLemmas.AskLaws.{count_all}
use Rattle.task_model.proofs.GetCallsLaws.{Fair, fair_size, fair_create, fair_remove_part, fair_rename, known_add, known_skip}
use Rattle.task_run.proofs.GetLemmas.GetEnds.{Facts, moved_facts, whole_reading, moved_calls, regrouped, is_last-snoc, last_call}
use Rattle.task_run.proofs.GetLemmas.ReadLaws.{begin_lengths, reads_behind, lengths_behind}
use Rattle.task_run.proofs.GetLemmas.GetFronts.{Fore, asks_of, ended_finished}
use Rattle.task_run.proofs.GetLemmas.GetDecides.{Last, answers_misfit, answers_said, Becomes}
use Rattle.task_run.proofs.GetLemmas.GetWithin.{own_apart, none_failed, sound_asked}
use Rattle.task_run.proofs.GetLemmas.GetRuns.{wrong_if}
use Rattle.task_model.proofs.Lists.{all_taken}
use Rattle.task_run.proofs.GetLemmas.GetTurns.{failed_tried, moving_sized, asked_end, unasked_end, asks_for_part}
use Rattle.task_run.proofs.GetLemmas.GetFetch.{Here, FetchingAt, file_in, part_in, fetch_in, EndedAt, apart_in, Others, others_size, Moving, moving_none, moving_step, fore_of, free_of, memory_at, stopped_at, Ready, copies_in, copy_early, copy_refused, tail_in, fetch_unremoved, moving_moved, part_known_moved}
use Rattle.ann_key.proofs.Booleans.{false_is_true as apart}
use Rattle.ann_key.proofs.Lists.{same_name, last_or-push}

-- the whole content, as a part
abbrev pub whole_part : Parts → Part
whole_part key = record { key = key; from = 0; to = unwrap_or key.size 0 }

-- a layout that is begun by its request
pub plain_within : (p : Place) (past : List Asking) (done : List (List Part)) (tried : List ℕ) (calls : List Call) → Between p past done tried (0 ∷ []) calls
    → Within (record { place = p; past = past; done = done; tried = tried; chunk = 0; rest = [] }) [] [] (whole_part p.key ∷ []) calls
plain_within p past done tried calls b = record {
  tries = b.tries;
  all_done = refl;
  in_order = λ more next h.
      let e : (length past + 1) + 0 ≡ length past + 1 = omega arith in
      let P : ℕ → Type 0 = λ k. AskInOrder (fetch_request p.setup p.turn) k more next in subst P e h;
  aligned = refl;
  wants = λ later. b.wants later ∙ plain_wants later;
  begun = let n = b.begun in omega (arith, n);
  begun_chunked = let one : List ℕ = 0 ∷ [] in let z : length p.sizes ≡ length tried + 1 = ap length b.tries.sizes_are ∙ length-append tried one in let e = b.tries.each_done in let n = b.begun in omega (arith, z, e, n);
  right = refl;
  read = refl;
  sound = let P : List Asking → Type 0 = λ x. Sound p x calls in subst P (sym (append-nil past)) b.sound;
  free = b.free;
}
  where
    plain_wants : (later : List ℕ) → done ++ wanted p.key (0 ∷ []) later ≡ done ++ (whole_part p.key ∷ []) ∷ wanted p.key [] later
    plain_wants [] = refl
    plain_wants (n ∷ more) = refl

abbrev pub plain_here : Place → List Asking → List (List Part) → List ℕ → Asking → List Call → Here
plain_here p past done tried x calls = record {
  turn = record { place = p; past = past; done = done; tried = tried; chunk = 0; rest = [] };
  cur = [];
  got = [];
  left = [];
  part = whole_part p.key;
  x = x;
  n = length past + 1;
  calls = calls;
}

-- the calls before the copy
abbrev plain_pre : Here → ℕ → List Call
plain_pre h n = Size (fetch_in h) (Ok n) ∷ Create (part_in h) (Ok tt) ∷ []

plain_ready : (h : Here) (n : ℕ) → FetchingAt h → Ready h (plain_pre h n)
plain_ready h n f = record {
  moving = moving_step h (Size (fetch_in h) (Ok n) ∷ []) (Create (part_in h) (Ok tt)) (moving_sized h n f) (fair_create (file_in h) (fetch_in h) (apart_in h) (Ok tt)) refl refl (λ m b d. refl) refl;
  fetch_known = let P : List Call → Type 0 = λ l. is_known (fetch_in h) l ≡ true in
      subst P (append_assoc h.calls (Size (fetch_in h) (Ok n) ∷ []) (Create (part_in h) (Ok tt) ∷ []))
      (known_skip (fetch_in h) (h.calls ++ Size (fetch_in h) (Ok n) ∷ []) (Create (part_in h) (Ok tt)) (rw (apart_in h).part_fetch refl) (known_add (fetch_in h) h.calls (Size (fetch_in h) (Ok n)) (rw (same_name (fetch_in h)) refl)));
  part_known = let P : List Call → Type 0 = λ l. is_known (part_in h) l ≡ true in
      subst P (append_assoc h.calls (Size (fetch_in h) (Ok n) ∷ []) (Create (part_in h) (Ok tt) ∷ []))
      (known_add (part_in h) (h.calls ++ Size (fetch_in h) (Ok n) ∷ []) (Create (part_in h) (Ok tt)) (rw (same_name (part_in h)) refl));
  unread = refl;
}

plain_last : (p : Place) (past : List Asking) (done : List (List Part)) (tried : List ℕ) (x : Asking) (calls seg : List Call) → FetchingAt (plain_here p past done tried x calls) → Moving (plain_here p past done tried x calls) seg
    → Last (record { place = p; past = past; done = done; tried = tried; chunk = 0; rest = [] }) (x ∷ []) (whole_part p.key ∷ []) (calls ++ seg)
plain_last p past done tried x calls seg f m = record {
  tries = f.within.tries;
  none = none_failed (x ∷ []) (rw f.is_done_now refl);
  wants = ap (wanted p.key p.sizes) (begin_lengths p.file calls seg m.good.fair.no_length ∙ sym (append-nil (lengths_at_begin p.file calls))) ∙ f.within.wants [];
  begun = refl;
}

own_in : (p : Place) (past : List Asking) (done : List (List Part)) (tried : List ℕ) (x : Asking) (calls : List Call) → FetchingAt (plain_here p past done tried x calls) → list_all (is_apart (fetch_at p (length past + 1))) calls ≡ true
own_in p past done tried x calls f = own_apart (record { place = p; past = past; done = done; tried = tried; chunk = 0; rest = [] }) [] [] [] (whole_part p.key) x (length past + 1) calls f

plain_wrong : (p : Place) (past : List Asking) (done : List (List Part)) (tried : List ℕ) (x : Asking) (calls seg : List Call) (m : ℕ) → FetchingAt (plain_here p past done tried x calls)
    → is_size p.key.size m ≡ false → lengths_found (fetch_at p (length past + 1)) seg ≡ m ∷ [] → Moving (plain_here p past done tried x calls) seg → is_removed (part_of p.file) (calls ++ seg) ≡ true
    → GetAnswers p.setup p.turn p.key p.sizes p.file (past ++ x ∷ []) (calls ++ seg) (A.Size m)
plain_wrong p past done tried x calls seg m f s l g removed =
    let found : lengths_found (fetch_at p (length past + 1)) (calls ++ seg) ≡ m ∷ [] = lengths_behind (fetch_at p (length past + 1)) calls seg (own_in p past done tried x calls f) ∙ l in
    let w : is_wrong p.key.size (whole_part p.key) m ≡ true = wrong_if p.key.size (whole_part p.key) m false refl refl s in
    answers_misfit (record { place = p; past = past; done = done; tried = tried; chunk = 0; rest = [] }) (x ∷ []) (whole_part p.key ∷ []) (calls ++ seg) m (plain_last p past done tried x calls seg f g)
    (ap (λ r. filter (is_wrong p.key.size (whole_part p.key)) r ++ []) found ∙ rw w refl) removed

-- these bytes were appended to part, which was made anew and holds nothing else, and was renamed to the file
record IsMoved (p : Place) (calls : List Call) (bytes : List ℕ) : Type 0 where
  pub moved : appended (part_of p.file) (since_begin p.file calls) ≡ bytes
  pub content : (before : List ℕ) → holds (part_of p.file) (Some before) calls ≡ Some bytes
  pub renamed : is_last (is_renaming (part_of p.file) p.file) calls ≡ true

plain_said : (p : Place) (past : List Asking) (done : List (List Part)) (tried : List ℕ) (x : Asking) (calls seg : List Call) (m : ℕ) (bytes : List ℕ) (answer : Answer) → FetchingAt (plain_here p past done tried x calls)
    → Moving (plain_here p past done tried x calls) seg → is_size p.key.size m ≡ true → lengths_found (fetch_at p (length past + 1)) seg ≡ m ∷ [] → bytes_of (reads_of (fetch_at p (length past + 1)) seg) ≡ bytes
    → is_reading 0 m (reads_of (fetch_at p (length past + 1)) seg) ≡ true → IsSaid p.key bytes (fit_in answer)
    → MatchBool (is_got answer) (IsMoved p (calls ++ seg) bytes)
    (is_removed (part_of p.file) (calls ++ seg) ≡ true)
    → GetAnswers p.setup p.turn p.key p.sizes p.file (past ++ x ∷ []) (calls ++ seg) answer
plain_said p past done tried x calls seg m bytes answer f g s l b whole said part =
    answers_said (record { place = p; past = past; done = done; tried = tried; chunk = 0; rest = [] }) (x ∷ []) (whole_part p.key ∷ []) (calls ++ seg) answer (plain_last p past done tried x calls seg f g)
    (ap (λ r. filter (is_wrong p.key.size (whole_part p.key)) r ++ []) found ∙ rw w refl)
    (count_all is_done (x ∷ []) (rw f.is_done_now refl))
    (let P : List ℕ → Type 0 = λ z. IsSaid p.key z (fit_in answer) in subst P (sym fetched) said)
    refl
    (ap (λ r. is_read_whole r (lengths_found name (calls ++ seg)) && true) reads ∙ ap (λ r. is_read_whole (reads_of name seg) r && true) found ∙ rw whole refl)
    (by_test (is_got answer) part)
  where
    name : List ℕ
    name = fetch_at p (length past + 1)

    own : list_all (is_apart (fetch_at p (length past + 1))) calls ≡ true
    own = own_in p past done tried x calls f

    found : lengths_found (fetch_at p (length past + 1)) (calls ++ seg) ≡ m ∷ []
    found = lengths_behind (fetch_at p (length past + 1)) calls seg own ∙ l

    reads : reads_of (fetch_at p (length past + 1)) (calls ++ seg) ≡ reads_of (fetch_at p (length past + 1)) seg
    reads = reads_behind (fetch_at p (length past + 1)) calls seg own

    w : is_wrong p.key.size (whole_part p.key) m ≡ false
    w = wrong_if p.key.size (whole_part p.key) m true refl refl s

    fetched : bytes_fetched p.setup p.turn (calls ++ seg) (length past + 1) (x ∷ []) ≡ bytes
    fetched = append-nil (bytes_of (reads_of (fetch_at p (length past + 1)) (calls ++ seg))) ∙ ap bytes_of reads ∙ b

    by_test : (t : Bool)
        → MatchBool t (IsMoved p (calls ++ seg) bytes) (is_removed (part_of p.file) (calls ++ seg) ≡ true)
        → MatchBool t (Becomes (record { place = p; past = past; done = done; tried = tried; chunk = 0; rest = [] }) (x ∷ []) (calls ++ seg)) (is_removed (part_of p.file) (calls ++ seg) ≡ true)
    by_test true k = record { moved = k.moved ∙ sym fetched; content = λ before found. k.content before ∙ ap Some (sym fetched); renamed = k.renamed }
    by_test false k = k

-- ---- after the whole copy: the last call

-- what the calls up to the last one are
record Copied (h : Here) (n : ℕ) (pieces : List (List ℕ)) (ending : List Call) (y : Call) : Type 0 where
  pub moving : Moving h (plain_pre h n ++ moved_calls (file_in h) (fetch_in h) pieces ending)
  pub known : is_known (part_in h) (h.calls ++ (plain_pre h n ++ moved_calls (file_in h) (fetch_in h) pieces ending)) ≡ true
  pub facts : Facts (file_in h) (fetch_in h) pieces ending (moved_calls (file_in h) (fetch_in h) pieces ending ++ y ∷ [])

-- a last call of part that asks, reads, and writes nothing
record LastOfPart (h : Here) (y : Call) : Type 0 where
  pub no_length : lengths_found (fetch_in h) (y ∷ []) ≡ []
  pub no_read : reads_of (fetch_in h) (y ∷ []) ≡ []
  pub no_piece : filter_map (piece_of (part_in h)) (y ∷ []) ≡ []
  pub no_begin : list_all (λ call. not (begins (part_in h) call)) (y ∷ []) ≡ true
  pub grows : list_all (is_growing (part_in h)) (y ∷ []) ≡ true

copied_of : (h : Here) (n : ℕ) (pieces : List (List ℕ)) (ending : List Call) (y : Call) → FetchingAt h → EndsWhole (fetch_in h) (length (concat pieces)) (n - length (concat pieces)) ending → LastOfPart h y → Copied h n pieces ending y
copied_of h n pieces ending y f w o = record {
  moving = moving_moved h (plain_pre h n) (n - length (concat pieces)) pieces ending f (plain_ready h n f) w;
  known = part_known_moved h (plain_pre h n) (n - length (concat pieces)) pieces ending (plain_ready h n f) w;
  facts = let P : List Call → Type 0 = λ l. Facts (file_in h) (fetch_in h) pieces ending l in
      subst P (sym (append_assoc (copies_in h pieces) (ending ++ Remove (fetch_in h) (Ok tt) ∷ []) (y ∷ []) ∙ ap (λ l. copies_in h pieces ++ l) (append_assoc ending (Remove (fetch_in h) (Ok tt) ∷ []) (y ∷ []))))
      (moved_facts (file_in h) (fetch_in h) ((h.calls ++ plain_pre h n) ++ copies_in h pieces) pieces ending (Remove (fetch_in h) (Ok tt) ∷ y ∷ []) (apart_in h)
      (tail_in h (plain_pre h n) (n - length (concat pieces)) pieces ending (plain_ready h n f) w) o.no_length o.no_read o.no_piece o.no_begin o.grows);
}

plain_settled : (p : Place) (past : List Asking) (done : List (List Part)) (tried : List ℕ) (x : Asking) (calls : List Call) (n : ℕ) (pieces : List (List ℕ)) (ending : List Call) (y : Call) (answer : Answer)
    → FetchingAt (plain_here p past done tried x calls) → EndsWhole (fetch_at p (length past + 1)) (length (concat pieces)) (n - length (concat pieces)) ending → length (concat pieces) ≤ n
    → LastOfPart (plain_here p past done tried x calls) y → Fair p.file (fetch_at p (length past + 1)) (y ∷ [])
    → are_found (part_of p.file) (calls ++ (plain_pre (plain_here p past done tried x calls) n ++ moved_calls p.file (fetch_at p (length past + 1)) pieces ending)) (y ∷ []) ≡ true
    → call_stop (part_of p.file) y ≡ None → Others (plain_here p past done tried x calls) (y ∷ []) → read_of (fetch_at p (length past + 1)) y ≡ None
    → is_size p.key.size n ≡ true → IsSaid p.key (concat pieces) (fit_in answer) → ((X : Type 0) → X → AnsweredBy [] answer X)
    → MatchBool (is_got answer) (is_last (is_renaming (part_of p.file) p.file) ((calls ++ (plain_pre (plain_here p past done tried x calls) n ++ moved_calls p.file (fetch_at p (length past + 1)) pieces ending)) ++ y ∷ []) ≡ true)
    (is_removed (part_of p.file) ((calls ++ (plain_pre (plain_here p past done tried x calls) n ++ moved_calls p.file (fetch_at p (length past + 1)) pieces ending)) ++ y ∷ []) ≡ true)
    → EndedAt (plain_here p past done tried x calls) (plain_pre (plain_here p past done tried x calls) n ++ (moved_calls p.file (fetch_at p (length past + 1)) pieces ending ++ y ∷ [])) answer
plain_settled p past done tried x calls n pieces ending y answer f w most o fair found free others unread s said by last =
    ended_finished p (past ++ x ∷ []) (calls ++ seg) answer (fore_of h seg f moving) (free_of h seg f moving)
    (by _ (plain_said p past done tried x calls seg n (concat pieces) answer f moving s sized bytes whole said (by_test (is_got answer) last)))
  where
    h : Here
    h = plain_here p past done tried x calls

    front : List Call
    front = plain_pre h n ++ moved_calls p.file (fetch_in h) pieces ending

    seg : List Call
    seg = plain_pre h n ++ (moved_calls p.file (fetch_in h) pieces ending ++ y ∷ [])

    c : Copied h n pieces ending y
    c = copied_of h n pieces ending y f w o

    moving : Moving h seg
    moving = moving_step h front y c.moving fair found free others unread

    sized : lengths_found (fetch_in h) seg ≡ n ∷ []
    sized = rw (same_name (fetch_in h)) (rw c.facts.sized refl)

    bytes : bytes_of (reads_of (fetch_in h) seg) ≡ concat pieces
    bytes = c.facts.bytes

    whole : is_reading 0 n (reads_of (fetch_in h) seg) ≡ true
    whole = rw c.facts.reads_are (whole_reading (fetch_in h) n pieces ending w most (rw c.facts.reads_are at moving.run))

    since : since_begin p.file (calls ++ seg) ≡ moved_calls p.file (fetch_in h) pieces ending ++ y ∷ []
    since =
        ap (since_begin p.file) (sym (append_assoc calls (Size (fetch_in h) (Ok n) ∷ []) (Create (part_in h) (Ok tt) ∷ (moved_calls p.file (fetch_in h) pieces ending ++ y ∷ []))))
        ∙ after_last-at (begins (part_in h)) (calls ++ Size (fetch_in h) (Ok n) ∷ []) (Create (part_in h) (Ok tt)) (moved_calls p.file (fetch_in h) pieces ending ++ y ∷ []) c.facts.no_begin (same_name (part_in h))

    content : (before : List ℕ) → holds (part_of p.file) (Some before) (calls ++ seg) ≡ Some (concat pieces)
    content before =
        holds_more (part_of p.file) (Some before) calls seg
        ∙ ap (λ o. holds (part_of p.file) o (moved_calls p.file (fetch_in h) pieces ending ++ y ∷ [])) (made (holds (part_of p.file) (Some before) calls))
        ∙ holds_grown (part_of p.file) [] (moved_calls p.file (fetch_in h) pieces ending ++ y ∷ []) c.facts.grown
        ∙ ap Some c.facts.written
      where
        made : (o : Option (List ℕ)) → (if bytes_eq (part_of p.file) (part_of p.file) then Some [] else o) ≡ Some []
        made o = rw (same_name (part_of p.file)) refl

    at_end : calls ++ seg ≡ (calls ++ front) ++ y ∷ []
    at_end = sym (append_assoc calls front (y ∷ []))

    by_test : (t : Bool) → MatchBool t (is_last (is_renaming (part_of p.file) p.file) ((calls ++ front) ++ y ∷ []) ≡ true) (is_removed (part_of p.file) ((calls ++ front) ++ y ∷ []) ≡ true)
        → MatchBool t (IsMoved p (calls ++ seg) (concat pieces)) (is_removed (part_of p.file) (calls ++ seg) ≡ true)
    by_test true k = record {
      moved = ap (appended (part_of p.file)) since ∙ c.facts.written;
      content = content;
      renamed = ap (is_last (is_renaming (part_of p.file) p.file)) at_end ∙ k;
    }
    by_test false k = ap (is_removed (part_of p.file)) at_end ∙ k

-- ---- all ways

abbrev pub plain_names : Place → List Asking → Files3
plain_names p past = record { file = p.file; part = part_of p.file; fetch = fetch_at p (length past + 1) }

plain_moving : (h : Here) (n : ℕ) (pieces : List (List ℕ)) (ending : List Call) → FetchingAt h → EndsWhole (fetch_in h) (length (concat pieces)) (n - length (concat pieces)) ending
    → Moving h (plain_pre h n ++ moved_calls (file_in h) (fetch_in h) pieces ending)
plain_moving h n pieces ending f w = moving_moved h (plain_pre h n) (n - length (concat pieces)) pieces ending f (plain_ready h n f) w

plain_removed : (p : Place) (past : List Asking) (done : List (List Part)) (tried : List ℕ) (x : Asking) (calls : List Call) (n : ℕ) (pieces : List (List ℕ)) (ending : List Call) (r : Outcome) (answer : Answer)
    → FetchingAt (plain_here p past done tried x calls) → EndsWhole (fetch_at p (length past + 1)) (length (concat pieces)) (n - length (concat pieces)) ending → length (concat pieces) ≤ n
    → is_size p.key.size n ≡ true → IsSaid p.key (concat pieces) (fit_in answer) → is_got answer ≡ false → ((X : Type 0) → X → AnsweredBy [] answer X)
    → EndedAt (plain_here p past done tried x calls) (plain_pre (plain_here p past done tried x calls) n ++ (moved_calls p.file (fetch_at p (length past + 1)) pieces ending ++ if_made r (Remove (part_of p.file) r))) (answered (discarded answer r))
plain_removed p past done tried x calls n pieces ending (Ok tt') answer f w most s said bad by =
    let h = plain_here p past done tried x calls in
    let y : Call = Remove (part_of p.file) (Ok tt') in
    plain_settled p past done tried x calls n pieces ending y answer f w most (record { no_length = refl; no_read = refl; no_piece = refl; no_begin = refl; grows = refl }) (fair_remove_part p.file (fetch_in h) (apart_in h) (Ok tt'))
    (rw (same_name (part_of p.file)) refl) refl (λ m b d. refl) refl s said by
    (rw bad (last_call (part_of p.file) (takes_away (part_of p.file)) (calls ++ (plain_pre h n ++ moved_calls p.file (fetch_in h) pieces ending)) y (same_name (part_of p.file)) ∙ same_name (part_of p.file)))
plain_removed p past done tried x calls n pieces ending (Err E.Missing) answer f w most s said bad by =
    let h = plain_here p past done tried x calls in
    let y : Call = Remove (part_of p.file) (Err E.Missing) in
    plain_settled p past done tried x calls n pieces ending y answer f w most (record { no_length = refl; no_read = refl; no_piece = refl; no_begin = refl; grows = refl }) (fair_remove_part p.file (fetch_in h) (apart_in h) (Err E.Missing))
    (rw (same_name (part_of p.file)) refl) (rw (same_name (part_of p.file)) refl) (λ m b d. refl) refl s said by
    (rw bad (last_call (part_of p.file) (takes_away (part_of p.file)) (calls ++ (plain_pre h n ++ moved_calls p.file (fetch_in h) pieces ending)) y (same_name (part_of p.file)) ∙ same_name (part_of p.file)))
plain_removed p past done tried x calls n pieces ending (Err E.Failed) answer f w most s said bad by =
    let h = plain_here p past done tried x calls in
    let P : List Call → Type 0 = λ l. EndedAt h l A.FileFault in
    subst P (append_assoc (plain_pre h n) (moved_calls p.file (fetch_in h) pieces ending) (Remove (part_of p.file) (Err E.Failed) ∷ []))
    (stopped_at h (plain_pre h n ++ moved_calls p.file (fetch_in h) pieces ending) (Remove (part_of p.file) (Err E.Failed)) A.FileFault f (plain_moving h n pieces ending f w)
    (fair_remove_part p.file (fetch_in h) (apart_in h) (Err E.Failed)) (rw (same_name (part_of p.file)) refl) refl (λ m b d. refl) refl)
plain_removed p past done tried x calls n pieces ending (Err E.NoMemory) answer f w most s said bad by =
    let h = plain_here p past done tried x calls in
    rw (append-nil (moved_calls p.file (fetch_in h) pieces ending)) (memory_at h (plain_pre h n ++ moved_calls p.file (fetch_in h) pieces ending) f (plain_moving h n pieces ending f w))

plain_kept : (p : Place) (past : List Asking) (done : List (List Part)) (tried : List ℕ) (x : Asking) (calls : List Call) (n : ℕ) (pieces : List (List ℕ)) (ending : List Call) (r : Outcome)
    → FetchingAt (plain_here p past done tried x calls) → EndsWhole (fetch_at p (length past + 1)) (length (concat pieces)) (n - length (concat pieces)) ending → length (concat pieces) ≤ n
    → is_size p.key.size n ≡ true → IsSaidOf p.key (concat pieces) F.Fits
    → EndedAt (plain_here p past done tried x calls) (plain_pre (plain_here p past done tried x calls) n ++ (moved_calls p.file (fetch_at p (length past + 1)) pieces ending ++ if_made r (Rename (part_of p.file) p.file r))) (answered (kept r))
plain_kept p past done tried x calls n pieces ending (Ok tt') f w most s said =
    let h = plain_here p past done tried x calls in
    let y : Call = Rename (part_of p.file) p.file (Ok tt') in
    let known = (copied_of h n pieces ending y f w (record { no_length = refl; no_read = refl; no_piece = refl; no_begin = refl; grows = rw (apart_in h).file_part refl })).known in
    plain_settled p past done tried x calls n pieces ending y A.Got f w most (record { no_length = refl; no_read = refl; no_piece = refl; no_begin = refl; grows = rw (apart_in h).file_part refl }) (fair_rename p.file (fetch_in h) (apart_in h) (Ok tt'))
    (rw known refl) refl (λ m b d. refl) refl s said (λ X z. z)
    (is_last-snoc (is_renaming (part_of p.file) p.file) (calls ++ (plain_pre h n ++ moved_calls p.file (fetch_in h) pieces ending)) y ∙ rw (same_name (part_of p.file), same_name p.file) refl)
plain_kept p past done tried x calls n pieces ending (Err E.Missing) f w most s said =
    let h = plain_here p past done tried x calls in
    let y : Call = Rename (part_of p.file) p.file (Err E.Missing) in
    let known = (copied_of h n pieces ending y f w (record { no_length = refl; no_read = refl; no_piece = refl; no_begin = refl; grows = rw (apart_in h).file_part refl })).known in
    let P : List Call → Type 0 = λ l. EndedAt h l A.NoFile in
    subst P (append_assoc (plain_pre h n) (moved_calls p.file (fetch_in h) pieces ending) (y ∷ []))
    (stopped_at h (plain_pre h n ++ moved_calls p.file (fetch_in h) pieces ending) y A.NoFile f (plain_moving h n pieces ending f w) (fair_rename p.file (fetch_in h) (apart_in h) (Err E.Missing)) (rw known refl) refl (λ m b d. refl) refl)
plain_kept p past done tried x calls n pieces ending (Err E.Failed) f w most s said =
    let h = plain_here p past done tried x calls in
    let y : Call = Rename (part_of p.file) p.file (Err E.Failed) in
    let known = (copied_of h n pieces ending y f w (record { no_length = refl; no_read = refl; no_piece = refl; no_begin = refl; grows = rw (apart_in h).file_part refl })).known in
    let P : List Call → Type 0 = λ l. EndedAt h l A.FileFault in
    subst P (append_assoc (plain_pre h n) (moved_calls p.file (fetch_in h) pieces ending) (y ∷ []))
    (stopped_at h (plain_pre h n ++ moved_calls p.file (fetch_in h) pieces ending) y A.FileFault f (plain_moving h n pieces ending f w) (fair_rename p.file (fetch_in h) (apart_in h) (Err E.Failed)) (rw known refl) refl (λ m b d. refl) refl)
plain_kept p past done tried x calls n pieces ending (Err E.NoMemory) f w most s said =
    let h = plain_here p past done tried x calls in
    rw (append-nil (moved_calls p.file (fetch_in h) pieces ending)) (memory_at h (plain_pre h n ++ moved_calls p.file (fetch_in h) pieces ending) f (plain_moving h n pieces ending f w))

plain_move : (p : Place) (past : List Asking) (done : List (List Part)) (tried : List ℕ) (x : Asking) (calls : List Call) (n : ℕ) → FetchingAt (plain_here p past done tried x calls) → is_size p.key.size n ≡ true → (how : Move) → MoveIs (plain_names p past) p.key n how
    → EndedAt (plain_here p past done tried x calls) (Size (fetch_at p (length past + 1)) (Ok n) ∷ move_calls (plain_names p past) how) (answered (move_result how))
plain_move p past done tried x calls n f s (NotMade E.NoMemory) so = let h = plain_here p past done tried x calls in memory_at h (Size (fetch_in h) (Ok n) ∷ []) f (moving_sized h n f)
plain_move p past done tried x calls n f s (NotMade E.Failed) so =
    let h = plain_here p past done tried x calls in
    stopped_at h (Size (fetch_in h) (Ok n) ∷ []) (Create (part_in h) (Err E.Failed)) A.FileFault f (moving_sized h n f) (fair_create (file_in h) (fetch_in h) (apart_in h) (Err E.Failed)) refl refl (λ m b d. refl) refl
plain_move p past done tried x calls n f s (NotMade E.Missing) so =
    let h = plain_here p past done tried x calls in
    stopped_at h (Size (fetch_in h) (Ok n) ∷ []) (Create (part_in h) (Err E.Missing)) A.NoFile f (moving_sized h n f) (fair_create (file_in h) (fetch_in h) (apart_in h) (Err E.Missing)) refl refl (λ m b d. refl) refl
plain_move p past done tried x calls n f s (NotCopied pieces ending E.NoMemory) so = let h = plain_here p past done tried x calls in copy_early h (plain_pre h n) pieces ending f (plain_ready h n f) so
plain_move p past done tried x calls n f s (NotCopied pieces ending E.Failed) so = let h = plain_here p past done tried x calls in copy_refused h (plain_pre h n) pieces ending E.Failed f (plain_ready h n f) (λ e. cc) so
plain_move p past done tried x calls n f s (NotCopied pieces ending E.Missing) so = let h = plain_here p past done tried x calls in copy_refused h (plain_pre h n) pieces ending E.Missing f (plain_ready h n f) (λ e. cc) so
plain_move p past done tried x calls n f s (NotRemoved pieces ending e) so = let h = plain_here p past done tried x calls in fetch_unremoved h (plain_pre h n) (n - length (concat pieces)) pieces ending e f (plain_ready h n f) so
plain_move p past done tried x calls n f s (Settled pieces ending F.Fits r) so =
    let h = plain_here p past done tried x calls in
    let P : List Call → Type 0 = λ l. EndedAt h (plain_pre h n ++ l) (answered (kept r)) in
    subst P (regrouped p.file (fetch_in h) pieces ending (if_made r (Rename (part_of p.file) p.file r))) (plain_kept p past done tried x calls n pieces ending r f so.0 so.2 s so.1)
plain_move p past done tried x calls n f s (Settled pieces ending (F.Size m) r) so =
    let h = plain_here p past done tried x calls in
    let P : List Call → Type 0 = λ l. EndedAt h (plain_pre h n ++ l) (answered (discarded (A.Size m) r)) in
    subst P (regrouped p.file (fetch_in h) pieces ending (if_made r (Remove (part_of p.file) r))) (plain_removed p past done tried x calls n pieces ending r (A.Size m) f so.0 so.2 s so.1 refl (λ X z. z))
plain_move p past done tried x calls n f s (Settled pieces ending (F.Hash digest) r) so =
    let h = plain_here p past done tried x calls in
    let P : List Call → Type 0 = λ l. EndedAt h (plain_pre h n ++ l) (answered (discarded (A.Hash digest) r)) in
    subst P (regrouped p.file (fetch_in h) pieces ending (if_made r (Remove (part_of p.file) r))) (plain_removed p past done tried x calls n pieces ending r (A.Hash digest) f so.0 so.2 s so.1 refl (λ X z. z))

plain_misfit : (p : Place) (past : List Asking) (done : List (List Part)) (tried : List ℕ) (x : Asking) (calls : List Call) (n : ℕ) (r : Outcome) → FetchingAt (plain_here p past done tried x calls) → is_size p.key.size n ≡ false
    → call_stop (part_of p.file) (Remove (part_of p.file) r) ≡ None → takes_away (part_of p.file) (Remove (part_of p.file) r) ≡ true
    → EndedAt (plain_here p past done tried x calls) (Size (fetch_at p (length past + 1)) (Ok n) ∷ Remove (part_of p.file) r ∷ []) (A.Size n)
plain_misfit p past done tried x calls n r f s free gone =
    let h = plain_here p past done tried x calls in
    let seg : List Call = Size (fetch_in h) (Ok n) ∷ Remove (part_of p.file) r ∷ [] in
    let moving : Moving h seg = moving_step h (Size (fetch_in h) (Ok n) ∷ []) (Remove (part_in h) r) (moving_sized h n f) (fair_remove_part (file_in h) (fetch_in h) (apart_in h) r) (rw (same_name (part_in h)) refl) free (λ k b d. refl) refl in
    ended_finished p (past ++ x ∷ []) (calls ++ seg) (A.Size n) (fore_of h seg f moving) (free_of h seg f moving)
    (plain_wrong p past done tried x calls seg n f s (rw (same_name (fetch_in h)) refl) moving
    (ap (is_removed (part_of p.file)) (sym (append_assoc calls (Size (fetch_in h) (Ok n) ∷ []) (Remove (part_of p.file) r ∷ [])))
    ∙ last_call (part_of p.file) (takes_away (part_of p.file)) (calls ++ Size (fetch_in h) (Ok n) ∷ []) (Remove (part_of p.file) r) (same_name (part_of p.file)) ∙ gone))

pub plain_fetched : (p : Place) (past : List Asking) (done : List (List Part)) (tried : List ℕ) (x : Asking) (calls : List Call) → FetchingAt (plain_here p past done tried x calls) → (how : Fetch) → FetchIs (plain_names p past) p.key how
    → EndedAt (plain_here p past done tried x calls) (fetch_calls (plain_names p past) how) (answered (fetch_result how))
plain_fetched p past done tried x calls f (NotSized E.NoMemory) so = memory_at (plain_here p past done tried x calls) [] f (moving_none (plain_here p past done tried x calls))
plain_fetched p past done tried x calls f (NotSized E.Failed) so =
    let h = plain_here p past done tried x calls in
    stopped_at h [] (Size (fetch_in h) (Err E.Failed)) A.FileFault f (moving_none h) (fair_size (file_in h) (fetch_in h) (apart_in h) (Err E.Failed)) refl refl (others_size h f (Err E.Failed)) refl
plain_fetched p past done tried x calls f (NotSized E.Missing) so =
    let h = plain_here p past done tried x calls in
    stopped_at h [] (Size (fetch_in h) (Err E.Missing)) A.NoFile f (moving_none h) (fair_size (file_in h) (fetch_in h) (apart_in h) (Err E.Missing)) refl (rw (apart_in h).fetch_part refl) (others_size h f (Err E.Missing)) refl
plain_fetched p past done tried x calls f (WrongSize n (Ok tt')) so = plain_misfit p past done tried x calls n (Ok tt') f so refl (same_name (part_of p.file))
plain_fetched p past done tried x calls f (WrongSize n (Err E.Missing)) so = plain_misfit p past done tried x calls n (Err E.Missing) f so (rw (same_name (part_of p.file)) refl) (same_name (part_of p.file))
plain_fetched p past done tried x calls f (WrongSize n (Err E.Failed)) so =
    let h = plain_here p past done tried x calls in
    stopped_at h (Size (fetch_in h) (Ok n) ∷ []) (Remove (part_in h) (Err E.Failed)) A.FileFault f (moving_sized h n f) (fair_remove_part (file_in h) (fetch_in h) (apart_in h) (Err E.Failed)) (rw (same_name (part_in h)) refl) refl (λ k b d. refl) refl
plain_fetched p past done tried x calls f (WrongSize n (Err E.NoMemory)) so = let h = plain_here p past done tried x calls in memory_at h (Size (fetch_in h) (Ok n) ∷ []) f (moving_sized h n f)
plain_fetched p past done tried x calls f (Moved n how) so = plain_move p past done tried x calls n f so.0 how so.1

-- ---- the request isn't done

failed_last : (past : List Asking) (a : Asking) (answer : Answer) → failed_at a.verdict ≡ Some answer → last_failed (past ++ a ∷ []) ≡ Some answer
failed_last past a answer e =
    let one : filter_map (λ (b : Asking). failed_at b.verdict) (a ∷ []) ≡ answer ∷ [] = rw e refl in
    ap (last_or None) (filter_map-append (λ (b : Asking). failed_at b.verdict) past (a ∷ []) ∙ ap (λ (l : List Answer). filter_map (λ (b : Asking). failed_at b.verdict) past ++ l) one) ∙ last_or-push None (filter_map (λ (b : Asking). failed_at b.verdict) past) answer

failed_of : (request : Option HostMessage) (w : Verdict) (at : ℕ) → w ≡ V.Failed at → is_failed (record { request = request; name = None; verdict = w }) ≡ true
failed_of request w at e = rw e refl

-- every layout has failed
pub plain_failed : (p : Place) (past : List Asking) (done : List (List Part)) (tried : List ℕ) (a : Asking) (calls : List Call) (at : ℕ) → Between p past done tried (0 ∷ []) calls → length past + 1 < 2 ^ 64
    → AsksFor (fetch_request p.setup p.turn) (length past + 1) p.key a → a.verdict ≡ V.Failed at → Ended p (past ++ a ∷ []) (calls ++ []) (A.Failed at)
plain_failed p past done tried a calls at b few asks v =
    let P : List Call → Type 0 = λ l. Ended p (past ++ a ∷ []) l (A.Failed at) in
    subst P (sym (append-nil calls)) (ended_finished p (past ++ a ∷ []) calls (A.Failed at) fore b.free (record { answered = answer }))
  where
    u : Turn
    u = record { place = p; past = past; done = done; tried = tried; chunk = 0; rest = [] }

    within : Within u [] [] (whole_part p.key ∷ []) calls
    within = plain_within p past done tried calls b

    is_failed_now : is_failed a ≡ true
    is_failed_now = failed_of a.request a.verdict at v

    tries : Tried p (past ++ a ∷ []) (done ++ (whole_part p.key ∷ []) ∷ []) (tried ++ 0 ∷ []) []
    tries = failed_tried u [] [] [] (whole_part p.key) a (length past + 1) calls within (omega arith) asks is_failed_now

    fore : Fore p (past ++ a ∷ []) calls
    fore = record {
      asks =
          let Q : List Asking → Type 0 = λ l. GetAsks p.setup p.turn p.key p.sizes p.file l calls in
          let n = b.begun in
          let d : length (done ++ (whole_part p.key ∷ []) ∷ []) ≡ length done + 1 = length-append done ((whole_part p.key ∷ []) ∷ []) in
          subst Q (append-nil (past ++ a ∷ []))
          (asks_of p (past ++ a ∷ []) [] (done ++ (whole_part p.key ∷ []) ∷ []) [] (tried ++ 0 ∷ []) [] calls tries refl
          (let R : List Asking → Type 0 = λ l. list_all is_calm (all_but_last l) ≡ true in subst R (sym (append-nil (past ++ a ∷ []))) (all_taken is_calm _ (past ++ a ∷ []) tries.calm))
          (ap (wanted p.key p.sizes) (sym (append-nil (lengths_at_begin p.file calls))) ∙ within.wants [] ∙ sym (append-nil (done ++ (whole_part p.key ∷ []) ∷ []))) tt (omega (arith, n, d)) within.begun_chunked refl b.sound.held refl);
      sound = sound_asked p past a calls b.sound few;
      calm = tries.calm;
    }

    answer : MatchBool (failures (past ++ a ∷ []) == length p.sizes) (last_failed (past ++ a ∷ []) ≡ Some (A.Failed at)) (Decides p.setup p.turn p.key p.sizes p.file (past ++ a ∷ []) calls (A.Failed at))
    answer =
        let none : List ℕ = [] in
        let s : length p.sizes ≡ length (tried ++ 0 ∷ []) = ap length tries.sizes_are ∙ ap length (append-nil (tried ++ 0 ∷ [])) in
        let e : (failures (past ++ a ∷ []) == length p.sizes) ≡ true = eq-eqb (failures (past ++ a ∷ [])) (length p.sizes) (tries.failed ∙ sym tries.each_done ∙ sym s) in
        let P : Bool → Type 0 = λ t. MatchBool t (last_failed (past ++ a ∷ []) ≡ Some (A.Failed at)) (Decides p.setup p.turn p.key p.sizes p.file (past ++ a ∷ []) calls (A.Failed at)) in
        subst P (sym e) (failed_last past a (A.Failed at) (rw v refl))

-- ---- what the code promises

asked_over : (p : Place) (past : List Asking) (done : List (List Part)) (tried : List ℕ) (request : Option HostMessage) (v : Verdict) (calls : List Call) (text : List ℕ) → Between p past done tried (0 ∷ []) calls → length past + 1 < 2 ^ 64
    → AsksFor (fetch_request p.setup p.turn) (length past + 1) p.key (record { request = request; name = None; verdict = v }) → is_verdict_of (Transfer false text (fetch_at p (length past + 1))) v ≡ true → is_done_at v ≡ false
    → Ended p (past ++ record { request = request; name = None; verdict = v } ∷ []) (calls ++ []) (unwrap_or (undone_answer v) A.Memory)
asked_over p past done tried request (V.Done at) calls text b few asks k d = apart (sym d)
asked_over p past done tried request (V.Absent at) calls text b few asks k d = apart k
asked_over p past done tried request (V.Unknown at) calls text b few asks k d = apart k
asked_over p past done tried request (V.Failed at) calls text b few asks k d = plain_failed p past done tried _ calls at b few asks refl
asked_over p past done tried request (V.Unsupported at) calls text b few asks k d = asked_end (record { place = p; past = past; done = done; tried = tried; chunk = 0; rest = [] }) [] [] [] (whole_part p.key) _ (length past + 1) calls A.Unsupported (plain_within p past done tried calls b) (omega arith) few asks refl refl
asked_over p past done tried request (V.Ended why) calls text b few asks k d = asked_end (record { place = p; past = past; done = done; tried = tried; chunk = 0; rest = [] }) [] [] [] (whole_part p.key) _ (length past + 1) calls (A.Ended why) (plain_within p past done tried calls b) (omega arith) few asks refl refl
asked_over p past done tried request V.Unsent calls text b few asks k d = asked_end (record { place = p; past = past; done = done; tried = tried; chunk = 0; rest = [] }) [] [] [] (whole_part p.key) _ (length past + 1) calls A.Unsent (plain_within p past done tried calls b) (omega arith) few asks refl refl

pub whole_nothing : (setup : Setup) (t : TaskTurn) (key : Parts) (file : List ℕ) (first : ℕ) (pairs : List Asking) (log : Option Log) (e : NoMemory) → WholeRan setup t key file first pairs pairs log log (Err e)
whole_nothing setup t key file first pairs log e = record {
  grown = record { asked = []; made = []; pairs_are = sym (append-nil pairs); log_is = gained_nothing log };
  goes = λ sizes past done tried calls n b. unasked_end (record { place = place_at setup t key file sizes; past = past; done = done; tried = tried; chunk = 0; rest = [] }) [] [] (whole_part key ∷ []) calls (plain_within (place_at setup t key file sizes) past done tried calls b);
}

whole_undone : (setup : Setup) (t : TaskTurn) (key : Parts) (file : List ℕ) (first : ℕ) (pairs later : List Asking) (log : Option Log) (text : List ℕ) (v : Verdict) → first + 1 < 2 ^ 64 → key_reading text ≡ Some key
    → AsksOne pairs later None (Transfer false text (fetch_file setup t (first + 1))) v → is_verdict_of (Transfer false text (fetch_file setup t (first + 1))) v ≡ true → is_done_at v ≡ false
    → WholeRan setup t key file first pairs later log log (Ok (unwrap_or (undone_answer v) A.Memory))
whole_undone setup t key file first pairs later log text v few r a k d = record {
  grown = record { asked = record { request = a.request; name = None; verdict = v } ∷ []; made = []; pairs_are = a.added; log_is = gained_nothing log };
  goes = λ sizes past done tried calls n b.
      let p = place_at setup t key file sizes in
      let x : Asking = record { request = a.request; name = None; verdict = v } in
      let N : ℕ → Type 0 = λ j. AsksFor (fetch_request setup t) j key x in
      let K : ℕ → Type 0 = λ j. is_verdict_of (Transfer false text (fetch_file setup t j)) v ≡ true in
      let e : first + 1 ≡ length past + 1 = omega (arith, n) in
      asked_over p past done tried a.request v calls text b (omega (arith, n, few)) (subst N e (asks_for_part setup t (first + 1) text key a.request v r a.kept)) (subst K e k) d;
}

pub whole_fetched : (setup : Setup) (t : TaskTurn) (key : Parts) (file part fetch : List ℕ) (first : ℕ) (pairs later : List Asking) (old new : Option Log) (text : List ℕ) (v : Verdict) (result : Result Answer NoMemory) → first + 1 < 2 ^ 64 → key_reading text ≡ Some key
    → AsksOne pairs later None (Transfer false text (fetch_file setup t (first + 1))) v → is_done_at v ≡ true → part ≡ part_of file → fetch ≡ fetch_file setup t (first + 1)
    → Fetches (record { file = file; part = part; fetch = fetch }) key old new result → WholeRan setup t key file first pairs later old new result
whole_fetched setup t key file part fetch first pairs later old new text v result few r a d p q f = record {
  grown = record { asked = record { request = a.request; name = None; verdict = v } ∷ []; made = fetch_calls (record { file = file; part = part; fetch = fetch }) f.how; pairs_are = a.added; log_is = f.calls };
  goes = λ sizes past done tried calls n b.
      let place = place_at setup t key file sizes in
      let x : Asking = record { request = a.request; name = None; verdict = v } in
      let e : first + 1 ≡ length past + 1 = omega (arith, n) in
      let N : ℕ → Type 0 = λ j. AsksFor (fetch_request setup t) j key x in
      let fetching : FetchingAt (plain_here place past done tried x calls) = record {
        within = plain_within place past done tried calls b;
        number = omega arith;
        few = omega (arith, n, few);
        asks = subst N e (asks_for_part setup t (first + 1) text key a.request v r a.kept);
        is_done_now = d;
      } in
      let P : List ℕ → Type 0 = λ l. FetchIs (record { file = file; part = l; fetch = fetch }) key f.how → Ended place (past ++ x ∷ []) (calls ++ fetch_calls (record { file = file; part = l; fetch = fetch }) f.how) (answered result) in
      let Q : List ℕ → Type 0 = λ l. FetchIs (record { file = file; part = part_of file; fetch = l }) key f.how → Ended place (past ++ x ∷ []) (calls ++ fetch_calls (record { file = file; part = part_of file; fetch = l }) f.how) (answered result) in
      let R : Result Answer NoMemory → Type 0 = λ z. Ended place (past ++ x ∷ []) (calls ++ fetch_calls (plain_names place past) f.how) (answered z) in
      subst P (sym p) (subst Q (sym (q ∙ ap (fetch_file setup t) e)) (λ so. subst R (sym f.result_is) (plain_fetched place past done tried x calls fetching f.how so))) f.so;
}

-- whatever the request came to
pub whole_taken : (setup : Setup) (t : TaskTurn) (key : Parts) (file part fetch : List ℕ) (first : ℕ) (pairs later : List Asking) (old new : Option Log) (text : List ℕ) (v : Verdict) (result : Result Answer NoMemory) → first + 1 < 2 ^ 64 → key_reading text ≡ Some key
    → AsksOne pairs later None (Transfer false text (fetch_file setup t (first + 1))) v → is_verdict_of (Transfer false text (fetch_file setup t (first + 1))) v ≡ true → part ≡ part_of file → fetch ≡ fetch_file setup t (first + 1)
    → TakesWhole (record { file = file; part = part; fetch = fetch }) key v old new result → WholeRan setup t key file first pairs later old new result
whole_taken setup t key file part fetch first pairs later old new text v result few r a k p q h = by_test (is_done_at v) refl h
  where
    by_test : (b : Bool) → is_done_at v ≡ b → MatchBool b (Fetches (record { file = file; part = part; fetch = fetch }) key old new result) ((new ≡ old) × (result ≡ Ok (unwrap_or (undone_answer v) A.Memory)))
        → WholeRan setup t key file first pairs later old new result
    by_test true d f = whole_fetched setup t key file part fetch first pairs later old new text v result few r a d p q f
    by_test false d h = rw (h.0, h.1) (whole_undone setup t key file first pairs later old text v few r a k d)
