-- How a get within a layout goes on after one request.
use Rattle.std.proofs.Common.{◌≡◌, ◌∙◌, ℕ, ◌+◌, ◌-◌, ◌≤◌, ◌<◌, ◌^◌, ◌==◌, Bool, true, false, not, List, [], ◌∷◌, ◌++◌, length, map, refl, sym, ap, subst, arith, append_assoc, append-nil, length-append, eq-eqb}
use Rattle.std.specs.Prelude.{◌&&◌, ◌||◌, filter, Option, Some, None, Result, Ok, Err}
use Rattle.std.specs.List.{list_all, concat}
use Rattle.std.proofs.lemmas.List.{map-append}
use Rattle.ann_key.specs.Keys.{Parts, key_reading}
use Rattle.ann_key.specs.declared.bytes.NoMemory.{NoMemory}
use Rattle.ann_digest.specs.declared.checker.Checker.{Checker}
use Rattle.ann_digest.specs.Checkers.{taken_of}
use Rattle.task_text.specs.Layouts.Layouts.{Part}
use Rattle.annex_model.specs.Messages.{HostMessage, Transfer}
use Rattle.journal_model.specs.declared.verdict.Verdict.{Verdict}
use Rattle.journal_model.specs.declared.verdict.Verdict.TheVariants as V
use Rattle.journal_model.specs.declared.answer.Answer.{Answer}
use Rattle.journal_model.specs.declared.answer.Answer.TheVariants as A
use Rattle.task_text.specs.declared.task.Work.TheVariants as W
use Rattle.ann_outside.specs.Calls.{Log, Gained}
use Rattle.ann_outside.specs.declared.file_desk.DeskError.TheVariants as E
use Rattle.ann_outside.specs.declared.file_desk.Call.{Call}
use Rattle.ann_outside.specs.declared.file_desk.Call.TheVariants.{Size, Remove}
use Rattle.task_model.specs.Copying.Copies.{EndsWhole, Checks}
use Rattle.task_model.proofs.CopyingLemmas.CopyLaws.{gained_nothing}
use Rattle.task_model.specs.Askers.{Asking, KeepsRequest}
use Rattle.task_model.specs.declared.setup.Setup.{Setup}
use Rattle.task_model.specs.declared.turn.TaskTurn.{TaskTurn}
use Rattle.task_run.specs.declared.get.get_chunk.Went.{Went}
use Rattle.task_run.specs.declared.get.get_chunk.Went.TheVariants as T
use Rattle.task_model.specs.Stops.{is_done, is_done_at, asking_stop, call_stop, AnsweredBy}
use Rattle.task_model.specs.Names.{part_of, fetch_file}
use Rattle.task_model.specs.Requests.{AsksFor, AskInOrder, rounds, RoundsAsk}
use Rattle.task_model.specs.Reads.{lengths_found, reads_of, is_known, is_run, is_reading, takes_away, is_removed}
use Rattle.task_model.specs.Gets.{fetch_request, lengths_at_begin, wanted, wrong_lengths, is_wrong, is_read_whole, is_failed, failures, asked_last, GetAsks}
use Rattle.task_model.specs.Ran.{refusal, is_verdict_of}
use Rattle.task_model.specs.Fetching.{Outcome, discarded}
use Rattle.task_run.specs.Get.Fronts.{Turn, first_in, fetch_at, keys_in, is_calm, is_apart, Tried, Sound, are_free, Within, Kept, Between, Ended}
use Rattle.task_run.specs.Get.ChunkFetches.{over_with, Come, Unmeasured, Misfit, Uncopied, Unremoved, Came, come_calls, come_result, ComeIs, Take, Unmade, Undone, Fetched, undone_went, TakeIs}
use Rattle.task_run.specs.Get.LayoutRuns.{Grown, PartEnd, NextRan}
use Rattle.task_run.proofs.GetLemmas.LastCalls.{after_last-at}
use Rattle.task_run.proofs.GetLemmas.AskLaws.{round_ended, count_more, count_all}
use Rattle.task_model.proofs.GetCallsLaws.{fair_size, fair_remove_part, known_add, known_skip}
use Rattle.task_run.proofs.GetLemmas.GetEnds.{Facts, moved_facts, whole_reading, moved_calls, last_call}
use Rattle.task_run.proofs.GetLemmas.GetFronts.{ended_memory, ended_asked, ended_finished}
use Rattle.task_run.proofs.GetLemmas.ReadLaws.{begin_lengths, reads_behind, lengths_behind, same_wrong, none_wrong, wrong_more}
use Rattle.task_run.proofs.GetLemmas.GetDecides.{Last, answers_misfit}
use Rattle.task_run.proofs.GetLemmas.GetWithin.{own_apart, none_failed, sound_asked, within_asks, within_fore, within_next, kept_next}
use Rattle.task_run.proofs.GetLemmas.GetFetch.{Here, FetchingAt, file_in, part_in, fetch_in, asked_in, EndedAt, apart_in, others_size, Moving, moving_none, moving_step, segment_of, fore_of, free_of, memory_at, stopped_at, Ready, copies_in, copy_early, copy_refused, tail_in, fetch_unremoved, moving_moved, part_known_moved}
use Rattle.ann_key.proofs.Booleans.{false_is_true as apart, or_right as right_or}
use Rattle.ann_key.proofs.Lists.{same_name, all_more as list_all-append, weaken}
use Rattle.ann_outside.proofs.Across.{count_none}

-- ---- a layout that failed

one_failed : (past cur : List Asking) (a : Asking) → list_all is_done cur ≡ true → is_failed a ≡ true → failures (past ++ (cur ++ a ∷ [])) ≡ failures past + 1
one_failed past cur a d f =
    let whole : failures (past ++ (cur ++ a ∷ [])) ≡ failures past + failures (cur ++ a ∷ []) = count_more is_failed past (cur ++ a ∷ []) in
    let rest : failures (cur ++ a ∷ []) ≡ failures cur + failures (a ∷ []) = count_more is_failed cur (a ∷ []) in
    let none : failures cur ≡ 0 = count_none is_failed cur (none_failed cur d) in
    let one : failures (a ∷ []) ≡ 1 = count_all is_failed (a ∷ []) (rw f refl) in
    omega (arith, whole, rest, none, one)

pub failed_undone : (a : Asking) → is_failed a ≡ true → is_done a ≡ false
failed_undone a h = of a.request a.verdict h
  where
    of : (request : Option HostMessage) (v : Verdict) → is_failed (record { request = request; name = None; verdict = v }) ≡ true → is_done (record { request = request; name = None; verdict = v }) ≡ false
    of request (V.Done at) h = apart h
    of request (V.Failed at) h = refl
    of request (V.Absent at) h = refl
    of request (V.Unknown at) h = refl
    of request (V.Unsupported at) h = refl
    of request (V.Ended why) h = refl
    of request V.Unsent h = refl

failed_calm : (a : Asking) → is_failed a ≡ true → is_calm a ≡ true
failed_calm a h = by_test (is_done a)
  where
    by_test : (b : Bool) → (b || is_failed a) ≡ true
    by_test true = refl
    by_test false = h

own_number : (u : Turn) (cur : List Asking) (n : ℕ) → n ≡ first_in u + length cur → length (u.past ++ cur) + 1 ≡ n
own_number u cur n e = let l : length (u.past ++ cur) ≡ length u.past + length cur = length-append u.past cur in omega (arith, e, l)

pub failed_tried : (u : Turn) (cur : List Asking) (got left : List Part) (part : Part) (a : Asking) (n : ℕ) (calls : List Call) → Within u cur got (part ∷ left) calls
    → n ≡ first_in u + length cur → AsksFor (fetch_request u.place.setup u.place.turn) n part.key a → is_failed a ≡ true
    → Tried u.place (u.past ++ (cur ++ a ∷ [])) (u.done ++ (got ++ part ∷ left) ∷ []) (u.tried ++ u.chunk ∷ []) u.rest
failed_tried u cur got left part a n calls w is asks f = record {
  sizes_are = w.tries.sizes_are ∙ sym (append_assoc u.tried (u.chunk ∷ []) u.rest);
  each_done =
      let t : length (u.tried ++ u.chunk ∷ []) ≡ length u.tried + 1 = length-append u.tried (u.chunk ∷ []) in
      let d : length (u.done ++ (got ++ part ∷ left) ∷ []) ≡ length u.done + 1 = length-append u.done ((got ++ part ∷ left) ∷ []) in
      omega (arith, t, d, w.tries.each_done);
  failed =
      let o = one_failed u.past cur a w.all_done f in
      let d : length (u.done ++ (got ++ part ∷ left) ∷ []) ≡ length u.done + 1 = length-append u.done ((got ++ part ∷ left) ∷ []) in
      omega (arith, o, d, w.tries.failed);
  calm = list_all-append is_calm u.past (cur ++ a ∷ []) w.tries.calm
      (list_all-append is_calm cur (a ∷ []) (done_all_calm cur w.all_done) (rw (failed_calm a f) refl));
  in_order = order;
  last = λ next none.
      let e : (u.past ++ (cur ++ a ∷ [])) ++ next ≡ (u.past ++ cur) ++ a ∷ next =
      ap (λ l. l ++ next) (sym (append_assoc u.past cur (a ∷ []))) ∙ append_assoc (u.past ++ cur) (a ∷ []) next in
      ap asked_last e ∙ after_last-at is_failed (u.past ++ cur) a next none f;
}
  where
    done_all_calm : (ds : List Asking) → list_all is_done ds ≡ true → list_all is_calm ds ≡ true
    done_all_calm ds h = weaken is_done is_calm ds (λ d e. rw e refl) h

    order : (more : List (List Parts)) (next : List Asking) → RoundsAsk (fetch_request u.place.setup u.place.turn) (length (u.past ++ (cur ++ a ∷ [])) + 1) more (rounds next)
        → RoundsAsk (fetch_request u.place.setup u.place.turn) 1 (map keys_in (u.done ++ (got ++ part ∷ left) ∷ []) ++ more) (rounds ((u.past ++ (cur ++ a ∷ [])) ++ next))
    order more next h =
        let ask : ℕ → List ℕ → HostMessage = fetch_request u.place.setup u.place.turn in
        let K : List Parts → Type 0 = λ ks. AskInOrder ask (first_in u) ks (cur ++ a ∷ []) in
        let N : ℕ → Type 0 = λ k. AsksFor ask k part.key a in
        let own : AskInOrder ask (first_in u) (keys_in (got ++ part ∷ left)) (cur ++ a ∷ []) =
        subst K (sym (map-append (λ (q : Part). q.key) got (part ∷ left))) (w.in_order (keys_in (part ∷ left)) (a ∷ []) (subst N is asks, tt)) in
        let num : length (u.past ++ (cur ++ a ∷ [])) + 1 ≡ first_in u + length (cur ++ a ∷ []) = let l : length (u.past ++ (cur ++ a ∷ [])) ≡ length u.past + length (cur ++ a ∷ []) = length-append u.past (cur ++ a ∷ []) in omega (arith, l) in
        let M : ℕ → Type 0 = λ k. RoundsAsk ask k more (rounds next) in
        let R : List (List Asking) → Type 0 = λ rs. RoundsAsk ask (first_in u) (keys_in (got ++ part ∷ left) ∷ more) rs in
        let round : RoundsAsk ask (first_in u) (keys_in (got ++ part ∷ left) ∷ more) (rounds ((cur ++ a ∷ []) ++ next)) =
        subst R (sym (round_ended cur a next w.all_done (failed_undone a f))) (own, subst M num h) in
        let all : RoundsAsk ask 1 (map keys_in u.done ++ keys_in (got ++ part ∷ left) ∷ more) (rounds (u.past ++ ((cur ++ a ∷ []) ++ next))) =
        w.tries.in_order (keys_in (got ++ part ∷ left) ∷ more) ((cur ++ a ∷ []) ++ next) round in
        let L : List (List Parts) → Type 0 = λ ks. RoundsAsk ask 1 ks (rounds (u.past ++ ((cur ++ a ∷ []) ++ next))) in
        let S : List Asking → Type 0 = λ l. RoundsAsk ask 1 (map keys_in (u.done ++ (got ++ part ∷ left) ∷ []) ++ more) (rounds l) in
        let keys : map keys_in u.done ++ keys_in (got ++ part ∷ left) ∷ more ≡ map keys_in (u.done ++ (got ++ part ∷ left) ∷ []) ++ more =
        sym (append_assoc (map keys_in u.done) (keys_in (got ++ part ∷ left) ∷ []) more) ∙ ap (λ l. l ++ more) (sym (map-append keys_in u.done ((got ++ part ∷ left) ∷ []))) in
        subst S (sym (append_assoc u.past (cur ++ a ∷ []) next)) (subst L keys all)

pub failed_between : (u : Turn) (cur : List Asking) (got left : List Part) (part : Part) (a : Asking) (n : ℕ) (calls : List Call) → Within u cur got (part ∷ left) calls
    → length (lengths_at_begin u.place.file calls) ≡ length u.done + 1 → n ≡ first_in u + length cur → n < 2 ^ 64
    → AsksFor (fetch_request u.place.setup u.place.turn) n part.key a → is_failed a ≡ true
    → Between u.place (u.past ++ (cur ++ a ∷ [])) (u.done ++ (got ++ part ∷ left) ∷ []) (u.tried ++ u.chunk ∷ []) u.rest calls
failed_between u cur got left part a n calls w begun is few asks f = record {
  tries = failed_tried u cur got left part a n calls w is asks f;
  wants = λ later. w.wants later ∙ sym (append_assoc u.done ((got ++ part ∷ left) ∷ []) (wanted u.place.key u.rest later));
  begun = begun ∙ sym (length-append u.done ((got ++ part ∷ left) ∷ []));
  sound =
      let P : List Asking → Type 0 = λ l. Sound u.place l calls in
      subst P (append_assoc u.past cur (a ∷ [])) (sound_asked u.place (u.past ++ cur) a calls w.sound (omega (arith, own_number u cur n is, few)));
  free = w.free;
}

-- ---- a fetch

-- the context of a fetch
abbrev pub here_at : Turn → List Asking → List Part → List Part → Part → Asking → ℕ → List Call → Here
here_at u cur got left part x n calls = record { turn = u; cur = cur; got = got; left = left; part = part; x = x; n = n; calls = calls }

-- the fetched file was measured
pub moving_sized : (h : Here) (m : ℕ) → FetchingAt h → Moving h (Size (fetch_in h) (Ok m) ∷ [])
moving_sized h m f = moving_step h [] (Size (fetch_in h) (Ok m)) (moving_none h) (fair_size (file_in h) (fetch_in h) (apart_in h) (Ok m)) refl refl (others_size h f (Ok m)) refl

ready_sized : (h : Here) (m : ℕ) → FetchingAt h → is_known (part_in h) h.calls ≡ true → Ready h (Size (fetch_in h) (Ok m) ∷ [])
ready_sized h m f k = record {
  moving = moving_sized h m f;
  fetch_known = known_add (fetch_in h) h.calls (Size (fetch_in h) (Ok m)) (rw (same_name (fetch_in h)) refl);
  part_known = known_skip (part_in h) h.calls (Size (fetch_in h) (Ok m)) (rw (apart_in h).fetch_part refl) k;
  unread = refl;
}

-- the fetched file has another length than its part
misfit : (h : Here) (m size : ℕ) (r : Outcome) → FetchingAt h → h.turn.place.key.size ≡ Some size → (m == h.part.to - h.part.from) ≡ false
    → length (lengths_at_begin (file_in h) h.calls) ≡ length h.turn.done + 1 → h.n + length h.left < 2 ^ 64
    → call_stop (part_in h) (Remove (part_in h) r) ≡ None → takes_away (part_in h) (Remove (part_in h) r) ≡ true
    → ((X : Type 0) → X → AnsweredBy [] (A.Size m) X)
    → EndedAt h (Size (fetch_in h) (Ok m) ∷ Remove (part_in h) r ∷ []) (A.Size m)
misfit h m size r f s wrong begun room free gone by =
    ended_finished h.turn.place (asked_in h) (h.calls ++ seg) (A.Size m) (fore_of h seg f moving) (free_of h seg f moving)
    (by _ (answers_misfit u (h.cur ++ h.x ∷ []) (h.got ++ h.part ∷ h.left) (h.calls ++ seg) m last wrongs removed))
  where
    u : Turn
    u = h.turn

    seg : List Call
    seg = Size (fetch_in h) (Ok m) ∷ Remove (part_in h) r ∷ []

    moving : Moving h seg
    moving = moving_step h (Size (fetch_in h) (Ok m) ∷ []) (Remove (part_in h) r) (moving_sized h m f) (fair_remove_part (file_in h) (fetch_in h) (apart_in h) r) (rw (same_name (part_in h)) refl) free (λ k b d. refl) refl

    same_lengths : lengths_at_begin (file_in h) (h.calls ++ seg) ≡ lengths_at_begin (file_in h) h.calls
    same_lengths = begin_lengths (file_in h) h.calls seg moving.good.fair.no_length

    last : Last u (h.cur ++ h.x ∷ []) (h.got ++ h.part ∷ h.left) (h.calls ++ seg)
    last = record {
      tries = f.within.tries;
      none = none_failed (h.cur ++ h.x ∷ []) (list_all-append is_done h.cur (h.x ∷ []) f.within.all_done (rw f.is_done_now refl));
      wants = ap (wanted u.place.key u.place.sizes) (same_lengths ∙ sym (append-nil (lengths_at_begin (file_in h) h.calls))) ∙ f.within.wants [];
      begun = right_or (u.chunk == 0) (length (lengths_at_begin (file_in h) (h.calls ++ seg)) == length u.done + 1) (eq-eqb _ _ (ap length same_lengths ∙ begun));
    }

    size_found : lengths_found (fetch_in h) (h.calls ++ seg) ≡ m ∷ []
    size_found = lengths_behind (fetch_in h) h.calls seg (own_apart u h.cur h.got h.left h.part h.x h.n h.calls f) ∙ rw (same_name (fetch_in h)) refl

    later : wrong_lengths u.place.setup u.place.turn u.place.key.size (h.calls ++ seg) (h.n + 1) h.left ≡ []
    later = none_wrong u.place.setup u.place.turn u.place.key.size (h.n + 1) h.left (h.calls ++ seg)
        (λ i low high. list_all-append (is_apart (fetch_at u.place i)) h.calls seg
        (f.within.sound.fresh i (let o = own_number u h.cur h.n f.number in omega (arith, o, low)) (omega (arith, high, room)))
        (moving.others i (omega (arith, high, room)) (λ e. omega (arith, e, low))))

    is_wrong_now : is_wrong u.place.key.size h.part m ≡ true
    is_wrong_now = let P : Option ℕ → Type 0 = λ o. is_wrong o h.part m ≡ true in subst P (sym s) (ap not wrong)

    wrongs : wrong_lengths u.place.setup u.place.turn u.place.key.size (h.calls ++ seg) (first_in u) (h.got ++ h.part ∷ h.left) ≡ m ∷ []
    wrongs =
        let number : first_in u + length h.got ≡ h.n = let a = f.within.aligned in let b = f.number in omega (arith, a, b) in
        wrong_more u.place.setup u.place.turn u.place.key.size (h.calls ++ seg) (first_in u) h.got (h.part ∷ h.left)
        ∙ ap (λ l. l ++ wrong_lengths u.place.setup u.place.turn u.place.key.size (h.calls ++ seg) (first_in u + length h.got) (h.part ∷ h.left))
        (same_wrong u.place.setup u.place.turn u.place.key.size (first_in u) h.got h.calls seg (λ i low high. moving.others i (let a = f.within.aligned in let b = f.number in let c = f.few in omega (arith, a, b, c, high)) (λ e. let a = f.within.aligned in let b = f.number in omega (arith, a, b, e, high))) ∙ f.within.right)
        ∙ ap (λ k. wrong_lengths u.place.setup u.place.turn u.place.key.size (h.calls ++ seg) k (h.part ∷ h.left)) number
        ∙ ap (λ l. filter (is_wrong u.place.key.size h.part) l ++ wrong_lengths u.place.setup u.place.turn u.place.key.size (h.calls ++ seg) (h.n + 1) h.left) size_found
        ∙ ap (λ l. filter (is_wrong u.place.key.size h.part) (m ∷ []) ++ l) later
        ∙ rw is_wrong_now refl

    removed : is_removed (part_in h) (h.calls ++ seg) ≡ true
    removed =
        ap (is_removed (part_in h)) (sym (append_assoc h.calls (Size (fetch_in h) (Ok m) ∷ []) (Remove (part_in h) r ∷ [])))
        ∙ last_call (part_in h) (takes_away (part_in h)) (h.calls ++ Size (fetch_in h) (Ok m) ∷ []) (Remove (part_in h) r) (same_name (part_in h)) ∙ gone

-- the fetched file was copied onto part, and removed
came : (h : Here) (len size : ℕ) (held : List (ℕ × List ℕ)) (bytes : List ℕ) (before after : Checker) (pieces : List (List ℕ)) (ending : List Call) → FetchingAt h
    → Kept h.turn h.cur h.got (h.part ∷ h.left) h.calls held bytes → h.turn.place.key.size ≡ Some size → len ≡ h.part.to - h.part.from
    → EndsWhole (fetch_in h) (length (concat pieces)) (len - length (concat pieces)) ending → length (concat pieces) ≤ len → Checks before after (concat pieces)
    → PartEnd h.turn h.cur h.got h.left h.part h.calls held bytes before after (h.x ∷ []) (Size (fetch_in h) (Ok len) ∷ ((copies_in h pieces ++ ending) ++ Remove (fetch_in h) (Ok tt) ∷ [])) (Ok T.Whole)
came h len size held bytes before after pieces ending f k s is w most c =
    let P : List Call → Type 0 = λ l. PartEnd u h.cur h.got h.left h.part h.calls held bytes before after (h.x ∷ []) l (Ok T.Whole) in
    subst P (ap (λ l. Size (fetch_in h) (Ok len) ∷ l) (sym (append_assoc (copies_in h pieces) ending (Remove (fetch_in h) (Ok tt) ∷ [])))) (
      concat pieces,
      within_next u h.cur h.got h.left h.part h.x h.n h.calls seg f (segment_of h seg moving) moving.run moving.good.free (ap (filter (is_wrong u.place.key.size h.part)) sized ∙ rw right refl),
      kept_next u h.cur h.got h.left h.part h.x h.n h.calls seg held bytes (concat pieces) f k (segment_of h seg moving) (rw (apart_in h).fetch_part facts.no_begin) facts.grown known facts.bytes facts.written whole,
      c,
      refl,
    )
  where
    u : Turn
    u = h.turn

    pre : List Call
    pre = Size (fetch_in h) (Ok len) ∷ []

    seg : List Call
    seg = pre ++ moved_calls (file_in h) (fetch_in h) pieces ending

    ready : Ready h pre
    ready = ready_sized h len f k.known

    moving : Moving h seg
    moving = moving_moved h pre (len - length (concat pieces)) pieces ending f ready w

    facts : Facts (file_in h) (fetch_in h) pieces ending (moved_calls (file_in h) (fetch_in h) pieces ending)
    facts = moved_facts (file_in h) (fetch_in h) ((h.calls ++ pre) ++ copies_in h pieces) pieces ending (Remove (fetch_in h) (Ok tt) ∷ []) (apart_in h)
        (tail_in h pre (len - length (concat pieces)) pieces ending ready w) refl refl refl refl refl

    known : is_known (part_in h) (h.calls ++ seg) ≡ true
    known = part_known_moved h pre (len - length (concat pieces)) pieces ending ready w

    sized : lengths_found (fetch_in h) seg ≡ len ∷ []
    sized = rw (same_name (fetch_in h)) (rw facts.sized refl)

    right : is_wrong u.place.key.size h.part len ≡ false
    right = let P : Option ℕ → Type 0 = λ o. is_wrong o h.part len ≡ false in subst P (sym s) (ap not (eq-eqb len (h.part.to - h.part.from) is))

    reading : is_reading 0 len (reads_of (fetch_in h) seg) ≡ true
    reading = rw facts.reads_are (whole_reading (fetch_in h) len pieces ending w most (rw facts.reads_are at moving.run))

    whole : is_read_whole (reads_of (fetch_in h) seg) (lengths_found (fetch_in h) seg) ≡ true
    whole = ap (is_read_whole (reads_of (fetch_in h) seg)) sized ∙ ap (λ b. b && true) reading

-- how it goes on after a request that is done
pub come_end : (h : Here) (len size : ℕ) (held : List (ℕ × List ℕ)) (bytes : List ℕ) (before after : Checker) (how : Come) → FetchingAt h
    → Kept h.turn h.cur h.got (h.part ∷ h.left) h.calls held bytes → h.turn.place.key.size ≡ Some size → len ≡ h.part.to - h.part.from → h.n + length h.left < 2 ^ 64
    → ComeIs (part_in h) (fetch_in h) len before after how
    → PartEnd h.turn h.cur h.got h.left h.part h.calls held bytes before after (h.x ∷ []) (come_calls (part_in h) (fetch_in h) len how) (come_result how)
come_end h len size held bytes before after (Unmeasured E.NoMemory) f k s is room so = memory_at h [] f (moving_none h)
come_end h len size held bytes before after (Unmeasured E.Failed) f k s is room so =
    stopped_at h [] (Size (fetch_in h) (Err E.Failed)) A.FileFault f (moving_none h) (fair_size (file_in h) (fetch_in h) (apart_in h) (Err E.Failed)) refl refl (others_size h f (Err E.Failed)) refl
come_end h len size held bytes before after (Unmeasured E.Missing) f k s is room so =
    stopped_at h [] (Size (fetch_in h) (Err E.Missing)) A.NoFile f (moving_none h) (fair_size (file_in h) (fetch_in h) (apart_in h) (Err E.Missing)) refl (rw (apart_in h).fetch_part refl) (others_size h f (Err E.Missing)) refl
come_end h len size held bytes before after (Misfit m (Ok tt')) f k s is room so =
    misfit h m size (Ok tt') f s (ap (λ j. m == j) (sym is) ∙ so) k.begun room refl (same_name (part_in h)) (λ X x. x)
come_end h len size held bytes before after (Misfit m (Err E.Missing)) f k s is room so =
    misfit h m size (Err E.Missing) f s (ap (λ j. m == j) (sym is) ∙ so) k.begun room (rw (same_name (part_in h)) refl) (same_name (part_in h)) (λ X x. x)
come_end h len size held bytes before after (Misfit m (Err E.Failed)) f k s is room so =
    stopped_at h (Size (fetch_in h) (Ok m) ∷ []) (Remove (part_in h) (Err E.Failed)) A.FileFault f (moving_sized h m f) (fair_remove_part (file_in h) (fetch_in h) (apart_in h) (Err E.Failed))
    (rw (same_name (part_in h)) refl) refl (λ i b d. refl) refl
come_end h len size held bytes before after (Misfit m (Err E.NoMemory)) f k s is room so = memory_at h (Size (fetch_in h) (Ok m) ∷ []) f (moving_sized h m f)
come_end h len size held bytes before after (Uncopied pieces ending E.NoMemory) f k s is room so = copy_early h (Size (fetch_in h) (Ok len) ∷ []) pieces ending f (ready_sized h len f k.known) so
come_end h len size held bytes before after (Uncopied pieces ending E.Failed) f k s is room so = copy_refused h (Size (fetch_in h) (Ok len) ∷ []) pieces ending E.Failed f (ready_sized h len f k.known) (λ e. cc) so
come_end h len size held bytes before after (Uncopied pieces ending E.Missing) f k s is room so = copy_refused h (Size (fetch_in h) (Ok len) ∷ []) pieces ending E.Missing f (ready_sized h len f k.known) (λ e. cc) so
come_end h len size held bytes before after (Unremoved pieces ending E.NoMemory) f k s is room so =
    fetch_unremoved h (Size (fetch_in h) (Ok len) ∷ []) (len - length (concat pieces)) pieces ending E.NoMemory f (ready_sized h len f k.known) so
come_end h len size held bytes before after (Unremoved pieces ending E.Failed) f k s is room so =
    fetch_unremoved h (Size (fetch_in h) (Ok len) ∷ []) (len - length (concat pieces)) pieces ending E.Failed f (ready_sized h len f k.known) so
come_end h len size held bytes before after (Unremoved pieces ending E.Missing) f k s is room so =
    fetch_unremoved h (Size (fetch_in h) (Ok len) ∷ []) (len - length (concat pieces)) pieces ending E.Missing f (ready_sized h len f k.known) so
come_end h len size held bytes before after (Came pieces ending) f k s is room so = came h len size held bytes before after pieces ending f k s is so.0 so.1 so.2

-- ---- a request

-- nothing is asked
pub unasked_end : (u : Turn) (cur : List Asking) (got left : List Part) (calls : List Call) → Within u cur got left calls → Ended u.place (u.past ++ (cur ++ [])) (calls ++ []) A.Memory
unasked_end u cur got left calls w =
    let P : List Asking → Type 0 = λ l. Ended u.place (u.past ++ l) (calls ++ []) A.Memory in
    let Q : List Call → Type 0 = λ l. Ended u.place (u.past ++ cur) l A.Memory in
    subst P (sym (append-nil cur)) (subst Q (sym (append-nil calls)) (ended_memory u.place (u.past ++ cur) calls (within_fore u cur got left calls w) w.free))

pub next_unasked : (setup : Setup) (t : TaskTurn) (key : Parts) (size chunk i : ℕ) (part : List ℕ) (now : ℕ) (pairs : List Asking) (log : Option Log) (checker : Checker) (e : NoMemory)
    → NextRan setup t key size chunk i part now pairs pairs log log checker checker (Err e)
next_unasked setup t key size chunk i part now pairs log checker e = record {
  grown = record { asked = []; made = []; pairs_are = sym (append-nil pairs); log_is = gained_nothing log };
  goes = λ file b cur got left calls held bytes p n room w k. unasked_end _ cur got _ calls w;
  one = λ went r. absurd cc;
}

-- a verdict that stops it
pub asked_end : (u : Turn) (cur : List Asking) (got left : List Part) (part : Part) (a : Asking) (n : ℕ) (calls : List Call) (answer : Answer) → Within u cur got (part ∷ left) calls
    → n ≡ first_in u + length cur → n < 2 ^ 64 → AsksFor (fetch_request u.place.setup u.place.turn) n part.key a → not (is_failed a) ≡ true → asking_stop W.Get a ≡ Some answer
    → Ended u.place (u.past ++ (cur ++ a ∷ [])) (calls ++ []) answer
asked_end u cur got left part a n calls answer w is few asks ok stop =
    let fresh : reads_of (fetch_at u.place n) (calls ++ []) ≡ [] =
    reads_behind (fetch_at u.place n) calls [] (w.sound.fresh n (let o = own_number u cur n is in omega (arith, o)) few) in
    let asked : GetAsks u.place.setup u.place.turn u.place.key u.place.sizes u.place.file (u.past ++ (cur ++ a ∷ [])) (calls ++ []) =
    within_asks u cur got left part a n calls [] w is asks ok refl refl (λ i low high. refl) (ap (is_run 0) fresh) in
    let P : List Asking → Type 0 = λ l. Ended u.place l (calls ++ []) answer in
    let Q : List Asking → Type 0 = λ l. GetAsks u.place.setup u.place.turn u.place.key u.place.sizes u.place.file l (calls ++ []) in
    let S : List Call → Type 0 = λ l. Sound u.place ((u.past ++ cur) ++ a ∷ []) l in
    let R : List Call → Type 0 = λ l. are_free u.place l ≡ true in
    subst P (append_assoc u.past cur (a ∷ []))
    (ended_asked u.place (u.past ++ cur) a (calls ++ []) answer (within_fore u cur got (part ∷ left) calls w).calm
    (subst Q (sym (append_assoc u.past cur (a ∷ []))) asked)
    (subst S (sym (append-nil calls)) (sound_asked u.place (u.past ++ cur) a calls w.sound (let o = own_number u cur n is in omega (arith, o, few))))
    (subst R (sym (append-nil calls)) w.free) stop)

pub asks_for_part : (setup : Setup) (t : TaskTurn) (n : ℕ) (text : List ℕ) (key : Parts) (request : Option HostMessage) (v : Verdict) → key_reading text ≡ Some key
    → KeepsRequest (Transfer false text (fetch_file setup t n)) request v → AsksFor (fetch_request setup t) n key (record { request = request; name = None; verdict = v })
asks_for_part setup t n text key None v e k = k
asks_for_part setup t n text key (Some q) v e k = rw k (refl, e)

undone_end : (u : Turn) (cur : List Asking) (got left : List Part) (part : Part) (n : ℕ) (calls : List Call) (held : List (ℕ × List ℕ)) (bytes : List ℕ) (before after : Checker)
    (request : Option HostMessage) (v : Verdict) (text fetch : List ℕ) → Within u cur got (part ∷ left) calls
    → length (lengths_at_begin u.place.file calls) ≡ length u.done + 1 → n ≡ first_in u + length cur → n < 2 ^ 64
    → AsksFor (fetch_request u.place.setup u.place.turn) n part.key (record { request = request; name = None; verdict = v })
    → is_verdict_of (Transfer false text fetch) v ≡ true → is_done_at v ≡ false
    → PartEnd u cur got left part calls held bytes before after (record { request = request; name = None; verdict = v } ∷ []) [] (Ok (undone_went v))
undone_end u cur got left part n calls held bytes before after request (V.Done at) text fetch w begun is few asks kind d = apart (sym d)
undone_end u cur got left part n calls held bytes before after request (V.Absent at) text fetch w begun is few asks kind d = apart kind
undone_end u cur got left part n calls held bytes before after request (V.Unknown at) text fetch w begun is few asks kind d = apart kind
undone_end u cur got left part n calls held bytes before after request (V.Failed at) text fetch w begun is few asks kind d =
    let a : Asking = record { request = request; name = None; verdict = V.Failed at } in
    let P : List Call → Type 0 = λ l. Between u.place (u.past ++ (cur ++ a ∷ [])) (u.done ++ (got ++ part ∷ left) ∷ []) (u.tried ++ u.chunk ∷ []) u.rest l in
    (subst P (sym (append-nil calls)) (failed_between u cur got left part a n calls w begun is few asks refl), refl)
undone_end u cur got left part n calls held bytes before after request (V.Unsupported at) text fetch w begun is few asks kind d = asked_end u cur got left part _ n calls A.Unsupported w is few asks refl refl
undone_end u cur got left part n calls held bytes before after request (V.Ended why) text fetch w begun is few asks kind d = asked_end u cur got left part _ n calls (A.Ended why) w is few asks refl refl
undone_end u cur got left part n calls held bytes before after request V.Unsent text fetch w begun is few asks kind d = asked_end u cur got left part _ n calls A.Unsent w is few asks refl refl

pub gained_same : (old new : Option Log) → new ≡ old → Gained old new []
gained_same old new e = let P : Option Log → Type 0 = λ l. Gained old l [] in subst P (sym e) (gained_nothing old)

-- what a request added
abbrev pub grown_by : (text part fetch : List ℕ) (n : ℕ) (before after : Checker) (pairs later : List Asking) (old new : Option Log) (result : Result Went NoMemory) (how : Take)
    → TakeIs text part fetch n before after pairs later old new result how → Grown pairs later old new
grown_by text part fetch n before after pairs later old new result Unmade so = record { asked = []; made = []; pairs_are = so.none_asked ∙ sym (append-nil pairs); log_is = gained_same old new so.none_called }
grown_by text part fetch n before after pairs later old new result (Undone v) so =
    record { asked = record { request = so.asks.request; name = None; verdict = v } ∷ []; made = []; pairs_are = so.asks.added; log_is = gained_same old new so.none_called }
grown_by text part fetch n before after pairs later old new result (Fetched v how) so =
    record { asked = record { request = so.asks.request; name = None; verdict = v } ∷ []; made = come_calls part fetch n how; pairs_are = so.asks.added; log_is = so.calls }

fetched_end : (u : Turn) (cur : List Asking) (got left : List Part) (part : Part) (n : ℕ) (calls : List Call) (held : List (ℕ × List ℕ)) (bytes : List ℕ) (len size : ℕ) (before after : Checker)
    (request : Option HostMessage) (v : Verdict) (how : Come) → Within u cur got (part ∷ left) calls → Kept u cur got (part ∷ left) calls held bytes → n ≡ first_in u + length cur → n + length left < 2 ^ 64
    → AsksFor (fetch_request u.place.setup u.place.turn) n part.key (record { request = request; name = None; verdict = v }) → is_done_at v ≡ true
    → u.place.key.size ≡ Some size → len ≡ part.to - part.from → ComeIs (part_of u.place.file) (fetch_at u.place n) len before after how
    → PartEnd u cur got left part calls held bytes before after (record { request = request; name = None; verdict = v } ∷ []) (come_calls (part_of u.place.file) (fetch_at u.place n) len how) (come_result how)
fetched_end u cur got left part n calls held bytes len size before after request v how w k is room asks d s l so =
    come_end (here_at u cur got left part (record { request = request; name = None; verdict = v }) n calls) len size held bytes before after how
    (record { within = w; number = is; few = omega (arith, room); asks = asks; is_done_now = d }) k s l room so

pub take_end : (u : Turn) (cur : List Asking) (got left : List Part) (part : Part) (n : ℕ) (calls : List Call) (held : List (ℕ × List ℕ)) (bytes : List ℕ) (len size : ℕ) (text : List ℕ)
    (before after : Checker) (pairs later : List Asking) (old new : Option Log) (result : Result Went NoMemory) (how : Take)
    → (so : TakeIs text (part_of u.place.file) (fetch_at u.place n) len before after pairs later old new result how)
    → Within u cur got (part ∷ left) calls → Kept u cur got (part ∷ left) calls held bytes → n ≡ first_in u + length cur → n + length left < 2 ^ 64
    → key_reading text ≡ Some part.key → u.place.key.size ≡ Some size → len ≡ part.to - part.from
    → PartEnd u cur got left part calls held bytes before after
    (grown_by text (part_of u.place.file) (fetch_at u.place n) len before after pairs later old new result how so).asked
    (grown_by text (part_of u.place.file) (fetch_at u.place n) len before after pairs later old new result how so).made result
take_end u cur got left part n calls held bytes len size text before after pairs later old new result Unmade so w k is room r s l = rw so.no_memory (unasked_end u cur got (part ∷ left) calls w)
take_end u cur got left part n calls held bytes len size text before after pairs later old new result (Undone v) so w k is room r s l =
    rw so.goes (undone_end u cur got left part n calls held bytes before after so.asks.request v text (fetch_at u.place n) w k.begun is (omega (arith, room))
    (asks_for_part u.place.setup u.place.turn n text part.key so.asks.request v r so.asks.kept) so.of_kind so.not_done)
take_end u cur got left part n calls held bytes len size text before after pairs later old new result (Fetched v how) so w k is room r s l =
    rw so.goes (fetched_end u cur got left part n calls held bytes len size before after so.asks.request v how w k is room
    (asks_for_part u.place.setup u.place.turn n text part.key so.asks.request v r so.asks.kept) so.done s l so.so)

-- the same, by the names that the code has
pub take_ran : (u : Turn) (cur : List Asking) (got left : List Part) (part : Part) (n : ℕ) (calls : List Call) (held : List (ℕ × List ℕ)) (bytes : List ℕ) (len size : ℕ) (text name fetch : List ℕ)
    (before after : Checker) (pairs later : List Asking) (old new : Option Log) (result : Result Went NoMemory) (how : Take)
    → (so : TakeIs text name fetch len before after pairs later old new result how) → name ≡ part_of u.place.file → fetch ≡ fetch_at u.place n
    → Within u cur got (part ∷ left) calls → Kept u cur got (part ∷ left) calls held bytes → n ≡ first_in u + length cur → n + length left < 2 ^ 64
    → key_reading text ≡ Some part.key → u.place.key.size ≡ Some size → len ≡ part.to - part.from
    → PartEnd u cur got left part calls held bytes before after
    (grown_by text name fetch len before after pairs later old new result how so).asked
    (grown_by text name fetch len before after pairs later old new result how so).made result
take_ran u cur got left part n calls held bytes len size text name fetch before after pairs later old new result how so p q w k is room r s l =
    let P : List ℕ → Type 0 = λ x. (so : TakeIs text x fetch len before after pairs later old new result how) → PartEnd u cur got left part calls held bytes before after
    (grown_by text x fetch len before after pairs later old new result how so).asked (grown_by text x fetch len before after pairs later old new result how so).made result in
    let Q : List ℕ → Type 0 = λ x. (so : TakeIs text (part_of u.place.file) x len before after pairs later old new result how) → PartEnd u cur got left part calls held bytes before after
    (grown_by text (part_of u.place.file) x len before after pairs later old new result how so).asked (grown_by text (part_of u.place.file) x len before after pairs later old new result how so).made result in
    subst P (sym p) (subst Q (sym q) (λ so. take_end u cur got left part n calls held bytes len size text before after pairs later old new result how so w k is room r s l)) so

-- ---- how much is taken in

over_not_whole : (r : Result Answer NoMemory) → over_with r ≡ Ok T.Whole → ⊥
over_not_whole (Ok answer) e = cc
over_not_whole (Err e') e = cc

come_most : (part fetch : List ℕ) (n : ℕ) (before after : Checker) (how : Come) → ComeIs part fetch n before after how → come_result how ≡ Ok T.Whole → taken_of after ≤ taken_of before + n
come_most part fetch n before after (Unmeasured e) so is = absurd (over_not_whole (refusal e) is)
come_most part fetch n before after (Misfit m r) so is = absurd (over_not_whole (discarded (A.Size m) r) is)
come_most part fetch n before after (Uncopied pieces ending e) so is = absurd (over_not_whole (refusal e) is)
come_most part fetch n before after (Unremoved pieces ending e) so is = absurd (over_not_whole (refusal e) is)
come_most part fetch n before after (Came pieces ending) so is = let t = so.2.taken in let m = so.1 in omega (arith, t, m)

undone_not_whole : (v : Verdict) → undone_went v ≡ T.Whole → ⊥
undone_not_whole (V.Done at) e = cc
undone_not_whole (V.Failed at) e = cc
undone_not_whole (V.Absent at) e = cc
undone_not_whole (V.Unknown at) e = cc
undone_not_whole (V.Unsupported at) e = cc
undone_not_whole (V.Ended why) e = cc
undone_not_whole V.Unsent e = cc

ok_inj : (a b : Went) (x y : Result Went NoMemory) → x ≡ Ok a → y ≡ Ok b → x ≡ y → a ≡ b
ok_inj a b x y e f g = cc

pub take_most : (text part fetch : List ℕ) (n : ℕ) (before after : Checker) (pairs later : List Asking) (old new : Option Log) (result : Result Went NoMemory) (how : Take)
    → TakeIs text part fetch n before after pairs later old new result how → result ≡ Ok T.Whole → taken_of after ≤ taken_of before + n
take_most text part fetch n before after pairs later old new result Unmade so is = let e = so.no_memory in absurd cc
take_most text part fetch n before after pairs later old new result (Undone v) so is = absurd (undone_not_whole v (ok_inj (undone_went v) T.Whole result (Ok T.Whole) so.goes refl is))
take_most text part fetch n before after pairs later old new result (Fetched v how) so is = come_most part fetch n before after how so.so (sym so.goes ∙ is)

-- a request that is answered was asked
pub take_one : (text part fetch : List ℕ) (n : ℕ) (before after : Checker) (pairs later : List Asking) (old new : Option Log) (result : Result Went NoMemory) (how : Take)
    → (so : TakeIs text part fetch n before after pairs later old new result how) → (went : Went) → result ≡ Ok went
    → length (grown_by text part fetch n before after pairs later old new result how so).asked ≡ 1
take_one text part fetch n before after pairs later old new result Unmade so went is = let e = so.no_memory in absurd cc
take_one text part fetch n before after pairs later old new result (Undone v) so went is = refl
take_one text part fetch n before after pairs later old new result (Fetched v how) so went is = refl
