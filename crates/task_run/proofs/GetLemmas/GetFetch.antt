-- A file that is fetched within a get, copied onto part and removed.
use Rattle.std.proofs.Common.{◌≡◌, ◌∙◌, ℕ, ◌+◌, ◌<◌, ◌^◌, true, false, List, [], ◌∷◌, ◌++◌, length, refl, sym, ap, subst, append_assoc, append-nil, zero-add}
use Rattle.std.specs.Prelude.{Some, None, is_none, bytes_eq, Result, Ok, Err}
use Rattle.std.specs.List.{list_all, concat}
use Rattle.std.proofs.lemmas.List.Elements.{filter_map-append}
use Rattle.task_text.specs.Layouts.Layouts.{Part}
use Rattle.ann_outside.specs.declared.file_desk.DeskError.{DeskError}
use Rattle.ann_outside.specs.declared.file_desk.DeskError.TheVariants as E
use Rattle.ann_outside.specs.declared.file_desk.Call.{Call}
use Rattle.ann_outside.specs.declared.file_desk.Call.TheVariants.{Size, ReadAt, Append, Remove}
use Rattle.task_model.specs.Copying.Copies.{copy_calls, EndsWhole, EndsEarly, RefusedBy}
use Rattle.task_model.specs.Askers.{Asking}
use Rattle.journal_model.specs.declared.answer.Answer.{Answer}
use Rattle.journal_model.specs.declared.answer.Answer.TheVariants as A
use Rattle.task_model.specs.Stops.{call_stop}
use Rattle.task_model.specs.Names.{part_of}
use Rattle.task_model.specs.Reads.{reads_of, read_of, is_run, is_known}
use Rattle.task_model.specs.Discipline.{are_found}
use Rattle.task_model.specs.Ran.{answered, refusal}
use Rattle.task_model.specs.Fetching.{if_made}
use Rattle.task_run.specs.Get.Fronts.{Turn, fetch_at, is_apart, are_free, Ended}
use Rattle.task_model.proofs.FileNames.{fetch_files_differ}
use Rattle.task_model.proofs.GetCallsLaws.{Apart, Fair, Good, fair_more, found_more, good_more, fair_read, fair_append, fair_remove_fetch, known_skip, known_copy, copy_good, copy_reads, run_placed, placed}
use Rattle.task_run.proofs.GetLemmas.GetTasks.{names_apart}
use Rattle.task_run.proofs.GetLemmas.GetEnds.{Tail, tail_of, stop_is, moved_calls}
use Rattle.task_run.proofs.GetLemmas.GetFronts.{Fore, ended_memory, ended_stopped}
use Rattle.task_run.proofs.GetLemmas.GetWithin.{Segment, Fetching, fetch_fore}
use Rattle.ann_key.proofs.Lists.{same_name, all_more as list_all-append}
use Rattle.ann_key.proofs.Numbers.{same_number as nat_same}

-- a part that is being fetched: the request, its number, and the calls before it
pub record Here : Type 0 where
  pub turn : Turn
  pub cur : List Asking
  pub got : List Part
  pub left : List Part
  pub part : Part
  pub x : Asking
  pub n : ℕ
  pub calls : List Call

abbrev pub FetchingAt : Here → Type 0
FetchingAt h = Fetching h.turn h.cur h.got h.left h.part h.x h.n h.calls

abbrev pub file_in : Here → List ℕ
file_in h = h.turn.place.file

abbrev pub part_in : Here → List ℕ
part_in h = part_of h.turn.place.file

abbrev pub fetch_in : Here → List ℕ
fetch_in h = fetch_at h.turn.place h.n

abbrev pub asked_in : Here → List Asking
asked_in h = h.turn.past ++ (h.cur ++ h.x ∷ [])

abbrev pub EndedAt : Here → List Call → Answer → Type 0
EndedAt h seg answer = Ended h.turn.place (asked_in h) (h.calls ++ seg) answer

pub apart_in : (h : Here) → Apart (file_in h) (fetch_in h)
apart_in h = names_apart h.turn.place.setup h.turn.place.turn h.n (file_in h)

-- calls of no other request's file
abbrev pub Others : Here → List Call → Type 0
Others h seg = (m : ℕ) → m < 2 ^ 64 → (m ≡ h.n → ⊥) → list_all (is_apart (fetch_at h.turn.place m)) seg ≡ true

pub other_file : (h : Here) → FetchingAt h → (m : ℕ) → m < 2 ^ 64 → (m ≡ h.n → ⊥) → bytes_eq (fetch_in h) (fetch_at h.turn.place m) ≡ false
other_file h f m b d = fetch_files_differ h.turn.place.setup h.turn.place.turn h.n m f.few b (λ e. d (sym e))

pub others_size : (h : Here) → FetchingAt h → (r : Result ℕ DeskError) → Others h (Size (fetch_in h) r ∷ [])
others_size h f r = λ m b d. rw (other_file h f m b d) refl

pub others_read : (h : Here) → FetchingAt h → (at : ℕ) (r : Result (List ℕ) DeskError) → Others h (ReadAt (fetch_in h) at r ∷ [])
others_read h f at r = λ m b d. rw (other_file h f m b d) refl

pub others_more : (h : Here) (xs ys : List Call) → Others h xs → Others h ys → Others h (xs ++ ys)
others_more h xs ys a b = λ m c d. list_all-append (is_apart (fetch_at h.turn.place m)) xs ys (a m c d) (b m c d)

others_copy : (h : Here) → FetchingAt h → (at : ℕ) (pieces : List (List ℕ)) → Others h (copy_calls (fetch_in h) (part_in h) at pieces)
others_copy h f at [] = λ m b d. refl
others_copy h f at (piece ∷ pieces) = λ m b d. rw (other_file h f m b d) (others_copy h f (at + length piece) pieces m b d)

-- the calls of a fetch that goes on so far
pub record Moving (h : Here) (seg : List Call) : Type 0 where
  pub good : Good (file_in h) (fetch_in h) h.calls seg
  pub others : Others h seg
  pub run : is_run 0 (reads_of (fetch_in h) seg) ≡ true

pub moving_none : (h : Here) → Moving h []
moving_none h = record { good = record { fair = record { names = refl; changes = refl; lengths = refl; no_length = refl; no_read = refl; lasting = refl }; found = refl; free = refl }; others = λ m b d. refl; run = refl }

same_reads : (name : List ℕ) (seg : List Call) (y : Call) → read_of name y ≡ None → reads_of name (seg ++ y ∷ []) ≡ reads_of name seg
same_reads name seg y r = rw (filter_map-append (read_of name) seg (y ∷ [])) (rw r (append-nil (reads_of name seg)))

pub moving_step : (h : Here) (seg : List Call) (y : Call) → Moving h seg → Fair (file_in h) (fetch_in h) (y ∷ []) → are_found (part_in h) (h.calls ++ seg) (y ∷ []) ≡ true
    → call_stop (part_in h) y ≡ None → Others h (y ∷ []) → read_of (fetch_in h) y ≡ None → Moving h (seg ++ y ∷ [])
moving_step h seg y m fair found s others r = record {
  good = good_more (file_in h) (fetch_in h) h.calls seg (y ∷ []) m.good (record { fair = fair; found = found; free = rw s refl });
  others = others_more h seg (y ∷ []) m.others others;
  run = rw (same_reads (fetch_in h) seg y r) m.run;
}

pub segment_of : (h : Here) (seg : List Call) → Moving h seg → Segment h.turn.place h.n h.calls seg
segment_of h seg m = record { fair = m.good.fair; found = m.good.found; others = m.others }

pub fore_of : (h : Here) (seg : List Call) → FetchingAt h → Moving h seg → Fore h.turn.place (asked_in h) (h.calls ++ seg)
fore_of h seg f m = fetch_fore h.turn h.cur h.got h.left h.part h.x h.n h.calls seg f (segment_of h seg m) m.run

pub free_of : (h : Here) (seg : List Call) → FetchingAt h → Moving h seg → are_free h.turn.place (h.calls ++ seg) ≡ true
free_of h seg f m = list_all-append (λ call. is_none (call_stop (part_in h) call)) h.calls seg f.within.free m.good.free

-- ---- its ends

pub memory_at : (h : Here) (seg : List Call) → FetchingAt h → Moving h seg → EndedAt h seg A.Memory
memory_at h seg f m = ended_memory h.turn.place (asked_in h) (h.calls ++ seg) (fore_of h seg f m) (free_of h seg f m)

pub stopped_at : (h : Here) (seg : List Call) (y : Call) (answer : Answer) → FetchingAt h → Moving h seg → Fair (file_in h) (fetch_in h) (y ∷ []) → are_found (part_in h) (h.calls ++ seg) (y ∷ []) ≡ true
    → call_stop (part_in h) y ≡ Some answer → Others h (y ∷ []) → read_of (fetch_in h) y ≡ None → EndedAt h (seg ++ y ∷ []) answer
stopped_at h seg y answer f m fair found s others r =
    let fore : Fore h.turn.place (asked_in h) (h.calls ++ (seg ++ y ∷ [])) =
    fetch_fore h.turn h.cur h.got h.left h.part h.x h.n h.calls (seg ++ y ∷ []) f more (rw (same_reads (fetch_in h) seg y r) m.run) in
    let P : List Call → Type 0 = λ l. Fore h.turn.place (asked_in h) l in
    let Q : List Call → Type 0 = λ l. Ended h.turn.place (asked_in h) l answer in
    subst Q (append_assoc h.calls seg (y ∷ []))
    (ended_stopped h.turn.place (asked_in h) (h.calls ++ seg) y answer (subst P (sym (append_assoc h.calls seg (y ∷ []))) fore) (free_of h seg f m) s)
  where
    more : Segment h.turn.place h.n h.calls (seg ++ y ∷ [])
    more = record {
      fair = fair_more (file_in h) (fetch_in h) seg (y ∷ []) m.good.fair fair;
      found = found_more (part_in h) h.calls seg (y ∷ []) m.good.found found;
      others = others_more h seg (y ∷ []) m.others others;
    }

-- ---- copying

-- calls before the copy: both files are known, and nothing was read
pub record Ready (h : Here) (pre : List Call) : Type 0 where
  pub moving : Moving h pre
  pub fetch_known : is_known (fetch_in h) (h.calls ++ pre) ≡ true
  pub part_known : is_known (part_in h) (h.calls ++ pre) ≡ true
  pub unread : reads_of (fetch_in h) pre ≡ []

abbrev pub copies_in : Here → List (List ℕ) → List Call
copies_in h pieces = copy_calls (fetch_in h) (part_in h) 0 pieces

fetch_known_copied : (h : Here) (pre : List Call) (pieces : List (List ℕ)) → Ready h pre → is_known (fetch_in h) ((h.calls ++ pre) ++ copies_in h pieces) ≡ true
fetch_known_copied h pre pieces r = known_copy (fetch_in h) (fetch_in h) (part_in h) (h.calls ++ pre) 0 pieces r.fetch_known

part_known_copied : (h : Here) (pre : List Call) (pieces : List (List ℕ)) → Ready h pre → is_known (part_in h) ((h.calls ++ pre) ++ copies_in h pieces) ≡ true
part_known_copied h pre pieces r = known_copy (part_in h) (fetch_in h) (part_in h) (h.calls ++ pre) 0 pieces r.part_known

moving_copied : (h : Here) (pre : List Call) (pieces : List (List ℕ)) (more : List Call) → FetchingAt h → Ready h pre
    → Good (file_in h) (fetch_in h) ((h.calls ++ pre) ++ copies_in h pieces) more → Others h more
    → is_run (length (concat pieces)) (reads_of (fetch_in h) more) ≡ true
    → Moving h (pre ++ (copies_in h pieces ++ more))
moving_copied h pre pieces more f r g others run = record {
  good = good_more (file_in h) (fetch_in h) h.calls pre (copies_in h pieces ++ more) r.moving.good
      (good_more (file_in h) (fetch_in h) (h.calls ++ pre) (copies_in h pieces) more (copy_good (file_in h) (fetch_in h) (apart_in h) (h.calls ++ pre) 0 pieces r.fetch_known r.part_known) g);
  others = others_more h pre (copies_in h pieces ++ more) r.moving.others (others_more h (copies_in h pieces) more (others_copy h f 0 pieces) others);
  run = ap (is_run 0) reads ∙ run_placed 0 pieces (reads_of (fetch_in h) more) (rw (zero-add (length (concat pieces))) run);
}
  where
    reads : reads_of (fetch_in h) (pre ++ (copies_in h pieces ++ more)) ≡ placed 0 pieces ++ reads_of (fetch_in h) more
    reads =
        filter_map-append (read_of (fetch_in h)) pre (copies_in h pieces ++ more)
        ∙ ap (λ l. l ++ reads_of (fetch_in h) (copies_in h pieces ++ more)) r.unread
        ∙ filter_map-append (read_of (fetch_in h)) (copies_in h pieces) more
        ∙ ap (λ l. l ++ reads_of (fetch_in h) more) (copy_reads (fetch_in h) (part_in h) 0 pieces)

moving_c : (h : Here) (pre : List Call) (pieces : List (List ℕ)) → FetchingAt h → Ready h pre → Moving h (pre ++ copies_in h pieces)
moving_c h pre pieces f r =
    let P : List Call → Type 0 = λ l. Moving h (pre ++ l) in
    subst P (append-nil (copies_in h pieces))
    (moving_copied h pre pieces [] f r (record { fair = record { names = refl; changes = refl; lengths = refl; no_length = refl; no_read = refl; lasting = refl }; found = refl; free = refl }) (λ m b d. refl) refl)

-- a piece was read and not written
moving_read : (h : Here) (pre : List Call) (pieces : List (List ℕ)) (piece : List ℕ) → FetchingAt h → Ready h pre
    → Moving h (pre ++ (copies_in h pieces ++ ReadAt (fetch_in h) (length (concat pieces)) (Ok piece) ∷ []))
moving_read h pre pieces piece f r =
    moving_copied h pre pieces (ReadAt (fetch_in h) (length (concat pieces)) (Ok piece) ∷ []) f r
    (record { fair = fair_read (file_in h) (fetch_in h) (apart_in h) (length (concat pieces)) (Ok piece); found = rw (fetch_known_copied h pre pieces r) refl; free = refl })
    (others_read h f (length (concat pieces)) (Ok piece))
    (rw (same_name (fetch_in h)) (rw (nat_same (length (concat pieces))) refl))

pub copy_early : (h : Here) (pre : List Call) (pieces : List (List ℕ)) (ending : List Call) → FetchingAt h → Ready h pre
    → EndsEarly (fetch_in h) (length (concat pieces)) ending → EndedAt h (pre ++ (copies_in h pieces ++ ending)) A.Memory
copy_early h pre pieces [] f r e = rw (append-nil (copies_in h pieces)) (memory_at h (pre ++ copies_in h pieces) f (moving_c h pre pieces f r))
copy_early h pre pieces (call ∷ []) f r e = rw e.1 (memory_at h _ f (moving_read h pre pieces e.0 f r))
copy_early h pre pieces (call ∷ next ∷ more) f r e = absurd e

pub copy_refused : (h : Here) (pre : List Call) (pieces : List (List ℕ)) (ending : List Call) (e : DeskError) → FetchingAt h → Ready h pre → (e ≡ E.NoMemory → ⊥)
    → RefusedBy e (fetch_in h) (part_in h) (length (concat pieces)) ending → EndedAt h (pre ++ (copies_in h pieces ++ ending)) (answered (refusal e))
copy_refused h pre pieces [] e f r ne b = absurd b
copy_refused h pre pieces (call ∷ []) e f r ne b =
    let y : Call = ReadAt (fetch_in h) (length (concat pieces)) (Err e) in
    let P : List Call → Type 0 = λ l. EndedAt h l (answered (refusal e)) in
    rw b (subst P (append_assoc pre (copies_in h pieces) (y ∷ []))
    (stopped_at h (pre ++ copies_in h pieces) y (answered (refusal e)) f (moving_c h pre pieces f r)
    (fair_read (file_in h) (fetch_in h) (apart_in h) (length (concat pieces)) (Err e)) (rw known refl) (stop_is e ne) (others_read h f (length (concat pieces)) (Err e)) (rw (same_name (fetch_in h)) refl)))
  where
    known : is_known (fetch_in h) (h.calls ++ (pre ++ copies_in h pieces)) ≡ true
    known = ap (is_known (fetch_in h)) (sym (append_assoc h.calls pre (copies_in h pieces))) ∙ fetch_known_copied h pre pieces r
copy_refused h pre pieces (call ∷ next ∷ []) e f r ne b =
    let y : Call = Append (part_in h) b.0 (Err e) in
    let P : List Call → Type 0 = λ l. EndedAt h l (answered (refusal e)) in
    rw (b.1, b.2) (subst P (append_assoc pre (copies_in h pieces ++ read ∷ []) (y ∷ []) ∙ ap (λ l. pre ++ l) (append_assoc (copies_in h pieces) (read ∷ []) (y ∷ [])))
    (stopped_at h (pre ++ (copies_in h pieces ++ read ∷ [])) y (answered (refusal e)) f (moving_read h pre pieces b.0 f r)
    (fair_append (file_in h) (fetch_in h) (apart_in h) b.0 (Err e)) (rw known refl) (stop_is e ne) (λ m c d. refl) refl))
  where
    read : Call
    read = ReadAt (fetch_in h) (length (concat pieces)) (Ok b.0)

    known : is_known (part_in h) (h.calls ++ (pre ++ (copies_in h pieces ++ read ∷ []))) ≡ true
    known =
        ap (is_known (part_in h)) (sym (append_assoc h.calls pre (copies_in h pieces ++ read ∷ [])) ∙ sym (append_assoc (h.calls ++ pre) (copies_in h pieces) (read ∷ [])))
        ∙ known_skip (part_in h) ((h.calls ++ pre) ++ copies_in h pieces) read refl (part_known_copied h pre pieces r)
copy_refused h pre pieces (call ∷ next ∷ another ∷ more) e f r ne b = absurd b

-- ---- after a whole copy

pub tail_in : (h : Here) (pre : List Call) (left : ℕ) (pieces : List (List ℕ)) (ending : List Call) → Ready h pre → EndsWhole (fetch_in h) (length (concat pieces)) left ending
    → Tail (file_in h) (fetch_in h) ((h.calls ++ pre) ++ copies_in h pieces) (length (concat pieces)) ending
tail_in h pre left pieces ending r e =
    tail_of (file_in h) (fetch_in h) ((h.calls ++ pre) ++ copies_in h pieces) (length (concat pieces)) left ending (apart_in h) (fetch_known_copied h pre pieces r) (part_known_copied h pre pieces r) e

others_ending : (h : Here) → FetchingAt h → (at left : ℕ) (ending : List Call) → EndsWhole (fetch_in h) at left ending → Others h ending
others_ending h f at left [] e = λ m b d. refl
others_ending h f at left (call ∷ []) e = rw e (others_read h f at (Ok []))
others_ending h f at left (call ∷ next ∷ more) e = absurd e

moving_whole : (h : Here) (pre : List Call) (left : ℕ) (pieces : List (List ℕ)) (ending : List Call) → FetchingAt h → Ready h pre → EndsWhole (fetch_in h) (length (concat pieces)) left ending
    → Moving h (pre ++ (copies_in h pieces ++ ending))
moving_whole h pre left pieces ending f r e =
    let tail = tail_in h pre left pieces ending r e in
    moving_copied h pre pieces ending f r tail.good (others_ending h f (length (concat pieces)) left ending e) tail.run

at_whole : (h : Here) (name : List ℕ) (pre : List Call) (pieces : List (List ℕ)) (ending : List Call) → is_known name (((h.calls ++ pre) ++ copies_in h pieces) ++ ending) ≡ true
    → is_known name (h.calls ++ (pre ++ (copies_in h pieces ++ ending))) ≡ true
at_whole h name pre pieces ending k =
    ap (is_known name) (sym (append_assoc h.calls pre (copies_in h pieces ++ ending)) ∙ sym (append_assoc (h.calls ++ pre) (copies_in h pieces) ending)) ∙ k

pub fetch_unremoved : (h : Here) (pre : List Call) (left : ℕ) (pieces : List (List ℕ)) (ending : List Call) (e : DeskError) → FetchingAt h → Ready h pre
    → EndsWhole (fetch_in h) (length (concat pieces)) left ending
    → EndedAt h (pre ++ ((copies_in h pieces ++ ending) ++ if_made (Err e) (Remove (fetch_in h) (Err e)))) (answered (refusal e))
fetch_unremoved h pre left pieces ending E.NoMemory f r w =
    rw (append-nil (copies_in h pieces ++ ending)) (memory_at h _ f (moving_whole h pre left pieces ending f r w))
fetch_unremoved h pre left pieces ending E.Failed f r w =
    let a = apart_in h in
    let P : List Call → Type 0 = λ l. EndedAt h l A.FileFault in
    let known : is_known (fetch_in h) (h.calls ++ (pre ++ (copies_in h pieces ++ ending))) ≡ true = at_whole h (fetch_in h) pre pieces ending (tail_in h pre left pieces ending r w).known_fetch in
    subst P (append_assoc pre (copies_in h pieces ++ ending) (Remove (fetch_in h) (Err E.Failed) ∷ []))
    (stopped_at h (pre ++ (copies_in h pieces ++ ending)) (Remove (fetch_in h) (Err E.Failed)) A.FileFault f (moving_whole h pre left pieces ending f r w)
    (fair_remove_fetch (file_in h) (fetch_in h) a (Err E.Failed)) (rw (a.fetch_part, known) refl) refl (λ m c d. refl) refl)
fetch_unremoved h pre left pieces ending E.Missing f r w =
    let a = apart_in h in
    let P : List Call → Type 0 = λ l. EndedAt h l A.NoFile in
    let known : is_known (fetch_in h) (h.calls ++ (pre ++ (copies_in h pieces ++ ending))) ≡ true = at_whole h (fetch_in h) pre pieces ending (tail_in h pre left pieces ending r w).known_fetch in
    subst P (append_assoc pre (copies_in h pieces ++ ending) (Remove (fetch_in h) (Err E.Missing) ∷ []))
    (stopped_at h (pre ++ (copies_in h pieces ++ ending)) (Remove (fetch_in h) (Err E.Missing)) A.NoFile f (moving_whole h pre left pieces ending f r w)
    (fair_remove_fetch (file_in h) (fetch_in h) a (Err E.Missing)) (rw (a.fetch_part, known) refl) (rw a.fetch_part refl) (λ m c d. refl) refl)

-- and the removal of the fetched file
pub moving_moved : (h : Here) (pre : List Call) (left : ℕ) (pieces : List (List ℕ)) (ending : List Call) → FetchingAt h → Ready h pre → EndsWhole (fetch_in h) (length (concat pieces)) left ending
    → Moving h (pre ++ moved_calls (file_in h) (fetch_in h) pieces ending)
moving_moved h pre left pieces ending f r w =
    let a = apart_in h in
    let P : List Call → Type 0 = λ l. Moving h l in
    let known : is_known (fetch_in h) (h.calls ++ (pre ++ (copies_in h pieces ++ ending))) ≡ true = at_whole h (fetch_in h) pre pieces ending (tail_in h pre left pieces ending r w).known_fetch in
    subst P (append_assoc pre (copies_in h pieces ++ ending) (Remove (fetch_in h) (Ok tt) ∷ []) ∙ ap (λ l. pre ++ l) (append_assoc (copies_in h pieces) ending (Remove (fetch_in h) (Ok tt) ∷ [])))
    (moving_step h (pre ++ (copies_in h pieces ++ ending)) (Remove (fetch_in h) (Ok tt)) (moving_whole h pre left pieces ending f r w)
    (fair_remove_fetch (file_in h) (fetch_in h) a (Ok tt)) (rw (a.fetch_part, known) refl) refl (λ m c d. refl) refl)

pub part_known_moved : (h : Here) (pre : List Call) (left : ℕ) (pieces : List (List ℕ)) (ending : List Call) → Ready h pre → EndsWhole (fetch_in h) (length (concat pieces)) left ending
    → is_known (part_in h) (h.calls ++ (pre ++ moved_calls (file_in h) (fetch_in h) pieces ending)) ≡ true
part_known_moved h pre left pieces ending r w =
    let a = apart_in h in
    let whole : h.calls ++ (pre ++ moved_calls (file_in h) (fetch_in h) pieces ending) ≡ (h.calls ++ (pre ++ (copies_in h pieces ++ ending))) ++ Remove (fetch_in h) (Ok tt) ∷ [] =
    ap (λ l. h.calls ++ l) (ap (λ l. pre ++ l) (sym (append_assoc (copies_in h pieces) ending (Remove (fetch_in h) (Ok tt) ∷ []))) ∙ sym (append_assoc pre (copies_in h pieces ++ ending) (Remove (fetch_in h) (Ok tt) ∷ [])))
    ∙ sym (append_assoc h.calls (pre ++ (copies_in h pieces ++ ending)) (Remove (fetch_in h) (Ok tt) ∷ [])) in
    ap (is_known (part_in h)) whole
    ∙ known_skip (part_in h) (h.calls ++ (pre ++ (copies_in h pieces ++ ending))) (Remove (fetch_in h) (Ok tt)) (rw a.fetch_part refl)
    (at_whole h (part_in h) pre pieces ending (tail_in h pre left pieces ending r w).known_part)
