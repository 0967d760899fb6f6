-- Calls of part within a get: those at a layout's begin, and the one at its end.
use Rattle.std.proofs.Common.{◌≡◌, ◌∙◌, ℕ, ◌+◌, ◌-◌, ◌≤◌, ◌==◌, Bool, true, false, not, List, [], ◌∷◌, ◌++◌, length, map, refl, sym, ap, subst, arith, append-nil, length-append, eq-eqb}
use Rattle.std.specs.Prelude.{if◌then◌else◌, Some, None, is_some, Result, Ok, Err}
use Rattle.std.specs.Bool.{MatchBool}
use Rattle.std.specs.List.{list_all, filter_map}
use Rattle.std.proofs.lemmas.List.{take-append-le}
use Rattle.std.proofs.lemmas.List.Elements.{filter_map-append}
use Rattle.ann_digest.specs.Fits.{IsSaidOf}
use Rattle.ann_digest.specs.declared.fit.Fit.{Fit}
use Rattle.ann_digest.specs.declared.fit.Fit.TheVariants as F
use Rattle.task_text.specs.Layouts.Layouts.{Part}
use Rattle.ann_outside.specs.declared.file_desk.DeskError.{DeskError}
use Rattle.ann_outside.specs.declared.file_desk.DeskError.TheVariants as E
use Rattle.ann_outside.specs.declared.file_desk.Call.{Call}
use Rattle.ann_outside.specs.declared.file_desk.Call.TheVariants.{Size, ReadAt, Create, Cut, Rename, Remove}
use Rattle.journal_model.specs.declared.answer.Answer.{Answer}
use Rattle.journal_model.specs.declared.answer.Answer.TheVariants as A
use Rattle.task_model.specs.Askers.{Asking}
use Rattle.task_model.specs.Stops.{is_done, call_stop, AnsweredBy, all_but_last}
use Rattle.task_model.specs.Names.{part_of, fetch_files}
use Rattle.task_model.specs.Requests.{rounds, RoundsAsk}
use Rattle.task_model.specs.Reads.{length_or_none, reads_of, read_of, bytes_of, is_run, is_reading, is_known, appended, holds, takes_away, is_renaming, is_last, is_removed, piece_of}
use Rattle.task_model.specs.Discipline.{are_found, name_only, changes_as_result, size_of_only}
use Rattle.task_model.specs.Gets.{fetch_request, begins, lengths_at_begin, wanted, wrong_lengths, held_reads, since_begin, bytes_fetched, fit_in, is_got, IsSaid, GetAsks, GetAnswers}
use Rattle.task_model.specs.TaskCalls.{fetched_files}
use Rattle.task_model.specs.Ran.{answered}
use Rattle.task_model.specs.Fetching.{Outcome, if_made, discarded, settling, settled}
use Rattle.task_run.specs.Get.Fronts.{Place, Turn, first_in, fetch_at, keys_in, is_calm, is_apart, Sound, Within, Kept, Between, Ended, begin_of}
use Rattle.task_model.proofs.HeldLaws.{is_lasting, is_growing, told, holds_more, so_front, holds_grown}
use Rattle.task_run.proofs.GetLemmas.AskLaws.{count_all}
use Rattle.task_model.proofs.GetCallsLaws.{Apart, found_more}
use Rattle.task_run.proofs.GetLemmas.GetEnds.{is_last-snoc, last_call}
use Rattle.task_model.proofs.Lists.{all_taken}
use Rattle.task_run.proofs.GetLemmas.GetTasks.{names_apart}
use Rattle.task_run.proofs.GetLemmas.ReadLaws.{Sub, sub_cons, names_sub, changes_sub, sizes_sub, begin_lengths, held_run, held_more, appended_more, same_read, same_wrong, same_bytes, same_whole, wrong_taken}
use Rattle.task_run.proofs.GetLemmas.GetFronts.{asks_of, Fore, ended_memory, ended_stopped, ended_finished}
use Rattle.task_run.proofs.GetLemmas.GetDecides.{answers_said}
use Rattle.task_run.proofs.GetLemmas.GetWithin.{none_failed, within_order, within_fore}
use Rattle.ann_key.proofs.Booleans.{false_is_true as apart, or_right as right_or}
use Rattle.ann_key.proofs.Lists.{same_name, all_more as list_all-append}

pub part_apart : (p : Place) (n : ℕ) → Apart p.file (fetch_at p n)
part_apart p n = names_apart p.setup p.turn n p.file

-- calls of part, after others
pub record OfPart (p : Place) (front seg : List Call) : Type 0 where
  pub names : name_only (p.file ∷ part_of p.file ∷ []) seg ≡ true
  pub changes : list_all (changes_as_result p.file []) seg ≡ true
  pub lengths : size_of_only (part_of p.file ∷ []) seg ≡ true
  pub found : are_found (part_of p.file) front seg ≡ true
  pub others : (n : ℕ) → list_all (is_apart (fetch_at p n)) seg ≡ true
  pub lasting : list_all (is_lasting (part_of p.file)) seg ≡ true

pub of_none : (p : Place) (front : List Call) → OfPart p front []
of_none p front = record { names = refl; changes = refl; lengths = refl; found = refl; others = λ n. refl; lasting = refl }

pub of_more : (p : Place) (front xs ys : List Call) → OfPart p front xs → OfPart p (front ++ xs) ys → OfPart p front (xs ++ ys)
of_more p front xs ys a b = record {
  names = list_all-append _ xs ys a.names b.names;
  changes = list_all-append _ xs ys a.changes b.changes;
  lengths = list_all-append _ xs ys a.lengths b.lengths;
  found = found_more (part_of p.file) front xs ys a.found b.found;
  others = λ n. list_all-append _ xs ys (a.others n) (b.others n);
  lasting = list_all-append _ xs ys a.lasting b.lasting;
}

pub of_size : (p : Place) (front : List Call) (r : Result ℕ DeskError) → OfPart p front (Size (part_of p.file) r ∷ [])
of_size p front r = record {
  names = rw ((part_apart p 0).part_file, same_name (part_of p.file)) refl;
  changes = refl;
  lengths = rw (same_name (part_of p.file)) refl;
  found = refl;
  others = λ n. rw (part_apart p n).part_fetch refl;
  lasting = refl;
}

pub of_create : (p : Place) (front : List Call) (r : Outcome) → OfPart p front (Create (part_of p.file) r ∷ [])
of_create p front r = record {
  names = rw ((part_apart p 0).part_file, same_name (part_of p.file)) refl;
  changes = rw (part_apart p 0).file_part refl;
  lengths = refl;
  found = refl;
  others = λ n. refl;
  lasting = refl;
}

pub of_cut : (p : Place) (front : List Call) (keep : ℕ) (r : Outcome) → is_known (part_of p.file) front ≡ true → OfPart p front (Cut (part_of p.file) keep r ∷ [])
of_cut p front keep r k = record {
  names = rw ((part_apart p 0).part_file, same_name (part_of p.file)) refl;
  changes = rw (part_apart p 0).file_part refl;
  lengths = refl;
  found = rw k refl;
  others = λ n. refl;
  lasting = refl;
}

pub of_read : (p : Place) (front : List Call) (at : ℕ) (r : Result (List ℕ) DeskError) → is_known (part_of p.file) front ≡ true → OfPart p front (ReadAt (part_of p.file) at r ∷ [])
of_read p front at r k = record {
  names = rw ((part_apart p 0).part_file, same_name (part_of p.file)) refl;
  changes = refl;
  lengths = refl;
  found = rw k refl;
  others = λ n. rw (part_apart p n).part_fetch refl;
  lasting = refl;
}

of_rename : (p : Place) (front : List Call) (r : Outcome) → is_known (part_of p.file) front ≡ true → OfPart p front (Rename (part_of p.file) p.file r ∷ [])
of_rename p front r k = record {
  names = rw ((part_apart p 0).part_file, same_name (part_of p.file), same_name p.file) refl;
  changes = rw (same_name (part_of p.file)) refl;
  lengths = refl;
  found = rw k refl;
  others = λ n. refl;
  lasting = rw (part_apart p 0).file_part refl;
}

of_remove : (p : Place) (front : List Call) (r : Outcome) → OfPart p front (Remove (part_of p.file) r ∷ [])
of_remove p front r = record {
  names = rw ((part_apart p 0).part_file, same_name (part_of p.file)) refl;
  changes = rw (part_apart p 0).part_file refl;
  lengths = refl;
  found = rw (same_name (part_of p.file)) refl;
  others = λ n. refl;
  lasting = refl;
}

sub_none : (names : List (List ℕ)) → Sub [] names
sub_none names name e = apart e

pub sound_part : (p : Place) (asked : List Asking) (calls seg : List Call) → Sound p asked calls → OfPart p calls seg → is_run 0 (held_reads p.file (calls ++ seg)) ≡ true → Sound p asked (calls ++ seg)
sound_part p asked calls seg s o held = record {
  names = list_all-append _ calls seg s.names (names_sub (p.file ∷ part_of p.file ∷ []) (p.file ∷ part_of p.file ∷ fetch_files p.setup p.turn (length asked)) seg
      (sub_cons p.file (part_of p.file ∷ []) (part_of p.file ∷ fetch_files p.setup p.turn (length asked)) (sub_cons (part_of p.file) [] (fetch_files p.setup p.turn (length asked)) (sub_none _))) o.names);
  changes = list_all-append _ calls seg s.changes (changes_sub p.file [] (fetch_files p.setup p.turn (length asked)) seg (sub_none _) o.changes);
  lengths = list_all-append _ calls seg s.lengths (sizes_sub (part_of p.file ∷ []) (part_of p.file ∷ fetched_files p.setup p.turn 1 asked) seg
      (sub_cons (part_of p.file) [] (fetched_files p.setup p.turn 1 asked) (sub_none _)) o.lengths);
  found = found_more (part_of p.file) [] calls seg s.found o.found;
  held = held;
  told = λ before. ap is_some (holds_more (part_of p.file) (Some before) calls seg) ∙ told (part_of p.file) (holds (part_of p.file) (Some before) calls) seg o.lasting (s.told before);
  few = s.few;
  fresh = λ n low high. list_all-append _ calls seg (s.fresh n low high) (o.others n);
}

-- ---- between two layouts

pub between_fore : (p : Place) (past : List Asking) (done : List (List Part)) (tried : List ℕ) (chunk : ℕ) (rest : List ℕ) (calls seg : List Call) (ns : List ℕ)
    → Between p past done tried (chunk ∷ rest) calls → OfPart p calls seg → filter_map (length_or_none (part_of p.file)) seg ≡ ns → length ns ≤ 1 → length ns ≤ length rest
    → is_run 0 (held_reads p.file (calls ++ seg)) ≡ true → Fore p past (calls ++ seg)
between_fore p past done tried chunk rest calls seg ns b o is few few' held = record {
  asks =
      let P : List Asking → Type 0 = λ l. GetAsks p.setup p.turn p.key p.sizes p.file l (calls ++ seg) in
      let whole : lengths_at_begin p.file (calls ++ seg) ≡ lengths_at_begin p.file calls ++ ns = filter_map-append (length_or_none (part_of p.file)) calls seg ∙ ap (λ l. lengths_at_begin p.file calls ++ l) is in
      let n : length (lengths_at_begin p.file (calls ++ seg)) ≡ length done + length ns = ap length whole ∙ length-append (lengths_at_begin p.file calls) ns ∙ ap (λ k. k + length ns) b.begun in
      let s : length p.sizes ≡ length tried + length (chunk ∷ rest) = ap length b.tries.sizes_are ∙ length-append tried (chunk ∷ rest) in
      let e = b.tries.each_done in
      subst P (append-nil past)
      (asks_of p past [] done (wanted p.key (chunk ∷ rest) ns) tried (chunk ∷ rest) (calls ++ seg) b.tries refl
      (let Q : List Asking → Type 0 = λ l. list_all is_calm (all_but_last l) ≡ true in subst Q (sym (append-nil past)) (all_taken is_calm _ past b.tries.calm))
      (ap (wanted p.key p.sizes) whole ∙ b.wants ns) tt (omega (arith, n, few)) (omega (arith, n, few', s, e)) refl held refl);
  sound = sound_part p past calls seg b.sound o held;
  calm = b.tries.calm;
}

-- ---- within a layout

within_part : (u : Turn) (cur : List Asking) (got left : List Part) (calls seg : List Call) → Within u cur got left calls → OfPart u.place calls seg
    → filter_map (length_or_none (part_of u.place.file)) seg ≡ [] → reads_of (part_of u.place.file) seg ≡ [] → Fore u.place (u.past ++ cur) (calls ++ seg)
within_part u cur got left calls seg w o no_length no_read = record {
  asks =
      asks_of u.place u.past cur u.done ((got ++ left) ∷ wanted u.place.key u.rest []) u.tried (u.chunk ∷ u.rest) (calls ++ seg) w.tries
      (none_failed cur w.all_done)
      (all_taken is_calm _ (u.past ++ cur) fore.calm)
      (ap (wanted u.place.key u.place.sizes) (same ∙ sym (append-nil (lengths_at_begin u.place.file calls))) ∙ w.wants [])
      (order)
      (let b = w.begun in let n : length (lengths_at_begin u.place.file (calls ++ seg)) ≡ length (lengths_at_begin u.place.file calls) = ap length same in omega (arith, n, b))
      (let b = w.begun_chunked in let n : length (lengths_at_begin u.place.file (calls ++ seg)) ≡ length (lengths_at_begin u.place.file calls) = ap length same in omega (arith, n, b))
      (ap (λ (l : List Part). wrong_lengths u.place.setup u.place.turn u.place.key.size (calls ++ seg) (first_in u) l) (take-append-le (length cur - 1) got left (let a = w.aligned in omega (arith, a)))
      ∙ wrong_taken u.place.setup u.place.turn u.place.key.size (calls ++ seg) (first_in u) (length cur - 1) got
      (same_wrong u.place.setup u.place.turn u.place.key.size (first_in u) got calls seg (λ i low high. o.others i) ∙ w.right))
      held
      (same_read u.place.setup u.place.turn (first_in u) cur calls seg (λ i low high. o.others i) ∙ w.read);
  sound = sound_part u.place (u.past ++ cur) calls seg w.sound o held;
  calm = fore.calm;
}
  where
    fore : Fore u.place (u.past ++ cur) calls
    fore = within_fore u cur got left calls w

    same : lengths_at_begin u.place.file (calls ++ seg) ≡ lengths_at_begin u.place.file calls
    same = begin_lengths u.place.file calls seg no_length

    held : is_run 0 (held_reads u.place.file (calls ++ seg)) ≡ true
    held = held_run u.place.file calls seg no_read w.sound.held

    order : RoundsAsk (fetch_request u.place.setup u.place.turn) (first_in u) (map keys_in ((got ++ left) ∷ wanted u.place.key u.rest [])) (rounds cur)
    order = within_order u cur got left calls w

-- ---- the end

-- what part is checked to be, and its last call
pub settle_end : (u : Turn) (cur : List Asking) (parts : List Part) (calls : List Call) (held : List (ℕ × List ℕ)) (bytes : List ℕ) (fit : Fit) (r : Outcome)
    → Within u cur parts [] calls → Kept u cur parts [] calls held bytes → (u.chunk == 0) ≡ false → IsSaidOf u.place.key (bytes_of held ++ bytes) fit
    → Ended u.place (u.past ++ cur) (calls ++ if_made r (settling (record { file = u.place.file; part = part_of u.place.file; fetch = [] }) fit r)) (answered (settled fit r))
settle_end u cur parts calls held bytes fit r w k c said = by_fit fit said r
  where
    p : Place
    p = u.place

    answers : (y : Call) (answer : Answer) → OfPart p calls (y ∷ []) → length_or_none (part_of p.file) y ≡ None → read_of (part_of p.file) y ≡ None → begins (part_of p.file) y ≡ false → piece_of (part_of p.file) y ≡ None → is_growing (part_of p.file) y ≡ true
        → IsSaid p.key (bytes_of held ++ bytes) (fit_in answer)
        → MatchBool (is_got answer) (is_last (is_renaming (part_of p.file) p.file) (calls ++ y ∷ []) ≡ true) (is_removed (part_of p.file) (calls ++ y ∷ []) ≡ true)
        → GetAnswers p.setup p.turn p.key p.sizes p.file (u.past ++ cur) (calls ++ y ∷ []) answer
    answers y answer o no_length no_read no_begin no_piece grows s last =
        let lengths : lengths_at_begin p.file (calls ++ y ∷ []) ≡ lengths_at_begin p.file calls = begin_lengths p.file calls (y ∷ []) (rw no_length refl) in
        let behind : list_all (λ call. not (begins (part_of p.file) call)) (y ∷ []) ≡ true = rw no_begin refl in
        let none : reads_of (part_of p.file) (y ∷ []) ≡ [] = rw no_read refl in
        let reads : held_reads p.file (calls ++ y ∷ []) ≡ held = held_more p.file calls (y ∷ []) behind ∙ ap (λ l. held_reads p.file calls ++ l) none ∙ append-nil (held_reads p.file calls) ∙ k.held_are in
        let fetched : bytes_fetched p.setup p.turn (calls ++ y ∷ []) (first_in u) cur ≡ bytes = same_bytes p.setup p.turn (first_in u) cur calls (y ∷ []) (λ i low high. o.others i) ∙ k.bytes_are in
        let nothing : appended (part_of p.file) (y ∷ []) ≡ [] = rw no_piece refl in
        let moved : appended (part_of p.file) (since_begin p.file (calls ++ y ∷ [])) ≡ bytes = appended_more p.file calls (y ∷ []) behind ∙ ap (λ l. appended (part_of p.file) (since_begin p.file calls) ++ l) nothing ∙ append-nil (appended (part_of p.file) (since_begin p.file calls)) ∙ k.moved in
        let grown : list_all (is_growing (part_of p.file)) (y ∷ []) ≡ true = rw grows refl in
        let P : List ℕ → Type 0 = λ l. IsSaid p.key l (fit_in answer) in
        let all : (if u.chunk == 0 then [] else bytes_of (held_reads p.file (calls ++ y ∷ []))) ++ bytes_fetched p.setup p.turn (calls ++ y ∷ []) (first_in u) cur ≡ bytes_of held ++ bytes =
        ap (λ (b : Bool). (if b then [] else bytes_of (held_reads p.file (calls ++ y ∷ []))) ++ bytes_fetched p.setup p.turn (calls ++ y ∷ []) (first_in u) cur) c
        ∙ ap (λ (l : List (ℕ × List ℕ)). bytes_of l ++ bytes_fetched p.setup p.turn (calls ++ y ∷ []) (first_in u) cur) reads ∙ ap (λ (l : List ℕ). bytes_of held ++ l) fetched in
        let parts_same : parts ++ [] ≡ parts = append-nil parts in
        answers_said u cur parts (calls ++ y ∷ []) answer
        (record {
          tries = w.tries;
          none = none_failed cur w.all_done;
          wants = ap (wanted p.key p.sizes) (lengths ∙ sym (append-nil (lengths_at_begin p.file calls))) ∙ w.wants [] ∙ ap (λ (l : List Part). u.done ++ l ∷ wanted p.key u.rest []) parts_same;
          begun = right_or (u.chunk == 0) (length (lengths_at_begin p.file (calls ++ y ∷ [])) == length u.done + 1) (eq-eqb _ _ (ap length lengths ∙ k.begun));
        })
        (same_wrong p.setup p.turn p.key.size (first_in u) parts calls (y ∷ []) (λ i low high. o.others i) ∙ w.right)
        (count_all is_done cur w.all_done ∙ sym w.aligned)
        (subst P (sym all) s)
        (right_or (u.chunk == 0) (is_reading 0 (begin_of p.key parts) (held_reads p.file (calls ++ y ∷ [])))
        (ap (is_reading 0 (begin_of p.key parts)) reads ∙ ap (λ (l : List Part). is_reading 0 (begin_of p.key l) held) (sym parts_same) ∙ k.held_whole))
        (same_whole p.setup p.turn (first_in u) cur calls (y ∷ []) (λ i low high. o.others i) ∙ k.whole)
        (by_test _ _ _ (is_got answer)
        (λ last. record {
          moved = moved ∙ sym fetched;
          content = λ before found.
              holds_more (part_of p.file) (Some before) calls (y ∷ [])
              ∙ ap (λ o. holds (part_of p.file) o (y ∷ [])) (k.content before (so_front (part_of p.file) (Some before) calls (y ∷ []) found))
              ∙ holds_grown (part_of p.file) (bytes_of held ++ bytes) (y ∷ []) grown
              ∙ ap (λ l. Some ((bytes_of held ++ bytes) ++ l)) nothing ∙ ap Some (append-nil (bytes_of held ++ bytes) ∙ sym all);
          renamed = last;
        }) last)
      where
        by_test : (K L R : Type 0) (b : Bool) → (L → K) → MatchBool b L R → MatchBool b K R
        by_test K L R true make l = make l
        by_test K L R false make r = r

    finished : (y : Call) (answer : Answer) → OfPart p calls (y ∷ []) → call_stop (part_of p.file) y ≡ None → length_or_none (part_of p.file) y ≡ None → read_of (part_of p.file) y ≡ None
        → AnsweredBy [] answer (GetAnswers p.setup p.turn p.key p.sizes p.file (u.past ++ cur) (calls ++ y ∷ []) answer) → Ended p (u.past ++ cur) (calls ++ y ∷ []) answer
    finished y answer o free no_length no_read h =
        ended_finished p (u.past ++ cur) (calls ++ y ∷ []) answer (within_part u cur parts [] calls (y ∷ []) w o (rw no_length refl) (rw no_read refl)) (list_all-append _ calls (y ∷ []) w.free (rw free refl)) h

    stopped : (y : Call) (answer : Answer) → OfPart p calls (y ∷ []) → call_stop (part_of p.file) y ≡ Some answer → length_or_none (part_of p.file) y ≡ None → read_of (part_of p.file) y ≡ None
        → Ended p (u.past ++ cur) (calls ++ y ∷ []) answer
    stopped y answer o stop no_length no_read =
        ended_stopped p (u.past ++ cur) calls y answer (within_part u cur parts [] calls (y ∷ []) w o (rw no_length refl) (rw no_read refl)) w.free stop

    memory : Ended p (u.past ++ cur) (calls ++ []) A.Memory
    memory = let P : List Call → Type 0 = λ l. Ended p (u.past ++ cur) l A.Memory in subst P (sym (append-nil calls)) (ended_memory p (u.past ++ cur) calls (within_fore u cur parts [] calls w) w.free)

    removed : (answer : Answer) (r : Outcome) → ((X : Type 0) → X → AnsweredBy [] answer X) → is_got answer ≡ false → IsSaid p.key (bytes_of held ++ bytes) (fit_in answer)
        → Ended p (u.past ++ cur) (calls ++ if_made r (Remove (part_of p.file) r)) (answered (discarded answer r))
    removed answer (Ok tt') by bad s =
        finished (Remove (part_of p.file) (Ok tt')) answer (of_remove p calls (Ok tt')) refl refl refl
        (by _ (answers (Remove (part_of p.file) (Ok tt')) answer (of_remove p calls (Ok tt')) refl refl refl refl refl s
        (rw bad (last_call (part_of p.file) (takes_away (part_of p.file)) calls (Remove (part_of p.file) (Ok tt')) (same_name (part_of p.file)) ∙ same_name (part_of p.file)))))
    removed answer (Err E.Missing) by bad s =
        finished (Remove (part_of p.file) (Err E.Missing)) answer (of_remove p calls (Err E.Missing)) (rw (same_name (part_of p.file)) refl) refl refl
        (by _ (answers (Remove (part_of p.file) (Err E.Missing)) answer (of_remove p calls (Err E.Missing)) refl refl refl refl refl s
        (rw bad (last_call (part_of p.file) (takes_away (part_of p.file)) calls (Remove (part_of p.file) (Err E.Missing)) (same_name (part_of p.file)) ∙ same_name (part_of p.file)))))
    removed answer (Err E.Failed) by bad s = stopped (Remove (part_of p.file) (Err E.Failed)) A.FileFault (of_remove p calls (Err E.Failed)) refl refl refl
    removed answer (Err E.NoMemory) by bad s = memory

    by_fit : (fit : Fit) → IsSaidOf p.key (bytes_of held ++ bytes) fit → (r : Outcome)
        → Ended p (u.past ++ cur) (calls ++ if_made r (settling (record { file = p.file; part = part_of p.file; fetch = [] }) fit r)) (answered (settled fit r))
    by_fit F.Fits s (Ok tt') =
        finished (Rename (part_of p.file) p.file (Ok tt')) A.Got (of_rename p calls (Ok tt') k.known) refl refl refl
        (answers (Rename (part_of p.file) p.file (Ok tt')) A.Got (of_rename p calls (Ok tt') k.known) refl refl refl refl (rw (part_apart p 0).file_part refl) s
        (is_last-snoc (is_renaming (part_of p.file) p.file) calls (Rename (part_of p.file) p.file (Ok tt')) ∙ rw (same_name (part_of p.file), same_name p.file) refl))
    by_fit F.Fits s (Err E.Missing) = stopped (Rename (part_of p.file) p.file (Err E.Missing)) A.NoFile (of_rename p calls (Err E.Missing) k.known) refl refl refl
    by_fit F.Fits s (Err E.Failed) = stopped (Rename (part_of p.file) p.file (Err E.Failed)) A.FileFault (of_rename p calls (Err E.Failed) k.known) refl refl refl
    by_fit F.Fits s (Err E.NoMemory) = memory
    by_fit (F.Size n) s r = removed (A.Size n) r (λ X x. x) refl s
    by_fit (F.Hash digest) s r = removed (A.Hash digest) r (λ X x. x) refl s
