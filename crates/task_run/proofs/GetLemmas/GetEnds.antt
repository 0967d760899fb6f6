-- How a get in the plain layout ends, for each way in which its calls went.
use Rattle.std.proofs.Common.{◌≡◌, ◌∙◌, ℕ, ◌+◌, ◌-◌, List, [], ◌∷◌, ◌++◌, length, refl, ap, arith, append-nil, append_assoc, eq-eqb}
use Rattle.std.specs.Prelude.{◌≤◌, ◌||◌, Bool, true, false, ◌&&◌, not, Some, filter, ◌==◌, Ok}
use Rattle.std.specs.List.{list_all, filter_map, concat}
use Rattle.std.proofs.lemmas.List.Elements.{filter_map-append, filter-append}
use Rattle.ann_outside.specs.declared.file_desk.DeskError.{DeskError}
use Rattle.ann_outside.specs.declared.file_desk.DeskError.TheVariants as E
use Rattle.ann_outside.specs.declared.file_desk.Call.{Call}
use Rattle.ann_outside.specs.declared.file_desk.Call.TheVariants.{ReadAt, Remove}
use Rattle.task_model.specs.Copying.Copies.{copy_calls, EndsWhole}
use Rattle.task_model.specs.declared.setup.Setup.{Setup}
use Rattle.task_model.specs.declared.turn.TaskTurn.{TaskTurn}
use Rattle.task_model.specs.Stops.{error_stop}
use Rattle.task_model.specs.Names.{part_of, fetch_file}
use Rattle.task_model.specs.Reads.{length_found, lengths_found, bytes_of, is_last, is_last_call_of, is_call_of, reads_of, read_of, is_run, is_reading, is_at_end, is_known, piece_of}
use Rattle.task_model.specs.Gets.{begins}
use Rattle.task_model.specs.Ran.{answered, refusal}
use Rattle.task_model.specs.Fetching.{Files3}
use Rattle.task_model.proofs.HeldLaws.{is_growing}
use Rattle.task_model.proofs.GetCallsLaws.{Apart, Good, fair_read, known_skip, copy_reads, bytes_placed, copy_appends, placed}
use Rattle.ann_key.proofs.Lists.{all_more as list_all_more, same_name}
use Rattle.ann_key.proofs.Numbers.{same_number as nat_same}
use Rattle.task_model.proofs.Across.{bytes_more, at_end-snoc}

-- ---- a read at the end

-- calls after a copy, which read no byte more
pub record Tail (file fetch : List ℕ) (past : List Call) (at : ℕ) (calls : List Call) : Type 0 where
  pub good : Good file fetch past calls
  pub run : is_run at (reads_of fetch calls) ≡ true
  pub empty : bytes_of (reads_of fetch calls) ≡ []
  pub unwritten : filter_map (piece_of (part_of file)) calls ≡ []
  pub unsized_more : lengths_found fetch calls ≡ []
  pub no_begin : list_all (λ call. not (begins (part_of file) call)) calls ≡ true
  pub grown : list_all (is_growing (part_of file)) calls ≡ true
  pub known_fetch : is_known fetch (past ++ calls) ≡ true
  pub known_part : is_known (part_of file) (past ++ calls) ≡ true

pub tail_of : (file fetch : List ℕ) (past : List Call) (at left : ℕ) (calls : List Call) → Apart file fetch → is_known fetch past ≡ true → is_known (part_of file) past ≡ true
    → EndsWhole fetch at left calls → Tail file fetch past at calls
tail_of file fetch past at left [] a f p e = record {
  good = record { fair = record { names = refl; changes = refl; lengths = refl; no_length = refl; no_read = refl; lasting = refl }; found = refl; free = refl };
  run = refl;
  empty = refl;
  unwritten = refl;
  unsized_more = refl;
  no_begin = refl;
  grown = refl;
  known_fetch = rw (append-nil past) f;
  known_part = rw (append-nil past) p;
}
tail_of file fetch past at left (call ∷ []) a f p e = rw e (record {
  good = record { fair = fair_read file fetch a at (Ok []); found = rw f refl; free = refl };
  run = rw (same_name fetch) (rw (nat_same at) refl);
  empty = rw (same_name fetch) refl;
  unwritten = refl;
  unsized_more = refl;
  no_begin = refl;
  grown = refl;
  known_fetch = known_skip fetch past (ReadAt fetch at (Ok [])) refl f;
  known_part = known_skip (part_of file) past (ReadAt fetch at (Ok [])) refl p;
})
tail_of file fetch past at left (call ∷ next ∷ more) a f p e = absurd e

-- ---- refused after what went well

-- the answer of a call that was refused, where no memory was lacking
pub stop_is : (e : DeskError) → (e ≡ E.NoMemory → ⊥) → error_stop false e ≡ Some (answered (refusal e))
stop_is E.Failed h = refl
stop_is E.Missing h = refl
stop_is E.NoMemory h = absurd (h refl)

-- ---- after the removal of the fetched file

abbrev pub moved_calls : List ℕ → List ℕ → List (List ℕ) → List Call → List Call
moved_calls file fetch pieces ending = copy_calls fetch (part_of file) 0 pieces ++ (ending ++ Remove fetch (Ok tt) ∷ [])

-- what these calls read and wrote
pub record Facts (file fetch : List ℕ) (pieces : List (List ℕ)) (ending calls : List Call) : Type 0 where
  pub sized : lengths_found fetch calls ≡ []
  pub reads_are : reads_of fetch calls ≡ placed 0 pieces ++ reads_of fetch ending
  pub bytes : bytes_of (reads_of fetch calls) ≡ concat pieces
  pub written : concat (filter_map (piece_of (part_of file)) calls) ≡ concat pieces
  pub no_begin : list_all (λ call. not (begins (part_of file) call)) calls ≡ true
  pub grown : list_all (is_growing (part_of file)) calls ≡ true

copy_unsized : (from to : List ℕ) (at : ℕ) (pieces : List (List ℕ)) → lengths_found from (copy_calls from to at pieces) ≡ []
copy_unsized from to at [] = refl
copy_unsized from to at (piece ∷ pieces) = copy_unsized from to (at + length piece) pieces

copy_no_begin : (part from to : List ℕ) (at : ℕ) (pieces : List (List ℕ)) → list_all (λ call. not (begins part call)) (copy_calls from to at pieces) ≡ true
copy_no_begin part from to at [] = refl
copy_no_begin part from to at (piece ∷ pieces) = copy_no_begin part from to (at + length piece) pieces

copy_grown : (part from to : List ℕ) (at : ℕ) (pieces : List (List ℕ)) → list_all (is_growing part) (copy_calls from to at pieces) ≡ true
copy_grown part from to at [] = refl
copy_grown part from to at (piece ∷ pieces) = copy_grown part from to (at + length piece) pieces

pub moved_facts : (file fetch : List ℕ) (past : List Call) (pieces : List (List ℕ)) (ending more : List Call) → Apart file fetch → Tail file fetch past (length (concat pieces)) ending
    → lengths_found fetch more ≡ [] → reads_of fetch more ≡ [] → filter_map (piece_of (part_of file)) more ≡ [] → list_all (λ call. not (begins (part_of file) call)) more ≡ true → list_all (is_growing (part_of file)) more ≡ true
    → Facts file fetch pieces ending (copy_calls fetch (part_of file) 0 pieces ++ (ending ++ more))
moved_facts file fetch past pieces ending more a t u r w b g = record {
  sized = rw (filter_map-append (length_found fetch) copied (ending ++ more), filter_map-append (length_found fetch) ending more) (rw (copy_unsized fetch (part_of file) 0 pieces, t.unsized_more, u) refl);
  reads_are = rw (filter_map-append (read_of fetch) copied (ending ++ more), filter_map-append (read_of fetch) ending more) (rw (r, append-nil (reads_of fetch ending)) (ap (λ l. l ++ reads_of fetch ending) (copy_reads fetch (part_of file) 0 pieces)));
  bytes = rw (filter_map-append (read_of fetch) copied (ending ++ more), filter_map-append (read_of fetch) ending more) (rw r
      (bytes_more (reads_of fetch copied) (reads_of fetch ending ++ []) ∙ same_bytes));
  written = rw (filter_map-append (piece_of (part_of file)) copied (ending ++ more), filter_map-append (piece_of (part_of file)) ending more) (rw (t.unwritten, w) (rw (append-nil (filter_map (piece_of (part_of file)) copied)) (copy_appends fetch (part_of file) 0 pieces)));
  no_begin = list_all_more (λ call. not (begins (part_of file) call)) copied (ending ++ more) (copy_no_begin (part_of file) fetch (part_of file) 0 pieces)
      (list_all_more (λ call. not (begins (part_of file) call)) ending more t.no_begin b);
  grown = list_all_more (is_growing (part_of file)) copied (ending ++ more) (copy_grown (part_of file) fetch (part_of file) 0 pieces) (list_all_more (is_growing (part_of file)) ending more t.grown g);
}
  where
    copied : List Call
    copied = copy_calls fetch (part_of file) 0 pieces

    same_bytes : bytes_of (reads_of fetch copied) ++ bytes_of (reads_of fetch ending ++ []) ≡ concat pieces
    same_bytes = rw (copy_reads fetch (part_of file) 0 pieces, append-nil (reads_of fetch ending), t.empty) (append-nil (bytes_of (placed 0 pieces)) ∙ bytes_placed 0 pieces)

-- ---- what it comes to

either : (a b c : Bool) → a ≡ true → c ≡ true → (a && (b || c)) ≡ true
either a true c e f = rw e refl
either a false c e f = rw (e, f) refl

by_length : (a b : ℕ) (c : Bool) → a ≡ b → ((a == b) || c) ≡ true
by_length a b c e = rw (eq-eqb a b e) refl

-- a whole copy read its file to the length that was found, or to its end
pub whole_reading : (fetch : List ℕ) (n : ℕ) (pieces : List (List ℕ)) (ending : List Call) → EndsWhole fetch (length (concat pieces)) (n - length (concat pieces)) ending → length (concat pieces) ≤ n
    → is_run 0 (placed 0 pieces ++ reads_of fetch ending) ≡ true → is_reading 0 n (placed 0 pieces ++ reads_of fetch ending) ≡ true
whole_reading fetch n pieces [] e m r =
    let b : bytes_of (placed 0 pieces ++ []) ≡ concat pieces = bytes_more (placed 0 pieces) [] ∙ append-nil (bytes_of (placed 0 pieces)) ∙ bytes_placed 0 pieces in
    let l : length (bytes_of (placed 0 pieces ++ [])) ≡ n - 0 = ap length b ∙ omega arith in
    rw r (by_length (length (bytes_of (placed 0 pieces ++ []))) (n - 0) (is_at_end (placed 0 pieces ++ [])) l)
whole_reading fetch n pieces (call ∷ []) e m r = rw (reads call e) (either (is_run 0 (placed 0 pieces ++ (length (concat pieces), []) ∷ [])) _ _ (rw (reads call e) at r) (at_end-snoc (placed 0 pieces) (length (concat pieces))))
  where
    reads : (call : Call) → call ≡ ReadAt fetch (length (concat pieces)) (Ok []) → reads_of fetch (call ∷ []) ≡ (length (concat pieces), []) ∷ []
    reads call e = rw e (rw (same_name fetch) refl)
whole_reading fetch n pieces (call ∷ next ∷ more) e m r = absurd e

pub is_last-snoc : (test : Call → Bool) (zs : List Call) (x : Call) → is_last test (zs ++ x ∷ []) ≡ test x
is_last-snoc test [] x = refl
is_last-snoc test (z ∷ []) x = refl
is_last-snoc test (z ∷ y ∷ zs) x = is_last-snoc test (y ∷ zs) x

pub last_call : (name : List ℕ) (test : Call → Bool) (front : List Call) (x : Call) → is_call_of name x ≡ true → is_last_call_of name test (front ++ x ∷ []) ≡ test x
last_call name test front x e =
    let same : filter (is_call_of name) (front ++ x ∷ []) ≡ filter (is_call_of name) front ++ x ∷ [] = rw (filter-append (is_call_of name) front (x ∷ [])) (rw e refl) in
    rw same (is_last-snoc test (filter (is_call_of name) front) x)

-- ---- all ways

abbrev pub names_of : Setup → TaskTurn → List ℕ → Files3
names_of setup t file = record { file = file; part = part_of file; fetch = fetch_file setup t 1 }

-- the calls of a settled move, with the last one apart
pub regrouped : (file fetch : List ℕ) (pieces : List (List ℕ)) (ending last : List Call)
    → moved_calls file fetch pieces ending ++ last ≡ (copy_calls fetch (part_of file) 0 pieces ++ ending) ++ Remove fetch (Ok tt) ∷ last
regrouped file fetch pieces ending last = simp append_assoc
