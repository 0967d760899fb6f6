-- The calls of a get in the plain layout, one by one.
use Rattle.std.proofs.Common.{◌≡◌, ◌∙◌, ℕ, ◌+◌, List, [], ◌∷◌, ◌++◌, length, refl, ap, arith, append-nil, append_assoc, add-zero, length-append}
use Rattle.std.specs.Prelude.{Bool, true, false, ◌&&◌, ◌||◌, bytes_eq, Option, Some, None, is_none, Result, Ok}
use Rattle.std.specs.List.{list_all, filter_map, concat}
use Rattle.std.proofs.lemmas.List.Elements.{filter_map-append}
use Rattle.ann_outside.specs.declared.file_desk.DeskError.{DeskError}
use Rattle.ann_outside.specs.declared.file_desk.Call.{Call}
use Rattle.ann_outside.specs.declared.file_desk.Call.TheVariants.{Size, ReadAt, Create, Append, Rename, Remove}
use Rattle.task_model.specs.Copying.Copies.{copy_calls}
use Rattle.task_model.specs.Stops.{call_stop}
use Rattle.task_model.specs.Names.{part_of}
use Rattle.task_model.specs.Reads.{length_or_none, reads_of, is_run, is_known, known_by, last_is_true, bytes_of, read_of, piece_of}
use Rattle.task_model.specs.Discipline.{name_only, changes_as_result, size_of_only, size_among, are_found, are_among, names_in, needed_by}
use Rattle.task_model.specs.Fetching.{Outcome}
use Rattle.task_model.proofs.HeldLaws.{is_lasting}
use Rattle.ann_key.proofs.Lists.{all_more, same_name}
use Rattle.ann_key.proofs.Numbers.{same_number as nat_same}
use Rattle.ann_key.proofs.Booleans.{false_is_true as apart}

-- the fetched file is not part, and part is not the file
pub record Apart (file fetch : List ℕ) : Type 0 where
  pub fetch_part : bytes_eq fetch (part_of file) ≡ false
  pub part_fetch : bytes_eq (part_of file) fetch ≡ false
  pub file_part : bytes_eq file (part_of file) ≡ false
  pub part_file : bytes_eq (part_of file) file ≡ false

-- calls that a get may make, refused or not, which ask nothing of part
pub record Fair (file fetch : List ℕ) (calls : List Call) : Type 0 where
  pub names : name_only (file ∷ part_of file ∷ fetch ∷ []) calls ≡ true
  pub changes : list_all (changes_as_result file (fetch ∷ [])) calls ≡ true
  pub lengths : size_of_only (part_of file ∷ fetch ∷ []) calls ≡ true
  pub no_length : filter_map (length_or_none (part_of file)) calls ≡ []
  pub no_read : reads_of (part_of file) calls ≡ []
  pub lasting : list_all (is_lasting (part_of file)) calls ≡ true

none_more : {X Y : Type 0} (f : X → Option Y) (xs ys : List X) → filter_map f xs ≡ [] → filter_map f ys ≡ [] → filter_map f (xs ++ ys) ≡ []
none_more f xs ys a b = rw (filter_map-append f xs ys) (rw a b)

pub fair_more : (file fetch : List ℕ) (xs ys : List Call) → Fair file fetch xs → Fair file fetch ys → Fair file fetch (xs ++ ys)
fair_more file fetch xs ys h k = record {
  names = all_more (λ call. are_among (file ∷ part_of file ∷ fetch ∷ []) (names_in call)) xs ys h.names k.names;
  changes = all_more (changes_as_result file (fetch ∷ [])) xs ys h.changes k.changes;
  lengths = all_more (size_among (part_of file ∷ fetch ∷ [])) xs ys h.lengths k.lengths;
  no_length = none_more (length_or_none (part_of file)) xs ys h.no_length k.no_length;
  no_read = none_more (read_of (part_of file)) xs ys h.no_read k.no_read;
  lasting = all_more (is_lasting (part_of file)) xs ys h.lasting k.lasting;
}

-- ---- single calls

third : (a b c : Bool) → c ≡ true → (((a || (b || (c || false))) && true) && true) ≡ true
third true b c e = refl
third false true c e = refl
third false false c e = rw e refl

second : (a b c : Bool) → b ≡ true → (((a || (b || c)) && true) && true) ≡ true
second true b c e = refl
second false b c e = rw e refl

pub fair_size : (file fetch : List ℕ) → Apart file fetch → (r : Result ℕ DeskError) → Fair file fetch (Size fetch r ∷ [])
fair_size file fetch a r = record {
  names = third (bytes_eq fetch file) (bytes_eq fetch (part_of file)) (bytes_eq fetch fetch) (same_name fetch);
  changes = refl;
  lengths = rw (a.fetch_part, same_name fetch) refl;
  no_length = rw a.fetch_part refl;
  no_read = refl;
  lasting = refl;
}

pub fair_create : (file fetch : List ℕ) → Apart file fetch → (r : Outcome) → Fair file fetch (Create (part_of file) r ∷ [])
fair_create file fetch a r = record {
  names = second (bytes_eq (part_of file) file) (bytes_eq (part_of file) (part_of file)) (bytes_eq (part_of file) fetch || false) (same_name (part_of file));
  changes = rw a.file_part refl;
  lengths = refl;
  no_length = refl;
  no_read = refl;
  lasting = refl;
}

pub fair_read : (file fetch : List ℕ) → Apart file fetch → (at : ℕ) (r : Result (List ℕ) DeskError) → Fair file fetch (ReadAt fetch at r ∷ [])
fair_read file fetch a at r = record {
  names = third (bytes_eq fetch file) (bytes_eq fetch (part_of file)) (bytes_eq fetch fetch) (same_name fetch);
  changes = refl;
  lengths = refl;
  no_length = refl;
  no_read = rw a.fetch_part refl;
  lasting = refl;
}

pub fair_append : (file fetch : List ℕ) → Apart file fetch → (piece : List ℕ) (r : Outcome) → Fair file fetch (Append (part_of file) piece r ∷ [])
fair_append file fetch a piece r = record {
  names = second (bytes_eq (part_of file) file) (bytes_eq (part_of file) (part_of file)) (bytes_eq (part_of file) fetch || false) (same_name (part_of file));
  changes = rw a.file_part refl;
  lengths = refl;
  no_length = refl;
  no_read = refl;
  lasting = refl;
}

pub fair_remove_fetch : (file fetch : List ℕ) → Apart file fetch → (r : Outcome) → Fair file fetch (Remove fetch r ∷ [])
fair_remove_fetch file fetch a r = record {
  names = third (bytes_eq fetch file) (bytes_eq fetch (part_of file)) (bytes_eq fetch fetch) (same_name fetch);
  changes = rw (same_name fetch) refl;
  lengths = refl;
  no_length = refl;
  no_read = refl;
  lasting = refl;
}

pub fair_remove_part : (file fetch : List ℕ) → Apart file fetch → (r : Outcome) → Fair file fetch (Remove (part_of file) r ∷ [])
fair_remove_part file fetch a r = record {
  names = second (bytes_eq (part_of file) file) (bytes_eq (part_of file) (part_of file)) (bytes_eq (part_of file) fetch || false) (same_name (part_of file));
  changes = rw (a.part_fetch, a.part_file) refl;
  lengths = refl;
  no_length = refl;
  no_read = refl;
  lasting = refl;
}

pub fair_rename : (file fetch : List ℕ) → Apart file fetch → (r : Outcome) → Fair file fetch (Rename (part_of file) file r ∷ [])
fair_rename file fetch a r = record {
  names = rw (a.part_file, same_name (part_of file), same_name file) refl;
  changes = rw (same_name (part_of file)) refl;
  lengths = refl;
  no_length = refl;
  no_read = refl;
  lasting = rw a.file_part refl;
}

-- ---- calls that were not refused, after others

pub record Good (file fetch : List ℕ) (past calls : List Call) : Type 0 where
  pub fair : Fair file fetch calls
  pub found : are_found (part_of file) past calls ≡ true
  pub free : list_all (λ call. is_none (call_stop (part_of file) call)) calls ≡ true

pub found_more : (part : List ℕ) (past xs ys : List Call) → are_found part past xs ≡ true → are_found part (past ++ xs) ys ≡ true → are_found part past (xs ++ ys) ≡ true
found_more part past [] ys h k = rw (append-nil past) at k
found_more part past (x ∷ xs) ys h k =
    by_test (list_all (λ name. is_known name past) (needed_by part x)) refl
    (λ rest. found_more part (past ++ x ∷ []) xs ys rest (rw (append_assoc past (x ∷ []) xs) k))
  where
    by_test : (b : Bool) → list_all (λ name. is_known name past) (needed_by part x) ≡ b
        → (are_found part (past ++ x ∷ []) xs ≡ true → are_found part (past ++ x ∷ []) (xs ++ ys) ≡ true)
        → are_found part past (x ∷ (xs ++ ys)) ≡ true
    by_test true e next = rw e (next (rw e at h))
    by_test false e next = apart (rw e at h)

pub good_more : (file fetch : List ℕ) (past xs ys : List Call) → Good file fetch past xs → Good file fetch (past ++ xs) ys → Good file fetch past (xs ++ ys)
good_more file fetch past xs ys h k = record {
  fair = fair_more file fetch xs ys h.fair k.fair;
  found = found_more (part_of file) past xs ys h.found k.found;
  free = all_more (λ call. is_none (call_stop (part_of file) call)) xs ys h.free k.free;
}

-- ---- what is known to be there

last_true-snoc : (bs : List Bool) (b : Bool) → last_is_true (bs ++ b ∷ []) ≡ b
last_true-snoc [] b = refl
last_true-snoc (c ∷ []) b = refl
last_true-snoc (c ∷ d ∷ bs) b = last_true-snoc (d ∷ bs) b

pub known_skip : (name : List ℕ) (past : List Call) (c : Call) → known_by name c ≡ None → is_known name past ≡ true → is_known name (past ++ c ∷ []) ≡ true
known_skip name past c e k = ap last_is_true same ∙ k
  where
    same : filter_map (known_by name) (past ++ c ∷ []) ≡ filter_map (known_by name) past
    same = rw (filter_map-append (known_by name) past (c ∷ [])) (rw e (append-nil (filter_map (known_by name) past)))

pub known_add : (name : List ℕ) (past : List Call) (c : Call) → known_by name c ≡ Some true → is_known name (past ++ c ∷ []) ≡ true
known_add name past c e = ap last_is_true same ∙ last_true-snoc (filter_map (known_by name) past) true
  where
    same : filter_map (known_by name) (past ++ c ∷ []) ≡ filter_map (known_by name) past ++ true ∷ []
    same = rw (filter_map-append (known_by name) past (c ∷ [])) (rw e refl)

-- ---- the copy

pub copy_good : (file fetch : List ℕ) → Apart file fetch → (past : List Call) (at : ℕ) (pieces : List (List ℕ))
    → is_known fetch past ≡ true → is_known (part_of file) past ≡ true → Good file fetch past (copy_calls fetch (part_of file) at pieces)
copy_good file fetch a past at [] f p = record { fair = record { names = refl; changes = refl; lengths = refl; no_length = refl; no_read = refl; lasting = refl }; found = refl; free = refl }
copy_good file fetch a past at (piece ∷ pieces) f p =
    good_more file fetch past (ReadAt fetch at (Ok piece) ∷ []) (Append (part_of file) piece (Ok tt) ∷ copy_calls fetch (part_of file) (at + length piece) pieces)
    record { fair = fair_read file fetch a at (Ok piece); found = rw f refl; free = refl }
    (good_more file fetch past_1 (Append (part_of file) piece (Ok tt) ∷ []) (copy_calls fetch (part_of file) (at + length piece) pieces)
    record { fair = fair_append file fetch a piece (Ok tt); found = rw p_1 refl; free = refl }
    (copy_good file fetch a past_2 (at + length piece) pieces
    (known_skip fetch past_1 (Append (part_of file) piece (Ok tt)) refl (known_skip fetch past (ReadAt fetch at (Ok piece)) refl f))
    (known_skip (part_of file) past_1 (Append (part_of file) piece (Ok tt)) refl p_1)))
  where
    past_1 : List Call
    past_1 = past ++ ReadAt fetch at (Ok piece) ∷ []

    past_2 : List Call
    past_2 = past_1 ++ Append (part_of file) piece (Ok tt) ∷ []

    p_1 : is_known (part_of file) past_1 ≡ true
    p_1 = known_skip (part_of file) past (ReadAt fetch at (Ok piece)) refl p

-- a copy takes no file away
pub known_copy : (name from to : List ℕ) (past : List Call) (at : ℕ) (pieces : List (List ℕ)) → is_known name past ≡ true → is_known name (past ++ copy_calls from to at pieces) ≡ true
known_copy name from to past at pieces k = ap last_is_true same ∙ k
  where
    none : (at : ℕ) (pieces : List (List ℕ)) → filter_map (known_by name) (copy_calls from to at pieces) ≡ []
    none at [] = refl
    none at (piece ∷ pieces) = none (at + length piece) pieces

    same : filter_map (known_by name) (past ++ copy_calls from to at pieces) ≡ filter_map (known_by name) past
    same = rw (filter_map-append (known_by name) past (copy_calls from to at pieces)) (rw (none at pieces) (append-nil (filter_map (known_by name) past)))

-- ---- what it reads and writes

abbrev pub placed : ℕ → List (List ℕ) → List (ℕ × List ℕ)
placed at [] = []
placed at (piece ∷ pieces) = (at, piece) ∷ placed (at + length piece) pieces

pub copy_reads : (from to : List ℕ) (at : ℕ) (pieces : List (List ℕ)) → reads_of from (copy_calls from to at pieces) ≡ placed at pieces
copy_reads from to at [] = refl
copy_reads from to at (piece ∷ pieces) = rw (same_name from) (ap (λ l. (at, piece) ∷ l) (copy_reads from to (at + length piece) pieces))

pub run_placed : (at : ℕ) (pieces : List (List ℕ)) (more : List (ℕ × List ℕ)) → is_run (at + length (concat pieces)) more ≡ true → is_run at (placed at pieces ++ more) ≡ true
run_placed at [] more h = rw (add-zero at) at h
run_placed at (piece ∷ pieces) more h =
    let e : (at + length piece) + length (concat pieces) ≡ at + length (piece ++ concat pieces) = omega (arith, length-append piece (concat pieces)) in
    rw (nat_same at) (run_placed (at + length piece) pieces more (rw e h))

pub bytes_placed : (at : ℕ) (pieces : List (List ℕ)) → bytes_of (placed at pieces) ≡ concat pieces
bytes_placed at [] = refl
bytes_placed at (piece ∷ pieces) = ap (λ l. piece ++ l) (bytes_placed (at + length piece) pieces)

pub copy_appends : (from to : List ℕ) (at : ℕ) (pieces : List (List ℕ)) → concat (filter_map (piece_of to) (copy_calls from to at pieces)) ≡ concat pieces
copy_appends from to at [] = refl
copy_appends from to at (piece ∷ pieces) = rw (same_name to) (ap (λ l. piece ++ l) (copy_appends from to (at + length piece) pieces))
