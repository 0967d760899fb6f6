-- The calls of a store in chunks.
use Rattle.std.proofs.Common.{◌≡◌, ◌∙◌, ℕ, zero, suc, ◌+◌, ◌<◌, ◌≤◌, List, [], ◌∷◌, ◌++◌, length, map, refl, sym, ap, subst, arith, append-nil, append_assoc, take}
use Rattle.std.specs.Prelude.{Bool, true, false, ◌&&◌, ◌||◌, nat_le, nat_lt, ◌==◌, bytes_eq, filter, is_none, Option, Some, Ok, Err}
use Rattle.std.specs.List.{list_all, list_any, filter_map, concat, range_with_len}
use Rattle.std.proofs.Math.Seq.{take-append_seam}
use Rattle.std.proofs.lemmas.List.Elements.{filter_map-append}
use Rattle.std.proofs.lemmas.Bool.{and_parts, le-leb as le_true}
use Rattle.std.proofs.lemmas.Bool.Decides.{nat_tests}
use Rattle.ann_outside.specs.declared.file_desk.Call.{Call}
use Rattle.ann_outside.specs.declared.file_desk.Call.TheVariants as K
use Rattle.ann_outside.specs.declared.file_desk.Call.TheVariants.{Size, ReadAt, Create, Append, Cut, Rename, Remove}
use Rattle.task_model.specs.Copying.Copies.{copy_calls}
use Rattle.task_model.specs.Copying.CopiesOut.{reads_before}
use Rattle.task_model.specs.declared.setup.Setup.{Setup}
use Rattle.task_model.specs.declared.turn.TaskTurn.{TaskTurn}
use Rattle.task_model.specs.Stops.{call_stop}
use Rattle.task_model.specs.Names.{chunk_file, chunk_files, is_among}
use Rattle.task_model.specs.Reads.{reads_of, read_of, bytes_of, is_run, piece_of, appended, held_after, holds, is_call_of, is_known}
use Rattle.task_model.specs.Discipline.{are_among, names_in, changed_by, size_among, are_found}
use Rattle.task_model.specs.Stores.{is_size_call, is_front}
use Rattle.task_run.specs.Store.ChunkStoring.{cut_calls}
use Rattle.task_model.proofs.GetCallsLaws.{known_skip, known_add, copy_reads, copy_appends, placed, run_placed, bytes_placed}
use Rattle.ann_key.proofs.Lists.{all_more, equal_bytes as same_text, same_name}
use Rattle.task_model.proofs.HeldLaws.{holds_more as holds_both}
use Rattle.ann_key.proofs.Booleans.{false_is_true as apart}
use Rattle.task_model.proofs.Across.{bytes_more}

pub lt_of : (a b : ℕ) → nat_lt a b ≡ true → a < b
lt_of a b h = grind (arith, nat_tests)

all_both : {X : Type 0} (p q : X → Bool) (xs : List X) → list_all p xs ≡ true → list_all q xs ≡ true → list_all (λ x. p x && q x) xs ≡ true
all_both p q [] a b = refl
all_both p q (x ∷ xs) a b =
    let f = and_parts (p x) (list_all p xs) a in
    let g = and_parts (q x) (list_all q xs) b in
    let first : p x ≡ true = f.0 in
    let other : q x ≡ true = g.0 in
    let rest : list_all (λ y. p y && q y) xs ≡ true = all_both p q xs f.1 g.1 in
    rw (first, other, rest) refl

pub all_kept : {X : Type 0} (p : X → Bool) (xs : List X) → list_all p xs ≡ true → filter p xs ≡ xs
all_kept p [] h = refl
all_kept p (x ∷ xs) h =
    let parts = and_parts (p x) (list_all p xs) h in
    let first : p x ≡ true = parts.0 in
    rw first (ap (λ l. x ∷ l) (all_kept p xs parts.1))

-- ---- calls of one chunk: reads of the task's file from a place on, and what is done with the chunk's file

abbrev pub own : List ℕ → List ℕ → ℕ → Call → Bool
own file name from (ReadAt other at answer) = bytes_eq other file && nat_le from at
own file name from (Create other answer) = bytes_eq other name
own file name from (Append other piece answer) = bytes_eq other name
own file name from (Remove other answer) = bytes_eq other name
own file name from (Size other answer) = false
own file name from (K.Cut other size answer) = false
own file name from (Rename other to answer) = false

true_among : (b : Bool) → ((b || true) && true) ≡ true
true_among true = refl
true_among false = refl

named_behind : (file name : List ℕ) (files : List (List ℕ)) → is_among files name ≡ true → are_among (file ∷ files) (name ∷ []) ≡ true
named_behind file name files h = rw h (true_among (bytes_eq name file))

pub own_named : (file name : List ℕ) (from : ℕ) (files : List (List ℕ)) → is_among files name ≡ true → (c : Call) → own file name from c ≡ true
    → are_among (file ∷ files) (names_in c) ≡ true
own_named file name from files h (ReadAt other at answer) k =
    let e : other ≡ file = same_text other file (and_parts (bytes_eq other file) (nat_le from at) k).0 in
    rw e (rw (same_name file) refl)
own_named file name from files h (Create other answer) k =
    let P : List ℕ → Type 0 = λ w. are_among (file ∷ files) (w ∷ []) ≡ true in subst P (sym (same_text other name k)) (named_behind file name files h)
own_named file name from files h (Append other piece answer) k =
    let P : List ℕ → Type 0 = λ w. are_among (file ∷ files) (w ∷ []) ≡ true in subst P (sym (same_text other name k)) (named_behind file name files h)
own_named file name from files h (Remove other answer) k =
    let P : List ℕ → Type 0 = λ w. are_among (file ∷ files) (w ∷ []) ≡ true in subst P (sym (same_text other name k)) (named_behind file name files h)
own_named file name from files h (Size other answer) k = apart k
own_named file name from files h (K.Cut other size answer) k = apart k
own_named file name from files h (Rename other to answer) k = apart k

pub own_changed : (file name : List ℕ) (from : ℕ) (files : List (List ℕ)) → is_among files name ≡ true → (c : Call) → own file name from c ≡ true
    → are_among files (changed_by c) ≡ true
own_changed file name from files h (ReadAt other at answer) k = refl
own_changed file name from files h (Create other answer) k =
    let P : List ℕ → Type 0 = λ w. are_among files (w ∷ []) ≡ true in subst P (sym (same_text other name k)) (rw h refl)
own_changed file name from files h (Append other piece answer) k =
    let P : List ℕ → Type 0 = λ w. are_among files (w ∷ []) ≡ true in subst P (sym (same_text other name k)) (rw h refl)
own_changed file name from files h (Remove other answer) k =
    let P : List ℕ → Type 0 = λ w. are_among files (w ∷ []) ≡ true in subst P (sym (same_text other name k)) (rw h refl)
own_changed file name from files h (Size other answer) k = apart k
own_changed file name from files h (K.Cut other size answer) k = apart k
own_changed file name from files h (Rename other to answer) k = apart k

pub own_length : (file name : List ℕ) (from : ℕ) (names : List (List ℕ)) (c : Call) → own file name from c ≡ true → size_among names c ≡ true
own_length file name from names (ReadAt other at answer) k = refl
own_length file name from names (Create other answer) k = refl
own_length file name from names (Append other piece answer) k = refl
own_length file name from names (Remove other answer) k = refl
own_length file name from names (Size other answer) k = apart k
own_length file name from names (K.Cut other size answer) k = apart k
own_length file name from names (Rename other to answer) k = apart k

own_size : (file name : List ℕ) (from : ℕ) (c : Call) → own file name from c ≡ true → is_size_call c ≡ false
own_size file name from (ReadAt other at answer) k = refl
own_size file name from (Create other answer) k = refl
own_size file name from (Append other piece answer) k = refl
own_size file name from (Remove other answer) k = refl
own_size file name from (Size other answer) k = apart k
own_size file name from (K.Cut other size answer) k = apart k
own_size file name from (Rename other to answer) k = apart k

pub own_no_size : (file name : List ℕ) (from : ℕ) (xs : List Call) → list_all (own file name from) xs ≡ true → list_any is_size_call xs ≡ false
own_no_size file name from [] k = refl
own_no_size file name from (c ∷ xs) k =
    let parts = and_parts (own file name from c) (list_all (own file name from) xs) k in
    let first : is_size_call c ≡ false = own_size file name from c parts.0 in
    let rest : list_any is_size_call xs ≡ false = own_no_size file name from xs parts.1 in
    rw (first, rest) refl

pub own_reads : (file name : List ℕ) (from : ℕ) (xs : List Call) → list_all (own file name from) xs ≡ true → list_all (λ (r : ℕ × List ℕ). nat_le from r.0) (reads_of file xs) ≡ true
own_reads file name from [] k = refl
own_reads file name from (c ∷ xs) k = by_call c (and_parts (own file name from c) (list_all (own file name from) xs) k).0 (own_reads file name from xs (and_parts (own file name from c) (list_all (own file name from) xs) k).1)
  where
    by_call : (c : Call) → own file name from c ≡ true → list_all (λ (r : ℕ × List ℕ). nat_le from r.0) (reads_of file xs) ≡ true
        → list_all (λ (r : ℕ × List ℕ). nat_le from r.0) (reads_of file (c ∷ xs)) ≡ true
    by_call (ReadAt other at (Ok bytes)) h r =
        let p = and_parts (bytes_eq other file) (nat_le from at) h in
        let e : bytes_eq other file ≡ true = p.0 in
        let low : nat_le from at ≡ true = p.1 in
        rw e (rw low r)
    by_call (ReadAt other at (Err error)) h r =
        let p = and_parts (bytes_eq other file) (nat_le from at) h in
        let e : bytes_eq other file ≡ true = p.0 in
        rw e r
    by_call (Create other answer) h r = r
    by_call (Append other piece answer) h r = r
    by_call (Remove other answer) h r = r
    by_call (Size other answer) h r = r
    by_call (K.Cut other size answer) h r = r
    by_call (Rename other to answer) h r = r

-- reads of calls that read before a place are before it
pub before_reads : (file : List ℕ) (to : ℕ) (xs : List Call) → list_all (reads_before to) xs ≡ true → list_all (λ (r : ℕ × List ℕ). nat_lt r.0 to) (reads_of file xs) ≡ true
before_reads file to [] k = refl
before_reads file to (c ∷ xs) k = by_call c (and_parts (reads_before to c) (list_all (reads_before to) xs) k).0 (before_reads file to xs (and_parts (reads_before to c) (list_all (reads_before to) xs) k).1)
  where
    by_call : (c : Call) → reads_before to c ≡ true → list_all (λ (r : ℕ × List ℕ). nat_lt r.0 to) (reads_of file xs) ≡ true
        → list_all (λ (r : ℕ × List ℕ). nat_lt r.0 to) (reads_of file (c ∷ xs)) ≡ true
    by_call (ReadAt other at (Ok bytes)) h r = by_test (bytes_eq other file) refl
      where
        by_test : (b : Bool) → bytes_eq other file ≡ b → list_all (λ (r : ℕ × List ℕ). nat_lt r.0 to) (reads_of file (ReadAt other at (Ok bytes) ∷ xs)) ≡ true
        by_test true e = rw e (rw h r)
        by_test false e = rw e r
    by_call (ReadAt other at (Err error)) h r = by_test (bytes_eq other file) refl
      where
        by_test : (b : Bool) → bytes_eq other file ≡ b → list_all (λ (r : ℕ × List ℕ). nat_lt r.0 to) (reads_of file (ReadAt other at (Err error) ∷ xs)) ≡ true
        by_test true e = rw e r
        by_test false e = rw e r
    by_call (Create other answer) h r = r
    by_call (Append other piece answer) h r = r
    by_call (Remove other answer) h r = r
    by_call (Size other answer) h r = r
    by_call (K.Cut other size answer) h r = r
    by_call (Rename other to answer) h r = r

-- nothing is appended to another file
pub own_pieces : (file name other : List ℕ) (from : ℕ) → bytes_eq name other ≡ false → (xs : List Call) → list_all (own file name from) xs ≡ true → filter_map (piece_of other) xs ≡ []
own_pieces file name other from d [] k = refl
own_pieces file name other from d (c ∷ xs) k = by_call c (and_parts (own file name from c) (list_all (own file name from) xs) k).0 (own_pieces file name other from d xs (and_parts (own file name from c) (list_all (own file name from) xs) k).1)
  where
    by_call : (c : Call) → own file name from c ≡ true → filter_map (piece_of other) xs ≡ [] → filter_map (piece_of other) (c ∷ xs) ≡ []
    by_call (ReadAt named at answer) h r = r
    by_call (Create named answer) h r = r
    by_call (Append named piece answer) h r = let e : named ≡ name = same_text named name h in rw e (rw d r)
    by_call (Remove named answer) h r = r
    by_call (Size named answer) h r = r
    by_call (K.Cut named size answer) h r = r
    by_call (Rename named to answer) h r = r

-- no call is of a file that is neither
pub own_calls : (file name other : List ℕ) (from : ℕ) → bytes_eq name other ≡ false → bytes_eq file other ≡ false → (xs : List Call) → list_all (own file name from) xs ≡ true
    → filter (is_call_of other) xs ≡ []
own_calls file name other from d f [] k = refl
own_calls file name other from d f (c ∷ xs) k =
    let parts = and_parts (own file name from c) (list_all (own file name from) xs) k in
    let first : is_call_of other c ≡ false = by_call c parts.0 in
    rw first (own_calls file name other from d f xs parts.1)
  where
    by_call : (c : Call) → own file name from c ≡ true → is_call_of other c ≡ false
    by_call (ReadAt named at answer) h = let e : named ≡ file = same_text named file (and_parts (bytes_eq named file) (nat_le from at) h).0 in rw e f
    by_call (Create named answer) h = let e : named ≡ name = same_text named name h in rw e d
    by_call (Append named piece answer) h = let e : named ≡ name = same_text named name h in rw e d
    by_call (Remove named answer) h = let e : named ≡ name = same_text named name h in rw e d
    by_call (Size named answer) h = apart h
    by_call (K.Cut named size answer) h = apart h
    by_call (Rename named to answer) h = apart h

-- ---- a range that is copied

pub copy_own : (file name : List ℕ) (from at : ℕ) (pieces : List (List ℕ)) → from ≤ at → list_all (own file name from) (copy_calls file name at pieces) ≡ true
copy_own file name from at [] h = refl
copy_own file name from at (piece ∷ pieces) h =
    let low : nat_le from at ≡ true = le_true from at h in
    let rest : list_all (own file name from) (copy_calls file name (at + length piece) pieces) ≡ true = copy_own file name from (at + length piece) pieces (omega arith) in
    rw (same_name file, low, same_name name, rest) refl

-- what a store in chunks is good for after these calls: they are its own, and read on from the range's begin; what was appended is the
-- begin of what was read
pub record Cutting (file name : List ℕ) (from to : ℕ) (calls : List Call) : Type 0 where
  pub own_all : list_all (own file name from) calls ≡ true
  pub run : is_run from (reads_of file calls) ≡ true
  pub front : is_front (appended name calls) (bytes_of (reads_of file calls)) ≡ true
  pub within : list_all (λ (r : ℕ × List ℕ). nat_le from r.0 && nat_lt r.0 to) (reads_of file calls) ≡ true

pub cutting_create : (file name : List ℕ) (from to : ℕ) (r : _) → Cutting file name from to (Create name r ∷ [])
cutting_create file name from to r = record { own_all = rw (same_name name) refl; run = refl; front = refl; within = refl }

-- calls after the pieces, which append nothing more
pub record Ending (file name : List ℕ) (from at : ℕ) (ending : List Call) : Type 0 where
  pub own_all : list_all (own file name from) ending ≡ true
  pub run : is_run at (reads_of file ending) ≡ true
  pub unwritten : filter_map (piece_of name) ending ≡ []

pub cut_reads : (file name : List ℕ) (from : ℕ) (pieces : List (List ℕ)) (ending : List Call)
    → reads_of file (cut_calls file name from pieces ending) ≡ placed from pieces ++ reads_of file ending
cut_reads file name from pieces ending = filter_map-append (read_of file) (copy_calls file name from pieces) ending ∙ ap (λ l. l ++ reads_of file ending) (copy_reads file name from pieces)

pub cut_appends : (file name : List ℕ) (from : ℕ) (pieces : List (List ℕ)) (ending : List Call) → filter_map (piece_of name) ending ≡ []
    → appended name (cut_calls file name from pieces ending) ≡ concat pieces
cut_appends file name from pieces ending h =
    ap concat (filter_map-append (piece_of name) (copy_calls file name from pieces) ending ∙ ap (λ l. filter_map (piece_of name) (copy_calls file name from pieces) ++ l) h
    ∙ append-nil (filter_map (piece_of name) (copy_calls file name from pieces)))
    ∙ copy_appends file name from pieces

pub front_of : (a b : List ℕ) → is_front a (a ++ b) ≡ true
front_of a b = let e : take (length a) (a ++ b) ≡ a = take-append_seam a b in rw e (same_name a)

pub cutting_cut : (file name : List ℕ) (from to : ℕ) (pieces : List (List ℕ)) (ending : List Call) → Ending file name from (from + length (concat pieces)) ending
    → list_all (reads_before to) (copy_calls file name from pieces ++ ending) ≡ true → Cutting file name from to (cut_calls file name from pieces ending)
cutting_cut file name from to pieces ending e w = record {
  own_all = all;
  run = rw reads (run_placed from pieces (reads_of file ending) e.run);
  front = rw (cut_appends file name from pieces ending e.unwritten) (rw bytes (front_of (concat pieces) (bytes_of (reads_of file ending))));
  within = all_both (λ (r : ℕ × List ℕ). nat_le from r.0) (λ (r : ℕ × List ℕ). nat_lt r.0 to) (reads_of file (cut_calls file name from pieces ending))
      (own_reads file name from (cut_calls file name from pieces ending) all) (before_reads file to (cut_calls file name from pieces ending) w);
}
  where
    reads : reads_of file (cut_calls file name from pieces ending) ≡ placed from pieces ++ reads_of file ending
    reads = cut_reads file name from pieces ending

    all : list_all (own file name from) (cut_calls file name from pieces ending) ≡ true
    all = rw (same_name name) (all_more (own file name from) (copy_calls file name from pieces) ending (copy_own file name from from pieces (omega arith)) e.own_all)

    bytes : bytes_of (reads_of file (cut_calls file name from pieces ending)) ≡ concat pieces ++ bytes_of (reads_of file ending)
    bytes = ap bytes_of reads ∙ bytes_more (placed from pieces) (reads_of file ending) ∙ ap (λ l. l ++ bytes_of (reads_of file ending)) (bytes_placed from pieces)

-- the removal of the chunk's file changes none of that
pub cutting_removed : (file name : List ℕ) (from to : ℕ) (calls : List Call) (r : _) → Cutting file name from to calls → Cutting file name from to (calls ++ Remove name r ∷ [])
cutting_removed file name from to calls r c = record {
  own_all = all_more (own file name from) calls (Remove name r ∷ []) c.own_all (rw (same_name name) refl);
  run = rw reads c.run;
  front = rw (wrote, reads) c.front;
  within = rw reads c.within;
}
  where
    reads : reads_of file (calls ++ Remove name r ∷ []) ≡ reads_of file calls
    reads = filter_map-append (read_of file) calls (Remove name r ∷ []) ∙ append-nil (reads_of file calls)

    wrote : appended name (calls ++ Remove name r ∷ []) ≡ appended name calls
    wrote = ap concat (filter_map-append (piece_of name) calls (Remove name r ∷ []) ∙ append-nil (filter_map (piece_of name) calls))

-- ---- what the files hold

-- another file holds what it held
pub own_held : (file name other : List ℕ) (from : ℕ) (held : Option (List ℕ)) → bytes_eq name other ≡ false → (xs : List Call) → list_all (own file name from) xs ≡ true → holds other held xs ≡ held
own_held file name other from held d [] k = refl
own_held file name other from held d (c ∷ xs) k =
    let parts = and_parts (own file name from c) (list_all (own file name from) xs) k in
    ap (λ h. holds other h xs) (by_call c parts.0) ∙ own_held file name other from held d xs parts.1
  where
    by_call : (c : Call) → own file name from c ≡ true → held_after other held c ≡ held
    by_call (ReadAt named at answer) h = refl
    by_call (Create named (Ok done)) h = let e : named ≡ name = same_text named name h in rw e (rw d refl)
    by_call (Create named (Err error)) h = refl
    by_call (Append named piece (Ok done)) h = let e : named ≡ name = same_text named name h in rw e (rw d refl)
    by_call (Append named piece (Err error)) h = refl
    by_call (Remove named answer) h = refl
    by_call (Size named answer) h = apart h
    by_call (K.Cut named size answer) h = apart h
    by_call (Rename named to answer) h = apart h

-- whatever the file held before, after these calls it holds what they append to it
abbrev pub Fills : List ℕ → List Call → Type 0
Fills name calls = (held : Option (List ℕ)) → holds name held calls ≡ Some (appended name calls)

pub copy_held : (file name held : List ℕ) (at : ℕ) (pieces : List (List ℕ)) → holds name (Some held) (copy_calls file name at pieces) ≡ Some (held ++ concat pieces)
copy_held file name held at [] = ap (λ l. Some l) (sym (append-nil held))
copy_held file name held at (piece ∷ pieces) =
    let first : held_after name (Some held) (Append name piece (Ok tt)) ≡ Some (held ++ piece) = rw (same_name name) refl in
    ap (λ (h : Option (List ℕ)). holds name h (copy_calls file name (at + length piece) pieces)) first
    ∙ copy_held file name (held ++ piece) (at + length piece) pieces
    ∙ ap (λ l. Some l) (append_assoc held piece (concat pieces))

-- the removal of a file tells it as it was
pub fills_removed : (name : List ℕ) (calls : List Call) (r : _) → Fills name calls → Fills name (calls ++ Remove name r ∷ [])
fills_removed name calls r h held = holds_both name held calls (Remove name r ∷ []) ∙ h held ∙ ap (λ l. Some l) (sym wrote)
  where
    wrote : appended name (calls ++ Remove name r ∷ []) ≡ appended name calls
    wrote = ap concat (filter_map-append (piece_of name) calls (Remove name r ∷ []) ∙ append-nil (filter_map (piece_of name) calls))

-- ---- files that are there

pub known_created : (file name : List ℕ) (past : List Call) → is_known file past ≡ true → is_known file (past ++ Create name (Ok tt) ∷ []) ≡ true
known_created file name past h = by_test (bytes_eq name file) refl
  where
    by_test : (b : Bool) → bytes_eq name file ≡ b → is_known file (past ++ Create name (Ok tt) ∷ []) ≡ true
    by_test true e = known_add file past (Create name (Ok tt)) (rw e refl)
    by_test false e = known_skip file past (Create name (Ok tt)) (rw e refl) h

pub known_removed : (file name : List ℕ) (past : List Call) → bytes_eq name file ≡ false → is_known file past ≡ true → is_known file (past ++ Remove name (Ok tt) ∷ []) ≡ true
known_removed file name past d h = known_skip file past (Remove name (Ok tt)) (rw d refl) h

pub copy_found : (part file name : List ℕ) (past : List Call) (at : ℕ) (pieces : List (List ℕ)) → is_known file past ≡ true → is_known name past ≡ true
    → are_found part past (copy_calls file name at pieces) ≡ true
copy_found part file name past at [] f n = refl
copy_found part file name past at (piece ∷ pieces) f n =
    let n1 : is_known name (past ++ ReadAt file at (Ok piece) ∷ []) ≡ true = known_skip name past (ReadAt file at (Ok piece)) refl n in
    let f1 : is_known file (past ++ ReadAt file at (Ok piece) ∷ []) ≡ true = known_skip file past (ReadAt file at (Ok piece)) refl f in
    let past2 = (past ++ ReadAt file at (Ok piece) ∷ []) ++ Append name piece (Ok tt) ∷ [] in
    let rest : are_found part ((past ++ ReadAt file at (Ok piece) ∷ []) ++ Append name piece (Ok tt) ∷ []) (copy_calls file name (at + length piece) pieces) ≡ true =
    copy_found part file name ((past ++ ReadAt file at (Ok piece) ∷ []) ++ Append name piece (Ok tt) ∷ []) (at + length piece) pieces
    (known_skip file (past ++ ReadAt file at (Ok piece) ∷ []) (Append name piece (Ok tt)) refl f1)
    (known_skip name (past ++ ReadAt file at (Ok piece) ∷ []) (Append name piece (Ok tt)) refl n1) in
    rw (f, n1, rest) refl

pub copy_free : (part file name : List ℕ) (at : ℕ) (pieces : List (List ℕ)) → list_all (λ call. is_none (call_stop part call)) (copy_calls file name at pieces) ≡ true
copy_free part file name at [] = refl
copy_free part file name at (piece ∷ pieces) = copy_free part file name (at + length piece) pieces

-- ---- names

in_range : (f : ℕ → List ℕ) (m k n : ℕ) → m ≤ n → n < m + k → is_among (map f (range_with_len m k)) (f n) ≡ true
in_range f m zero n low high = absurd (omega arith)
in_range f m (suc k) n low high = by_test (n == m) refl (λ differ. in_range f (m + 1) k n (omega (arith, differ)) (omega arith))
  where
    or_right : (a b : Bool) → b ≡ true → (a || b) ≡ true
    or_right true b h = refl
    or_right false b h = h

    by_test : (b : Bool) → (n == m) ≡ b → ((n ≡ m → ⊥) → is_among (map f (range_with_len (m + 1) k)) (f n) ≡ true) → is_among (map f (range_with_len m (suc k))) (f n) ≡ true
    by_test true e rest = let same : n ≡ m = grind (arith, nat_tests) in rw same (rw (same_name (f m)) refl)
    by_test false e rest = or_right (bytes_eq (f n) (f m)) (is_among (map f (range_with_len (m + 1) k)) (f n)) (rest (λ same. grind (arith, nat_tests)))

pub chunk_among : (setup : Setup) (t : TaskTurn) (count n : ℕ) → 1 ≤ n → n ≤ count → is_among (chunk_files setup t count) (chunk_file setup t n) ≡ true
chunk_among setup t count n low high = in_range (chunk_file setup t) 1 count n low (omega arith)
