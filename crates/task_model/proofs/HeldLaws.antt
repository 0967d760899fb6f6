-- What a file holds after calls, and what was read of it.
use Rattle.std.proofs.Common.{◌≡◌, ◌∙◌, ℕ, ◌+◌, ◌-◌, ◌≤◌, ◌==◌, Bool, true, false, not, List, [], ◌∷◌, ◌++◌, length, take, drop, refl, sym, ap, subst, arith, append_assoc, append-nil, length-append}
use Rattle.std.specs.Prelude.{◌||◌, if◌then◌else◌, nat_le, nat_lt, min, bytes_eq, Option, Some, None, is_some, option_map, unwrap_or, Ok, Err}
use Rattle.std.specs.List.{list_all, filter_map, concat, cons_option}
use Rattle.std.proofs.lemmas.Bool.{and_parts, eqb-true, leb-true, not-true as untrue}
use Rattle.std.proofs.lemmas.List.{take-append-drop, take_all, drop_all, drop-drop, length-take}
use Rattle.std.proofs.lemmas.Slice.Eq.{bytes_eq-Decides}
use Rattle.std.proofs.Math.Seq.{take-add}
use Rattle.ann_outside.specs.declared.file_desk.Call.{Call}
use Rattle.ann_outside.specs.declared.file_desk.Call.TheVariants.{Size, ReadAt, Create, Append, Cut, Rename, Remove}
use Rattle.task_model.specs.Reads.{reads_of, read_of, length_found, bytes_of, is_run, is_at_end, is_reading, appended, piece_of, held_after, holds, is_read_of, is_found_so, are_found_so}
use Rattle.task_model.specs.Fetching.{Outcome}
use Rattle.ann_key.proofs.Booleans.{false_is_true as apart}
use Rattle.ann_key.proofs.Lists.{same_name}

-- ---- after others

pub holds_more : (name : List ℕ) (held : Option (List ℕ)) (xs ys : List Call) → holds name held (xs ++ ys) ≡ holds name (holds name held xs) ys
holds_more name held [] ys = refl
holds_more name held (x ∷ xs) ys = holds_more name (held_after name held x) xs ys

pub so_front : (name : List ℕ) (held : Option (List ℕ)) (xs ys : List Call) → are_found_so name held (xs ++ ys) ≡ true → are_found_so name held xs ≡ true
so_front name held [] ys h = refl
so_front name held (x ∷ xs) ys h =
    let parts = and_parts (is_found_so name held x) (are_found_so name (held_after name held x) (xs ++ ys)) h in
    let rest : are_found_so name (held_after name held x) xs ≡ true = so_front name (held_after name held x) xs ys parts.1 in
    rw (parts.0, rest) refl

pub so_behind : (name : List ℕ) (held : Option (List ℕ)) (xs ys : List Call) → are_found_so name held (xs ++ ys) ≡ true → are_found_so name (holds name held xs) ys ≡ true
so_behind name held [] ys h = h
so_behind name held (x ∷ xs) ys h = so_behind name (held_after name held x) xs ys (and_parts (is_found_so name held x) (are_found_so name (held_after name held x) (xs ++ ys)) h).1

-- ---- what it holds is known

-- no file is renamed to it
abbrev pub is_lasting : List ℕ → Call → Bool
is_lasting name (Rename from to answer) = not (bytes_eq to name)
is_lasting name call = true

cut_or : (t : Bool) (a b : List ℕ) → is_some (if t then Some a else Some b) ≡ true
cut_or true a b = refl
cut_or false a b = refl

told_one : (name bytes : List ℕ) (call : Call) → is_lasting name call ≡ true → is_some (held_after name (Some bytes) call) ≡ true
told_one name bytes (Size other answer) h = refl
told_one name bytes (ReadAt other from answer) h = refl
told_one name bytes (Remove other answer) h = refl
told_one name bytes (Create other (Ok tt')) h = cut_or (bytes_eq other name) _ _
told_one name bytes (Create other (Err e)) h = refl
told_one name bytes (Append other piece (Ok tt')) h = cut_or (bytes_eq other name) _ _
told_one name bytes (Append other piece (Err e)) h = refl
told_one name bytes (Cut other size (Ok tt')) h = cut_or (bytes_eq other name) _ _
told_one name bytes (Cut other size (Err e)) h = refl
told_one name bytes (Rename from to (Ok tt')) h = by_test (bytes_eq to name) h
  where
    by_test : (t : Bool) → not t ≡ true → is_some (if t then None else Some bytes) ≡ true
    by_test true h = apart h
    by_test false h = refl
told_one name bytes (Rename from to (Err e)) h = refl

pub told : (name : List ℕ) (held : Option (List ℕ)) (calls : List Call) → list_all (is_lasting name) calls ≡ true → is_some held ≡ true → is_some (holds name held calls) ≡ true
told name held [] h k = k
told name (Some bytes) (call ∷ more) h k =
    let parts = and_parts (is_lasting name call) (list_all (is_lasting name) more) h in
    told name (held_after name (Some bytes) call) more parts.1 (told_one name bytes call parts.0)
told name None (call ∷ more) h k = apart k

-- ---- it grows

-- the call leaves what the file holds, or appends to it
abbrev pub is_growing : List ℕ → Call → Bool
is_growing name (Create other answer) = not (bytes_eq other name)
is_growing name (Cut other size answer) = not (bytes_eq other name)
is_growing name (Rename from to answer) = not (bytes_eq to name)
is_growing name call = true

left_made : (name bytes other : List ℕ) (answer : Outcome) → not (bytes_eq other name) ≡ true → held_after name (Some bytes) (Create other answer) ≡ Some bytes
left_made name bytes other (Ok tt') h = rw (untrue (bytes_eq other name) h) refl
left_made name bytes other (Err e) h = refl

left_cut : (name bytes other : List ℕ) (size : ℕ) (answer : Outcome) → not (bytes_eq other name) ≡ true → held_after name (Some bytes) (Cut other size answer) ≡ Some bytes
left_cut name bytes other size (Ok tt') h = rw (untrue (bytes_eq other name) h) refl
left_cut name bytes other size (Err e) h = refl

left_renamed : (name bytes from to : List ℕ) (answer : Outcome) → not (bytes_eq to name) ≡ true → held_after name (Some bytes) (Rename from to answer) ≡ Some bytes
left_renamed name bytes from to (Ok tt') h = rw (untrue (bytes_eq to name) h) refl
left_renamed name bytes from to (Err e) h = refl

pub holds_grown : (name bytes : List ℕ) (calls : List Call) → list_all (is_growing name) calls ≡ true → holds name (Some bytes) calls ≡ Some (bytes ++ appended name calls)
holds_grown name bytes [] h = ap Some (sym (append-nil bytes))
holds_grown name bytes (Size other answer ∷ more) h = holds_grown name bytes more h
holds_grown name bytes (ReadAt other from answer ∷ more) h = holds_grown name bytes more h
holds_grown name bytes (Remove other answer ∷ more) h = holds_grown name bytes more h
holds_grown name bytes (Create other answer ∷ more) h =
    let parts = and_parts (not (bytes_eq other name)) (list_all (is_growing name) more) h in
    ap (λ held. holds name held more) (left_made name bytes other answer parts.0) ∙ holds_grown name bytes more parts.1
holds_grown name bytes (Cut other size answer ∷ more) h =
    let parts = and_parts (not (bytes_eq other name)) (list_all (is_growing name) more) h in
    ap (λ held. holds name held more) (left_cut name bytes other size answer parts.0) ∙ holds_grown name bytes more parts.1
holds_grown name bytes (Rename from to answer ∷ more) h =
    let parts = and_parts (not (bytes_eq to name)) (list_all (is_growing name) more) h in
    ap (λ held. holds name held more) (left_renamed name bytes from to answer parts.0) ∙ holds_grown name bytes more parts.1
holds_grown name bytes (Append other piece (Err e) ∷ more) h = holds_grown name bytes more h ∙ ap Some (same (bytes_eq other name))
  where
    same : (t : Bool) → bytes ++ appended name more ≡ bytes ++ concat (cons_option (if t then None else None) (filter_map (piece_of name) more))
    same true = refl
    same false = refl
holds_grown name bytes (Append other piece (Ok tt') ∷ more) h =
    by_test (bytes_eq other name) (holds_grown name (bytes ++ piece) more h) (holds_grown name bytes more h)
  where
    by_test : (t : Bool) → holds name (Some (bytes ++ piece)) more ≡ Some ((bytes ++ piece) ++ appended name more) → holds name (Some bytes) more ≡ Some (bytes ++ appended name more)
        → holds name (if t then Some (bytes ++ piece) else Some bytes) more ≡ Some (bytes ++ concat (cons_option (if t then Some piece else None) (filter_map (piece_of name) more)))
    by_test true a b = a ∙ ap Some (append_assoc bytes piece (appended name more))
    by_test false a b = b

-- ---- what was read

-- the call asks or reads
abbrev pub is_looking : Call → Bool
is_looking (Size other answer) = true
is_looking (ReadAt other from answer) = true
is_looking call = false

looked_one : (name : List ℕ) (held : Option (List ℕ)) (call : Call) → is_looking call ≡ true → held_after name held call ≡ held
looked_one name held (Size other answer) h = refl
looked_one name held (ReadAt other from answer) h = refl
looked_one name held (Create other answer) h = apart h
looked_one name held (Append other piece answer) h = apart h
looked_one name held (Cut other size answer) h = apart h
looked_one name held (Rename from to answer) h = apart h
looked_one name held (Remove other answer) h = apart h

pub holds_looked : (name : List ℕ) (held : Option (List ℕ)) (calls : List Call) → list_all is_looking calls ≡ true → holds name held calls ≡ held
holds_looked name held [] h = refl
holds_looked name held (call ∷ more) h =
    let parts = and_parts (is_looking call) (list_all is_looking more) h in
    ap (λ o. holds name o more) (looked_one name held call parts.0) ∙ holds_looked name held more parts.1

-- each read is of what the file holds
reads_so : (name bytes : List ℕ) (calls : List Call) → list_all is_looking calls ≡ true → are_found_so name (Some bytes) calls ≡ true → list_all (is_read_of bytes) (reads_of name calls) ≡ true
reads_so name bytes [] h f = refl
reads_so name bytes (call ∷ more) h f =
    let looks = and_parts (is_looking call) (list_all is_looking more) h in
    let found = and_parts (is_found_so name (Some bytes) call) (are_found_so name (held_after name (Some bytes) call) more) f in
    let P : Option (List ℕ) → Type 0 = λ o. are_found_so name o more ≡ true in
    let rest : list_all (is_read_of bytes) (reads_of name more) ≡ true = reads_so name bytes more looks.1 (subst P (looked_one name (Some bytes) call looks.0) found.1) in
    let one = and_parts (unwrap_or (option_map (λ n. n == length bytes) (length_found name call)) true) (unwrap_or (option_map (is_read_of bytes) (read_of name call)) true) found.0 in
    by_read (read_of name call) one.1 rest
  where
    by_read : (o : Option (ℕ × List ℕ)) → unwrap_or (option_map (is_read_of bytes) o) true ≡ true → list_all (is_read_of bytes) (reads_of name more) ≡ true → list_all (is_read_of bytes) (cons_option o (reads_of name more)) ≡ true
    by_read None a b = b
    by_read (Some r) a b = rw a b

read_is : (content : List ℕ) (at : ℕ) (x : ℕ × List ℕ) → (x.0 == at) ≡ true → is_read_of content x ≡ true → x.1 ≡ take (length x.1) (drop at content)
read_is content at x e s =
    let n : x.0 ≡ at = eqb-true x.0 at e in
    let both = and_parts (bytes_eq x.1 (take (length x.1) (drop x.0 content))) (nat_lt 0 (length x.1) || nat_le (length content) x.0) s in
    (bytes_eq-Decides x.1 (take (length x.1) (drop x.0 content))).0 both.0 ∙ ap (λ k. take (length x.1) (drop k content)) n

-- Reads of it that go on from one another bring what stands there.
pub reads_front : (content : List ℕ) (at : ℕ) (reads : List (ℕ × List ℕ)) → is_run at reads ≡ true → list_all (is_read_of content) reads ≡ true
    → bytes_of reads ≡ take (length (bytes_of reads)) (drop at content)
reads_front content at [] r s = refl
reads_front content at (x ∷ more) r s =
    let run = and_parts (x.0 == at) (is_run (at + length x.1) more) r in
    let so = and_parts (is_read_of content x) (list_all (is_read_of content) more) s in
    let first : x.1 ≡ take (length x.1) (drop at content) = read_is content at x run.0 so.0 in
    let rest : bytes_of more ≡ take (length (bytes_of more)) (drop (at + length x.1) content) = reads_front content (at + length x.1) more run.1 so.1 in
    let long : length (x.1 ++ bytes_of more) ≡ length x.1 + length (bytes_of more) = length-append x.1 (bytes_of more) in
    ap (λ l. l ++ bytes_of more) first
    ∙ ap (λ l. take (length x.1) (drop at content) ++ l) (rest ∙ ap (take (length (bytes_of more))) (sym (drop-drop (length x.1) at content)))
    ∙ sym (take-add (length x.1) (length (bytes_of more)) (drop at content))
    ∙ ap (λ k. take k (drop at content)) (sym long)

-- and those that come to its end bring all of it
reads_end : (content : List ℕ) (at : ℕ) (reads : List (ℕ × List ℕ)) → is_run at reads ≡ true → list_all (is_read_of content) reads ≡ true → is_at_end reads ≡ true → bytes_of reads ≡ drop at content
reads_end content at [] r s e = apart e
reads_end content at (x ∷ []) r s e = at_end x.0 x.1 (eqb-true x.0 at (and_parts (x.0 == at) true r).0) (and_parts (is_read_of content x) true s).0 e
  where
    at_end : (from : ℕ) (bytes : List ℕ) → from ≡ at → is_read_of content (from, bytes) ≡ true → (length bytes == 0) ≡ true → bytes ++ [] ≡ drop at content
    at_end from [] is so e =
        let both = and_parts (bytes_eq [] (take 0 (drop from content))) (nat_lt 0 0 || nat_le (length content) from) so in
        let n : length content ≤ from = leb-true (length content) from both.1 in
        sym (drop_all at content (omega (arith, n, is)))
    at_end from (b ∷ bytes) is so e = let n : length (b ∷ bytes) ≡ 0 = eqb-true (length (b ∷ bytes)) 0 e in absurd (omega (arith, n))
reads_end content at (x ∷ next ∷ more) r s e =
    let run = and_parts (x.0 == at) (is_run (at + length x.1) (next ∷ more)) r in
    let so = and_parts (is_read_of content x) (list_all (is_read_of content) (next ∷ more)) s in
    let first : x.1 ≡ take (length x.1) (drop at content) = read_is content at x run.0 so.0 in
    let rest : bytes_of (next ∷ more) ≡ drop (at + length x.1) content = reads_end content (at + length x.1) (next ∷ more) run.1 so.1 e in
    ap (λ l. l ++ bytes_of (next ∷ more)) first
    ∙ ap (λ l. take (length x.1) (drop at content) ++ l) (rest ∙ sym (drop-drop (length x.1) at content))
    ∙ take-append-drop (length x.1) (drop at content)

-- What was read of a file to a place after which it holds nothing is all that it holds.
pub reads_all : (content : List ℕ) (to : ℕ) (reads : List (ℕ × List ℕ)) → is_reading 0 to reads ≡ true → length content ≤ to → list_all (is_read_of content) reads ≡ true → bytes_of reads ≡ content
reads_all content to reads h most so =
    let parts = and_parts (is_run 0 reads) ((length (bytes_of reads) == to - 0) || is_at_end reads) h in
    by_test (length (bytes_of reads) == to - 0) refl parts.0 parts.1
  where
    by_test : (t : Bool) → (length (bytes_of reads) == to - 0) ≡ t → is_run 0 reads ≡ true → (t || is_at_end reads) ≡ true → bytes_of reads ≡ content
    by_test true e run k =
        let n : length (bytes_of reads) ≡ to - 0 = eqb-true (length (bytes_of reads)) (to - 0) e in
        reads_front content 0 reads run so ∙ take_all (length (bytes_of reads)) content (omega (arith, n, most))
    by_test false e run k = reads_end content 0 reads run so k

-- ---- taken up

-- a file that was cut, and read to the end that it was cut to
pub holds_cut : (name before : List ℕ) (keep : ℕ) (more : List Call) → list_all is_looking more ≡ true → is_reading 0 keep (reads_of name more) ≡ true
    → are_found_so name (Some before) (Cut name keep (Ok tt) ∷ more) ≡ true → holds name (Some before) (Cut name keep (Ok tt) ∷ more) ≡ Some (bytes_of (reads_of name more))
holds_cut name before keep more looks reading found =
    let cut : held_after name (Some before) (Cut name keep (Ok tt)) ≡ Some (take keep before) = rw (same_name name) refl in
    let P : Option (List ℕ) → Type 0 = λ o. are_found_so name o more ≡ true in
    let so : list_all (is_read_of (take keep before)) (reads_of name more) ≡ true = reads_so name (take keep before) more looks (subst P cut found) in
    let n : length (take keep before) ≡ min keep (length before) = length-take keep before in
    let most : length (take keep before) ≤ keep = omega (arith, n) in
    ap (λ o. holds name o more) cut ∙ holds_looked name (Some (take keep before)) more looks ∙ ap Some (sym (reads_all (take keep before) keep (reads_of name more) reading most so))
