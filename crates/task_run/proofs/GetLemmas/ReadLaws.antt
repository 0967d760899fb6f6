-- What calls read and wrote by name, of lists of calls put together.
use Rattle.std.proofs.Common.{◌≡◌, ◌∙◌, ◌⊎◌, inl, inr, ℕ, zero, suc, ◌+◌, ◌≤◌, ◌<◌, Bool, true, false, not, List, [], ◌∷◌, ◌++◌, length, take, refl, sym, ap, arith, append_assoc, append-nil}
use Rattle.std.specs.Prelude.{◌&&◌, ◌||◌, filter, Option, None, bytes_eq, if◌then◌else◌}
use Rattle.std.specs.List.{list_all, filter_map, concat}
use Rattle.std.proofs.lemmas.Bool.{and_parts}
use Rattle.std.proofs.lemmas.List.Elements.{filter_map-append}
use Rattle.std.proofs.lemmas.List.Folds.{list_any-append}
use Rattle.std.proofs.lemmas.List.FromFn.{map-range_with_len_more}
use Rattle.ann_outside.specs.declared.file_desk.Call.{Call}
use Rattle.ann_outside.specs.declared.file_desk.Call.TheVariants.{Size, ReadAt, Create, Append, Cut, Rename, Remove}
use Rattle.task_text.specs.Layouts.Layouts.{Part}
use Rattle.task_model.specs.Askers.{Asking}
use Rattle.task_model.specs.declared.setup.Setup.{Setup}
use Rattle.task_model.specs.declared.turn.TaskTurn.{TaskTurn}
use Rattle.task_model.specs.Stops.{is_done}
use Rattle.task_model.specs.Names.{fetch_file, fetch_files, part_of, is_among}
use Rattle.task_model.specs.Reads.{length_or_none, length_found, lengths_found, read_of, reads_of, bytes_of, is_run, piece_of, appended}
use Rattle.task_model.specs.Discipline.{are_among, names_in, name_only, changes_as_result, size_among, size_of_only}
use Rattle.task_model.specs.Gets.{begins, lengths_at_begin, since_begin, held_reads, bytes_fetched, are_read, is_read_whole, are_read_whole, wrong_lengths, is_wrong}
use Rattle.task_model.specs.TaskCalls.{fetched_files}
use Rattle.task_run.specs.Get.Fronts.{is_apart}
use Rattle.task_run.proofs.GetLemmas.LastCalls.{after_last-at, after_last-more, Last, last_of}
use Rattle.ann_key.proofs.Booleans.{or_right as right_or, or_left as left_or, false_is_true as apart}
use Rattle.ann_key.proofs.Lists.{nil_back as nil_behind, nil_front, weaken}

-- ---- names among others

abbrev pub Sub : List (List ℕ) → List (List ℕ) → Type 0
Sub xs ys = (name : List ℕ) → is_among xs name ≡ true → is_among ys name ≡ true

either : (b c d : Bool) → (b || c) ≡ true → (c ≡ true → d ≡ true) → (b || d) ≡ true
either true c d h f = refl
either false c d h f = f h

pub sub_cons : (x : List ℕ) (xs ys : List (List ℕ)) → Sub xs ys → Sub (x ∷ xs) (x ∷ ys)
sub_cons x xs ys h name e = either (bytes_eq name x) (is_among xs name) (is_among ys name) e (h name)

pub sub_front : (xs ys : List (List ℕ)) → Sub xs (xs ++ ys)
sub_front xs ys name e = list_any-append (bytes_eq name) xs ys ∙ left_or (is_among xs name) (is_among ys name) e

pub sub_behind : (xs ys : List (List ℕ)) → Sub ys (xs ++ ys)
sub_behind xs ys name e = list_any-append (bytes_eq name) xs ys ∙ right_or (is_among xs name) (is_among ys name) e

among_sub : (xs ys these : List (List ℕ)) → Sub xs ys → are_among xs these ≡ true → are_among ys these ≡ true
among_sub xs ys these s h = weaken (is_among xs) (is_among ys) these s h

pub names_sub : (xs ys : List (List ℕ)) (calls : List Call) → Sub xs ys → name_only xs calls ≡ true → name_only ys calls ≡ true
names_sub xs ys calls s h = weaken (λ call. are_among xs (names_in call)) (λ call. are_among ys (names_in call)) calls (λ call. among_sub xs ys (names_in call) s) h

change_sub : (file : List ℕ) (xs ys : List (List ℕ)) → Sub xs ys → (call : Call) → changes_as_result file xs call ≡ true → changes_as_result file ys call ≡ true
change_sub file xs ys s (Remove name answer) h = swapped (is_among xs name) (is_among ys name) (not (bytes_eq name file)) h (s name)
  where
    swapped : (a b c : Bool) → (a || c) ≡ true → (a ≡ true → b ≡ true) → (b || c) ≡ true
    swapped true b c h f = left_or b c (f refl)
    swapped false b c h f = right_or b c h
change_sub file xs ys s (Size name answer) h = h
change_sub file xs ys s (ReadAt name from answer) h = h
change_sub file xs ys s (Create name answer) h = h
change_sub file xs ys s (Append name piece answer) h = h
change_sub file xs ys s (Cut name size answer) h = h
change_sub file xs ys s (Rename from to answer) h = h

pub changes_sub : (file : List ℕ) (xs ys : List (List ℕ)) (calls : List Call) → Sub xs ys → list_all (changes_as_result file xs) calls ≡ true → list_all (changes_as_result file ys) calls ≡ true
changes_sub file xs ys calls s h = weaken (changes_as_result file xs) (changes_as_result file ys) calls (change_sub file xs ys s) h

size_sub : (xs ys : List (List ℕ)) → Sub xs ys → (call : Call) → size_among xs call ≡ true → size_among ys call ≡ true
size_sub xs ys s (Size name answer) h = s name h
size_sub xs ys s (ReadAt name from answer) h = refl
size_sub xs ys s (Create name answer) h = refl
size_sub xs ys s (Append name piece answer) h = refl
size_sub xs ys s (Cut name size answer) h = refl
size_sub xs ys s (Rename from to answer) h = refl
size_sub xs ys s (Remove name answer) h = refl

pub sizes_sub : (xs ys : List (List ℕ)) (calls : List Call) → Sub xs ys → size_of_only xs calls ≡ true → size_of_only ys calls ≡ true
sizes_sub xs ys calls s h = weaken (size_among xs) (size_among ys) calls (size_sub xs ys s) h

pub fetch_files_more : (setup : Setup) (t : TaskTurn) (n : ℕ) → fetch_files setup t (n + 1) ≡ fetch_files setup t n ++ fetch_file setup t (n + 1) ∷ []
fetch_files_more setup t n = map-range_with_len_more (fetch_file setup t) 1 n (n + 1) (omega arith)

pub fetched_files_more : (setup : Setup) (t : TaskTurn) (n : ℕ) (asked : List Asking) (x : Asking)
    → fetched_files setup t n (asked ++ x ∷ []) ≡ fetched_files setup t n asked ++ fetched_files setup t (n + length asked) (x ∷ [])
fetched_files_more setup t n [] x = let e : n + 0 ≡ n = omega arith in ap (λ k. fetched_files setup t k (x ∷ [])) (sym e)
fetched_files_more setup t n (a ∷ more) x =
    let e : (n + 1) + length more ≡ n + length (a ∷ more) = omega arith in
    let rest : fetched_files setup t (n + 1) (more ++ x ∷ []) ≡ fetched_files setup t (n + 1) more ++ fetched_files setup t (n + length (a ∷ more)) (x ∷ []) =
    fetched_files_more setup t (n + 1) more x ∙ ap (λ k. fetched_files setup t (n + 1) more ++ fetched_files setup t k (x ∷ [])) e in
    ap (λ l. (if is_done a then fetch_file setup t n ∷ [] else []) ++ l) rest
    ∙ sym (append_assoc (if is_done a then fetch_file setup t n ∷ [] else []) (fetched_files setup t (n + 1) more) (fetched_files setup t (n + length (a ∷ more)) (x ∷ [])))

-- ---- calls of other files

unread : (name : List ℕ) (call : Call) → is_apart name call ≡ true → read_of name call ≡ None
unread name (ReadAt other from answer) h = by_test (bytes_eq other name) refl
  where
    by_test : (b : Bool) → bytes_eq other name ≡ b → read_of name (ReadAt other from answer) ≡ None
    by_test true e = apart (rw e at h)
    by_test false e = rw e refl
unread name (Size other answer) h = refl
unread name (Create other answer) h = refl
unread name (Append other piece answer) h = refl
unread name (Cut other size answer) h = refl
unread name (Rename from to answer) h = refl
unread name (Remove other answer) h = refl

unmeasured : (name : List ℕ) (call : Call) → is_apart name call ≡ true → length_found name call ≡ None
unmeasured name (Size other answer) h = by_test (bytes_eq other name) refl
  where
    by_test : (b : Bool) → bytes_eq other name ≡ b → length_found name (Size other answer) ≡ None
    by_test true e = apart (rw e at h)
    by_test false e = rw e refl
unmeasured name (ReadAt other from answer) h = refl
unmeasured name (Create other answer) h = refl
unmeasured name (Append other piece answer) h = refl
unmeasured name (Cut other size answer) h = refl
unmeasured name (Rename from to answer) h = refl
unmeasured name (Remove other answer) h = refl

none_of : {X Y : Type 0} (f : X → Option Y) (p : X → Bool) → ((x : X) → p x ≡ true → f x ≡ None) → (xs : List X) → list_all p xs ≡ true → filter_map f xs ≡ []
none_of f p g [] h = refl
none_of f p g (x ∷ xs) h =
    let parts = and_parts (p x) (list_all p xs) h in
    let one : f x ≡ None = g x parts.0 in
    let rest : filter_map f xs ≡ [] = none_of f p g xs parts.1 in
    rw (one, rest) refl

pub apart_reads : (name : List ℕ) (calls : List Call) → list_all (is_apart name) calls ≡ true → reads_of name calls ≡ []
apart_reads name calls h = none_of (read_of name) (is_apart name) (unread name) calls h

pub apart_lengths : (name : List ℕ) (calls : List Call) → list_all (is_apart name) calls ≡ true → lengths_found name calls ≡ []
apart_lengths name calls h = none_of (length_found name) (is_apart name) (unmeasured name) calls h

pub reads_before : (name : List ℕ) (xs ys : List Call) → list_all (is_apart name) ys ≡ true → reads_of name (xs ++ ys) ≡ reads_of name xs
reads_before name xs ys h = filter_map-append (read_of name) xs ys ∙ rw (apart_reads name ys h) (append-nil (reads_of name xs))

pub reads_behind : (name : List ℕ) (xs ys : List Call) → list_all (is_apart name) xs ≡ true → reads_of name (xs ++ ys) ≡ reads_of name ys
reads_behind name xs ys h = filter_map-append (read_of name) xs ys ∙ rw (apart_reads name xs h) refl

pub lengths_before : (name : List ℕ) (xs ys : List Call) → list_all (is_apart name) ys ≡ true → lengths_found name (xs ++ ys) ≡ lengths_found name xs
lengths_before name xs ys h = filter_map-append (length_found name) xs ys ∙ rw (apart_lengths name ys h) (append-nil (lengths_found name xs))

pub lengths_behind : (name : List ℕ) (xs ys : List Call) → list_all (is_apart name) xs ≡ true → lengths_found name (xs ++ ys) ≡ lengths_found name ys
lengths_behind name xs ys h = filter_map-append (length_found name) xs ys ∙ rw (apart_lengths name xs h) refl

-- ---- of the requests' files

-- the calls are of none of the files of k requests, the first of which is request n
abbrev pub Apart : Setup → TaskTurn → ℕ → ℕ → List Call → Type 0
Apart setup t n k calls = (i : ℕ) → n ≤ i → i < n + k → list_all (is_apart (fetch_file setup t i)) calls ≡ true

first_apart : (setup : Setup) (t : TaskTurn) (n k : ℕ) (calls : List Call) → Apart setup t n (k + 1) calls → list_all (is_apart (fetch_file setup t n)) calls ≡ true
first_apart setup t n k calls h = h n (omega arith) (omega arith)

rest_apart : (setup : Setup) (t : TaskTurn) (n k : ℕ) (calls : List Call) → Apart setup t n (k + 1) calls → Apart setup t (n + 1) k calls
rest_apart setup t n k calls h = λ i low high. h i (omega arith) (omega arith)

pub same_read : (setup : Setup) (t : TaskTurn) (n : ℕ) (asked : List Asking) (xs ys : List Call) → Apart setup t n (length asked) ys → are_read setup t (xs ++ ys) n asked ≡ are_read setup t xs n asked
same_read setup t n [] xs ys h = refl
same_read setup t n (a ∷ more) xs ys h =
    let g : Apart setup t n (length more + 1) ys = λ i low high. h i low (omega arith) in
    let one : reads_of (fetch_file setup t n) (xs ++ ys) ≡ reads_of (fetch_file setup t n) xs = reads_before (fetch_file setup t n) xs ys (first_apart setup t n (length more) ys g) in
    let rest : are_read setup t (xs ++ ys) (n + 1) more ≡ are_read setup t xs (n + 1) more = same_read setup t (n + 1) more xs ys (rest_apart setup t n (length more) ys g) in
    ap (λ l. is_run 0 l && are_read setup t (xs ++ ys) (n + 1) more) one ∙ ap (λ b. is_run 0 (reads_of (fetch_file setup t n) xs) && b) rest

pub same_bytes : (setup : Setup) (t : TaskTurn) (n : ℕ) (asked : List Asking) (xs ys : List Call) → Apart setup t n (length asked) ys → bytes_fetched setup t (xs ++ ys) n asked ≡ bytes_fetched setup t xs n asked
same_bytes setup t n [] xs ys h = refl
same_bytes setup t n (a ∷ more) xs ys h =
    let g : Apart setup t n (length more + 1) ys = λ i low high. h i low (omega arith) in
    let one : reads_of (fetch_file setup t n) (xs ++ ys) ≡ reads_of (fetch_file setup t n) xs = reads_before (fetch_file setup t n) xs ys (first_apart setup t n (length more) ys g) in
    let rest : bytes_fetched setup t (xs ++ ys) (n + 1) more ≡ bytes_fetched setup t xs (n + 1) more = same_bytes setup t (n + 1) more xs ys (rest_apart setup t n (length more) ys g) in
    ap (λ l. bytes_of l ++ bytes_fetched setup t (xs ++ ys) (n + 1) more) one ∙ ap (λ l. bytes_of (reads_of (fetch_file setup t n) xs) ++ l) rest

pub same_whole : (setup : Setup) (t : TaskTurn) (n : ℕ) (asked : List Asking) (xs ys : List Call) → Apart setup t n (length asked) ys → are_read_whole setup t (xs ++ ys) n asked ≡ are_read_whole setup t xs n asked
same_whole setup t n [] xs ys h = refl
same_whole setup t n (a ∷ more) xs ys h =
    let g : Apart setup t n (length more + 1) ys = λ i low high. h i low (omega arith) in
    let one : reads_of (fetch_file setup t n) (xs ++ ys) ≡ reads_of (fetch_file setup t n) xs = reads_before (fetch_file setup t n) xs ys (first_apart setup t n (length more) ys g) in
    let long : lengths_found (fetch_file setup t n) (xs ++ ys) ≡ lengths_found (fetch_file setup t n) xs = lengths_before (fetch_file setup t n) xs ys (first_apart setup t n (length more) ys g) in
    let rest : are_read_whole setup t (xs ++ ys) (n + 1) more ≡ are_read_whole setup t xs (n + 1) more = same_whole setup t (n + 1) more xs ys (rest_apart setup t n (length more) ys g) in
    ap (λ r. is_read_whole r (lengths_found (fetch_file setup t n) (xs ++ ys)) && are_read_whole setup t (xs ++ ys) (n + 1) more) one
    ∙ ap (λ l. is_read_whole (reads_of (fetch_file setup t n) xs) l && are_read_whole setup t (xs ++ ys) (n + 1) more) long
    ∙ ap (λ b. is_read_whole (reads_of (fetch_file setup t n) xs) (lengths_found (fetch_file setup t n) xs) && b) rest

pub same_wrong : (setup : Setup) (t : TaskTurn) (size : Option ℕ) (n : ℕ) (parts : List Part) (xs ys : List Call) → Apart setup t n (length parts) ys
    → wrong_lengths setup t size (xs ++ ys) n parts ≡ wrong_lengths setup t size xs n parts
same_wrong setup t size n [] xs ys h = refl
same_wrong setup t size n (part ∷ more) xs ys h =
    let g : Apart setup t n (length more + 1) ys = λ i low high. h i low (omega arith) in
    let long : lengths_found (fetch_file setup t n) (xs ++ ys) ≡ lengths_found (fetch_file setup t n) xs = lengths_before (fetch_file setup t n) xs ys (first_apart setup t n (length more) ys g) in
    let rest : wrong_lengths setup t size (xs ++ ys) (n + 1) more ≡ wrong_lengths setup t size xs (n + 1) more = same_wrong setup t size (n + 1) more xs ys (rest_apart setup t n (length more) ys g) in
    ap (λ l. filter (is_wrong size part) l ++ wrong_lengths setup t size (xs ++ ys) (n + 1) more) long
    ∙ ap (λ l. filter (is_wrong size part) (lengths_found (fetch_file setup t n) xs) ++ l) rest

-- nothing was fetched of these
pub none_wrong : (setup : Setup) (t : TaskTurn) (size : Option ℕ) (n : ℕ) (parts : List Part) (calls : List Call) → Apart setup t n (length parts) calls → wrong_lengths setup t size calls n parts ≡ []
none_wrong setup t size n [] calls h = refl
none_wrong setup t size n (part ∷ more) calls h =
    let g : Apart setup t n (length more + 1) calls = λ i low high. h i low (omega arith) in
    let long : lengths_found (fetch_file setup t n) calls ≡ [] = apart_lengths (fetch_file setup t n) calls (first_apart setup t n (length more) calls g) in
    let rest : wrong_lengths setup t size calls (n + 1) more ≡ [] = none_wrong setup t size (n + 1) more calls (rest_apart setup t n (length more) calls g) in
    ap (λ l. filter (is_wrong size part) l ++ wrong_lengths setup t size calls (n + 1) more) long ∙ rest

both_and : (a b c : Bool) → (a && (b && c)) ≡ ((a && b) && c)
both_and true b c = refl
both_and false b c = refl

pub read_more : (setup : Setup) (t : TaskTurn) (n : ℕ) (calls : List Call) (xs ys : List Asking) → are_read setup t calls n (xs ++ ys) ≡ (are_read setup t calls n xs && are_read setup t calls (n + length xs) ys)
read_more setup t n calls [] ys = let e : n + 0 ≡ n = omega arith in ap (λ k. are_read setup t calls k ys) (sym e)
read_more setup t n calls (x ∷ xs) ys =
    let e : (n + 1) + length xs ≡ n + length (x ∷ xs) = omega arith in
    ap (λ b. is_run 0 (reads_of (fetch_file setup t n) calls) && b) (read_more setup t (n + 1) calls xs ys ∙ ap (λ k. are_read setup t calls (n + 1) xs && are_read setup t calls k ys) e)
    ∙ both_and (is_run 0 (reads_of (fetch_file setup t n) calls)) (are_read setup t calls (n + 1) xs) (are_read setup t calls (n + length (x ∷ xs)) ys)

pub bytes_more : (setup : Setup) (t : TaskTurn) (n : ℕ) (calls : List Call) (xs ys : List Asking) → bytes_fetched setup t calls n (xs ++ ys) ≡ bytes_fetched setup t calls n xs ++ bytes_fetched setup t calls (n + length xs) ys
bytes_more setup t n calls [] ys = let e : n + 0 ≡ n = omega arith in ap (λ k. bytes_fetched setup t calls k ys) (sym e)
bytes_more setup t n calls (x ∷ xs) ys =
    let e : (n + 1) + length xs ≡ n + length (x ∷ xs) = omega arith in
    ap (λ b. bytes_of (reads_of (fetch_file setup t n) calls) ++ b) (bytes_more setup t (n + 1) calls xs ys ∙ ap (λ k. bytes_fetched setup t calls (n + 1) xs ++ bytes_fetched setup t calls k ys) e)
    ∙ sym (append_assoc (bytes_of (reads_of (fetch_file setup t n) calls)) (bytes_fetched setup t calls (n + 1) xs) (bytes_fetched setup t calls (n + length (x ∷ xs)) ys))

pub whole_more : (setup : Setup) (t : TaskTurn) (n : ℕ) (calls : List Call) (xs ys : List Asking) → are_read_whole setup t calls n (xs ++ ys) ≡ (are_read_whole setup t calls n xs && are_read_whole setup t calls (n + length xs) ys)
whole_more setup t n calls [] ys = let e : n + 0 ≡ n = omega arith in ap (λ k. are_read_whole setup t calls k ys) (sym e)
whole_more setup t n calls (x ∷ xs) ys =
    let e : (n + 1) + length xs ≡ n + length (x ∷ xs) = omega arith in
    ap (λ b. is_read_whole (reads_of (fetch_file setup t n) calls) (lengths_found (fetch_file setup t n) calls) && b)
    (whole_more setup t (n + 1) calls xs ys ∙ ap (λ k. are_read_whole setup t calls (n + 1) xs && are_read_whole setup t calls k ys) e)
    ∙ both_and (is_read_whole (reads_of (fetch_file setup t n) calls) (lengths_found (fetch_file setup t n) calls)) (are_read_whole setup t calls (n + 1) xs) (are_read_whole setup t calls (n + length (x ∷ xs)) ys)

pub wrong_more : (setup : Setup) (t : TaskTurn) (size : Option ℕ) (calls : List Call) (n : ℕ) (xs ys : List Part)
    → wrong_lengths setup t size calls n (xs ++ ys) ≡ wrong_lengths setup t size calls n xs ++ wrong_lengths setup t size calls (n + length xs) ys
wrong_more setup t size calls n [] ys = let e : n + 0 ≡ n = omega arith in ap (λ k. wrong_lengths setup t size calls k ys) (sym e)
wrong_more setup t size calls n (x ∷ xs) ys =
    let e : (n + 1) + length xs ≡ n + length (x ∷ xs) = omega arith in
    ap (λ b. filter (is_wrong size x) (lengths_found (fetch_file setup t n) calls) ++ b) (wrong_more setup t size calls (n + 1) xs ys ∙ ap (λ k. wrong_lengths setup t size calls (n + 1) xs ++ wrong_lengths setup t size calls k ys) e)
    ∙ sym (append_assoc (filter (is_wrong size x) (lengths_found (fetch_file setup t n) calls)) (wrong_lengths setup t size calls (n + 1) xs) (wrong_lengths setup t size calls (n + length (x ∷ xs)) ys))

-- none of the first of them is wrong where none is
pub wrong_taken : (setup : Setup) (t : TaskTurn) (size : Option ℕ) (calls : List Call) (n k : ℕ) (parts : List Part) → wrong_lengths setup t size calls n parts ≡ [] → wrong_lengths setup t size calls n (take k parts) ≡ []
wrong_taken setup t size calls n zero parts h = refl
wrong_taken setup t size calls n (suc k) [] h = refl
wrong_taken setup t size calls n (suc k) (part ∷ more) h =
    let one : filter (is_wrong size part) (lengths_found (fetch_file setup t n) calls) ≡ [] = nil_front _ (wrong_lengths setup t size calls (n + 1) more) h in
    let rest : wrong_lengths setup t size calls (n + 1) (take k more) ≡ [] =
    wrong_taken setup t size calls (n + 1) k more (nil_behind (filter (is_wrong size part) (lengths_found (fetch_file setup t n) calls)) _ h) in
    rw (one, rest) refl

-- ---- of part

pub begin_lengths : (file : List ℕ) (xs ys : List Call) → filter_map (length_or_none (part_of file)) ys ≡ [] → lengths_at_begin file (xs ++ ys) ≡ lengths_at_begin file xs
begin_lengths file xs ys h = filter_map-append (length_or_none (part_of file)) xs ys ∙ rw h (append-nil (lengths_at_begin file xs))

pub since_more : (file : List ℕ) (xs ys : List Call) → list_all (λ call. not (begins (part_of file) call)) ys ≡ true → since_begin file (xs ++ ys) ≡ since_begin file xs ++ ys
since_more file xs ys h = after_last-more (begins (part_of file)) xs ys h

pub held_more : (file : List ℕ) (xs ys : List Call) → list_all (λ call. not (begins (part_of file) call)) ys ≡ true → held_reads file (xs ++ ys) ≡ held_reads file xs ++ reads_of (part_of file) ys
held_more file xs ys h = ap (reads_of (part_of file)) (since_more file xs ys h) ∙ filter_map-append (read_of (part_of file)) (since_begin file xs) ys

concat_more : (xs ys : List (List ℕ)) → concat (xs ++ ys) ≡ concat xs ++ concat ys
concat_more [] ys = refl
concat_more (x ∷ xs) ys = ap (λ l. x ++ l) (concat_more xs ys) ∙ sym (append_assoc x (concat xs) (concat ys))

pub appended_more : (file : List ℕ) (xs ys : List Call) → list_all (λ call. not (begins (part_of file) call)) ys ≡ true
    → appended (part_of file) (since_begin file (xs ++ ys)) ≡ appended (part_of file) (since_begin file xs) ++ appended (part_of file) ys
appended_more file xs ys h =
    ap (appended (part_of file)) (since_more file xs ys h)
    ∙ ap concat (filter_map-append (piece_of (part_of file)) (since_begin file xs) ys)
    ∙ concat_more (filter_map (piece_of (part_of file)) (since_begin file xs)) (filter_map (piece_of (part_of file)) ys)

-- where nothing is read of part, what is read since its begin is in order still
pub held_run : (file : List ℕ) (xs ys : List Call) → reads_of (part_of file) ys ≡ [] → is_run 0 (held_reads file xs) ≡ true → is_run 0 (held_reads file (xs ++ ys)) ≡ true
held_run file xs ys none h = by_case (last_of (begins (part_of file)) ys)
  where
    by_case : (list_all (λ call. not (begins (part_of file) call)) ys ≡ true) ⊎ Last (begins (part_of file)) ys → is_run 0 (held_reads file (xs ++ ys)) ≡ true
    by_case (inl a) =
        let e : held_reads file (xs ++ ys) ≡ held_reads file xs = held_more file xs ys a ∙ rw none (append-nil (held_reads file xs)) in
        ap (is_run 0) e ∙ h
    by_case (inr l) =
        let whole : xs ++ ys ≡ (xs ++ l.front) ++ l.one ∷ l.rest = ap (λ zs. xs ++ zs) l.is ∙ sym (append_assoc xs l.front (l.one ∷ l.rest)) in
        let since : since_begin file (xs ++ ys) ≡ l.rest = ap (since_begin file) whole ∙ after_last-at (begins (part_of file)) (xs ++ l.front) l.one l.rest l.none l.kind in
        let split : ys ≡ (l.front ++ l.one ∷ []) ++ l.rest = l.is ∙ sym (append_assoc l.front (l.one ∷ []) l.rest) in
        let e : reads_of (part_of file) (l.front ++ l.one ∷ []) ++ reads_of (part_of file) l.rest ≡ [] =
        sym (filter_map-append (read_of (part_of file)) (l.front ++ l.one ∷ []) l.rest) ∙ ap (reads_of (part_of file)) (sym split) ∙ none in
        let empty : reads_of (part_of file) l.rest ≡ [] = nil_behind (reads_of (part_of file) (l.front ++ l.one ∷ [])) (reads_of (part_of file) l.rest) e in
        ap (λ l. is_run 0 (reads_of (part_of file) l)) since ∙ ap (is_run 0) empty
