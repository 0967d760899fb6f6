-- What one chunk's copy, request and removal make of a store in chunks.
use Rattle.std.proofs.Common.{◌≡◌, ◌∙◌, ℕ, zero, suc, ◌+◌, ◌-◌, ◌*◌, ◌^◌, ◌<◌, ◌≤◌, List, [], ◌∷◌, ◌++◌, length, refl, sym, ap, subst, arith, append-nil, append_assoc, length-append}
use Rattle.std.specs.Prelude.{Bool, true, false, nat_lt, ◌==◌, bytes_eq, Option, Some, None, is_none, Ok}
use Rattle.std.specs.List.{list_all, filter_map}
use Rattle.std.proofs.lemmas.List.Elements.{filter_map-append}
use Rattle.std.proofs.lemmas.Bool.Decides.{nat_tests}
use Rattle.ann_key.specs.Keys.{Parts, with_chunk}
use Rattle.task_text.specs.Layouts.Layouts.{count_of, from_of, to_of}
use Rattle.ann_outside.specs.declared.file_desk.Call.{Call}
use Rattle.ann_outside.specs.declared.file_desk.Call.TheVariants.{ReadAt, Create, Remove}
use Rattle.task_model.specs.Askers.{Asking}
use Rattle.task_model.specs.declared.setup.Setup.{Setup}
use Rattle.task_model.specs.declared.turn.TaskTurn.{TaskTurn}
use Rattle.task_model.specs.Stops.{call_stop, is_done, is_question}
use Rattle.task_model.specs.Names.{chunk_file, part_of}
use Rattle.task_model.specs.Requests.{AsksFor}
use Rattle.task_model.specs.Reads.{is_removed}
use Rattle.task_model.specs.Discipline.{are_found}
use Rattle.task_model.specs.Stores.{chunk_request}
use Rattle.task_run.proofs.StoreLemmas.ChunkStoreRuns.{Front, Going, with_size, is_free}
use Rattle.std.specs.List.{concat}
use Rattle.std.specs.Int.{div_ceil}
use Rattle.std.proofs.Math.Nat.{mul-le-mul_right, suc-mul}
use Rattle.std.proofs.lemmas.Grind.{div_ceil_times}
use Rattle.task_model.specs.Copying.Copies.{copy_calls, EndsWhole, EndsEarly}
use Rattle.task_model.specs.Copying.CopiesOut.{reads_before}
use Rattle.task_model.specs.Reads.{is_known, piece_of, appended, held_after, holds}
use Rattle.std.specs.Prelude.{nat_le}
use Rattle.task_model.proofs.FileNames.{chunk_not_part}
use Rattle.task_model.proofs.GetCallsLaws.{found_more, known_skip, known_add, known_copy}
use Rattle.task_run.proofs.StoreLemmas.ChunkStoreCalls.{lt_of, Cutting, Ending, cutting_cut, cutting_removed, cut_appends, copy_held, Fills, fills_removed, known_created, known_removed, copy_found, copy_free}
use Rattle.task_run.proofs.StoreLemmas.ChunkStoreRuns.{front_asked, still_removed, removed_last, reads_later, fresh_later}
use Rattle.task_run.specs.Store.ChunkStoring.{cut_calls}
use Rattle.ann_key.proofs.Lists.{same_name, all_more, other_name}
use Rattle.ann_key.proofs.Booleans.{false_is_true as apart}
use Rattle.ann_key.proofs.Numbers.{same_number as nat_same}
use Rattle.std.proofs.lemmas.Bool.{le-leb as le_true}
use Rattle.task_model.proofs.HeldLaws.{holds_more as holds_both}

-- ---- a read after the pieces

abbrev pub last_read : List ℕ → ℕ → Option (List ℕ) → List Call
last_read file at None = []
last_read file at (Some piece) = ReadAt file at (Ok piece) ∷ []

pub whole_read : (file : List ℕ) (at left : ℕ) (ending : List Call) → EndsWhole file at left ending → (o : Option (List ℕ)) × (ending ≡ last_read file at o)
whole_read file at left [] e = (None, refl)
whole_read file at left (call ∷ []) e = (Some [], ap (λ c. c ∷ []) e)
whole_read file at left (call ∷ next ∷ more) e = absurd e

pub early_read : (file : List ℕ) (at : ℕ) (ending : List Call) → EndsEarly file at ending → (o : Option (List ℕ)) × (ending ≡ last_read file at o)
early_read file at [] e = (None, refl)
early_read file at (call ∷ []) e = (Some e.0, ap (λ c. c ∷ []) e.1)
early_read file at (call ∷ next ∷ more) e = absurd e

ending_read : (file name : List ℕ) (from at : ℕ) (o : Option (List ℕ)) → from ≤ at → Ending file name from at (last_read file at o)
ending_read file name from at None h = record { own_all = refl; run = refl; unwritten = refl }
ending_read file name from at (Some piece) h = record {
  own_all = let low : nat_le from at ≡ true = le_true from at h in rw (same_name file, low) refl;
  run = rw (same_name file) (rw (nat_same at) refl);
  unwritten = refl;
}

read_found : (part file : List ℕ) (past : List Call) (at : ℕ) (o : Option (List ℕ)) → is_known file past ≡ true → are_found part past (last_read file at o) ≡ true
read_found part file past at None k = refl
read_found part file past at (Some piece) k = rw k refl

read_free : (file : List ℕ) (at : ℕ) (o : Option (List ℕ)) → is_free file (last_read file at o) ≡ true
read_free file at None = refl
read_free file at (Some piece) = refl

read_known : (name file : List ℕ) (past : List Call) (at : ℕ) (o : Option (List ℕ)) → is_known name past ≡ true → is_known name (past ++ last_read file at o) ≡ true
read_known name file past at None k = rw (append-nil past) k
read_known name file past at (Some piece) k = known_skip name past (ReadAt file at (Ok piece)) refl k

-- it leaves a file that is made and copied to before it as it is
read_fills : (file name : List ℕ) (from : ℕ) (pieces : List (List ℕ)) (at : ℕ) (o : Option (List ℕ)) → Fills name (cut_calls file name from pieces (last_read file at o))
read_fills file name from pieces at o held =
    let made : held_after name held (Create name (Ok tt)) ≡ Some [] = rw (same_name name) refl in
    ap (λ (h : Option (List ℕ)). holds name h (copy_calls file name from pieces ++ last_read file at o)) made
    ∙ holds_both name (Some []) (copy_calls file name from pieces) (last_read file at o)
    ∙ same o
    ∙ copy_held file name [] from pieces
    ∙ ap (λ l. Some l) (sym wrote)
  where
    same : (o : Option (List ℕ))
        → holds name (holds name (Some []) (copy_calls file name from pieces)) (last_read file at o) ≡ holds name (Some []) (copy_calls file name from pieces)
    same None = refl
    same (Some piece) = refl

    unwritten : (o : Option (List ℕ)) → filter_map (piece_of name) (last_read file at o) ≡ []
    unwritten None = refl
    unwritten (Some piece) = refl

    wrote : appended name (cut_calls file name from pieces (last_read file at o)) ≡ concat pieces
    wrote = cut_appends file name from pieces (last_read file at o) (unwritten o)

-- ---- a range that was copied

pub record Copied (setup : Setup) (t : TaskTurn) (file : List ℕ) (size c : ℕ) (calls more : List Call) : Type 0 where
  pub cutting : Cutting file (chunk_file setup t (c + 1)) (from_of setup.chunk c) (to_of size setup.chunk c) more
  pub found : are_found (part_of file) (with_size file size calls) more ≡ true
  pub free : is_free file more ≡ true
  pub named : is_known (chunk_file setup t (c + 1)) (with_size file size (calls ++ more)) ≡ true
  pub filed : is_known file (with_size file size (calls ++ more)) ≡ true
  pub fills : Fills (chunk_file setup t (c + 1)) more

pub copied_of : (setup : Setup) (t : TaskTurn) (key : Parts) (file : List ℕ) (size f : ℕ) (ts : List Asking) (calls : List Call) (c : ℕ) (pieces : List (List ℕ)) (o : Option (List ℕ))
    → Going setup t key file size f ts calls c → c ≤ count_of size setup.chunk
    → list_all (reads_before (to_of size setup.chunk c))
    (copy_calls file (chunk_file setup t (c + 1)) (from_of setup.chunk c) pieces ++ last_read file (from_of setup.chunk c + length (concat pieces)) o) ≡ true
    → Copied setup t file size c calls (cut_calls file (chunk_file setup t (c + 1)) (from_of setup.chunk c) pieces (last_read file (from_of setup.chunk c + length (concat pieces)) o))
copied_of setup t key file size f ts calls c pieces o g last w = record {
  cutting = cutting_cut file name from to pieces (last_read file at o) (ending_read file name from at o (omega arith)) w;
  found = found_more (part_of file) past_1 copied (last_read file at o) (copy_found (part_of file) file name past_1 from pieces filed_1 named_1) (read_found (part_of file) file past_2 at o filed_2);
  free = all_more (λ call. is_none (call_stop (part_of file) call)) copied (last_read file at o) (copy_free (part_of file) file name from pieces) (read_free file at o);
  named = subst (λ (l : List Call). is_known name l ≡ true) joined (read_known name file past_2 at o (known_copy name file name past_1 from pieces named_1));
  filed = subst (λ (l : List Call). is_known file l ≡ true) joined (read_known file file past_2 at o filed_2);
  fills = read_fills file name from pieces at o;
}
  where
    name : List ℕ
    name = chunk_file setup t (c + 1)

    from : ℕ
    from = from_of setup.chunk c

    to : ℕ
    to = to_of size setup.chunk c

    at : ℕ
    at = from_of setup.chunk c + length (concat pieces)

    copied : List Call
    copied = copy_calls file (chunk_file setup t (c + 1)) (from_of setup.chunk c) pieces

    past : List Call
    past = with_size file size calls

    past_1 : List Call
    past_1 = with_size file size calls ++ Create (chunk_file setup t (c + 1)) (Ok tt) ∷ []

    past_2 : List Call
    past_2 = (with_size file size calls ++ Create (chunk_file setup t (c + 1)) (Ok tt) ∷ []) ++ copy_calls file (chunk_file setup t (c + 1)) (from_of setup.chunk c) pieces

    filed_1 : is_known file past_1 ≡ true
    filed_1 = known_created file name past (g.known last)

    named_1 : is_known name past_1 ≡ true
    named_1 = known_add name past (Create name (Ok tt)) (rw (same_name name) refl)

    filed_2 : is_known file past_2 ≡ true
    filed_2 = known_copy file file name past_1 from pieces filed_1

    joined : past_2 ++ last_read file at o ≡ past ++ cut_calls file name from pieces (last_read file at o)
    joined = append_assoc past_1 copied (last_read file at o) ∙ append_assoc past (Create name (Ok tt) ∷ []) (copied ++ last_read file at o)

-- ---- a chunk that was stored

-- of a chunk before the last one the range isn't empty
pub full_range : (size chunk c : ℕ) → 0 < chunk → 0 < c → c < count_of size chunk → 0 < to_of size chunk c - from_of chunk c
full_range size chunk c some first h = by_test (size == 0) refl h
  where
    one_more : (k : ℕ) → 0 < k → k * chunk ≡ (k - 1) * chunk + chunk
    one_more zero h = absurd (omega arith)
    one_more (suc k) h = let e : suc k - 1 ≡ k = omega arith in rw e (suc-mul k chunk)

    by_test : (b : Bool) → (size == 0) ≡ b → c < count_of size chunk → 0 < to_of size chunk c - from_of chunk c
    by_test true e h = let n : count_of size chunk ≡ 1 = rw e refl in absurd (omega arith)
    by_test false e h =
        let n : count_of size chunk ≡ div_ceil size chunk = rw e refl in
        let most : (c + 1) * chunk ≤ div_ceil size chunk * chunk = mul-le-mul_right chunk (omega arith) in
        let step : (c + 1) * chunk ≡ (c + 1 - 1) * chunk + chunk = one_more (c + 1) (omega arith) in
        let same : c + 1 - 1 ≡ c = omega arith in
        let less : (c + 1) * chunk ≡ c * chunk + chunk = rw same at step in
        let before : c * chunk ≡ (c - 1) * chunk + chunk = one_more c first in
        let end : div_ceil size chunk * chunk < size + chunk = (div_ceil_times size chunk some).1 in
        omega arith

-- a chunk that was asked for, and its file removed
pub record Removal (setup : Setup) (t : TaskTurn) (key : Parts) (file : List ℕ) (size f : ℕ) (ts : List Asking) (calls : List Call) (c : ℕ) : Type 0 where
  pub front : Front setup t key file size f ts calls
  pub free : is_free file calls ≡ true
  pub removed : (k : ℕ) → f < k → k < c → is_removed (chunk_file setup t (k + 1)) (with_size file size calls) ≡ true

pub removal_of : (setup : Setup) (t : TaskTurn) (key : Parts) (file : List ℕ) (size f : ℕ) (ts : List Asking) (calls more : List Call) (c : ℕ) (a : Asking)
    → Going setup t key file size f ts calls c → c ≤ count_of size setup.chunk → count_of size setup.chunk + 1 < 2 ^ 64 → Copied setup t file size c calls more
    → AsksFor (chunk_request setup t) (c + 1) (with_chunk setup.chunk c key) a → is_question a ≡ false
    → length (appended (chunk_file setup t (c + 1)) more) ≡ to_of size setup.chunk c - from_of setup.chunk c
    → Removal setup t key file size f (ts ++ a ∷ []) (calls ++ (more ++ Remove (chunk_file setup t (c + 1)) (Ok tt) ∷ [])) (c + 1)
removal_of setup t key file size f ts calls more c a g last small x h differs l = record {
  front = front_asked setup t key file size f ts calls (more ++ gone) c a g last small cutting found_all h differs (ap length wrote ∙ l) (fills_removed name more (Ok tt) x.fills);
  free = all_more (λ call. is_none (call_stop (part_of file) call)) calls (more ++ gone) g.free (all_more (λ call. is_none (call_stop (part_of file) call)) more gone x.free refl);
  removed = λ k low high. by_test k low high (nat_lt k c) refl;
}
  where
    name : List ℕ
    name = chunk_file setup t (c + 1)

    from : ℕ
    from = from_of setup.chunk c

    gone : List Call
    gone = Remove (chunk_file setup t (c + 1)) (Ok tt) ∷ []

    cutting : Cutting file (chunk_file setup t (c + 1)) (from_of setup.chunk c) (to_of size setup.chunk c) (more ++ gone)
    cutting = cutting_removed file name from (to_of size setup.chunk c) more (Ok tt) x.cutting

    removes : are_found (part_of file) (with_size file size calls ++ more) gone ≡ true
    removes = rw (chunk_not_part setup t (c + 1) file) (rw x.named refl)

    found_all : are_found (part_of file) (with_size file size calls) (more ++ gone) ≡ true
    found_all = found_more (part_of file) (with_size file size calls) more gone x.found removes

    wrote : appended (chunk_file setup t (c + 1)) (more ++ gone) ≡ appended (chunk_file setup t (c + 1)) more
    wrote = ap concat (filter_map-append (piece_of name) more gone ∙ append-nil (filter_map (piece_of name) more))

    not_lt : (m n : ℕ) → nat_lt m n ≡ false → n ≤ m
    not_lt m n e = grind (arith, nat_tests)

    by_test : (k : ℕ) → f < k → k < c + 1 → (b : Bool) → nat_lt k c ≡ b → is_removed (chunk_file setup t (k + 1)) (with_size file size (calls ++ (more ++ gone))) ≡ true
    by_test k low high true e =
        still_removed setup t file size k c from calls (more ++ gone) (lt_of k c e) (omega arith) cutting.own_all (g.others last k low (lt_of k c e)) (g.removed k low (lt_of k c e))
    by_test k low high false e =
        let not_below : c ≤ k = not_lt k c e in
        let same : k ≡ c = omega arith in
        let P : ℕ → Type 0 = λ m. is_removed (chunk_file setup t (m + 1)) (with_size file size (calls ++ (more ++ gone))) ≡ true in
        let Q : List Call → Type 0 = λ l. is_removed (chunk_file setup t (c + 1)) l ≡ true in
        subst P (sym same) (subst Q (append_assoc (with_size file size calls) more gone) (removed_last name (with_size file size (calls ++ more))))

pub going_stored : (setup : Setup) (t : TaskTurn) (key : Parts) (file : List ℕ) (size f : ℕ) (ts : List Asking) (calls more : List Call) (c : ℕ) (a : Asking)
    → Going setup t key file size f ts calls c → c ≤ count_of size setup.chunk → count_of size setup.chunk + 1 < 2 ^ 64 → Copied setup t file size c calls more
    → AsksFor (chunk_request setup t) (c + 1) (with_chunk setup.chunk c key) a → is_question a ≡ false → is_done a ≡ true
    → length (appended (chunk_file setup t (c + 1)) more) ≡ to_of size setup.chunk c - from_of setup.chunk c
    → (c < count_of size setup.chunk → bytes_eq file (chunk_file setup t (c + 1)) ≡ false)
    → Going setup t key file size f (ts ++ a ∷ []) (calls ++ (more ++ Remove (chunk_file setup t (c + 1)) (Ok tt) ∷ [])) (c + 1)
going_stored setup t key file size f ts calls more c a g last small x h differs d l other = record {
  front = r.front;
  all_stored = all_more is_done ts (a ∷ []) g.all_stored (rw d refl);
  so_many = omega (arith, length-append ts (a ∷ []), g.so_many);
  free = r.free;
  removed = r.removed;
  known = λ next. subst (λ (q : List Call). is_known file q ≡ true) (append_assoc (with_size file size calls) more gone) (known_removed file name (with_size file size (calls ++ more)) (turned (other (omega arith))) x.filed);
  others = λ next k low high. others_too k low high (omega arith) (nat_lt k c) refl;
  fresh = λ k low most. fresh_later setup t file c k from calls (more ++ gone) (omega arith) most (g.fresh k (omega arith) most) cutting.own_all;
  before = reads_later setup file name size c calls (more ++ gone) g.before cutting;
}
  where
    name : List ℕ
    name = chunk_file setup t (c + 1)

    from : ℕ
    from = from_of setup.chunk c

    gone : List Call
    gone = Remove (chunk_file setup t (c + 1)) (Ok tt) ∷ []

    cutting : Cutting file (chunk_file setup t (c + 1)) (from_of setup.chunk c) (to_of size setup.chunk c) (more ++ gone)
    cutting = cutting_removed file name from (to_of size setup.chunk c) more (Ok tt) x.cutting

    r : Removal setup t key file size f (ts ++ a ∷ []) (calls ++ (more ++ Remove (chunk_file setup t (c + 1)) (Ok tt) ∷ [])) (c + 1)
    r = removal_of setup t key file size f ts calls more c a g last small x h differs l

    turned : bytes_eq file name ≡ false → bytes_eq name file ≡ false
    turned e = other_name name file (λ same. apart (sym e ∙ rw (sym same) (same_name name)))

    not_lt : (m n : ℕ) → nat_lt m n ≡ false → n ≤ m
    not_lt m n e = grind (arith, nat_tests)

    others_too : (k : ℕ) → f < k → k < c + 1 → c < count_of size setup.chunk → (b : Bool) → nat_lt k c ≡ b → bytes_eq file (chunk_file setup t (k + 1)) ≡ false
    others_too k low high next true e = g.others last k low (lt_of k c e)
    others_too k low high next false e =
        let not_below : c ≤ k = not_lt k c e in
        let same : k ≡ c = omega arith in
        let P : ℕ → Type 0 = λ m. bytes_eq file (chunk_file setup t (m + 1)) ≡ false in
        subst P (sym same) (other next)
