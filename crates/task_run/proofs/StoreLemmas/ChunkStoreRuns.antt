-- Runs of tasks that store content in chunks.
use Rattle.std.proofs.Common.{◌≡◌, ◌∙◌, ℕ, zero, suc, ◌+◌, ◌-◌, ◌*◌, ◌^◌, ◌<◌, ◌≤◌, List, [], ◌∷◌, ◌++◌, length, map, refl, sym, ap, subst, arith, append-nil, length-append, add-zero}
use Rattle.std.specs.Prelude.{Bool, true, false, ◌&&◌, not, nat_le, nat_lt, ◌==◌, bytes_eq, filter, is_none, Some, None, Ok}
use Rattle.std.specs.List.{list_all, list_any, filter_map, concat, range_with_len}
use Rattle.std.proofs.Math.Nat.{mul-le-mul_right}
use Rattle.std.proofs.lemmas.List.Elements.{filter_map-append, filter-append}
use Rattle.std.proofs.lemmas.List.Folds.{list_any-append}
use Rattle.std.proofs.lemmas.Bool.{and_parts, lt-ltb as lt_true, leb-true as le_of, le-ltb as lt_false}
use Rattle.std.proofs.lemmas.Bool.Decides.{nat_tests}
use Rattle.ann_key.specs.Keys.{Parts, with_chunk}
use Rattle.annex_model.specs.Messages.{HostMessage}
use Rattle.task_text.specs.Layouts.Layouts.{chunk_part, count_of, from_of, to_of}
use Rattle.ann_outside.specs.declared.file_desk.Call.{Call}
use Rattle.ann_outside.specs.declared.file_desk.Call.TheVariants.{Size, Remove}
use Rattle.task_model.specs.Askers.{Asking}
use Rattle.task_model.specs.declared.setup.Setup.{Setup}
use Rattle.task_model.specs.declared.turn.TaskTurn.{TaskTurn}
use Rattle.task_model.specs.Stops.{call_stop, all_but_last, is_done, is_question}
use Rattle.task_model.specs.Names.{chunk_file, chunk_files, part_of}
use Rattle.task_model.specs.Requests.{AsksFor, AskInOrder}
use Rattle.task_model.specs.Reads.{read_of, reads_of, reads_between, is_last, takes_away, piece_of, appended, holds, is_call_of, is_known, is_removed}
use Rattle.task_model.specs.Discipline.{name_only, change_only, size_of_only, are_among, names_in, changed_by, size_among, are_found}
use Rattle.task_model.specs.Stores.{is_size_call, is_copied, copied_length, part_length, is_filled, chunk_request}
use Rattle.task_run.specs.Store.ChunkStoring.{chunk_keys}
use Rattle.task_model.proofs.GetCallsLaws.{found_more}
use Rattle.task_model.proofs.Lists.{but_last}
use Rattle.task_model.proofs.FileNames.{chunk_files_differ}
use Rattle.task_run.proofs.StoreLemmas.ChunkStoreCalls.{lt_of, all_kept, own, own_named, own_changed, own_length, own_no_size, own_pieces, own_calls, own_reads, Cutting, own_held, Fills, chunk_among}
use Rattle.ann_key.proofs.Lists.{same_name, all_still as all_imp, all_more}
use Rattle.ann_key.proofs.Numbers.{same_number as nat_same}
use Rattle.task_model.proofs.HeldLaws.{holds_more as holds_both}

-- ---- ranges

pub ranges_apart : (size chunk k c : ℕ) → k < c → to_of size chunk k ≤ from_of chunk c
ranges_apart size chunk k c h = let m : k * chunk ≤ (c - 1) * chunk = mul-le-mul_right chunk (omega arith) in omega arith

pub from_grows : (chunk c : ℕ) → from_of chunk c ≤ from_of chunk (c + 1)
from_grows chunk c = mul-le-mul_right chunk (omega arith)

-- ---- reads of a range

abbrev inside : ℕ → ℕ → ℕ × List ℕ → Bool
inside from to r = nat_le from r.0 && nat_lt r.0 to

none_later : (from to lo : ℕ) (rs : List (ℕ × List ℕ)) → to ≤ lo → list_all (λ (r : ℕ × List ℕ). nat_le lo r.0) rs ≡ true → filter (inside from to) rs ≡ []
none_later from to lo [] h k = refl
none_later from to lo (r ∷ rs) h k =
    let parts = and_parts (nat_le lo r.0) (list_all (λ (r : ℕ × List ℕ). nat_le lo r.0) rs) k in
    let low : lo ≤ r.0 = le_of lo r.0 parts.0 in
    let out : nat_lt r.0 to ≡ false = lt_false r.0 to (omega arith) in
    let no : inside from to r ≡ false = rw out (never (nat_le from r.0)) in
    rw no (none_later from to lo rs h parts.1)
  where
    never : (b : Bool) → (b && false) ≡ false
    never true = refl
    never false = refl

none_before : (from to hi : ℕ) (rs : List (ℕ × List ℕ)) → hi ≤ from → list_all (λ (r : ℕ × List ℕ). nat_lt r.0 hi) rs ≡ true → filter (inside from to) rs ≡ []
none_before from to hi [] h k = refl
none_before from to hi (r ∷ rs) h k =
    let parts = and_parts (nat_lt r.0 hi) (list_all (λ (r : ℕ × List ℕ). nat_lt r.0 hi) rs) k in
    let high : r.0 < hi = lt_of r.0 hi parts.0 in
    let out : nat_le from r.0 ≡ false = le_false from r.0 (omega arith) in
    let no : inside from to r ≡ false = rw out refl in
    rw no (none_before from to hi rs h parts.1)
  where
    le_false : (a b : ℕ) → b < a → nat_le a b ≡ false
    le_false a b h = grind (arith, nat_tests)

between_both : (file : List ℕ) (from to : ℕ) (xs ys : List Call) → reads_between file from to (xs ++ ys) ≡ reads_between file from to xs ++ reads_between file from to ys
between_both file from to xs ys = ap (filter (inside from to)) (filter_map-append (read_of file) xs ys) ∙ filter-append (inside from to) (reads_of file xs) (reads_of file ys)

pub between_kept : (file : List ℕ) (from to lo : ℕ) (xs ys : List Call) → to ≤ lo → list_all (λ (r : ℕ × List ℕ). nat_le lo r.0) (reads_of file ys) ≡ true
    → reads_between file from to (xs ++ ys) ≡ reads_between file from to xs
between_kept file from to lo xs ys h k =
    between_both file from to xs ys ∙ ap (λ l. reads_between file from to xs ++ l) (none_later from to lo (reads_of file ys) h k) ∙ append-nil (reads_between file from to xs)

pub between_only : (file : List ℕ) (from to : ℕ) (xs ys : List Call) → list_all (λ (r : ℕ × List ℕ). nat_lt r.0 from) (reads_of file xs) ≡ true
    → list_all (inside from to) (reads_of file ys) ≡ true → reads_between file from to (xs ++ ys) ≡ reads_of file ys
between_only file from to xs ys h k =
    between_both file from to xs ys
    ∙ ap (λ l. l ++ reads_between file from to ys) (none_before from to from (reads_of file xs) (omega arith) h)
    ∙ all_kept (inside from to) (reads_of file ys) k

pub between_none : (file : List ℕ) (from to hi : ℕ) (xs : List Call) → hi ≤ from → list_all (λ (r : ℕ × List ℕ). nat_lt r.0 hi) (reads_of file xs) ≡ true
    → reads_between file from to xs ≡ []
between_none file from to hi xs h k = none_before from to hi (reads_of file xs) h k

appended_both : (name : List ℕ) (xs ys : List Call) → filter_map (piece_of name) ys ≡ [] → appended name (xs ++ ys) ≡ appended name xs
appended_both name xs ys h = ap concat (filter_map-append (piece_of name) xs ys ∙ ap (λ l. filter_map (piece_of name) xs ++ l) h ∙ append-nil (filter_map (piece_of name) xs))

pub appended_only : (name : List ℕ) (xs ys : List Call) → filter_map (piece_of name) xs ≡ [] → appended name (xs ++ ys) ≡ appended name ys
appended_only name xs ys h = ap concat (filter_map-append (piece_of name) xs ys ∙ ap (λ l. l ++ filter_map (piece_of name) ys) h)

-- ---- removals

last_snoc : (test : Call → Bool) (xs : List Call) (x : Call) → test x ≡ true → is_last test (xs ++ x ∷ []) ≡ true
last_snoc test [] x h = h
last_snoc test (y ∷ []) x h = h
last_snoc test (y ∷ z ∷ xs) x h = last_snoc test (z ∷ xs) x h

pub removed_last : (name : List ℕ) (xs : List Call) → is_removed name (xs ++ Remove name (Ok tt) ∷ []) ≡ true
removed_last name xs =
    let kept : filter (is_call_of name) (Remove name (Ok tt) ∷ []) ≡ Remove name (Ok tt) ∷ [] = rw (same_name name) refl in
    let all : filter (is_call_of name) (xs ++ Remove name (Ok tt) ∷ []) ≡ filter (is_call_of name) xs ++ Remove name (Ok tt) ∷ [] =
    filter-append (is_call_of name) xs (Remove name (Ok tt) ∷ []) ∙ ap (λ l. filter (is_call_of name) xs ++ l) kept in
    ap (is_last (takes_away name)) all ∙ last_snoc (takes_away name) (filter (is_call_of name) xs) (Remove name (Ok tt)) (same_name name)

pub removed_still : (name : List ℕ) (xs ys : List Call) → filter (is_call_of name) ys ≡ [] → is_removed name xs ≡ true → is_removed name (xs ++ ys) ≡ true
removed_still name xs ys h k =
    ap (is_last (takes_away name)) (filter-append (is_call_of name) xs ys ∙ ap (λ l. filter (is_call_of name) xs ++ l) h ∙ append-nil (filter (is_call_of name) xs)) ∙ k

-- ---- a front of what is asked and called after the questions

-- all that the desk was asked for
abbrev pub with_size : List ℕ → ℕ → List Call → List Call
with_size file size calls = Size file (Ok size) ∷ calls

pub record WholeAt (setup : Setup) (t : TaskTurn) (key : Parts) (file : List ℕ) (size c : ℕ) (calls : List Call) : Type 0 where
  pub copied : is_copied setup t file (with_size file size calls) (c + 1) (chunk_part key size setup.chunk c) ≡ true
  pub long : (copied_length setup t (with_size file size calls) (c + 1) == part_length (chunk_part key size setup.chunk c)) ≡ true
  pub filled : is_filled setup t (with_size file size calls) (c + 1) ≡ true

-- after the question that found chunk f + 1 missing, which is request f + 1; chunk c is stored by request c + 1
pub record Front (setup : Setup) (t : TaskTurn) (key : Parts) (file : List ℕ) (size f : ℕ) (asked : List Asking) (calls : List Call) : Type 0 where
  pub in_order : AskInOrder (chunk_request setup t) (f + 2) (chunk_keys key setup.chunk (f + 1) (count_of size setup.chunk - f)) asked
  pub no_questions : list_all (λ a. not (is_question a)) asked ≡ true
  pub each_stored : list_all is_done (all_but_last asked) ≡ true
  pub names : (n : ℕ) → f + 2 + length asked ≤ n → name_only (file ∷ chunk_files setup t n) calls ≡ true
  pub changes : (n : ℕ) → f + 2 + length asked ≤ n → change_only (chunk_files setup t n) calls ≡ true
  pub lengths : size_of_only (file ∷ []) calls ≡ true
  pub no_size : list_any is_size_call calls ≡ false
  pub whole : (c : ℕ) → f < c → c < f + 1 + length asked → WholeAt setup t key file size c calls
  pub removed : (c : ℕ) → f < c → c + 1 < f + 1 + length asked → is_removed (chunk_file setup t (c + 1)) (with_size file size calls) ≡ true
  pub next : f + 1 + length asked ≤ count_of size setup.chunk
      → is_copied setup t file (with_size file size calls) (f + 2 + length asked) (chunk_part key size setup.chunk (f + 1 + length asked)) ≡ true
  pub found : are_found (part_of file) (with_size file size []) calls ≡ true

abbrev pub is_free : List ℕ → List Call → Bool
is_free file calls = list_all (λ call. is_none (call_stop (part_of file) call)) calls

-- all chunks before c are there
pub record Going (setup : Setup) (t : TaskTurn) (key : Parts) (file : List ℕ) (size f : ℕ) (asked : List Asking) (calls : List Call) (c : ℕ) : Type 0 where
  pub front : Front setup t key file size f asked calls
  pub all_stored : list_all is_done asked ≡ true
  pub so_many : f + 1 + length asked ≡ c
  pub free : is_free file calls ≡ true
  pub removed : (k : ℕ) → f < k → k < c → is_removed (chunk_file setup t (k + 1)) (with_size file size calls) ≡ true
  pub known : c ≤ count_of size setup.chunk → is_known file (with_size file size calls) ≡ true
  pub others : c ≤ count_of size setup.chunk → (k : ℕ) → f < k → k < c → bytes_eq file (chunk_file setup t (k + 1)) ≡ false
  pub fresh : (k : ℕ) → c ≤ k → k + 1 < 2 ^ 64 → filter_map (piece_of (chunk_file setup t (k + 1))) calls ≡ []
  pub before : list_all (λ (r : ℕ × List ℕ). nat_lt r.0 (from_of setup.chunk c)) (reads_of file calls) ≡ true

pub going_none : (setup : Setup) (t : TaskTurn) (key : Parts) (file : List ℕ) (size f : ℕ) → Going setup t key file size f [] [] (f + 1)
going_none setup t key file size f = record {
  front = record {
    in_order = tt;
    no_questions = refl;
    each_stored = refl;
    names = λ n h. refl;
    changes = λ n h. refl;
    lengths = refl;
    no_size = refl;
    whole = λ c low high. absurd (omega arith);
    removed = λ c low high. absurd (omega arith);
    next = λ h. refl;
    found = refl;
  };
  all_stored = refl;
  so_many = omega arith;
  free = refl;
  removed = λ k low high. absurd (omega arith);
  known = λ h. rw (same_name file) refl;
  others = λ h k low high. absurd (omega arith);
  fresh = λ k low small. refl;
  before = refl;
}

-- ---- calls of chunk c after it

-- what is so of a chunk that was stored before stays so
pub whole_still : (setup : Setup) (t : TaskTurn) (key : Parts) (file : List ℕ) (size k c : ℕ) (calls more : List Call) → k < c → c + 1 < 2 ^ 64
    → list_all (own file (chunk_file setup t (c + 1)) (from_of setup.chunk c)) more ≡ true → WholeAt setup t key file size k calls → WholeAt setup t key file size k (calls ++ more)
whole_still setup t key file size k c calls more low small o w = record {
  copied = rw (reads, wrote) w.copied;
  long = rw wrote w.long;
  filled = rw (wrote, held) w.filled;
}
  where
    differ : bytes_eq (chunk_file setup t (c + 1)) (chunk_file setup t (k + 1)) ≡ false
    differ = chunk_files_differ setup t (c + 1) (k + 1) small (omega arith) (λ e. omega arith)

    held : holds (chunk_file setup t (k + 1)) None (calls ++ more) ≡ holds (chunk_file setup t (k + 1)) None calls
    held =
        holds_both (chunk_file setup t (k + 1)) None calls more
        ∙ own_held file (chunk_file setup t (c + 1)) (chunk_file setup t (k + 1)) (from_of setup.chunk c) (holds (chunk_file setup t (k + 1)) None calls) differ more o

    reads : reads_between file (from_of setup.chunk k) (to_of size setup.chunk k) (calls ++ more) ≡ reads_between file (from_of setup.chunk k) (to_of size setup.chunk k) calls
    reads = between_kept file (from_of setup.chunk k) (to_of size setup.chunk k) (from_of setup.chunk c) calls more (ranges_apart size setup.chunk k c low)
        (own_reads file (chunk_file setup t (c + 1)) (from_of setup.chunk c) more o)

    wrote : appended (chunk_file setup t (k + 1)) (calls ++ more) ≡ appended (chunk_file setup t (k + 1)) calls
    wrote = appended_both (chunk_file setup t (k + 1)) calls more
        (own_pieces file (chunk_file setup t (c + 1)) (chunk_file setup t (k + 1)) (from_of setup.chunk c) differ more o)

pub still_removed : (setup : Setup) (t : TaskTurn) (file : List ℕ) (size k c from : ℕ) (calls more : List Call) → k < c → c + 1 < 2 ^ 64
    → list_all (own file (chunk_file setup t (c + 1)) from) more ≡ true → bytes_eq file (chunk_file setup t (k + 1)) ≡ false
    → is_removed (chunk_file setup t (k + 1)) (with_size file size calls) ≡ true → is_removed (chunk_file setup t (k + 1)) (with_size file size (calls ++ more)) ≡ true
still_removed setup t file size k c from calls more low small o d h =
    removed_still (chunk_file setup t (k + 1)) (with_size file size calls) more
    (own_calls file (chunk_file setup t (c + 1)) (chunk_file setup t (k + 1)) from (chunk_files_differ setup t (c + 1) (k + 1) small (omega arith) (λ e. omega arith)) d more o) h

-- the chunk's own file holds what was read for it
pub chunk_copied : (setup : Setup) (t : TaskTurn) (key : Parts) (file : List ℕ) (size c : ℕ) (calls more : List Call)
    → list_all (λ (r : ℕ × List ℕ). nat_lt r.0 (from_of setup.chunk c)) (reads_of file calls) ≡ true → filter_map (piece_of (chunk_file setup t (c + 1))) calls ≡ []
    → Cutting file (chunk_file setup t (c + 1)) (from_of setup.chunk c) (to_of size setup.chunk c) more
    → is_copied setup t file (with_size file size (calls ++ more)) (c + 1) (chunk_part key size setup.chunk c) ≡ true
chunk_copied setup t key file size c calls more b n x = rw (reads, wrote) (rw (x.run, x.front) refl)
  where
    reads : reads_between file (from_of setup.chunk c) (to_of size setup.chunk c) (calls ++ more) ≡ reads_of file more
    reads = between_only file (from_of setup.chunk c) (to_of size setup.chunk c) calls more b x.within

    wrote : appended (chunk_file setup t (c + 1)) (calls ++ more) ≡ appended (chunk_file setup t (c + 1)) more
    wrote = appended_only (chunk_file setup t (c + 1)) calls more n

-- the front with calls of the next chunk
pub front_same : (setup : Setup) (t : TaskTurn) (key : Parts) (file : List ℕ) (size f : ℕ) (asked : List Asking) (calls more : List Call) (c : ℕ)
    → Going setup t key file size f asked calls c → c ≤ count_of size setup.chunk → c + 1 < 2 ^ 64
    → Cutting file (chunk_file setup t (c + 1)) (from_of setup.chunk c) (to_of size setup.chunk c) more → are_found (part_of file) (with_size file size calls) more ≡ true
    → Front setup t key file size f asked (calls ++ more)
front_same setup t key file size f asked calls more c g last small x is_found = record {
  in_order = g.front.in_order;
  no_questions = g.front.no_questions;
  each_stored = g.front.each_stored;
  names = λ n h. all_more (λ call. are_among (file ∷ chunk_files setup t n) (names_in call)) calls more (g.front.names n h)
      (all_imp (own file name from) (λ call. are_among (file ∷ chunk_files setup t n) (names_in call))
      (own_named file name from (chunk_files setup t n) (chunk_among setup t n (c + 1) (omega arith) (omega (arith, g.so_many)))) more x.own_all);
  changes = λ n h. all_more (λ call. are_among (chunk_files setup t n) (changed_by call)) calls more (g.front.changes n h)
      (all_imp (own file name from) (λ call. are_among (chunk_files setup t n) (changed_by call))
      (own_changed file name from (chunk_files setup t n) (chunk_among setup t n (c + 1) (omega arith) (omega (arith, g.so_many)))) more x.own_all);
  lengths = all_more (size_among (file ∷ [])) calls more g.front.lengths (all_imp (own file name from) (size_among (file ∷ [])) (own_length file name from (file ∷ [])) more x.own_all);
  no_size = rw (list_any-append is_size_call calls more) (rw (g.front.no_size, own_no_size file name from more x.own_all) refl);
  whole = λ k low high. whole_still setup t key file size k c calls more (omega (arith, g.so_many)) small x.own_all (g.front.whole k low high);
  removed = λ k low high. still_removed setup t file size k c from calls more (omega (arith, g.so_many)) small x.own_all (g.others last k low (omega (arith, g.so_many)))
      (g.removed k low (omega (arith, g.so_many)));
  next = λ h. at_next (f + 1 + length asked) (f + 2 + length asked) g.so_many (omega (arith, g.so_many));
  found = found_more (part_of file) (with_size file size []) calls more g.front.found is_found;
}
  where
    name : List ℕ
    name = chunk_file setup t (c + 1)

    from : ℕ
    from = from_of setup.chunk c

    at_next : (k n : ℕ) → k ≡ c → n ≡ c + 1 → is_copied setup t file (with_size file size (calls ++ more)) n (chunk_part key size setup.chunk k) ≡ true
    at_next k n e d =
        let P : ℕ → Type 0 = λ m. is_copied setup t file (with_size file size (calls ++ more)) n (chunk_part key size setup.chunk m) ≡ true in
        let Q : ℕ → Type 0 = λ m. is_copied setup t file (with_size file size (calls ++ more)) m (chunk_part key size setup.chunk c) ≡ true in
        subst P (sym e) (subst Q (sym d) (chunk_copied setup t key file size c calls more g.before (g.fresh c (omega arith) small) x))

-- ---- one more chunk

pub order_more : (ask : ℕ → List ℕ → HostMessage) (f : ℕ → Parts) (k m count : ℕ) (round : List Asking) (a : Asking) → AskInOrder ask k (map f (range_with_len m count)) round → length round < count
    → AsksFor ask (k + length round) (f (m + length round)) a → AskInOrder ask k (map f (range_with_len m count)) (round ++ a ∷ [])
order_more ask f k m zero round a o l h = absurd (omega arith)
order_more ask f k m (suc count) [] a o l h = (rw (add-zero k, add-zero m) at h, tt)
order_more ask f k m (suc count) (b ∷ round) a o l h =
    let d : k + length (b ∷ round) ≡ k + 1 + length round = omega arith in
    let e : m + length (b ∷ round) ≡ m + 1 + length round = omega arith in
    let P : ℕ → Type 0 = λ n. AsksFor ask n (f (m + length (b ∷ round))) a in
    let Q : ℕ → Type 0 = λ n. AsksFor ask (k + 1 + length round) (f n) a in
    (o.0, order_more ask f (k + 1) (m + 1) count round a o.1 (omega arith) (subst Q e (subst P d h)))

pub reads_later : (setup : Setup) (file name : List ℕ) (size c : ℕ) (calls more : List Call)
    → list_all (λ (r : ℕ × List ℕ). nat_lt r.0 (from_of setup.chunk c)) (reads_of file calls) ≡ true → Cutting file name (from_of setup.chunk c) (to_of size setup.chunk c) more
    → list_all (λ (r : ℕ × List ℕ). nat_lt r.0 (from_of setup.chunk (c + 1))) (reads_of file (calls ++ more)) ≡ true
reads_later setup file name size c calls more b x =
    rw (filter_map-append (read_of file) calls more) (all_more (λ (r : ℕ × List ℕ). nat_lt r.0 next) (reads_of file calls) (reads_of file more)
    (all_imp (λ (r : ℕ × List ℕ). nat_lt r.0 from) (λ (r : ℕ × List ℕ). nat_lt r.0 next) early (reads_of file calls) b)
    (all_imp (inside from to) (λ (r : ℕ × List ℕ). nat_lt r.0 next) late (reads_of file more) x.within))
  where
    from : ℕ
    from = from_of setup.chunk c

    to : ℕ
    to = to_of size setup.chunk c

    next : ℕ
    next = from_of setup.chunk (c + 1)

    early : (r : ℕ × List ℕ) → nat_lt r.0 from ≡ true → nat_lt r.0 next ≡ true
    early r h = let low : r.0 < from = lt_of r.0 from h in let grows : from ≤ next = from_grows setup.chunk c in lt_true r.0 next (omega arith)

    late : (r : ℕ × List ℕ) → inside from to r ≡ true → nat_lt r.0 next ≡ true
    late r h =
        let low : r.0 < to = lt_of r.0 to (and_parts (nat_le from r.0) (nat_lt r.0 to) h).1 in
        let below : to ≤ next = ranges_apart size setup.chunk c (c + 1) (omega arith) in
        lt_true r.0 next (omega arith)

pub fresh_later : (setup : Setup) (t : TaskTurn) (file : List ℕ) (c k from : ℕ) (calls more : List Call) → c < k → k + 1 < 2 ^ 64
    → filter_map (piece_of (chunk_file setup t (k + 1))) calls ≡ [] → list_all (own file (chunk_file setup t (c + 1)) from) more ≡ true
    → filter_map (piece_of (chunk_file setup t (k + 1))) (calls ++ more) ≡ []
fresh_later setup t file c k from calls more low small n o =
    rw (filter_map-append (piece_of (chunk_file setup t (k + 1))) calls more)
    (rw (n, own_pieces file (chunk_file setup t (c + 1)) (chunk_file setup t (k + 1)) from (chunk_files_differ setup t (c + 1) (k + 1) (omega arith) small (λ e. omega arith)) more o) refl)

-- of a chunk that was not begun nothing was read and nothing written
chunk_uncopied : (setup : Setup) (t : TaskTurn) (key : Parts) (file : List ℕ) (size c : ℕ) (calls : List Call)
    → list_all (λ (r : ℕ × List ℕ). nat_lt r.0 (from_of setup.chunk c)) (reads_of file calls) ≡ true → filter_map (piece_of (chunk_file setup t (c + 1))) calls ≡ []
    → is_copied setup t file (with_size file size calls) (c + 1) (chunk_part key size setup.chunk c) ≡ true
chunk_uncopied setup t key file size c calls b n = rw (reads, wrote) refl
  where
    reads : reads_between file (from_of setup.chunk c) (to_of size setup.chunk c) calls ≡ []
    reads = between_none file (from_of setup.chunk c) (to_of size setup.chunk c) (from_of setup.chunk c) calls (omega arith) b

    wrote : appended (chunk_file setup t (c + 1)) calls ≡ []
    wrote = ap concat n

chunk_whole : (setup : Setup) (t : TaskTurn) (key : Parts) (file : List ℕ) (size c : ℕ) (calls more : List Call)
    → list_all (λ (r : ℕ × List ℕ). nat_lt r.0 (from_of setup.chunk c)) (reads_of file calls) ≡ true → filter_map (piece_of (chunk_file setup t (c + 1))) calls ≡ []
    → Cutting file (chunk_file setup t (c + 1)) (from_of setup.chunk c) (to_of size setup.chunk c) more
    → length (appended (chunk_file setup t (c + 1)) more) ≡ to_of size setup.chunk c - from_of setup.chunk c → Fills (chunk_file setup t (c + 1)) more
    → WholeAt setup t key file size c (calls ++ more)
chunk_whole setup t key file size c calls more b n x l fills = record {
  copied = chunk_copied setup t key file size c calls more b n x;
  long = rw wrote (rw l (nat_same (to_of size setup.chunk c - from_of setup.chunk c)));
  filled = rw (wrote, held) (same_name (appended (chunk_file setup t (c + 1)) more));
}
  where
    wrote : appended (chunk_file setup t (c + 1)) (calls ++ more) ≡ appended (chunk_file setup t (c + 1)) more
    wrote = appended_only (chunk_file setup t (c + 1)) calls more n

    held : holds (chunk_file setup t (c + 1)) None (calls ++ more) ≡ Some (appended (chunk_file setup t (c + 1)) more)
    held = holds_both (chunk_file setup t (c + 1)) None calls more ∙ fills (holds (chunk_file setup t (c + 1)) None calls)

-- the front with the next chunk asked for
pub front_asked : (setup : Setup) (t : TaskTurn) (key : Parts) (file : List ℕ) (size f : ℕ) (asked : List Asking) (calls more : List Call) (c : ℕ) (a : Asking)
    → Going setup t key file size f asked calls c → c ≤ count_of size setup.chunk → count_of size setup.chunk + 1 < 2 ^ 64
    → Cutting file (chunk_file setup t (c + 1)) (from_of setup.chunk c) (to_of size setup.chunk c) more → are_found (part_of file) (with_size file size calls) more ≡ true
    → AsksFor (chunk_request setup t) (c + 1) (with_chunk setup.chunk c key) a → is_question a ≡ false
    → length (appended (chunk_file setup t (c + 1)) more) ≡ to_of size setup.chunk c - from_of setup.chunk c → Fills (chunk_file setup t (c + 1)) more
    → Front setup t key file size f (asked ++ a ∷ []) (calls ++ more)
front_asked setup t key file size f asked calls more c a g last small x is_found h differs l fills = record {
  in_order = order_more (chunk_request setup t) (λ number. with_chunk setup.chunk number key) (f + 2) (f + 1) (count_of size setup.chunk - f) asked a g.front.in_order
      (omega (arith, g.so_many)) (at_place (f + 2 + length asked) (f + 1 + length asked) (omega (arith, g.so_many)) g.so_many);
  no_questions = all_more (λ q. not (is_question q)) asked (a ∷ []) g.front.no_questions (rw differs refl);
  each_stored = rw (but_last asked a) g.all_stored;
  names = λ n low. b.names n (omega (arith, length-append asked (a ∷ []), low));
  changes = λ n low. b.changes n (omega (arith, length-append asked (a ∷ []), low));
  lengths = b.lengths;
  no_size = b.no_size;
  whole = λ k low high. by_test k low (omega (arith, length-append asked (a ∷ []), high, g.so_many)) (nat_lt k c) refl;
  removed = λ k low high. still_removed setup t file size k c from calls more (omega (arith, length-append asked (a ∷ []), high, g.so_many)) (omega arith) x.own_all
      (g.others last k low (omega (arith, length-append asked (a ∷ []), high, g.so_many))) (g.removed k low (omega (arith, length-append asked (a ∷ []), high, g.so_many)));
  next = λ high. at_next (f + 1 + length (asked ++ a ∷ [])) (f + 2 + length (asked ++ a ∷ [])) (omega (arith, length-append asked (a ∷ []), g.so_many)) (omega (arith, length-append asked (a ∷ []), g.so_many)) high;
  found = b.found;
}
  where
    name : List ℕ
    name = chunk_file setup t (c + 1)

    from : ℕ
    from = from_of setup.chunk c

    b : Front setup t key file size f asked (calls ++ more)
    b = front_same setup t key file size f asked calls more c g last (omega arith) x is_found

    at_place : (n k : ℕ) → n ≡ c + 1 → k ≡ c → AsksFor (chunk_request setup t) n (with_chunk setup.chunk k key) a
    at_place n k d e =
        let P : ℕ → Type 0 = λ m. AsksFor (chunk_request setup t) m (with_chunk setup.chunk k key) a in
        let Q : ℕ → Type 0 = λ m. AsksFor (chunk_request setup t) (c + 1) (with_chunk setup.chunk m key) a in
        subst P (sym d) (subst Q (sym e) h)

    by_test : (k : ℕ) → f < k → k < c + 1 → (t' : Bool) → nat_lt k c ≡ t' → WholeAt setup t key file size k (calls ++ more)
    by_test k low high true e = b.whole k low (omega (arith, lt_of k c e, g.so_many))
    by_test k low high false e =
        let not_below : c ≤ k = not_lt k c e in
        let same : k ≡ c = omega arith in
        let P : ℕ → Type 0 = λ m. WholeAt setup t key file size m (calls ++ more) in
        subst P (sym same) (chunk_whole setup t key file size c calls more g.before (g.fresh c (omega arith) (omega arith)) x l fills)
      where
        not_lt : (m n : ℕ) → nat_lt m n ≡ false → n ≤ m
        not_lt m n e = grind (arith, nat_tests)

    at_next : (k n : ℕ) → k ≡ c + 1 → n ≡ c + 1 + 1 → k ≤ count_of size setup.chunk
        → is_copied setup t file (with_size file size (calls ++ more)) n (chunk_part key size setup.chunk k) ≡ true
    at_next k n e d high =
        let P : ℕ → Type 0 = λ m. is_copied setup t file (with_size file size (calls ++ more)) n (chunk_part key size setup.chunk m) ≡ true in
        let Q : ℕ → Type 0 = λ m. is_copied setup t file (with_size file size (calls ++ more)) m (chunk_part key size setup.chunk (c + 1)) ≡ true in
        subst P (sym e) (subst Q (sym d) (chunk_uncopied setup t key file size (c + 1) (calls ++ more) (reads_later setup file name size c calls more g.before x)
        (fresh_later setup t file c (c + 1) from calls more (omega arith) (omega arith) (g.fresh (c + 1) (omega arith) (omega arith)) x.own_all)))
