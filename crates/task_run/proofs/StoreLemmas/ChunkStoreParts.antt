-- What a store in chunks asks, put together of its questions and what follows them.
use Rattle.std.proofs.Common.{◌≡◌, ◌∙◌, ℕ, zero, suc, ◌+◌, ◌-◌, ◌<◌, ◌≤◌, List, [], ◌∷◌, ◌++◌, length, map, refl, sym, ap, arith, take, drop}
use Rattle.std.specs.Prelude.{Bool, true, false, ◌&&◌, not, ◌==◌, cond, count_by, Option, Some, None}
use Rattle.std.specs.List.{list_all, range_with_len}
use Rattle.std.proofs.Math.Seq.{take-append_seam}
use Rattle.std.proofs.lemmas.List.{drop_at}
use Rattle.std.proofs.lemmas.List.Sums.{sum_by-cons}
use Rattle.std.proofs.lemmas.Bool.{and_parts}
use Rattle.ann_key.specs.Keys.{Parts, with_chunk}
use Rattle.annex_model.specs.Messages.{HostMessage}
use Rattle.task_text.specs.Layouts.Layouts.{Part, chunk_part, count_of}
use Rattle.journal_model.specs.declared.verdict.Verdict.{Verdict}
use Rattle.journal_model.specs.declared.verdict.Verdict.TheVariants.{Done, Failed, Absent, Unknown, Unsupported, Ended, Unsent}
use Rattle.ann_outside.specs.declared.file_desk.Call.{Call}
use Rattle.task_model.specs.Askers.{Asking, is_gone}
use Rattle.task_model.specs.declared.setup.Setup.{Setup}
use Rattle.task_model.specs.declared.turn.TaskTurn.{TaskTurn}
use Rattle.task_model.specs.Stops.{is_done, is_done_at, is_question}
use Rattle.task_model.specs.Names.{chunk_file}
use Rattle.task_model.specs.Requests.{AsksFor, AskInOrder}
use Rattle.task_model.specs.Layouts.{parts_of_layout, keys_of_layout}
use Rattle.task_model.specs.Reads.{is_removed}
use Rattle.task_model.specs.Checks.{present_request}
use Rattle.task_model.specs.Stores.{is_copied, are_whole, are_removed, is_next_copied, questions, found, transfers}
use Rattle.task_run.specs.Store.ChunkStoring.{chunk_keys, is_missing_at}
use Rattle.task_run.proofs.StoreLemmas.ChunkStoreRuns.{WholeAt, with_size}
use Rattle.ann_key.proofs.Booleans.{false_is_true as apart}
use Rattle.ann_key.proofs.Lists.{all_still as all_imp}
use Rattle.ann_outside.proofs.Across.{count_none}

-- ---- layouts

abbrev pub chunk_parts : Setup → Parts → ℕ → ℕ → ℕ → List Part
chunk_parts setup key size m k = map (chunk_part key size setup.chunk) (range_with_len m k)

-- content is stored in chunks, and the key says its size
pub record Chunked (setup : Setup) (key : Parts) (size : ℕ) : Type 0 where
  pub some : (setup.chunk == 0) ≡ false
  pub sized : key.size ≡ Some size

pub parts_are : (setup : Setup) (key : Parts) (size : ℕ) → Chunked setup key size → parts_of_layout key setup.chunk ≡ chunk_parts setup key size 1 (count_of size setup.chunk)
parts_are setup key size h = rw (h.sized, h.some) refl

keys_of_parts : (setup : Setup) (key : Parts) (size : ℕ) (ns : List ℕ) → map (λ (p : Part). p.key) (map (chunk_part key size setup.chunk) ns) ≡ map (λ number. with_chunk setup.chunk number key) ns
keys_of_parts setup key size [] = refl
keys_of_parts setup key size (n ∷ ns) = ap (λ l. with_chunk setup.chunk n key ∷ l) (keys_of_parts setup key size ns)

pub keys_are : (setup : Setup) (key : Parts) (size : ℕ) → Chunked setup key size → keys_of_layout key setup.chunk ≡ chunk_keys key setup.chunk 1 (count_of size setup.chunk)
keys_are setup key size h =
    ap (λ l. map (λ (p : Part). p.key) l) (parts_are setup key size h) ∙ keys_of_parts setup key size (range_with_len 1 (count_of size setup.chunk))

pub drop_range : (setup : Setup) (key : Parts) (size f m k : ℕ) → drop f (chunk_parts setup key size m k) ≡ chunk_parts setup key size (m + f) (k - f)
drop_range setup key size zero m k = let e : m + 0 ≡ m = omega arith in let d : k - 0 ≡ k = omega arith in rw (e, d) refl
drop_range setup key size (suc f) m zero = let d : 0 - suc f ≡ 0 = omega arith in rw d refl
drop_range setup key size (suc f) m (suc k) =
    let e : m + suc f ≡ m + 1 + f = omega arith in
    let d : suc k - suc f ≡ k - f = omega arith in
    rw (e, d) (drop_range setup key size f (m + 1) k)

pub missing_are : (setup : Setup) (key : Parts) (size f : ℕ) → Chunked setup key size
    → drop f (parts_of_layout key setup.chunk) ≡ chunk_parts setup key size (f + 1) (count_of size setup.chunk - f)
missing_are setup key size f h =
    let e : 1 + f ≡ f + 1 = omega arith in
    ap (drop f) (parts_are setup key size h) ∙ drop_range setup key size f 1 (count_of size setup.chunk) ∙ ap (λ m. chunk_parts setup key size m (count_of size setup.chunk - f)) e

range_length : (setup : Setup) (key : Parts) (size m k : ℕ) → length (chunk_parts setup key size m k) ≡ k
range_length setup key size m zero = refl
range_length setup key size m (suc k) = let r : length (chunk_parts setup key size (m + 1) k) ≡ k = range_length setup key size (m + 1) k in omega arith

pub parts_many : (setup : Setup) (key : Parts) (size : ℕ) → Chunked setup key size → length (parts_of_layout key setup.chunk) ≡ count_of size setup.chunk
parts_many setup key size h = ap length (parts_are setup key size h) ∙ range_length setup key size 1 (count_of size setup.chunk)

-- ---- counts

count_step : {X : Type 0} (p : X → Bool) (x : X) (xs : List X) → count_by p (x ∷ xs) ≡ cond (p x) 1 0 + count_by p xs
count_step p x xs = sum_by-cons (λ y. cond (p y) 1 0) x xs

pub count_front : {X : Type 0} (p : X → Bool) (xs ys : List X) → list_all p xs ≡ true → list_all (λ x. not (p x)) ys ≡ true → count_by p (xs ++ ys) ≡ length xs
count_front p [] ys h k = count_none p ys k
count_front p (x ∷ xs) ys h k =
    let parts = and_parts (p x) (list_all p xs) h in
    let first : p x ≡ true = parts.0 in
    let rest : count_by p (xs ++ ys) ≡ length xs = count_front p xs ys parts.1 k in
    count_step p x (xs ++ ys) ∙ rw first (omega (arith, rest))

-- ---- the askings, taken apart

pub record Split (asked qs ts : List Asking) (f : ℕ) : Type 0 where
  pub so_many : questions asked ≡ length qs
  pub there : found asked ≡ f
  pub behind : transfers asked ≡ ts
  pub front : take (questions asked) asked ≡ qs

pub split_of : (qs ts : List Asking) (f : ℕ) → list_all is_question qs ≡ true → list_all (λ a. not (is_question a)) ts ≡ true → found (qs ++ ts) ≡ f → Split (qs ++ ts) qs ts f
split_of qs ts f h k n = record {
  so_many = q;
  there = n;
  behind = ap (λ m. drop m (qs ++ ts)) q ∙ drop_at qs ts (length qs) refl;
  front = ap (λ m. take m (qs ++ ts)) q ∙ take-append_seam qs ts;
}
  where
    q : questions (qs ++ ts) ≡ length qs
    q = count_front is_question qs ts h k

question_of : (key : Parts) (n : ℕ) (request : Option HostMessage) (v : Verdict) → AsksFor present_request n key (record { request = request; name = None; verdict = v }) → is_gone v ≡ false
    → is_question (record { request = request; name = None; verdict = v }) ≡ true
question_of key n None v h g = apart (sym g ∙ h)
question_of key n (Some q) v h g = rw h.0 refl

pub all_questions : (n : ℕ) (keys : List Parts) (qs : List Asking) → AskInOrder present_request n keys qs → list_all (λ a. not (is_gone a.verdict)) qs ≡ true → list_all is_question qs ≡ true
all_questions n keys [] o g = refl
all_questions n [] (a ∷ qs) o g = absurd o
all_questions n (key ∷ keys) (a ∷ qs) o g =
    let parts = and_parts (not (is_gone a.verdict)) (list_all (λ q. not (is_gone q.verdict)) qs) g in
    let first : is_question a ≡ true = question_of key n a.request a.verdict o.0 (turned (is_gone a.verdict) parts.0) in
    let rest : list_all is_question qs ≡ true = all_questions (n + 1) keys qs o.1 parts.1 in
    rw (first, rest) refl
  where
    turned : (b : Bool) → not b ≡ true → b ≡ false
    turned true e = apart e
    turned false e = refl

pub done_stays : (v : Verdict) → is_done_at v ≡ true → not (is_gone v) ≡ true
done_stays (Done at) h = refl
done_stays (Failed at) h = apart h
done_stays (Absent at) h = apart h
done_stays (Unknown at) h = apart h
done_stays (Unsupported at) h = apart h
done_stays (Ended why) h = apart h
done_stays Unsent h = apart h

pub missing_stays : (v : Verdict) → is_missing_at v ≡ true → not (is_gone v) ≡ true
missing_stays (Done at) h = apart h
missing_stays (Failed at) h = apart h
missing_stays (Absent at) h = refl
missing_stays (Unknown at) h = refl
missing_stays (Unsupported at) h = refl
missing_stays (Ended why) h = apart h
missing_stays Unsent h = apart h

pub missing_undone : (v : Verdict) → is_missing_at v ≡ true → is_done_at v ≡ false
missing_undone (Done at) h = apart h
missing_undone (Failed at) h = apart h
missing_undone (Absent at) h = refl
missing_undone (Unknown at) h = refl
missing_undone (Unsupported at) h = refl
missing_undone (Ended why) h = apart h
missing_undone Unsent h = apart h

pub there_questions : (n : ℕ) (keys : List Parts) (qs : List Asking) → AskInOrder present_request n keys qs → list_all is_done qs ≡ true → list_all is_question qs ≡ true
there_questions n keys qs o d = all_questions n keys qs o (all_imp is_done (λ a. not (is_gone a.verdict)) (λ a h. done_stays a.verdict h) qs d)

pub order_front : (n : ℕ) (keys : List Parts) (xs ys : List Asking) → AskInOrder present_request n keys (xs ++ ys) → AskInOrder present_request n keys xs
order_front n keys [] ys o = tt
order_front n [] (x ∷ xs) ys o = absurd o
order_front n (key ∷ keys) (x ∷ xs) ys o = (o.0, order_front (n + 1) keys xs ys o.1)

all_pairs : (p q : Asking → Bool) (xs : List Asking) → list_all p xs ≡ true → list_all q xs ≡ true → list_all (λ a. p a && q a) xs ≡ true
all_pairs p q [] a b = refl
all_pairs p q (x ∷ xs) a b =
    let f = and_parts (p x) (list_all p xs) a in
    let g = and_parts (q x) (list_all q xs) b in
    let first : p x ≡ true = f.0 in
    let other : q x ≡ true = g.0 in
    let rest : list_all (λ y. p y && q y) xs ≡ true = all_pairs p q xs f.1 g.1 in
    rw (first, other, rest) refl

pub no_more_found : (ts : List Asking) → list_all (λ a. not (is_question a)) ts ≡ true → list_all (λ a. not (is_question a && is_done a)) ts ≡ true
no_more_found ts h = all_imp (λ a. not (is_question a)) (λ a. not (is_question a && is_done a)) (λ a k. none (is_question a) (is_done a) k) ts h
  where
    none : (a b : Bool) → not a ≡ true → not (a && b) ≡ true
    none true b k = apart k
    none false b k = refl

pub found_there : (there rest : List Asking) → list_all is_question there ≡ true → list_all is_done there ≡ true → list_all (λ a. not (is_question a && is_done a)) rest ≡ true
    → found (there ++ rest) ≡ length there
found_there there rest q d n = count_front (λ a. is_question a && is_done a) there rest (all_pairs is_question is_done there q d) n

-- ---- what was asked, as a whole

pub are_whole_from : (setup : Setup) (t : TaskTurn) (key : Parts) (file : List ℕ) (size m k : ℕ) (calls : List Call) (ts : List Asking) → length ts ≤ k
    → ((c : ℕ) → m ≤ c → c < m + length ts → WholeAt setup t key file size c calls)
    → are_whole setup t file (with_size file size calls) (m + 1) (chunk_parts setup key size m k) ts ≡ true
are_whole_from setup t key file size m k calls [] low w = refl
are_whole_from setup t key file size m zero calls (a ∷ ts) low w = absurd (omega arith)
are_whole_from setup t key file size m (suc k) calls (a ∷ ts) low w =
    let first : WholeAt setup t key file size m calls = w m (omega arith) (omega arith) in
    let rest : are_whole setup t file (with_size file size calls) (m + 1 + 1) (chunk_parts setup key size (m + 1) k) ts ≡ true =
    are_whole_from setup t key file size (m + 1) k calls ts (omega arith) (λ c least most. w c (omega arith) (omega arith)) in
    rw (first.copied, first.long, first.filled, rest) refl

pub are_removed_from : (setup : Setup) (t : TaskTurn) (m : ℕ) (calls : List Call) (ts : List Asking) → ((c : ℕ) → m ≤ c → c < m + length ts → is_removed (chunk_file setup t (c + 1)) calls ≡ true)
    → are_removed setup t calls (m + 1) ts ≡ true
are_removed_from setup t m calls [] r = refl
are_removed_from setup t m calls (a ∷ ts) r =
    let first : is_removed (chunk_file setup t (m + 1)) calls ≡ true = r m (omega arith) (omega arith) in
    let rest : are_removed setup t calls (m + 1 + 1) ts ≡ true = are_removed_from setup t (m + 1) calls ts (λ c least most. r c (omega arith) (omega arith)) in
    rw (first, rest) refl

pub next_of : (setup : Setup) (t : TaskTurn) (key : Parts) (file : List ℕ) (size n m k : ℕ) (calls : List Call) → (0 < k → is_copied setup t file calls n (chunk_part key size setup.chunk m) ≡ true)
    → is_next_copied setup t file calls n (chunk_parts setup key size m k) ≡ true
next_of setup t key file size n m zero calls h = refl
next_of setup t key file size n m (suc k) calls h = h (omega arith)
