-- How the askings of one layout's keys grow.
use Rattle.std.proofs.Common.{◌≡◌, ◌∙◌, ℕ, zero, suc, ◌+◌, ◌<◌, List, [], ◌∷◌, ◌++◌, length, map, refl, sym, ap, arith, append_assoc, append-nil, length-append, add-zero}
use Rattle.std.specs.Prelude.{Bool, true, false, ◌==◌, Option, Some, None, Ok, unwrap_or, if◌then◌else◌}
use Rattle.std.specs.List.{list_all, range_with_len}
use Rattle.std.specs.Int.{div_ceil}
use Rattle.std.proofs.lemmas.Grind.{div_ceil_times}
use Rattle.std.proofs.lemmas.Bool.{eq-eqb}
use Rattle.std.proofs.Common.{◌*◌, ◌≤◌}
use Rattle.std.proofs.lemmas.List.Folds.{list_all-append}
use Rattle.std.proofs.lemmas.List.FromFn.{length-map-range_with_len}
use Rattle.std.proofs.lemmas.Simd.{map-map}
use Rattle.ann_key.specs.Keys.{Parts, key_reading}
use Rattle.task_text.specs.Layouts.Layouts.{Part, count_of, chunk_part}
use Rattle.annex_model.specs.Messages.{HostMessage}
use Rattle.journal_model.specs.declared.verdict.Verdict.{Verdict}
use Rattle.task_model.specs.Askers.{Asking, KeepsRequest, AsksOne}
use Rattle.task_run.specs.declared.layouts.Query.{Query}
use Rattle.task_run.specs.declared.layouts.Query.TheVariants as Q
use Rattle.task_model.specs.Layouts.{keys_of_layout}
use Rattle.task_model.specs.Ran.{is_verdict_of}
use Rattle.task_model.specs.Requests.{AsksFor, AskInOrder}
use Rattle.task_model.specs.Stops.{is_done, is_done_at}
use Rattle.task_run.specs.Rounds.{asked_by, key_at, key_count, RoundAsks, Asked}

-- ---- the keys of a layout, by their numbers

abbrev pub keys_numbered : Parts → ℕ → List Parts
keys_numbered key chunk = map (key_at key chunk) (range_with_len 1 (key_count key.size chunk))

pub keys_are : (key : Parts) (chunk : ℕ) → keys_of_layout key chunk ≡ keys_numbered key chunk
keys_are key chunk = by_test (chunk == 0)
  where
    by_test : (t : Bool)
        → map (λ (part : Part). part.key) (if t then record { key = key; from = 0; to = unwrap_or key.size 0 } ∷ [] else map (chunk_part key (unwrap_or key.size 0) chunk) (range_with_len 1 (count_of (unwrap_or key.size 0) chunk)))
        ≡ map (λ n. if t then key else record key { chunk = Some (chunk, n) }) (range_with_len 1 (if t then 1 else count_of (unwrap_or key.size 0) chunk))
    by_test true = refl
    by_test false = map-map (λ (part : Part). part.key) (chunk_part key (unwrap_or key.size 0) chunk) (range_with_len 1 (count_of (unwrap_or key.size 0) chunk))

pub length_keys : (key : Parts) (chunk : ℕ) → length (keys_of_layout key chunk) ≡ key_count key.size chunk
length_keys key chunk = ap length (keys_are key chunk) ∙ length-map-range_with_len (key_at key chunk) 1 (key_count key.size chunk)

pub some_keys : (size : Option ℕ) (chunk : ℕ) → 0 < key_count size chunk
some_keys size chunk = by_chunk (chunk == 0) refl
  where
    by_size : (n : ℕ) (t : Bool) → (n == 0) ≡ t → 0 < chunk → 0 < (if t then 1 else div_ceil n chunk)
    by_size n true e h = omega arith
    by_size n false e h = by_count (div_ceil n chunk) (div_ceil_times n chunk h).0
      where
        some : n ≡ 0 → ⊥
        some z = let b : (n == 0) ≡ true = eq-eqb n 0 z in cc

        by_count : (d : ℕ) → n ≤ d * chunk → 0 < d
        by_count zero l = absurd (some (omega arith))
        by_count (suc d) l = omega arith

    by_chunk : (t : Bool) → (chunk == 0) ≡ t → 0 < (if t then 1 else count_of (unwrap_or size 0) chunk)
    by_chunk true e = omega arith
    by_chunk false e = by_size (unwrap_or size 0) (unwrap_or size 0 == 0) refl (positive chunk e)
      where
        positive : (c : ℕ) → (c == 0) ≡ false → 0 < c
        positive zero e = let b : true ≡ false = e in cc
        positive (suc c) e = omega arith

-- ---- one more

asks_for : (query : Query) (text : List ℕ) (key : Parts) (request : Option HostMessage) (v : Verdict) (n : ℕ) → key_reading text ≡ Some key
    → KeepsRequest (asked_by query 1 text) request v → AsksFor (asked_by query) n key (record { request = request; name = None; verdict = v })
asks_for Q.Present text key None v n e k = k
asks_for Q.Present text key (Some q) v n e k = rw k (refl, e)
asks_for Q.Remove text key None v n e k = k
asks_for Q.Remove text key (Some q) v n e k = rw k (refl, e)

-- one more is asked for the next key
order_more : (ask : ℕ → List ℕ → HostMessage) (f : ℕ → Parts) (k m count : ℕ) (round : List Asking) (a : Asking) → AskInOrder ask k (map f (range_with_len m count)) round → length round < count
    → ((n : ℕ) → AsksFor ask n (f (m + length round)) a) → AskInOrder ask k (map f (range_with_len m count)) (round ++ a ∷ [])
order_more ask f k m zero round a o l h = absurd (omega arith)
order_more ask f k m (suc count) [] a o l h = (rw (add-zero m) at (h k), tt)
order_more ask f k m (suc count) (b ∷ round) a o l h =
    let e : m + 1 + length round ≡ m + length (b ∷ round) = omega arith in
    (o.0, order_more ask f (k + 1) (m + 1) count round a o.1 (omega arith) (λ n. rw e (h n)))

all_more : (round : List Asking) (a : Asking) → list_all is_done round ≡ true → is_done a ≡ true → list_all is_done (round ++ a ∷ []) ≡ true
all_more round a h k = rw (list_all-append is_done round (a ∷ [])) (rw (h, k) refl)

pub asked_nothing : (query : Query) (pairs : List Asking) (keys : List Parts) → Asked query pairs pairs keys 0
asked_nothing query pairs keys = record { round = []; pairs_are = sym (append-nil pairs); in_order = λ n. tt; each_done = refl; so_many = refl }

module _ (query : Query) (a b c : List Asking) (key : Parts) (chunk at : ℕ) (text : List ℕ) (v : Verdict) (m : Asked query a b (keys_of_layout key chunk) at) (l : at < key_count key.size chunk)
    (r : key_reading text ≡ Some (key_at key chunk (at + 1))) (o : AsksOne b c None (asked_by query 1 text) v) where
  abbrev the_one : Asking
  the_one = record { request = o.request; name = None; verdict = v }

  pairs_more : c ≡ a ++ (m.round ++ the_one ∷ [])
  pairs_more = o.added ∙ ap (λ p. p ++ the_one ∷ []) m.pairs_are ∙ append_assoc a m.round (the_one ∷ [])

  place : 1 + length m.round ≡ at + 1
  place = omega (arith, m.so_many)

  in_order_more : (n : ℕ) → AskInOrder (asked_by query) n (keys_of_layout key chunk) (m.round ++ the_one ∷ [])
  in_order_more n =
      rw (keys_are key chunk) (order_more (asked_by query) (key_at key chunk) n 1 (key_count key.size chunk) m.round the_one (rw (keys_are key chunk) at (m.in_order n)) (omega (arith, m.so_many))
      (λ k. rw place (asks_for query text (key_at key chunk (at + 1)) o.request v k r o.kept)))

  pub asked_more : is_done_at v ≡ true → Asked query a c (keys_of_layout key chunk) (at + 1)
  asked_more d = record {
    round = m.round ++ the_one ∷ [];
    pairs_are = pairs_more;
    in_order = in_order_more;
    each_done = all_more m.round the_one m.each_done d;
    so_many = length-append m.round (the_one ∷ []) ∙ omega (arith, m.so_many);
  }

  pub asked_last : is_done_at v ≡ false → is_verdict_of (asked_by query 1 []) v ≡ true → RoundAsks query a c (keys_of_layout key chunk) (Ok (Some v))
  asked_last d k = record {
    round = m.round ++ the_one ∷ [];
    pairs_are = pairs_more;
    in_order = in_order_more;
    ends = (m.round, the_one, refl, m.each_done, refl, d, k);
  }

pub asked_all : (query : Query) (a b : List Asking) (key : Parts) (chunk at : ℕ) → Asked query a b (keys_of_layout key chunk) at → at ≡ key_count key.size chunk
    → RoundAsks query a b (keys_of_layout key chunk) (Ok None)
asked_all query a b key chunk at m e = record { round = m.round; pairs_are = m.pairs_are; in_order = m.in_order; ends = (m.each_done, m.so_many ∙ e ∙ sym (length_keys key chunk)) }
