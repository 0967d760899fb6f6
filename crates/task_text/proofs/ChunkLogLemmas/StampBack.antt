-- A stamp is read back from its text.
use Rattle.std.proofs.Common.{◌≡◌, ℕ, ◌+◌, ◌-◌, ◌*◌, ◌/◌, ◌%◌, ◌^◌, ◌<◌, true, not, List, [], ◌∷◌, ◌++◌, length, take, drop, replicate, Option, Some, refl, ap, ◌∙◌, append_assoc, length-append, lit<, arith}
use Rattle.std.specs.Prelude.{◌==◌, ◌&&◌, ◌||◌, nat_le, nat_lt, slice_index, decimal}
use Rattle.std.specs.List.{list_all, position_or_len}
use Rattle.std.proofs.Math.Seq.{get_or-append_seam}
use Rattle.std.proofs.Math.Nat.{div-div-eq-div-mul}
use Rattle.std.proofs.lemmas.Bool.{and_parts}
use Rattle.std.proofs.lemmas.Bool.Decides.{nat_tests}
use Rattle.std.proofs.lemmas.List.{drop_at, take_at}
use Rattle.ann_key.proofs.Unique.{decimal_is_numeral}
use Rattle.ann_key.specs.Numbers.{is_digit, is_number, value_of}
use Rattle.task_text.specs.ChunkLog.LogLaws.{cut}
use Rattle.task_text.specs.ChunkLog.Stamps.{digit, is_dot, micros_text, nanos_in, seconds_in, stamp_from, stamp_in, stamp_in_body, stamp_text}
use Rattle.task_text.specs.declared.chunk_log.stamp.Stamp.{Stamp}
use Rattle.task_text.proofs.ChunkLogLemmas.Cuts.{list_all-weaken, prefix_len-front}

pub record Decimal (n : ℕ) : Type 0 where
  pub long : nat_le 1 (length (decimal n)) ≡ true
  pub all : list_all is_digit (decimal n) ≡ true
  pub small : nat_lt (value_of (decimal n)) (2 ^ 64) ≡ true
  pub value : value_of (decimal n) ≡ n
  pub number : is_number (decimal n) ≡ true

pub decimal_reads : (n : ℕ) → n < 2 ^ 64 → Decimal n
decimal_reads n h =
    let is = decimal_is_numeral n h in
    let whole = and_parts (is_number (decimal n)) (length (decimal n) == 1 || not (slice_index (decimal n) 0 == 48)) is.form in
    let last = and_parts (nat_le 1 (length (decimal n)) && nat_le (length (decimal n)) 20 && list_all is_digit (decimal n)) (nat_lt (value_of (decimal n)) (2 ^ 64)) whole.0 in
    let next = and_parts (nat_le 1 (length (decimal n)) && nat_le (length (decimal n)) 20) (list_all is_digit (decimal n)) last.0 in
    let first = and_parts (nat_le 1 (length (decimal n))) (nat_le (length (decimal n)) 20) next.0 in
    record { long = first.0; all = next.1; small = last.1; value = is.value; number = whole.0 }

ends : (body : List ℕ) → stamp_in (body ++ 115 ∷ []) ≡ stamp_in_body body
ends body =
    let long : length (body ++ 115 ∷ []) ≡ length body + 1 = length-append body (115 ∷ []) in
    let some : nat_le 1 (length body + 1) ≡ true = grind (arith, nat_tests) in
    let n : length body + 1 - 1 ≡ length body = omega arith in
    let at : slice_index (body ++ 115 ∷ []) (length body) ≡ 115 = get_or-append_seam body 115 [] 0 in
    let front : take (length body) (body ++ 115 ∷ []) ≡ body = take_at body (115 ∷ []) (length body) refl in
    rw (long, some, n, at, front) refl

no_dot : (x : ℕ) → is_digit x ≡ true → not (is_dot x) ≡ true
no_dot x h = grind (arith, nat_tests)

pub digit_is : (x : ℕ) → is_digit (digit x) ≡ true
digit_is x = grind (arith, nat_tests)

six : (m : ℕ) → list_all is_digit (micros_text m) ≡ true
six m = rw (digit_is (m / 100000), digit_is (m / 10000), digit_is (m / 1000), digit_is (m / 100), digit_is (m / 10), digit_is m) refl

digit_value : (x : ℕ) → digit x - 48 ≡ x % 10
digit_value x = omega arith

-- one digit more
shift : (m k : ℕ) → 0 < k → 10 * (m / (k * 10)) + m / k % 10 ≡ m / k
shift m k h =
    let e : m / k / 10 ≡ m / (k * 10) = div-div-eq-div-mul m k 10 in
    rw (← e) (omega arith)

digits_worth : (m : ℕ) → m < 1000000
    → 10 * (10 * (10 * (10 * (10 * (0 + m / 100000 % 10) + m / 10000 % 10) + m / 1000 % 10) + m / 100 % 10) + m / 10 % 10) + m % 10 ≡ m
digits_worth m h =
    let a : m / 100000 % 10 ≡ m / 100000 = omega arith in
    let b : 10 * (m / 100000) + m / 10000 % 10 ≡ m / 10000 = shift m 10000 (lit< tt) in
    let c : 10 * (m / 10000) + m / 1000 % 10 ≡ m / 1000 = shift m 1000 (lit< tt) in
    let d : 10 * (m / 1000) + m / 100 % 10 ≡ m / 100 = shift m 100 (lit< tt) in
    let e : 10 * (m / 100) + m / 10 % 10 ≡ m / 10 = shift m 10 (lit< tt) in
    omega arith

worth : (n : ℕ) → n < 1000000000 → value_of (micros_text (n / 1000) ++ replicate 3 48) ≡ n - n % 1000
worth n h =
    let m : ℕ = n / 1000 in
    let small : n / 1000 < 1000000 = omega arith in
    let all = digits_worth (n / 1000) small in
    rw (digit_value (m / 100000), digit_value (m / 10000), digit_value (m / 1000), digit_value (m / 100), digit_value (m / 10), digit_value m, all) (omega arith)

fraction_back : (n : ℕ) → n < 1000000000 → nanos_in (46 ∷ micros_text (n / 1000)) ≡ Some (n - n % 1000)
fraction_back n h = let all : list_all is_digit (micros_text (n / 1000)) ≡ true = six (n / 1000) in rw all (ap (λ (v : ℕ). Some v) (worth n h))

seconds_back : (n : ℕ) → n < 2 ^ 64 → seconds_in (decimal n) ≡ Some n
seconds_back n h = let d : Decimal n = decimal_reads n h in rw (d.long, d.all, d.small, d.value) refl

pub stamp_back : (stamp : Stamp) → stamp.seconds < 2 ^ 64 → stamp.nanos < 1000000000 → stamp_in (stamp_text stamp) ≡ Some (cut stamp)
stamp_back stamp small few =
    let D : List ℕ = decimal stamp.seconds in
    let M : List ℕ = micros_text (stamp.nanos / 1000) in
    let d : Decimal stamp.seconds = decimal_reads stamp.seconds small in
    let clear : list_all (λ x. not (is_dot x)) (decimal stamp.seconds) ≡ true = list_all-weaken is_digit (λ x. not (is_dot x)) no_dot (decimal stamp.seconds) d.all in
    let body : (D ++ 46 ∷ []) ++ M ≡ D ++ 46 ∷ M = append_assoc D (46 ∷ []) M in
    let at : position_or_len is_dot (D ++ 46 ∷ M) ≡ length D = prefix_len-front (λ x. not (is_dot x)) D 46 M clear refl in
    let seconds : seconds_in (take (length D) (D ++ 46 ∷ M)) ≡ Some stamp.seconds = ap seconds_in (take_at D (46 ∷ M) (length D) refl) ∙ seconds_back stamp.seconds small in
    let nanos : nanos_in (drop (length D) (D ++ 46 ∷ M)) ≡ Some (stamp.nanos - stamp.nanos % 1000) = ap nanos_in (drop_at D (46 ∷ M) (length D) refl) ∙ fraction_back stamp.nanos few in
    ends ((D ++ 46 ∷ []) ++ M) ∙ ap stamp_in_body body
    ∙ ap (λ (n : ℕ). stamp_from (seconds_in (take n (D ++ 46 ∷ M))) (nanos_in (drop n (D ++ 46 ∷ M)))) at
    ∙ ap (λ (o : Option ℕ). stamp_from o (nanos_in (drop (length D) (D ++ 46 ∷ M)))) seconds
    ∙ ap (λ (o : Option ℕ). stamp_from (Some stamp.seconds) o) nanos
