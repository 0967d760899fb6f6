-- A line is read back from its text.
use Rattle.std.proofs.Common.{◌≡◌, ℕ, zero, suc, ◌^◌, ◌/◌, ◌<◌, Bool, true, false, not, cond, List, [], ◌∷◌, ◌++◌, Option, Some, refl, ap, ◌∙◌, append_assoc, arith}
use Rattle.std.specs.Prelude.{◌==◌, decimal}
use Rattle.std.specs.List.{list_all, list_any, before_first, after_first, after_last}
use Rattle.std.proofs.lemmas.Bool.{ne_eqb}
use Rattle.std.proofs.lemmas.Bool.Decides.{nat_tests}
use Rattle.uuid.specs.Text.{by_index, digit_place, hex_digit, hyphenated_text, is_hyphen_place, lower, nibble, parsed}
use Rattle.ann_key.specs.Numbers.{is_digit, number_of}
use Rattle.task_text.specs.ChunkLog.ChunkLines.{counts_from, counts_in, is_colon, is_space, line_text, uuid_in}
use Rattle.task_text.specs.ChunkLog.LogLaws.{ReadsBack}
use Rattle.task_text.specs.ChunkLog.Stamps.{digit, micros_text, stamp_in, stamp_text}
use Rattle.task_text.specs.declared.chunk_log.stamp.Stamp.{Stamp}
use Rattle.task_text.proofs.ChunkLogLemmas.Cuts.{after_first-at, after_last-at, before_first-at, before_last-at, list_all-append, list_all-weaken, list_any-at}
use Rattle.task_text.proofs.ChunkLogLemmas.StampBack.{decimal_reads, stamp_back, Decimal}
use Rattle.ann_key.proofs.Across.{digit_no_space}

digit_no_colon : (x : ℕ) → is_digit x ≡ true → not (is_colon x) ≡ true
digit_no_colon x h = grind (arith, nat_tests)

all_by_index : (p : ℕ → Bool) (n : ℕ) (f : ℕ → ℕ) → ((k : ℕ) → p (f k) ≡ true) → list_all p (by_index n f) ≡ true
unfolding by_index
all_by_index p zero f h = refl
all_by_index p (suc n) f h = let last : list_all p (f n ∷ []) ≡ true = rw (h n) refl in list_all-append p (by_index n f) (f n ∷ []) (all_by_index p n f h) last

hex_no_space : (d : ℕ) → not (is_space (hex_digit lower d)) ≡ true
hex_no_space d = grind (arith, nat_tests)

uuid_no_space : (bytes : List ℕ) → list_all (λ x. not (is_space x)) (hyphenated_text lower bytes) ≡ true
uuid_no_space bytes = all_by_index (λ x. not (is_space x)) 36 (λ k. cond (is_hyphen_place k) 45 (hex_digit lower (nibble bytes (digit_place k)))) (λ k. go (is_hyphen_place k) k)
  where
    go : (b : Bool) (k : ℕ) → not (is_space (cond b 45 (hex_digit lower (nibble bytes (digit_place k))))) ≡ true
    go true k = refl
    go false k = hex_no_space (nibble bytes (digit_place k))

decimal_no_space : (n : ℕ) → n < 2 ^ 64 → list_all (λ x. not (is_space x)) (decimal n) ≡ true
decimal_no_space n h = let d : Decimal n = decimal_reads n h in list_all-weaken is_digit (λ x. not (is_space x)) digit_no_space (decimal n) d.all

decimal_no_colon : (n : ℕ) → n < 2 ^ 64 → list_all (λ x. not (is_colon x)) (decimal n) ≡ true
decimal_no_colon n h = let d : Decimal n = decimal_reads n h in list_all-weaken is_digit (λ x. not (is_colon x)) digit_no_colon (decimal n) d.all

written_no_space : (x : ℕ) → not (is_space (digit x)) ≡ true
written_no_space x = grind (arith, nat_tests)

stamp_no_space : (stamp : Stamp) → stamp.seconds < 2 ^ 64 → list_all (λ x. not (is_space x)) (stamp_text stamp) ≡ true
stamp_no_space stamp h =
    let p : ℕ → Bool = λ x. not (is_space x) in
    let m : ℕ = stamp.nanos / 1000 in
    let micros : list_all (λ x. not (is_space x)) (micros_text m) ≡ true =
    rw (written_no_space (m / 100000), written_no_space (m / 10000), written_no_space (m / 1000), written_no_space (m / 100), written_no_space (m / 10), written_no_space m) refl in
    list_all-append p ((decimal stamp.seconds ++ 46 ∷ []) ++ micros_text m) (115 ∷ [])
    (list_all-append p (decimal stamp.seconds ++ 46 ∷ []) (micros_text m) (list_all-append p (decimal stamp.seconds) (46 ∷ []) (decimal_no_space stamp.seconds h) refl) micros) refl

pub number_back : (n : ℕ) → n < 2 ^ 64 → number_of (decimal n) ≡ Some n
number_back n h = let d : Decimal n = decimal_reads n h in rw (d.number, d.value) refl

counts_back : (chunk count : ℕ) → 0 < chunk → counts_from (Some chunk) (Some count) ≡ Some (chunk, count)
counts_back chunk count h = let some : (chunk == 0) ≡ false = ne_eqb chunk 0 (λ e. omega arith) in rw some refl

pub reads_back : ReadsBack
reads_back line writable seconds chunk count =
    let S : List ℕ = stamp_text line.stamp in
    let U : List ℕ = line.uuid in
    let C : List ℕ = decimal line.chunk in
    let N : List ℕ = decimal line.count in
    let whole : line_text line ≡ S ++ 32 ∷ ((U ++ 58 ∷ C) ++ 32 ∷ N) = simp append_assoc in
    let clear : list_all (λ x. not (is_space x)) U ≡ true = rw writable.uuid.2 (uuid_no_space writable.uuid.0) in
    let word_clear : list_all (λ x. not (is_space x)) (U ++ 58 ∷ C) ≡ true =
    list_all-append (λ x. not (is_space x)) U (58 ∷ C) clear (decimal_no_space line.chunk chunk) in
    let first : before_first is_space (line_text line) ≡ S = ap (before_first is_space) whole ∙ before_first-at is_space S 32 ((U ++ 58 ∷ C) ++ 32 ∷ N) (stamp_no_space line.stamp seconds) refl in
    let behind : after_first is_space (line_text line) ≡ (U ++ 58 ∷ C) ++ 32 ∷ N = ap (after_first is_space) whole ∙ after_first-at is_space S 32 ((U ++ 58 ∷ C) ++ 32 ∷ N) (stamp_no_space line.stamp seconds) refl in
    let word : before_first is_space (after_first is_space (line_text line)) ≡ U ++ 58 ∷ C = ap (before_first is_space) behind ∙ before_first-at is_space (U ++ 58 ∷ C) 32 N word_clear refl in
    let rest : after_first is_space (after_first is_space (line_text line)) ≡ N = ap (after_first is_space) behind ∙ after_first-at is_space (U ++ 58 ∷ C) 32 N word_clear refl in
    let colon : list_any is_colon (U ++ 58 ∷ C) ≡ true = list_any-at is_colon U 58 C refl in
    let uuid : uuid_in (U ++ 58 ∷ C) ≡ Some writable.uuid.0 = rw colon (ap parsed (before_last-at is_colon U 58 C (decimal_no_colon line.chunk chunk) refl) ∙ writable.uuid.1) in
    let size : number_of (after_last is_colon (U ++ 58 ∷ C)) ≡ Some line.chunk = ap number_of (after_last-at is_colon U 58 C (decimal_no_colon line.chunk chunk) refl) ∙ number_back line.chunk chunk in
    let counts : counts_in (U ++ 58 ∷ C) N ≡ Some (line.chunk, line.count) =
    ap (λ (o : Option ℕ). counts_from o (number_of N)) size ∙ ap (λ (o : Option ℕ). counts_from (Some line.chunk) o) (number_back line.count count) ∙ counts_back line.chunk line.count writable.chunk in
    record {
      bytes = writable.uuid.0;
      stamp = ap stamp_in first ∙ stamp_back line.stamp seconds writable.nanos;
      uuid = ap uuid_in word ∙ uuid;
      written = writable.uuid.2;
      counts = ap (λ (w : List ℕ). counts_in w (after_first is_space (after_first is_space (line_text line)))) word ∙ ap (counts_in (U ++ 58 ∷ C)) rest ∙ counts;
    }
