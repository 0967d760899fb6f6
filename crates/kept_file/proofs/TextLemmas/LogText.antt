-- A line of a chunk log holds no byte 10, and is read as it was but for its stamp.
use Rattle.std.proofs.Common.{◌≡◌, ℕ, zero, suc, ◌^◌, ◌/◌, ◌<◌, ◌==◌, Bool, true, false, not, cond, List, [], ◌∷◌, ◌++◌, refl, arith}
use Rattle.std.specs.Prelude.{decimal}
use Rattle.std.proofs.lemmas.Bool.Decides.{nat_tests}
use Rattle.uuid.specs.Text.{by_index, digit_place, hex_digit, hyphenated_text, is_hyphen_place, lower, nibble}
use Rattle.ann_key.specs.Numbers.{is_digit}
use Rattle.registers.specs.Registers.{is_line}
use Rattle.task_text.specs.ChunkLog.ChunkLines.{line_text, IsWritable}
use Rattle.task_text.specs.ChunkLog.Stamps.{digit, micros_text, stamp_text}
use Rattle.task_text.specs.declared.chunk_log.line.ChunkLine.{ChunkLine}
use Rattle.task_text.specs.declared.chunk_log.stamp.Stamp.{Stamp}
use Rattle.task_text.proofs.ChunkLogLemmas.Cuts.{list_all-append, list_all-weaken}
use Rattle.task_text.proofs.ChunkLogLemmas.StampBack.{decimal_reads, Decimal}
use Rattle.ann_key.proofs.Across.{digit_fits}

abbrev no_end : ℕ → Bool
no_end b = not (b == 10)

written_fits : (n : ℕ) → not (digit n == 10) ≡ true
written_fits n = grind (arith, nat_tests)

hex_fits : (d : ℕ) → not (hex_digit lower d == 10) ≡ true
hex_fits d = grind (arith, nat_tests)

decimal_fits : (n : ℕ) → n < 2 ^ 64 → is_line (decimal n) ≡ true
decimal_fits n h = let d : Decimal n = decimal_reads n h in list_all-weaken is_digit no_end digit_fits (decimal n) d.all

index_fits : (n : ℕ) (f : ℕ → ℕ) → ((k : ℕ) → not (f k == 10) ≡ true) → is_line (by_index n f) ≡ true
unfolding by_index
index_fits zero f h = refl
index_fits (suc n) f h = let last : is_line (f n ∷ []) ≡ true = rw (h n) refl in list_all-append no_end (by_index n f) (f n ∷ []) (index_fits n f h) last

uuid_fits : (bytes : List ℕ) → is_line (hyphenated_text lower bytes) ≡ true
uuid_fits bytes = index_fits 36 (λ k. cond (is_hyphen_place k) 45 (hex_digit lower (nibble bytes (digit_place k)))) (λ k. go (is_hyphen_place k) k)
  where
    go : (b : Bool) (k : ℕ) → not (cond b 45 (hex_digit lower (nibble bytes (digit_place k))) == 10) ≡ true
    go true k = refl
    go false k = hex_fits (nibble bytes (digit_place k))

stamp_fits : (stamp : Stamp) → stamp.seconds < 2 ^ 64 → is_line (stamp_text stamp) ≡ true
stamp_fits stamp h =
    let m : ℕ = stamp.nanos / 1000 in
    let micros : is_line (micros_text m) ≡ true =
    rw (written_fits (m / 100000), written_fits (m / 10000), written_fits (m / 1000), written_fits (m / 100), written_fits (m / 10), written_fits m) refl in
    list_all-append no_end ((decimal stamp.seconds ++ 46 ∷ []) ++ micros_text m) (115 ∷ [])
    (list_all-append no_end (decimal stamp.seconds ++ 46 ∷ []) (micros_text m) (list_all-append no_end (decimal stamp.seconds) (46 ∷ []) (decimal_fits stamp.seconds h) refl) micros) refl

pub log_fits : (line : ChunkLine) → IsWritable line → line.stamp.seconds < 2 ^ 64 → line.chunk < 2 ^ 64 → line.count < 2 ^ 64 → is_line (line_text line) ≡ true
log_fits line writable seconds chunk count =
    let S : List ℕ = stamp_text line.stamp in
    let uuid : is_line line.uuid ≡ true = rw writable.uuid.2 (uuid_fits writable.uuid.0) in
    list_all-append no_end ((((S ++ 32 ∷ []) ++ line.uuid) ++ 58 ∷ []) ++ decimal line.chunk ++ 32 ∷ []) (decimal line.count)
    (list_all-append no_end ((((S ++ 32 ∷ []) ++ line.uuid) ++ 58 ∷ []) ++ decimal line.chunk) (32 ∷ [])
    (list_all-append no_end (((S ++ 32 ∷ []) ++ line.uuid) ++ 58 ∷ []) (decimal line.chunk)
    (list_all-append no_end ((S ++ 32 ∷ []) ++ line.uuid) (58 ∷ [])
    (list_all-append no_end (S ++ 32 ∷ []) line.uuid (list_all-append no_end S (32 ∷ []) (stamp_fits line.stamp seconds) refl) uuid) refl)
    (decimal_fits line.chunk chunk)) refl) (decimal_fits line.count count)
