-- Digests in lower-case hex.
use Rattle.std.specs.Prelude.{ℕ, ◌≡◌, ◌≤◌, List, ◌++◌, Option, Some, None, Result, Ok, Err, length, take, drop, replicate, nat_le, if◌then◌else◌}
use Rattle.std.proofs.Common.{subst, sym}
use Rattle.std.proofs.Math.Nat.{min-le_left}
use Rattle.std.proofs.lemmas.List.{length-take}
use Rattle.hex.specs.Hex.{decode_of, IsBytes}
use Rattle.hex.specs.declared.error.FromHexError.{FromHexError}
use Rattle.ann_digest.specs.Digests.{digest_bytes}
use Rattle.ann_digest.specs.declared.digest.Digest.{Digest}
use Rattle.ann_digest.proofs.Zeros.{get_or-zeros}

-- these bytes, which are at most 64, and zeros after them
abbrev pub padded : List ℕ → List ℕ
padded given = given ++ drop (length given) (replicate 64 0)

abbrev pub few : (given : List ℕ) → length (take 64 given) ≤ 64
few given = subst (λ n. n ≤ 64) (sym (length-take 64 given)) (min-le_left 64 (length given))

-- the digest of the first 64 of the bytes
abbrev pub digest_of : List ℕ → Digest
digest_of given = record { bytes = padded (take 64 given); len = length (take 64 given); short = few given; blank = get_or-zeros (take 64 given) }

-- a digest's room is 64 bytes, and bytes it is of
pub record IsDigest (digest : Digest) : Type 0 where
  pub whole : length digest.bytes ≡ 64
  pub bytes : IsBytes (digest_bytes digest)

-- ---- reading

abbrev pub digest_from : Result (List ℕ) FromHexError → Option Digest
digest_from (Ok given) = if nat_le (length given) 64 then Some (digest_of given) else None
digest_from (Err e) = None

abbrev pub digest_at : List ℕ → Option Digest
digest_at text = digest_from (decode_of text)
