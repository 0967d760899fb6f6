-- What a Digest says.
use Rattle.std.specs.Prelude.{ℕ, List, take}
use Rattle.hex.specs.Hex.{encode_lower}
use Rattle.ann_digest.specs.declared.digest.Digest.{Digest}

-- the bytes that a hash function gave
abbrev pub digest_bytes : Digest → List ℕ
digest_bytes digest = take digest.len digest.bytes

-- two lower-case hex digits for each of them
abbrev pub digest_text : Digest → List ℕ
digest_text digest = encode_lower (digest_bytes digest)
