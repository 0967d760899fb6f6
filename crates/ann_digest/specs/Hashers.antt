-- What a running hash holds.
use Rattle.std.specs.Prelude.{ℕ, List}
use Rattle.md5.specs.Md5 as M
use Rattle.sha1.specs.Sha1 as S
use Rattle.sha2.specs.Hashers.{Holds224, Holds256, Holds384, Holds512}
use Rattle.ann_digest.specs.declared.hash_kind.HashKind.{HashKind}
use Rattle.ann_digest.specs.declared.hash_kind.HashKind.TheVariants as K
use Rattle.ann_digest.specs.declared.hasher.Hasher.{Hasher}
use Rattle.ann_digest.specs.declared.hasher.Hasher.TheVariants.{Md5, Sha1, Sha224, Sha256, Sha384, Sha512}

-- the hash function that runs
abbrev pub running : Hasher → HashKind
running (Md5 hash) = K.Md5
running (Sha1 hash) = K.Sha1
running (Sha224 hash) = K.Sha224
running (Sha256 hash) = K.Sha256
running (Sha384 hash) = K.Sha384
running (Sha512 hash) = K.Sha512

-- the bytes that it has taken in
abbrev pub Hashes : Hasher → List ℕ → Type 0
Hashes (Md5 hash) bytes = M.Holds hash bytes
Hashes (Sha1 hash) bytes = S.Holds hash bytes
Hashes (Sha224 hash) bytes = Holds224 hash bytes
Hashes (Sha256 hash) bytes = Holds256 hash bytes
Hashes (Sha384 hash) bytes = Holds384 hash bytes
Hashes (Sha512 hash) bytes = Holds512 hash bytes
