-- What a Checker has taken in.
use Rattle.std.specs.Prelude.{ℕ, ◌≡◌, ◌≢◌, Bool, List, length, Option, Some, None}
use Rattle.ann_key.specs.Keys.{Parts}
use Rattle.ann_key.specs.KeyRefs.{parts_of}
use Rattle.ann_digest.specs.HashKinds.{naming_backend}
use Rattle.ann_digest.specs.Hashers.{running, Hashes}
use Rattle.ann_digest.specs.declared.checker.Checker.{Checker}
use Rattle.ann_digest.specs.declared.hasher.Hasher.{Hasher}
use Rattle.ann_digest.specs.declared.hash_kind.Naming.{Naming}

-- how many bytes it has taken in
abbrev pub taken_of : Checker → ℕ
taken_of checker = checker.taken

-- the hash that the backend asks for holds the bytes; where none runs, the backend asks for none
abbrev pub IsHashing : Option Hasher → Bool → List ℕ → List ℕ → Type 0
IsHashing None extended backend bytes = (naming : Naming) → backend ≢ naming_backend naming
IsHashing (Some hasher) extended backend bytes = (backend ≡ naming_backend (record { kind = running hasher; extended = extended })) × Hashes hasher bytes

-- the checker checks this key, and has taken in these bytes
pub record Holds (checker : Checker) (key : Parts) (bytes : List ℕ) : Type 0 where
  pub key_is : parts_of checker.key ≡ key
  pub length_is : taken_of checker ≡ length bytes
  pub hashing : IsHashing checker.hasher checker.extended key.backend bytes
