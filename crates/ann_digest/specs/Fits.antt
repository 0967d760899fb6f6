-- What content fits a key.
use Rattle.std.specs.Prelude.{ℕ, ◌≡◌, Bool, List, length, Option, Some, None}
use Rattle.hex.specs.Hex.{encode_lower}
use Rattle.ann_key.specs.Keys.{Parts}
use Rattle.ann_digest.specs.Digests.{digest_bytes, digest_text}
use Rattle.ann_digest.specs.HashKinds.{digest_by, naming_backend, IsNamed}
use Rattle.ann_digest.specs.declared.digest.Digest.{Digest}
use Rattle.ann_digest.specs.declared.fit.Fit.{Fit}
use Rattle.ann_digest.specs.declared.fit.Fit.TheVariants.{Fits, Size, Hash}
use Rattle.ann_digest.specs.declared.hash_kind.Naming.{Naming}

-- the number of bytes is the size that the key says, where it says one
abbrev pub HasSize : Option ℕ → ℕ → Type 0
HasSize None n = Unit {0}
HasSize (Some size) n = n ≡ size

-- content fits a key: it has the key's size, and where the backend names keys by a digest, the name is made of the digest of the content
pub record FitsKey (key : Parts) (content : List ℕ) : Type 0 where
  pub size : HasSize key.size (length content)
  pub name : (naming : Naming) → key.backend ≡ naming_backend naming → IsNamed naming.extended (encode_lower (digest_by naming.kind content)) key.name

-- the digest of the content, by the hash function that the backend names
pub record IsDigestFor (backend content : List ℕ) (digest : Digest) : Type 0 where
  pub naming : Naming
  pub named : backend ≡ naming_backend naming
  pub bytes : digest_bytes digest ≡ digest_by naming.kind content

-- what is said of content: it fits; or its size is another, and here is its length; or its digest is another, and here it is
abbrev pub IsSaidOf : Parts → List ℕ → Fit → Type 0
IsSaidOf key content Fits = FitsKey key content
IsSaidOf key content (Size n) = (n ≡ length content) × ¬ HasSize key.size n
IsSaidOf key content (Hash digest) = HasSize key.size (length content) × ¬ FitsKey key content × IsDigestFor key.backend content digest

-- what a digest says of a name
abbrev pub IsTold : Bool → List ℕ → Digest → Fit → Type 0
IsTold extended name digest Fits = IsNamed extended (digest_text digest) name
IsTold extended name digest (Size n) = ⊥
IsTold extended name digest (Hash other) = (other ≡ digest) × ¬ IsNamed extended (digest_text digest) name
