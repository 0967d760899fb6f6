-- What a checker says at its end.
use Rattle.std.proofs.Common.{◌≡◌, ◌↔◌, ℕ, List, length, Option, Some, refl, sym, ap, subst, ◌∙◌}
use Rattle.hex.specs.Hex.{encode_lower}
use Rattle.ann_key.specs.Keys.{Parts}
use Rattle.ann_key.specs.KeyRefs.{parts_of}
use Rattle.ann_digest.specs.Checkers.{Holds, IsHashing}
use Rattle.ann_digest.specs.Digests.{digest_bytes}
use Rattle.ann_digest.specs.Fits.{FitsKey, HasSize, IsSaidOf, IsTold}
use Rattle.ann_digest.specs.HashKinds.{digest_by, naming_backend, IsNamed}
use Rattle.ann_digest.specs.Hashers.{running, Hashes}
use Rattle.ann_digest.specs.declared.checker.Checker.{Checker}
use Rattle.ann_digest.specs.declared.digest.Digest.{Digest}
use Rattle.ann_digest.specs.declared.fit.Fit.{Fit}
use Rattle.ann_digest.specs.declared.fit.Fit.TheVariants.{Fits, Size, Hash}
use Rattle.ann_digest.specs.declared.hasher.Hasher.{Hasher}
use Rattle.ann_digest.specs.declared.hash_kind.Naming.{Naming}
use Rattle.ann_digest.proofs.Namings.{naming_backend-injective}

pub told : (key : Parts) (bytes : List ℕ) (digest : Digest) (naming : Naming) (fit : Fit) → HasSize key.size (length bytes)
    → key.backend ≡ naming_backend naming → digest_bytes digest ≡ digest_by naming.kind bytes
    → IsTold naming.extended key.name digest fit → IsSaidOf key bytes fit
told key bytes digest naming Fits size named is h =
    record {
      size = size;
      name = λ other e.
          let same : naming ≡ other = naming_backend-injective naming other (sym named ∙ e) in
          let text : IsNamed naming.extended (encode_lower (digest_by naming.kind bytes)) key.name = rw (← is) h in
          subst (λ (n : Naming). IsNamed n.extended (encode_lower (digest_by n.kind bytes)) key.name) same text;
    }
told key bytes digest naming (Size n) size named is h = absurd h
told key bytes digest naming (Hash other) size named is h = (
  size,
  λ fits. h.1 (let text : IsNamed naming.extended (encode_lower (digest_by naming.kind bytes)) key.name = fits.name naming named in rw is text),
  record { naming = naming; named = named; bytes = ap digest_bytes h.0 ∙ is },
)

pub said_of_hash : (checker : Checker) (hasher : Hasher) (key : Parts) (bytes : List ℕ) (digest : Digest) (fit : Fit)
    → Holds checker key bytes → checker.hasher ≡ Some hasher → HasSize (parts_of checker.key).size checker.taken
    → ((m : List ℕ) → Hashes hasher m → digest_bytes digest ≡ digest_by (running hasher) m)
    → IsTold checker.extended (parts_of checker.key).name digest fit → IsSaidOf key bytes fit
said_of_hash checker hasher key bytes digest fit holds is size hashed h =
    let hashing : IsHashing (Some hasher) checker.extended key.backend bytes = subst (λ (o : Option Hasher). IsHashing o checker.extended key.backend bytes) is holds.hashing in
    let long : HasSize (parts_of checker.key).size (length bytes) = subst (HasSize (parts_of checker.key).size) holds.length_is size in
    let sized : HasSize key.size (length bytes) = subst (λ (k : Parts). HasSize k.size (length bytes)) holds.key_is long in
    let named : IsTold checker.extended key.name digest fit = subst (λ (k : Parts). IsTold checker.extended k.name digest fit) holds.key_is h in
    told key bytes digest (record { kind = running hasher; extended = checker.extended }) fit sized hashing.0 (hashed bytes hashing.1) named

pub fits_exactly : (key : Parts) (bytes : List ℕ) (fit : Fit) → IsSaidOf key bytes fit → (fit ≡ Fits) ↔ FitsKey key bytes
fits_exactly key bytes Fits said = (λ e. said, λ h. refl)
fits_exactly key bytes (Size n) said = (
  λ e. absurd cc,
  λ h. absurd (said.1 (subst (HasSize key.size) (sym said.0) h.size)),
)
fits_exactly key bytes (Hash digest) said = (λ e. absurd cc, λ h. absurd (said.1 h))
