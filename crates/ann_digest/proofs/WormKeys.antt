-- The keys of backend WORM.
use Rattle.std.proofs.Common.{◌≡◌, refl, subst, ℕ, List, [], ◌∷◌, ◌++◌}
use Rattle.std.specs.Prelude.{◌==◌, codes, Bool, true, false, IsTrue, if◌then◌else◌, slice_index}
use Rattle.ann_digest.specs.declared.hash_kind.HashKind.{HashKind}
use Rattle.ann_digest.specs.declared.hash_kind.HashKind.TheVariants.{Md5, Sha1, Sha224, Sha256, Sha384, Sha512}
use Rattle.ann_digest.specs.HashKinds.{backend_of}

-- WORM names no digest
pub no_digest : (kind : HashKind) (extended : Bool) → codes "WORM" ≡ backend_of kind ++ (if extended then codes "E" else []) → ⊥
no_digest Md5 extended e = let P : List ℕ → Type 0 = λ l. IsTrue (slice_index l 0 == 87) in let h : false ≡ true = subst P e refl in cc
no_digest Sha1 extended e = let P : List ℕ → Type 0 = λ l. IsTrue (slice_index l 0 == 87) in let h : false ≡ true = subst P e refl in cc
no_digest Sha224 extended e = let P : List ℕ → Type 0 = λ l. IsTrue (slice_index l 0 == 87) in let h : false ≡ true = subst P e refl in cc
no_digest Sha256 extended e = let P : List ℕ → Type 0 = λ l. IsTrue (slice_index l 0 == 87) in let h : false ≡ true = subst P e refl in cc
no_digest Sha384 extended e = let P : List ℕ → Type 0 = λ l. IsTrue (slice_index l 0 == 87) in let h : false ≡ true = subst P e refl in cc
no_digest Sha512 extended e = let P : List ℕ → Type 0 = λ l. IsTrue (slice_index l 0 == 87) in let h : false ≡ true = subst P e refl in cc
