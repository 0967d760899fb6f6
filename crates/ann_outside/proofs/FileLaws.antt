-- What taking a file away and putting it back does to the files.
use Rattle.std.proofs.Common.{◌≡◌, ◌∙◌, ℕ, List, [], ◌∷◌, ◌++◌, refl, ap, sym, zero, suc}
use Rattle.std.specs.Prelude.{Bool, true, false, bytes_eq, slice_get, remove, Some, None, if◌then◌else◌}
use Rattle.ann_outside.specs.Files.{Files, content}
use Rattle.ann_key.proofs.Lists.{other_name, same_name}

-- a file of another name stays where one is taken out
pub content-remove : (other : List ℕ) (files : Files) (at : ℕ) (file : List ℕ × List ℕ) → slice_get files at ≡ Some file → (other ≡ file.0 → ⊥)
    → content other (remove files at) ≡ content other files
content-remove other [] at file is d = cc
content-remove other (f ∷ files) zero file is d =
    let same : f ≡ file = cc in
    let away : bytes_eq f.0 other ≡ false = other_name f.0 other (λ e. d (sym e ∙ ap (λ (x : List ℕ × List ℕ). x.0) same)) in
    rw away refl
content-remove other (f ∷ files) (suc at) file is d =
    ap (λ c. if bytes_eq f.0 other then Some f.1 else c) (content-remove other files at file is d)

pub content-snoc : (name bytes : List ℕ) (files : Files) → content name files ≡ None → content name (files ++ (name, bytes) ∷ []) ≡ Some bytes
content-snoc name bytes [] h = rw (same_name name) refl
content-snoc name bytes (f ∷ files) h = by_test (bytes_eq f.0 name) h (content-snoc name bytes files)
  where
    by_test : (t : Bool) → (if t then Some f.1 else content name files) ≡ None → (content name files ≡ None → content name (files ++ (name, bytes) ∷ []) ≡ Some bytes)
        → (if t then Some f.1 else content name (files ++ (name, bytes) ∷ [])) ≡ Some bytes
    by_test true e k = cc
    by_test false e k = k e

pub others-snoc : (name bytes other : List ℕ) (files : Files) → (other ≡ name → ⊥) → content other (files ++ (name, bytes) ∷ []) ≡ content other files
others-snoc name bytes other [] d = rw (other_name name other (λ e. d (sym e))) refl
others-snoc name bytes other (f ∷ files) d = ap (λ c. if bytes_eq f.0 other then Some f.1 else c) (others-snoc name bytes other files d)
