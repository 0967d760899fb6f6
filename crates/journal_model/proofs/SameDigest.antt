-- A digest is known by its bytes and its length: what it has beside them are proofs.
use Rattle.std.proofs.Common.{◌≡◌, ◌≤◌, ◌<◌, ℕ, List, slice_index}
use mathlib.Core.Path.{subst₂}
use Rattle.std.proofs.Math.Bridge.{le_prop}
use Rattle.std.proofs.Math.Nat.{ℕ_set}
use Rattle.ann_digest.specs.declared.digest.Digest.{Digest}

abbrev IsBlank : List ℕ → ℕ → Type 0
IsBlank bytes len = (k : ℕ) → len ≤ k → k < 64 → slice_index bytes k ≡ 0

abbrev made : (bytes : List ℕ) (len : ℕ) → len ≤ 64 → IsBlank bytes len → Digest
made bytes len short blank = record { bytes = bytes; len = len; short = short; blank = blank }

blank_prop : (bytes : List ℕ) (len : ℕ) (b d : IsBlank bytes len) → b ≡ d
blank_prop bytes len = hlevel (ℕ_set)

same_made : (x y : List ℕ) (m n : ℕ) (s : m ≤ 64) (b : IsBlank x m) (t : n ≤ 64) (d : IsBlank y n) → x ≡ y → m ≡ n → made x m s b ≡ made y n t d
same_made x y m n s b t d e f =
    subst₂ (λ (z : List ℕ) (k : ℕ). (u : k ≤ 64) (v : IsBlank z k) → made x m s b ≡ made z k u v) e f (λ u v. λ i. made x m (le_prop s u i) (blank_prop x m b v i)) t d

pub same_digest : (a b : Digest) → a.bytes ≡ b.bytes → a.len ≡ b.len → a ≡ b
same_digest a b e f = same_made a.bytes b.bytes a.len b.len a.short a.blank b.short b.blank e f
