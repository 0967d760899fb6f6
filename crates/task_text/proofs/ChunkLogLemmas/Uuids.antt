-- Texts of UUIDs.
use Rattle.std.proofs.Common.{◌≡◌, ℕ, List, ◌∷◌, length, replicate, refl, sym, ap, subst, true, false}
use Rattle.std.specs.Prelude.{◌==◌, codes, slice_index}
use Rattle.uuid.specs.Text.{by_index, hyphenated_text, lower}
use Rattle.task_text.specs.ChunkLog.ChunkLines.{IsWrittenUuid}

pub nil_written : IsWrittenUuid (codes "00000000-0000-0000-0000-000000000000")
unfolding by_index
nil_written = (replicate 16 0, refl, refl)

pub upper_not_written : IsWrittenUuid (codes "A0000000-0000-0000-0000-000000000000") → ⊥
unfolding by_index
upper_not_written (bytes, read, written) =
    let is : 160 ∷ replicate 15 0 ≡ bytes = cc in
    let first : 65 ≡ 97 =
    ap (λ (l : List ℕ). slice_index l 0) (subst (λ (b : List ℕ). codes "A0000000-0000-0000-0000-000000000000" ≡ hyphenated_text lower b) (sym is) written) in
    let bad : false ≡ true = ap (λ (n : ℕ). n == 97) first in
    cc

pub bare_not_written : IsWrittenUuid (codes "00000000000000000000000000000000") → ⊥
unfolding by_index
bare_not_written (bytes, read, written) = let long : 32 ≡ 36 = ap (λ (l : List ℕ). length l) written in
    let bad : false ≡ true = ap (λ (n : ℕ). n == 36) long in
    cc
