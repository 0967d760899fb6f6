-- The laws of keys.
use Rattle.std.proofs.Common.{◌≡◌, ℕ, None, Some, Option, refl, sym, ap, subst}
use Rattle.ann_key.specs.Keys.{Parts, IsKey, with_chunk, without_chunk}
use Rattle.ann_key.specs.KeyLaws.{BasesStand, ChunksDiffer, ErrorsExclude}
use Rattle.ann_key.proofs.Spelling.{none_spelled}
use Rattle.ann_key.proofs.Errors.{error_reading}
use Rattle.ann_key.proofs.Unique.{spelling_unique, reading_unique}

own_base : (key : Parts) → key.chunk ≡ None → without_chunk key ≡ key
own_base key e = ap (λ (c : Option (ℕ × ℕ)). let p : Parts = record key { chunk = c } in p) (sym e)

pub bases_stand : BasesStand
bases_stand key size number text base e s =
    let same : IsKey base (without_chunk key) → base ≡ text = λ t. spelling_unique key base text (subst (IsKey base) (own_base key e) t) s in
    (refl, same, same)

pub chunks_differ : ChunksDiffer
chunks_differ key text size number s = (others, base)
  where
    others : (a n : ℕ) → IsKey text (with_chunk a n key) → (size ≡ a) × (number ≡ n)
    others a n t =
        let e : ◌≡◌ {A = Option (ℕ × ℕ)} (Some (size, number)) (Some (a, n)) =
        ap (λ (p : Parts). p.chunk) (reading_unique text (with_chunk size number key) (with_chunk a n key) s t) in
        let pair : ◌≡◌ {A = ℕ × ℕ} (size, number) (a, n) = cc in
        (ap (λ (p : ℕ × ℕ). p.0) pair, ap (λ (p : ℕ × ℕ). p.1) pair)

    base : IsKey text (without_chunk key) → ⊥
    base t =
        let e : ◌≡◌ {A = Option (ℕ × ℕ)} (Some (size, number)) None =
        ap (λ (p : Parts). p.chunk) (reading_unique text (with_chunk size number key) (without_chunk key) s t) in
        absurd cc

pub errors_exclude : ErrorsExclude
errors_exclude text e key h s = none_spelled text (error_reading text e h) key s
