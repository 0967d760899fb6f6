-- The parts of content, put together.
use Rattle.std.proofs.Common.{◌≡◌, ℕ, zero, suc, ◌+◌, ◌-◌, ◌*◌, ◌<◌, ◌≤◌, ◌==◌, Bool, true, false, cond, min, List, [], ◌∷◌, ◌++◌, length, map, take, drop, refl, sym, ap, subst, ◌∙◌, add-one, arith}
use Rattle.std.specs.List.{concat, range_with_len, slice_range}
use Rattle.std.specs.Int.{div_ceil}
use Rattle.std.proofs.Math.Nat.{zero-mul, suc-mul}
use Rattle.std.proofs.lemmas.Bool.{eqb-true}
use Rattle.std.proofs.lemmas.Bool.Decides.{nat_tests}
use Rattle.std.proofs.lemmas.Grind.{div_ceil_times}
use Rattle.std.proofs.lemmas.List.{append-nil, drop-drop, drop-take, length-drop, take_all, take_min, take-append-drop, take-take}
use Rattle.ann_key.specs.Keys.{Parts}
use Rattle.task_text.specs.Layouts.Layouts.{Part, chunk_part, count_of, layout}
use Rattle.task_text.specs.Layouts.LayoutLaws.{RangesAreTheWhole}

abbrev bytes_of : List ℕ → Part → List ℕ
bytes_of content part = slice_range content part.from part.to

take-add : (a m : ℕ) (xs : List ℕ) → take (a + m) xs ≡ take a xs ++ take m (drop a xs)
take-add a m xs =
    let whole = take-append-drop a (take (a + m) xs) in
    sym (rw (take-take a (a + m) xs (omega arith), drop-take a m xs) at whole)

-- the bytes from a place on, as far as the content goes
bounded : (content : List ℕ) (x chunk : ℕ) → take (min (x + chunk) (length content) - x) (drop x content) ≡ take chunk (drop x content)
bounded content x chunk =
    let n : min (x + chunk) (length content) - x ≡ min chunk (length (drop x content)) = rw length-drop (omega arith) in
    rw n (take_min chunk (drop x content))

part_bytes : (key : Parts) (content : List ℕ) (chunk a : ℕ) → bytes_of content (chunk_part key (length content) chunk (a + 1)) ≡ take chunk (drop (a * chunk) content)
part_bytes key content chunk a =
    let from : a + 1 - 1 ≡ a = omega arith in
    let to : (a + 1) * chunk ≡ a * chunk + chunk = rw add-one (suc-mul a chunk) in
    rw (from, to) (bounded content (a * chunk) chunk)

-- n chunks, of which a stand before
joined : (key : Parts) (content : List ℕ) (chunk a n : ℕ)
    → concat (map (bytes_of content) (map (chunk_part key (length content) chunk) (range_with_len (a + 1) n))) ≡ take (n * chunk) (drop (a * chunk) content)
joined key content chunk a zero = rw zero-mul refl
joined key content chunk a (suc n) =
    let rest : concat (map (bytes_of content) (map (chunk_part key (length content) chunk) (range_with_len (a + 1 + 1) n))) ≡ take (n * chunk) (drop ((a + 1) * chunk) content) = joined key content chunk (a + 1) n in
    let first : bytes_of content (chunk_part key (length content) chunk (a + 1)) ≡ take chunk (drop (a * chunk) content) = part_bytes key content chunk a in
    let next : (a + 1) * chunk ≡ a * chunk + chunk = rw add-one (suc-mul a chunk) in
    let size : suc n * chunk ≡ chunk + n * chunk = suc-mul n chunk ∙ omega arith in
    rw (first, rest, next, size, take-add chunk (n * chunk) (drop (a * chunk) content), drop-drop chunk (a * chunk) content) refl

-- all chunks together reach to the end
pub reaches : (size chunk : ℕ) → 0 < chunk → size ≤ count_of size chunk * chunk
reaches size chunk h = go (size == 0) refl
  where
    go : (b : Bool) → (size == 0) ≡ b → size ≤ cond b 1 (div_ceil size chunk) * chunk
    go true e = let none : size ≡ 0 = eqb-true size 0 e in omega arith
    go false e = (div_ceil_times size chunk h).0

whole : (key : Parts) (content : List ℕ) (chunk : ℕ) → 0 < chunk
    → concat (map (bytes_of content) (map (chunk_part key (length content) chunk) (range_with_len 1 (count_of (length content) chunk)))) ≡ content
whole key content chunk some =
    joined key content chunk 0 (count_of (length content) chunk)
    ∙ ap (λ (x : ℕ). take (count_of (length content) chunk * chunk) (drop x content)) (zero-mul chunk)
    ∙ take_all (count_of (length content) chunk * chunk) content (reaches (length content) chunk some)

pub ranges_are_the_whole : RangesAreTheWhole
ranges_are_the_whole key size chunk content is =
    subst (λ (n : ℕ). concat (map (bytes_of content) (layout key n chunk)) ≡ content) is (go (chunk == 0) refl)
  where
    go : (b : Bool) → (chunk == 0) ≡ b
        → concat (map (bytes_of content) (cond b (record { key = key; from = 0; to = length content } ∷ []) (map (chunk_part key (length content) chunk) (range_with_len 1 (count_of (length content) chunk))))) ≡ content
    go true e = append-nil (take (length content - 0) content) ∙ take_all (length content - 0) content (omega arith)
    go false e = whole key content chunk (grind (arith, nat_tests))
