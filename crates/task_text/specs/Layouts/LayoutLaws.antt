-- What follows from layouts.
use Rattle.std.specs.Prelude.{ℕ, ◌≡◌, List, [], ◌∷◌, length, map}
use Rattle.std.specs.List.{concat, slice_range}
use Rattle.ann_key.specs.Keys.{Parts}
use Rattle.task_text.specs.Layouts.Layouts.{layout}

-- the parts of content, put together in their order, are the content: none of it is missing, and none stands in two parts
abbrev pub RangesAreTheWhole : Type 0
RangesAreTheWhole =
    (key : Parts) (size chunk : ℕ) (content : List ℕ) → length content ≡ size
    → concat (map (λ part. slice_range content part.from part.to) (layout key size chunk)) ≡ content

-- empty content has one part, which is empty
abbrev pub EmptyHasOneRange : Type 0
EmptyHasOneRange = (key : Parts) (chunk : ℕ) → map {B = ℕ × ℕ} (λ part. (part.from, part.to)) (layout key 0 chunk) ≡ (0, 0) ∷ []
