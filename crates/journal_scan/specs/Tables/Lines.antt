-- Lines, as their bytes and the places where they end.
use Rattle.std.specs.Prelude.{ℕ, ◌≡◌, ◌≤◌, List, [], ◌∷◌, length, slice_range, sum_by}

-- what contracts see of a store: its lines; for how many lines in all, and for how many bytes of lines in all, there is room
pub record LineStoreValue : Type 0 where
  pub lines : List (List ℕ)
  pub room : ℕ
  pub space : ℕ

-- how many bytes the lines have in all
abbrev pub total : List (List ℕ) → ℕ
total lines = sum_by (λ line. length line) lines

-- the lines from a place on, each from the end of the one before it
abbrev pub lines_from : List ℕ → ℕ → List ℕ → List (List ℕ)
lines_from bytes at [] = []
lines_from bytes at (end ∷ ends) = slice_range bytes at end ∷ lines_from bytes end ends

-- the ends rise from a place on, and the last one is where the bytes end
abbrev pub EndAt : ℕ → List ℕ → ℕ → Type 0
EndAt at [] len = at ≡ len
EndAt at (end ∷ ends) len = (at ≤ end) × EndAt end ends len

-- the room is there
pub record IsStored (bytes ends : List ℕ) (room space most_lines most_bytes : ℕ) : Type 0 where
  pub ended : EndAt 0 ends (length bytes)
  pub for_lines : room ≤ most_lines
  pub for_bytes : space ≤ most_bytes
