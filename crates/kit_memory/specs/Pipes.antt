-- What goes through a pipe: bytes, and after the last of them its end, which is None.
use Rattle.std.specs.Prelude.{ℕ, Bool, true, false, not, List, [], ◌∷◌, Option, Some, None}

-- the bytes among these, in order
abbrev pub bytes_in : List (Option ℕ) → List ℕ
bytes_in [] = []
bytes_in (None ∷ items) = bytes_in items
bytes_in (Some byte ∷ items) = byte ∷ bytes_in items

-- the end is among these
abbrev pub has_end : List (Option ℕ) → Bool
has_end [] = false
has_end (None ∷ items) = true
has_end (Some byte ∷ items) = has_end items

-- bytes alone, where the pipe is open; else bytes, and the end as the last item
abbrev pub is_stream : Bool → List (Option ℕ) → Bool
is_stream live [] = live
is_stream live (None ∷ []) = not live
is_stream live (None ∷ item ∷ items) = false
is_stream live (Some byte ∷ items) = is_stream live items
