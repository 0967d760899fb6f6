-- The lines of an input.
use Rattle.std.specs.Prelude.{ℕ, ◌==◌, not, Bool, true, false, if◌then◌else◌, List, [], ◌∷◌, ◌++◌, length}
use Rattle.std.specs.List.{list_any}

abbrev pub is_end : ℕ → Bool
is_end b = b == 10

-- the byte before the lines; where there is none, it is the last one's, which may stand without an end or not
abbrev pub with_byte : Bool → ℕ → List (List ℕ) → List (List ℕ)
with_byte last b [] = if last then (b ∷ []) ∷ [] else []
with_byte last b (line ∷ lines) = (b ∷ line) ∷ lines

-- each line up to its byte 10; what stands after the last byte 10 is one too, where the last line may lack its end
abbrev pub lines_of : Bool → List ℕ → List (List ℕ)
lines_of last [] = []
lines_of last (b ∷ bytes) = if is_end b then [] ∷ lines_of last bytes else with_byte last b (lines_of last bytes)

-- whether the text begins with a line
abbrev pub has_line : Bool → List ℕ → Bool
has_line true text = not (length text == 0)
has_line false text = list_any is_end text

-- the lines, and what stands after the last one's end, unless that is nothing
abbrev pub with_rest : List (List ℕ) → List ℕ → List (List ℕ)
with_rest lines [] = lines
with_rest lines (b ∷ bytes) = lines ++ (b ∷ bytes) ∷ []
