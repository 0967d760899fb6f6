-- What stands first among held bytes.
use Rattle.std.specs.Prelude.{ℕ, ◌≡◌, ◌<◌, ◌≤◌, not, List, [], ◌∷◌, length, IsTrue}
use Rattle.annex_model.specs.Lines.{has_newline, Cut}
use Rattle.wire_line.specs.HeldBytes.{has_line, first_line}
use Rattle.wire_line.specs.declared.splitter.Next.{Next}
use Rattle.wire_line.specs.declared.splitter.Next.TheVariants.{Line, Long, More}

-- a line within the limit with its byte 10; more bytes than the limit without one; or too few bytes to say
abbrev pub IsNext : ℕ → List ℕ → Next → Type 0
IsNext limit bytes (Line line) = IsTrue (has_line limit bytes) × (line.now ≡ first_line bytes)
IsNext limit bytes Long = IsTrue (not (has_line limit bytes)) × (limit < length bytes)
IsNext limit bytes More = IsTrue (not (has_line limit bytes)) × (length bytes ≤ limit)

-- the same, by the lines that the bytes are cut into and the rest, in which no line ends
abbrev pub IsNextOfLines : ℕ → List (List ℕ) → List ℕ → Next → Type 0
IsNextOfLines limit (line ∷ lines) rest (Line first) = (length line ≤ limit) × (first.now ≡ line)
IsNextOfLines limit (line ∷ lines) rest Long = limit < length line
IsNextOfLines limit (line ∷ lines) rest More = ⊥
IsNextOfLines limit [] rest (Line first) = ⊥
IsNextOfLines limit [] rest Long = limit < length rest
IsNextOfLines limit [] rest More = length rest ≤ limit

-- it is so for any such cut of the bytes
abbrev pub NextOfLines : ℕ → List ℕ → Next → Type 0
NextOfLines limit bytes next =
    (lines : List (List ℕ)) (rest : List ℕ) → Cut bytes lines rest → IsTrue (not (has_newline rest))
    → IsNextOfLines limit lines rest next
