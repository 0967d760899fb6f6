-- What a splitter holds, and the line that stands first in it.
use Rattle.std.specs.Prelude.{ℕ, ◌≡◌, ◌⊎◌, ◌<◌, ◌≤◌, ◌+◌, ◌==◌, Bool, List, [], ◌∷◌, ◌++◌, length, take}
use Rattle.std.specs.List.{before_first, after_first}
use Rattle.annex_model.specs.Lines.{has_newline, Cut}

-- the longest line that is taken, the bytes that were pushed and not dropped, how many more fit without memory, and how many
-- were dropped and are still kept
pub record HeldBytes : Type 0 where
  pub limit : ℕ
  pub bytes : List ℕ
  pub room : ℕ
  pub dropped : ℕ

-- bytes are moved, so that the dropped ones are given up, only where at least as many were dropped as are moved
abbrev pub MovesFew : HeldBytes → HeldBytes → Type 0
MovesFew old new = (new.dropped ≡ old.dropped) ⊎ (length old.bytes ≤ old.dropped)

-- where so many more don't fit, no more dropped bytes are kept than bytes are held
abbrev pub KeepsFew : HeldBytes → HeldBytes → ℕ → Type 0
KeepsFew old new wanted = old.room < wanted → new.dropped ≤ length old.bytes

-- a byte 10 stands among the first limit + 1 bytes
abbrev pub has_line : ℕ → List ℕ → Bool
has_line limit bytes = has_newline (take (limit + 1) bytes)

-- the bytes before the first byte 10
abbrev pub first_line : List ℕ → List ℕ
first_line bytes = before_first (λ b. b == 10) bytes

-- the bytes after the first byte 10
abbrev pub after_line : List ℕ → List ℕ
after_line bytes = after_first (λ b. b == 10) bytes

-- what was read up to `before` and cut is cut the same with the piece after it, and leaves `after`
abbrev pub TakesPiece : List ℕ → List ℕ → List ℕ → Type 0
TakesPiece before piece after =
    (bytes : List ℕ) (lines : List (List ℕ)) → Cut bytes lines before → Cut (bytes ++ piece) lines after

-- what was cut with the rest `before` has one line more with the rest `after`
abbrev pub TakesLine : List ℕ → List ℕ → List ℕ → Type 0
TakesLine before line after =
    (bytes : List ℕ) (lines : List (List ℕ)) → Cut bytes lines before → Cut bytes (lines ++ line ∷ []) after
