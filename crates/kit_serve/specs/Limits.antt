-- The limit of a line that a host may say, and of what is read at once.
use Rattle.std.specs.Prelude.{ℕ, ◌==◌, nat_le, Bool, List, length}
use Rattle.std.specs.List.{before_first}

-- bytes of a host's line, without its end
abbrev pub longest_line : ℕ
longest_line = 131072

-- bytes of one read
abbrev pub read_size : ℕ
read_size = 4096

abbrev pub is_short : List ℕ → Bool
is_short line = nat_le (length line) longest_line

-- the bytes before the first byte 10, or all where there is none
abbrev pub next_line : List ℕ → List ℕ
next_line rest = before_first (λ b. b == 10) rest
