-- Worked inputs.
use Rattle.std.specs.Prelude.{ℕ, List, codes}
use Rattle.audit_command.specs.declared.limits.Limits.{Limits}

-- two lines, and 20 bytes in all
abbrev pub small : Limits
small = record { lines = 2; bytes = 20 }

-- a line of 8 bytes, and one of 2
abbrev pub one : List ℕ
one = codes "abcdefgh"

abbrev pub two : List ℕ
two = codes "ij"

-- as many bytes as there may be
abbrev pub three : List ℕ
three = codes "0123456789abcdefghij"
