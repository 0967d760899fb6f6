-- Lists of lines.
use Rattle.std.specs.Prelude.{ℕ, not, Bool, List}
use Rattle.std.specs.List.{list_all}
use Rattle.annex_model.specs.Lines.{has_newline}

-- none of them holds byte 10
abbrev pub are_lines : List (List ℕ) → Bool
are_lines lines = list_all (λ line. not (has_newline line)) lines
