-- Calls and files as examples of what may be played on files.
use Rattle.std.specs.Prelude.{ℕ, List, [], ◌∷◌, codes, Ok, Err}
use Rattle.ann_outside.specs.Files.{Files}
use Rattle.ann_outside.specs.declared.file_desk.DeskError.TheVariants.{Failed}
use Rattle.ann_outside.specs.declared.file_desk.Call.{Call}
use Rattle.ann_outside.specs.declared.file_desk.Call.TheVariants.{Size, ReadAt, Create, Append}

-- one file with these bytes
abbrev pub holding : List ℕ → Files
holding bytes = (codes "o", bytes) ∷ []

-- it is made, filled, and read
abbrev pub fills_ab : List Call
fills_ab = Create (codes "o") (Ok tt) ∷ Append (codes "o") (codes "ab") (Ok tt) ∷ Size (codes "o") (Ok 2) ∷ ReadAt (codes "o") 1 (Ok (codes "b")) ∷ []

-- two bytes more are to be added
abbrev pub adds_cd : List Call
adds_cd = Append (codes "o") (codes "cd") (Ok tt) ∷ []

abbrev pub fails_to_add : List Call
fails_to_add = Append (codes "o") (codes "cd") (Err Failed) ∷ []
