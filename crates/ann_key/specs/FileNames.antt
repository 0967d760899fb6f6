-- The file name of a key.
use Rattle.std.specs.Prelude.{ℕ, ◌==◌, List, [], ◌∷◌, if◌then◌else◌}
use Rattle.std.specs.List.{flat_map}

-- & becomes &a, % becomes &s, : becomes &c, / becomes %
abbrev pub escape : ℕ → List ℕ
escape b =
    if b == 38
    then 38 ∷ 97 ∷ []
    else if b == 37 then 38 ∷ 115 ∷ [] else if b == 58 then 38 ∷ 99 ∷ [] else if b == 47 then 37 ∷ [] else b ∷ []

abbrev pub file_name_of : List ℕ → List ℕ
file_name_of text = flat_map escape text
