-- What a directory remote says of itself.
use Rattle.std.specs.Prelude.{ℕ, List, [], ◌∷◌, Option, Some, None, codes}
use Rattle.kit_serve.specs.declared.kit.describe.Pair.{Pair}

-- its one setting
abbrev pub configs : List Pair
configs = record { name = codes "directory"; text = codes "the folder in which the contents of keys are kept" } ∷ []

-- the directory that it was given
abbrev pub info_of : Option (List ℕ) → List Pair
info_of None = []
info_of (Some directory) = record { name = codes "directory"; text = directory } ∷ []
