-- The calls that a remote makes of its place.
use Rattle.std.specs.Prelude.{◌≡◌, List, [], ◌∷◌, ◌++◌, Option, option_map, Result, Ok, Err}
use Rattle.dir_remote.specs.declared.guard.place.Step.{Step}

-- the calls that are told, and this one after them, unless no memory was found for it
abbrev pub stepped : {A E : Type 0} → Option (List Step) → (A → Step) → Result A E → Option (List Step)
stepped told step (Ok answer) = option_map (λ (steps : List Step). steps ++ step answer ∷ []) told
stepped told step (Err e) = told

-- where calls are told, these came after them
abbrev pub Adds : Option (List Step) → Option (List Step) → List Step → Type 0
Adds old new more = new ≡ option_map (λ (steps : List Step). steps ++ more) old

-- where calls are told, some came after them, of which this holds
abbrev pub AddsSome : Option (List Step) → Option (List Step) → (List Step → Type 0) → Type 0
AddsSome old new Are = (more : List Step) × Adds old new more × Are more
