-- A folder in memory.
use Rattle.std.specs.Prelude.{ℕ, bytes_eq, Bool, not, if◌then◌else◌, List, [], ◌∷◌, filter, map}
use Rattle.std.specs.List.{list_any}
use Rattle.dir_remote.specs.declared.guard.mem_place.MemFile.{MemFile}
use Rattle.dir_remote.specs.declared.guard.place.Seen.{Seen}
use Rattle.dir_remote.specs.declared.guard.place.Seen.TheVariants.{Fits, Missing}
use Rattle.dir_remote.specs.declared.guard.place.Step.{Step}
use Rattle.dir_remote.specs.declared.guard.place.What.{What}
use Rattle.dir_remote.specs.declared.guard.place.What.TheVariants.{OldFile, Else}

-- what contracts see of it
pub record MemValue : Type 0 where
  pub folder : List ℕ
  pub files : List MemFile
  pub steps : List Step

-- it alone is there
abbrev pub stood_in : List ℕ → List ℕ → Seen
stood_in folder path = if bytes_eq folder path then Fits else Missing

abbrev pub names_in : MemValue → List ℕ → List (List ℕ)
names_in place folder = if bytes_eq place.folder folder then map (λ (file : MemFile). file.name) place.files else []

-- the first file of that path
abbrev pub met_in : List MemFile → List ℕ → What
met_in [] path = Else
met_in (file ∷ files) path = if bytes_eq file.path path then (if file.is_old then OldFile else Else) else met_in files path

abbrev pub is_there : List MemFile → List ℕ → Bool
is_there files path = list_any (λ (file : MemFile). bytes_eq file.path path) files

abbrev pub without : List MemFile → List ℕ → List MemFile
without files path = filter (λ (file : MemFile). not (bytes_eq file.path path)) files
