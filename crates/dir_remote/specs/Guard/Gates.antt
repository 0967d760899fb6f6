-- The folders that have to stand before a call goes on.
use Rattle.std.specs.Prelude.{ℕ, ◌≡◌, ◌==◌, ◌⊎◌, ⊤, codes, Bool, true, false, List, [], ◌∷◌, ◌++◌, take, Option, Some, None, Result, Ok, Err, IfOk, IsErr}
use Rattle.ann_key.specs.Keys.{Parts, IsKey, key_reading, without_chunk}
use Rattle.ann_key.specs.declared.bytes.NoMemory.{NoMemory as WithoutMemory}
use Rattle.ann_digest.specs.Directories.{lower_of}
use Rattle.kit_serve.specs.declared.kit.call.Said.{Said}
use Rattle.kit_serve.specs.declared.kit.call.Said.TheVariants.{Failure}
use Rattle.dir_remote.specs.declared.guard.gates.Gate.{Gate}
use Rattle.dir_remote.specs.declared.guard.place.Seen.{Seen}
use Rattle.dir_remote.specs.declared.guard.place.Step.{Step}
use Rattle.dir_remote.specs.declared.guard.place.Step.TheVariants.{Stood}
use Rattle.dir_remote.specs.declared.guard.place.Want.TheVariants.{Full, Way, Made, Whole}
use Rattle.dir_remote.specs.Guard.Sentences.{line_of, sentence_of}
use Rattle.dir_remote.specs.Guard.Steps.{Adds}

-- the path goes from the root: it is the same from every folder
abbrev pub is_whole : List ℕ → Bool
is_whole [] = false
is_whole (b ∷ bytes) = b == 47

abbrev pub under : List ℕ → List ℕ → List ℕ
under directory name = directory ++ 47 ∷ name

-- A whole DIRECTORY has to be there.
abbrev pub look_by : Bool → List ℕ → List Gate
look_by true directory = record { want = Full; path = directory } ∷ []
look_by false directory = []

abbrev pub looks : List ℕ → List Gate
looks directory = look_by (is_whole directory) directory

abbrev pub looks_of : Option (List ℕ) → List Gate
looks_of None = []
looks_of (Some directory) = looks directory

-- one that isn't whole is made
abbrev pub stand_by : Bool → List ℕ → Gate
stand_by true directory = record { want = Full; path = directory }
stand_by false directory = record { want = Whole; path = directory }

-- DIRECTORY, then the folders below it, the outer before the inner
abbrev pub store_gates : List ℕ → List ℕ → List Gate
store_gates directory folder =
    stand_by (is_whole directory) directory ∷ record { want = Made; path = under directory (codes "tmp") }
    ∷ record { want = Made; path = under directory (take 3 folder) } ∷ record { want = Made; path = under directory folder } ∷ []

abbrev pub removal_gates : List ℕ → List ℕ → List Gate
removal_gates directory folder =
    looks directory ++ record { want = Way; path = under directory (take 3 folder) } ∷ record { want = Way; path = under directory folder } ∷ []

-- the folder of the content of the key of that text
pub record IsFolder (text folder : List ℕ) : Type 0 where
  pub parts : Parts
  pub read : key_reading text ≡ Some parts
  pub base : List ℕ
  pub base_is : IsKey base (without_chunk parts)
  pub whole : folder ≡ lower_of base

abbrev pub AreGates : (List ℕ → List ℕ → List Gate) → Option (List ℕ) → List ℕ → List Gate → Type 0
AreGates gates_of None text gates = gates ≡ []
AreGates gates_of (Some directory) text gates = (folder : List ℕ) × IsFolder text folder × (gates ≡ gates_of directory folder)

-- ---- how they were passed

abbrev pub stood : Gate → Seen → Step
stood gate seen = Stood gate.want gate.path seen

-- each was asked for, in order, and let the call go on
abbrev pub Passes : List Gate → List Step → Type 0
Passes [] steps = steps ≡ []
Passes (gate ∷ gates) [] = ⊥
Passes (gate ∷ gates) (step ∷ steps) = ((seen : Seen) × (step ≡ stood gate seen) × (sentence_of gate.want gate.path seen ≡ None)) × Passes gates steps

-- one of them stopped the call, and its sentence is said
pub record IsStopped (gates : List Gate) (steps : List Step) (result : Result Said WithoutMemory) : Type 0 where
  pub before : List Gate
  pub gate : Gate
  pub after : List Gate
  pub front : List Step
  pub seen : Seen
  pub text : List ℕ
  pub whole : gates ≡ before ++ gate ∷ after
  pub passed : Passes before front
  pub last : steps ≡ front ++ stood gate seen ∷ []
  pub sentence : sentence_of gate.want gate.path seen ≡ Some text
  pub says : IfOk result (λ said. said ≡ Failure (line_of text))

-- no memory was found to ask for one of them
pub record IsShort (gates : List Gate) (steps : List Step) (result : Result Said WithoutMemory) : Type 0 where
  pub before : List Gate
  pub gate : Gate
  pub after : List Gate
  pub whole : gates ≡ before ++ gate ∷ after
  pub passed : Passes before steps
  pub lacks : IsErr result

abbrev pub IsHeld : List Gate → List Step → Result Said WithoutMemory → Type 0
IsHeld gates steps result = IsStopped gates steps result ⊎ IsShort gates steps result

-- all let the call go on, or what is said
abbrev pub PassedBy : List Gate → List Step → Result (Option Said) WithoutMemory → Type 0
PassedBy gates steps (Ok None) = Passes gates steps
PassedBy gates steps (Ok (Some said)) = IsHeld gates steps (Ok said)
PassedBy gates steps (Err e) = IsHeld gates steps (Err e)

-- the sentence is said, where there is one
abbrev pub StopsBy : Option (List ℕ) → Result (Option Said) WithoutMemory → Type 0
StopsBy None result = result ≡ Ok None
StopsBy (Some text) (Ok None) = ⊥
StopsBy (Some text) (Ok (Some said)) = said ≡ Failure (line_of text)
StopsBy (Some text) (Err e) = ⊤

-- gates of this kind were asked for
pub record Admits (Are : List Gate → Type 0) (old new : Option (List Step)) (result : Result (Option Said) WithoutMemory) : Type 0 where
  pub gates : List Gate
  pub are : Are gates
  pub steps : List Step
  pub added : Adds old new steps
  pub passed : PassedBy gates steps result
