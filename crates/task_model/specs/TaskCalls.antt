-- Which files the calls of a store and of a get name, change and ask the length of.
use Rattle.std.specs.Prelude.{ℕ, ◌≡◌, ◌+◌, if◌then◌else◌, true, List, [], ◌∷◌, ◌++◌, length}
use Rattle.std.specs.List.{list_all}
use Rattle.ann_outside.specs.declared.file_desk.Call.{Call}
use Rattle.task_model.specs.Askers.{Asking}
use Rattle.task_model.specs.declared.setup.Setup.{Setup}
use Rattle.task_model.specs.declared.turn.TaskTurn.{TaskTurn}
use Rattle.task_model.specs.Stops.{is_done}
use Rattle.task_model.specs.Names.{chunk_files, fetch_file, fetch_files, part_of}
use Rattle.task_model.specs.Discipline.{name_only, change_only, size_of_only, changes_as_result}

-- the files that the requests fetched which are done
abbrev pub fetched_files : Setup → TaskTurn → ℕ → List Asking → List (List ℕ)
fetched_files setup t n [] = []
fetched_files setup t n (a ∷ more) = (if is_done a then fetch_file setup t n ∷ [] else []) ++ fetched_files setup t (n + 1) more

-- A store names its file and its chunk files, and changes its chunk files alone. It asks the length of its file.
pub record StoreCalls (setup : Setup) (t : TaskTurn) (file : List ℕ) (asked : List Asking) (calls : List Call) : Type 0 where
  pub names : name_only (file ∷ chunk_files setup t (length asked + 1)) calls ≡ true
  pub changes : change_only (chunk_files setup t (length asked + 1)) calls ≡ true
  pub lengths : size_of_only (file ∷ []) calls ≡ true

-- A get names its file, part and the files that it fetches, and changes its file only by renaming part to it, or removing it as a fetched
-- file. It asks the length of part, and of a file that was fetched.
pub record GetCalls (setup : Setup) (t : TaskTurn) (file : List ℕ) (asked : List Asking) (calls : List Call) : Type 0 where
  pub names : name_only (file ∷ part_of file ∷ fetch_files setup t (length asked)) calls ≡ true
  pub changes : list_all (changes_as_result file (fetch_files setup t (length asked))) calls ≡ true
  pub lengths : size_of_only (part_of file ∷ fetched_files setup t 1 asked) calls ≡ true
