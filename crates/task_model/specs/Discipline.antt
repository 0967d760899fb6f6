-- Which calls a task makes of its desk.
use Rattle.std.specs.Prelude.{ℕ, ◌&&◌, ◌||◌, not, Bool, true, if◌then◌else◌, List, [], ◌∷◌, ◌++◌, bytes_eq}
use Rattle.std.specs.List.{list_all}
use Rattle.ann_outside.specs.declared.file_desk.Call.{Call}
use Rattle.ann_outside.specs.declared.file_desk.Call.TheVariants.{Size, ReadAt, Create, Append, Cut, Rename, Remove}
use Rattle.task_model.specs.Names.{is_among, part_of}
use Rattle.task_model.specs.Reads.{is_known}

-- the files that a call names
abbrev pub names_in : Call → List (List ℕ)
names_in (Size name answer) = name ∷ []
names_in (ReadAt name from answer) = name ∷ []
names_in (Create name answer) = name ∷ []
names_in (Append name piece answer) = name ∷ []
names_in (Cut name size answer) = name ∷ []
names_in (Rename from to answer) = from ∷ to ∷ []
names_in (Remove name answer) = name ∷ []

-- the files that it may change
abbrev pub changed_by : Call → List (List ℕ)
changed_by (Size name answer) = []
changed_by (ReadAt name from answer) = []
changed_by call = names_in call

-- the files that it needs to be there; part may be removed where there is none
abbrev pub needed_by : List ℕ → Call → List (List ℕ)
needed_by part (Size name answer) = []
needed_by part (ReadAt name from answer) = name ∷ []
needed_by part (Create name answer) = []
needed_by part (Append name piece answer) = name ∷ []
needed_by part (Cut name size answer) = name ∷ []
needed_by part (Rename from to answer) = from ∷ []
needed_by part (Remove name answer) = if bytes_eq name part then [] else name ∷ []

-- every name is one of these
abbrev pub are_among : List (List ℕ) → List (List ℕ) → Bool
are_among names these = list_all (is_among names) these

-- every call names files among these alone
abbrev pub name_only : List (List ℕ) → List Call → Bool
name_only names calls = list_all (λ call. are_among names (names_in call)) calls

-- every call changes files among these alone
abbrev pub change_only : List (List ℕ) → List Call → Bool
change_only names calls = list_all (λ call. are_among names (changed_by call)) calls

-- the call asks for no length but of one of these files
abbrev pub size_among : List (List ℕ) → Call → Bool
size_among names (Size name answer) = is_among names name
size_among names call = true

-- the lengths that are asked are those of these files alone
abbrev pub size_of_only : List (List ℕ) → List Call → Bool
size_of_only names calls = list_all (size_among names) calls

-- The call leaves the file alone, or renames part to it, or removes it as one of these, which were fetched.
abbrev pub changes_as_result : List ℕ → List (List ℕ) → Call → Bool
changes_as_result file fetched (Rename from to answer) = bytes_eq from (part_of file) || not (is_among (from ∷ to ∷ []) file)
changes_as_result file fetched (Remove name answer) = is_among fetched name || not (bytes_eq name file)
changes_as_result file fetched call = not (is_among (changed_by call) file)

-- each file that a call needs was found or made by one before it, and neither removed nor renamed since
abbrev pub are_found : List ℕ → List Call → List Call → Bool
are_found part past [] = true
are_found part past (call ∷ more) = list_all (λ name. is_known name past) (needed_by part call) && are_found part (past ++ call ∷ []) more
