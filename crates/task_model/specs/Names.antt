-- The files that a task names.
use Rattle.std.specs.Prelude.{ℕ, nat_le, if◌then◌else◌, Bool, List, [], ◌++◌, map, codes, decimal, bytes_eq}
use Rattle.std.specs.List.{list_any, range_with_len}
use Rattle.task_model.specs.declared.setup.Setup.{Setup}
use Rattle.task_model.specs.declared.turn.TaskTurn.{TaskTurn}

-- what the names of a turn's files say of it: nothing of the first
abbrev pub turn_text : ℕ → List ℕ
turn_text turn = if nat_le turn 1 then [] else codes "-" ++ decimal turn

-- the file of request n of the task's turn, in the folder of work
abbrev pub request_file : Setup → TaskTurn → ℕ → List ℕ → List ℕ
request_file setup t n ending =
    setup.work ++ codes "/" ++ decimal setup.stamp ++ codes "-" ++ decimal t.task ++ codes "-" ++ decimal n ++ turn_text t.turn ++ ending

-- what request n stores a chunk from
abbrev pub chunk_file : Setup → TaskTurn → ℕ → List ℕ
chunk_file setup t n = request_file setup t n (codes ".chunk")

-- what request n fetches into
abbrev pub fetch_file : Setup → TaskTurn → ℕ → List ℕ
fetch_file setup t n = request_file setup t n (codes ".fetch")

-- what a get has fetched so far of a file
abbrev pub part_of : List ℕ → List ℕ
part_of file = file ++ codes ".part"

abbrev pub is_among : List (List ℕ) → List ℕ → Bool
is_among names name = list_any (bytes_eq name) names

-- those of requests 1 to n
abbrev pub chunk_files : Setup → TaskTurn → ℕ → List (List ℕ)
chunk_files setup t n = map (chunk_file setup t) (range_with_len 1 n)

abbrev pub fetch_files : Setup → TaskTurn → ℕ → List (List ℕ)
fetch_files setup t n = map (fetch_file setup t) (range_with_len 1 n)
