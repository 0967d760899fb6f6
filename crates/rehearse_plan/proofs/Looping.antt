-- One step more of what loops make.
use Rattle.std.proofs.Common.{◌≡◌, ℕ, ◌+◌, List, [], ◌∷◌, ◌++◌, arith}
use Rattle.std.specs.Prelude.{map}
use Rattle.std.specs.List.{range_with_len}
use Rattle.std.proofs.lemmas.List.FromFn.{map-range_with_len_more}
use Rattle.rehearse_plan.specs.Plans.{byte_of, file_of, task_of}

pub bytes_more : (key at : ℕ) → map (byte_of key) (range_with_len 0 (at + 1)) ≡ map (byte_of key) (range_with_len 0 at) ++ byte_of key at ∷ []
bytes_more key at = map-range_with_len_more (byte_of key) 0 at at (omega arith)

pub tasks_more : (seed tasks before : ℕ) → map (task_of seed tasks) (range_with_len 1 (before + 1)) ≡ map (task_of seed tasks) (range_with_len 1 before) ++ task_of seed tasks (before + 1) ∷ []
tasks_more seed tasks before = map-range_with_len_more (task_of seed tasks) 1 before (before + 1) (omega arith)

pub files_more : (key : ℕ) → map file_of (range_with_len 0 (key + 1)) ≡ map file_of (range_with_len 0 key) ++ file_of key ∷ []
files_more key = map-range_with_len_more file_of 0 key key (omega arith)
