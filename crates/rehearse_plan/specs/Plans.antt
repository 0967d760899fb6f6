-- What a rehearsal of so many tasks does, by its seed.
use Rattle.std.specs.Prelude.{ℕ, ◌+◌, ◌*◌, ◌/◌, ◌%◌, ◌==◌, if◌then◌else◌, List, [], ◌∷◌, ◌++◌, map, codes, decimal}
use Rattle.std.specs.List.{range_with_len}
use Rattle.ann_outside.specs.Files.{Files}
use Rattle.cli_words.specs.Identities.{nobody}
use Rattle.journal_model.specs.declared.opening.Opening.{Opening}
use Rattle.registers.specs.Registers.{nothing_set}
use Rattle.task_text.specs.declared.task.Task.{Task}
use Rattle.task_text.specs.declared.task.Work.{Work}
use Rattle.task_text.specs.declared.task.Work.TheVariants.{Store, Get, Check, Drop}

-- ---- a key

-- how many keys there are, numbered from 0
abbrev pub keys : ℕ → ℕ
keys tasks = tasks / 4 + 1

-- how many bytes the content of a key has
abbrev pub size_of : ℕ → ℕ
size_of key = 16 + key % 200

abbrev pub key_text : ℕ → List ℕ
key_text key = codes "WORM-s" ++ (decimal (size_of key) ++ (codes "--r" ++ decimal key))

-- a byte of it, at a place from 0
abbrev pub byte_of : ℕ → ℕ → ℕ
byte_of key place = (key + 7 * place) % 256

abbrev pub content_of : ℕ → List ℕ
content_of key = map (byte_of key) (range_with_len 0 (size_of key))

-- the file that has it
abbrev pub source_of : ℕ → List ℕ
source_of key = codes "src/" ++ decimal key

-- ---- a task

-- the number that a task is made of
abbrev pub number_of : ℕ → ℕ → ℕ
number_of seed task = seed + 30 * task + task * task

abbrev pub work_at : ℕ → Work
work_at n = if n == 0 then Store else if n == 1 then Get else if n == 2 then Check else Drop

abbrev pub work_of : ℕ → Work
work_of number = work_at (number / 5 % 4)

-- its key
abbrev pub key_number : ℕ → ℕ → ℕ
key_number tasks number = number % keys tasks

-- the file that a get makes
abbrev pub target_of : ℕ → List ℕ
target_of task = codes "dst/" ++ decimal task

abbrev pub task_file : Work → ℕ → ℕ → List ℕ
task_file Store key task = source_of key
task_file Get key task = target_of task
task_file Check key task = []
task_file Drop key task = []
task_file _ key task = []

-- the task of this work, on this key
abbrev pub task_with : Work → ℕ → ℕ → Task
task_with work key task = record { work = work; key = key_text key; file = task_file work key task; name = []; onto = [] }

-- the task of that number, from 1
abbrev pub task_of : ℕ → ℕ → ℕ → Task
task_of seed tasks task = task_with (work_of (number_of seed task)) (key_number tasks (number_of seed task)) task

-- ---- the run

abbrev pub tasks_of : ℕ → ℕ → List Task
tasks_of seed tasks = map (task_of seed tasks) (range_with_len 1 tasks)

-- the run begins with the tasks and with the remote's directory, and nothing else
abbrev pub opening_of : ℕ → ℕ → Opening
opening_of seed tasks = record {
  tasks = tasks_of seed tasks;
  registers = record nothing_set { config = (codes "directory", codes "d") ∷ [] };
  notes = [];
  identity = nobody;
  stamp = 0;
  again = 0;
}

abbrev pub file_of : ℕ → List ℕ × List ℕ
file_of key = (source_of key, content_of key)

-- the files that there are then: the content of each key
abbrev pub files_of : ℕ → Files
files_of tasks = map file_of (range_with_len 0 (keys tasks))
