-- The line that spells a task, and why a line spells none.
use Rattle.std.specs.Prelude.{ℕ, ◌≡◌, ◌==◌, ◌&&◌, ◌||◌, not, nat_lt, Bool, true, false, if◌then◌else◌, List, [], ◌∷◌, ◌++◌, length, Option, None, Some, Result, Ok, Err, find, is_some, IsTrue}
use Rattle.std.specs.List.{list_any, before_first, after_first}
use Rattle.std.specs.Option.{option_map_or}
use Rattle.std.specs.Str.{is_utf8}
use Rattle.ann_key.specs.Keys.{Parts, is_key, is_sendable, key_reading}
use Rattle.task_text.specs.Works.{word_of, work_of, names_file, has_name, has_onto}
use Rattle.task_text.specs.declared.task.Work.{Work}
use Rattle.task_text.specs.declared.task.Work.TheVariants.{Store, Get, Check, Drop, XStore, XGet, XCheck, XDrop, XRename}
use Rattle.task_text.specs.declared.task.Task.{Task}
use Rattle.task_text.specs.declared.error.TaskError.{TaskError}
use Rattle.task_text.specs.declared.error.TaskError.TheVariants.{Word, Key, Unsendable, ChunkKey, File, Name, NoMemory}

-- ---- what a task is, and its line

abbrev pub has_chunk : List ℕ → Bool
has_chunk key = option_map_or (λ (parts : Parts). is_some parts.chunk) (key_reading key) false

-- text with no line's end in it
abbrev pub is_file : List ℕ → Bool
is_file file = nat_lt 0 (length file) && (is_utf8 file && not (list_any (λ b. b == 10) file))

abbrev pub is_tab : ℕ → Bool
is_tab b = b == 9

-- such text with no byte 9 in it: the name of an exported file
abbrev pub is_name : List ℕ → Bool
is_name name = is_file name && not (list_any is_tab name)

-- a key that can be sent and is no chunk's
abbrev pub is_task_key : List ℕ → Bool
is_task_key key = is_key key && (is_sendable key && not (has_chunk key))

-- Such a key, and a file, a name and a new name exactly where the work has them. A file before a name holds no byte 9.
pub record IsTask (task : Task) : Type 0 where
  pub key_class : IsTrue (is_task_key task.key)
  pub file_class : IsTrue (if names_file task.work then is_file task.file else length task.file == 0)
  pub name_class : IsTrue (if has_name task.work then is_name task.name else length task.name == 0)
  pub onto_class : IsTrue (if has_onto task.work then is_name task.onto else length task.onto == 0)
  pub apart : IsTrue (not (has_name task.work && list_any is_tab task.file))

-- what follows the key: a space and the file, the name, or two of the three with a byte 9 between them
abbrev pub behind_key : Work → List ℕ → List ℕ → List ℕ → List ℕ
behind_key Store file name onto = 32 ∷ file
behind_key Get file name onto = 32 ∷ file
behind_key Check file name onto = []
behind_key Drop file name onto = []
behind_key XStore file name onto = 32 ∷ file ++ 9 ∷ name
behind_key XGet file name onto = 32 ∷ file ++ 9 ∷ name
behind_key XCheck file name onto = 32 ∷ name
behind_key XDrop file name onto = 32 ∷ name
behind_key XRename file name onto = 32 ∷ name ++ 9 ∷ onto

-- the word, a space and the key, and then what follows it
abbrev pub line_of : Task → List ℕ
line_of task = word_of task.work ++ 32 ∷ (task.key ++ behind_key task.work task.file task.name task.onto)

pub record SpellsTask (task : Task) (line : List ℕ) : Type 0 where
  pub whole : line ≡ line_of task
  pub task_class : IsTask task

-- ---- where a line's parts stand, and what is wrong with them

abbrev pub is_space : ℕ → Bool
is_space b = b == 32

-- the word reaches to the first space or the end
abbrev pub work_at : List ℕ → Option Work
work_at line = work_of (before_first is_space line)

-- of what follows the word's space, the key is all or, where anything follows it, reaches to the next space or the end
abbrev pub key_in : Work → List ℕ → List ℕ
key_in Check rest = rest
key_in Drop rest = rest
key_in _ rest = before_first is_space rest

-- Of what follows the key's space, the first word is all or, where the work has two, reaches to the first byte 9 or the end.
-- The second is all after that byte.
abbrev pub file_in : Work → List ℕ → List ℕ
file_in Store words = words
file_in Get words = words
file_in XStore words = before_first is_tab words
file_in XGet words = before_first is_tab words
file_in _ words = []

abbrev pub name_in : Work → List ℕ → List ℕ
name_in XStore words = after_first is_tab words
name_in XGet words = after_first is_tab words
name_in XCheck words = words
name_in XDrop words = words
name_in XRename words = before_first is_tab words
name_in _ words = []

abbrev pub onto_in : Work → List ℕ → List ℕ
onto_in XRename words = after_first is_tab words
onto_in _ words = []

abbrev pub key_at : Work → List ℕ → List ℕ
key_at work line = key_in work (after_first is_space line)

-- what follows the key's space
abbrev pub words_at : List ℕ → List ℕ
words_at line = after_first is_space (after_first is_space line)

abbrev pub file_at : Work → List ℕ → List ℕ
file_at work line = file_in work (words_at line)

abbrev pub name_at : Work → List ℕ → List ℕ
name_at work line = name_in work (words_at line)

abbrev pub onto_at : Work → List ℕ → List ℕ
onto_at work line = onto_in work (words_at line)

-- whether this is wrong with a line of such a work
abbrev pub is_wrong : Option Work → List ℕ → TaskError → Bool
is_wrong None line Word = true
is_wrong None line fault = false
is_wrong (Some work) line Word = false
is_wrong (Some work) line Key = not (is_key (key_at work line))
is_wrong (Some work) line Unsendable = not (is_sendable (key_at work line))
is_wrong (Some work) line ChunkKey = has_chunk (key_at work line)
is_wrong (Some work) line File = names_file work && not (is_file (file_at work line))
is_wrong (Some work) line Name =
    (has_name work && not (is_name (name_at work line))) || (has_onto work && not (is_name (onto_at work line)))
is_wrong (Some work) line NoMemory = false

-- the first of these, in this order, that is wrong with it
abbrev pub fault_in : Option Work → List ℕ → Option TaskError
fault_in work line = find (is_wrong work line) (Word ∷ Key ∷ Unsendable ∷ ChunkKey ∷ File ∷ Name ∷ [])

abbrev pub fault_of : List ℕ → Option TaskError
fault_of line = fault_in (work_at line) line

-- the task that the line spells; its first fault; or, out of memory, nothing of a line that has none
abbrev pub IsReading : List ℕ → Result Task TaskError → Type 0
IsReading line (Ok task) = SpellsTask task line
IsReading line (Err NoMemory) = fault_of line ≡ None
IsReading line (Err fault) = fault_of line ≡ Some fault

-- the first thing that is wrong with the key alone
abbrev pub IsKeyFault : List ℕ → TaskError → Type 0
IsKeyFault key Key = is_key key ≡ false
IsKeyFault key Unsendable = IsTrue (is_key key) × (is_sendable key ≡ false)
IsKeyFault key ChunkKey = IsTrue (is_key key) × IsTrue (is_sendable key) × IsTrue (has_chunk key)
IsKeyFault key fault = ⊥
