-- The text of a run: its opening and its journal, line by line, without byte 10.
use Rattle.std.specs.Prelude.{ℕ, Bool, true, false, List, [], ◌∷◌, ◌++◌, map, length, codes, decimal}
use Rattle.task_text.specs.TaskLines.{line_of}
use Rattle.task_text.specs.declared.task.Task.{Task}
use Rattle.registers.specs.Registers.{RegisterFile}
use Rattle.registers.specs.RegLines.{lines_of}
use Rattle.task_text.specs.declared.chunk_log.note.Note.{Note}
use Rattle.kept_file.specs.Text.KeptFiles.{written_line, written_note}
use Rattle.journal_model.specs.declared.entry.Entry.{Entry}
use Rattle.journal_model.specs.declared.opening.Opening.{Opening}
use Rattle.journal_text.specs.Entries.Entries.{entry_line}

-- a word, a space, and a text
abbrev pub worded : List ℕ → List ℕ → List ℕ
worded word text = word ++ 32 ∷ text

-- of a text as it is written now, or of an early one
abbrev pub head : Bool → List ℕ
head false = codes "annex-journal 2"
head true = codes "annex-journal 1"

abbrev pub begin : List ℕ
begin = codes "begin"

abbrev pub stamp_line : ℕ → List ℕ
stamp_line stamp = worded (codes "stamp") (decimal stamp)

-- how often a task may be run again
abbrev pub again_line : ℕ → List ℕ
again_line again = worded (codes "again") (decimal again)

-- an early text doesn't say it
abbrev pub again_lines : Bool → ℕ → List (List ℕ)
again_lines false again = again_line again ∷ []
again_lines true again = []

abbrev pub task_line : Task → List ℕ
task_line task = worded (codes "task") (line_of task)

abbrev pub keep_line : List ℕ → List ℕ
keep_line line = worded (codes "keep") line

-- the number of entries
abbrev pub end_line : ℕ → List ℕ
end_line count = worded (codes "end") (decimal count)

-- a run as its text tells it: what is kept stands as the lines of a kept file
pub record Told : Type 0 where
  pub early : Bool
  pub uuid : List ℕ
  pub name : List ℕ
  pub gitdir : List ℕ
  pub stamp : ℕ
  pub again : ℕ
  pub tasks : List Task
  pub kept : List (List ℕ)
  pub entries : List Entry

abbrev pub first_lines : Told → List (List ℕ)
first_lines t =
    head t.early
    ∷ worded (codes "uuid") t.uuid
    ∷ worded (codes "name") t.name
    ∷ worded (codes "gitdir") t.gitdir
    ∷ stamp_line t.stamp
    ∷ again_lines t.early t.again

abbrev pub last_lines : List Entry → List (List ℕ)
last_lines entries = begin ∷ map entry_line entries ++ end_line (length entries) ∷ []

-- the whole text: the first lines, a line for each task, for what is kept, `begin`, a line for each entry, and their number
abbrev pub told_lines : Told → List (List ℕ)
told_lines t = first_lines t ++ (map task_line t.tasks ++ (map keep_line t.kept ++ last_lines t.entries))

-- what is kept, in the order of a kept file; users and passwords have no line
abbrev pub kept_lines : RegisterFile → List Note → List (List ℕ)
kept_lines registers notes = map written_line (lines_of registers) ++ map written_note notes

-- an opening and a journal, as their text tells them; it is never written as an early one
abbrev pub told : Opening → List Entry → Told
told o entries = record {
  early = false;
  uuid = o.identity.uuid;
  name = o.identity.name;
  gitdir = o.identity.gitdir;
  stamp = o.stamp;
  again = o.again;
  tasks = o.tasks;
  kept = kept_lines o.registers o.notes;
  entries = entries;
}

abbrev pub journal_lines : Opening → List Entry → List (List ℕ)
journal_lines o entries = told_lines (told o entries)
