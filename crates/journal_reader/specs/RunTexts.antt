-- Which texts tell a run.
use Rattle.std.specs.Prelude.{ℕ, ◌≡◌, ◌<◌, ◌≤◌, ◌-◌, ◌^◌, ◌&&◌, not, Bool, true, false, List, [], ◌∷◌, ◌++◌, Option, Some, None, length, slice_get, bytes_eq, IsTrue}
use Rattle.uuid.specs.Text.{parsed, hyphenated_text, lower}
use Rattle.annex_model.specs.Lines.{has_newline}
use Rattle.task_text.specs.TaskLines.{IsTask}
use Rattle.task_text.specs.declared.task.Task.{Task}
use Rattle.journal_model.specs.declared.entry.What.{What}
use Rattle.journal_model.specs.declared.entry.What.TheVariants.{Again}
use Rattle.journal_model.specs.declared.entry.Entry.{Entry}
use Rattle.journal_text.specs.Entries.Entries.{entry_line, IsEntry}
use Rattle.kept_file.specs.Text.Orders.{is_written_line, comes_before}
use Rattle.journal_text.specs.Lines.JournalTexts.{Told, told_lines, worded}
use Rattle.journal_model.specs.Legality.{is_text}

abbrev pub is_written_uuid : List ℕ → Option (List ℕ) → Bool
is_written_uuid text None = false
is_written_uuid text (Some uuid) = bytes_eq (hyphenated_text lower uuid) text

-- a UUID in lower case with hyphens
abbrev pub is_uuid : List ℕ → Bool
is_uuid text = is_written_uuid text (parsed text)

-- after the word the line has this text, which is of that class
abbrev pub HasText : (List ℕ → Bool) → List ℕ → List ℕ → List ℕ → Type 0
HasText is_so word line text = (line ≡ worded word text) × IsTrue (is_so text)

-- it has no such text there
abbrev pub HasNoText : (List ℕ → Bool) → List ℕ → List ℕ → Type 0
HasNoText is_so word line = (text : List ℕ) → line ≡ worded word text → IsTrue (is_so text) → ⊥

-- a line of a kept file as it is written
abbrev pub is_kept : List ℕ → Bool
is_kept line = is_written_line line && not (has_newline line)

abbrev pub is_behind : Option (List ℕ) → List ℕ → Bool
is_behind None line = true
is_behind (Some last) line = comes_before last line

-- such a line, and the last of these, if there is one, is written before it
abbrev pub may_be_kept : List (List ℕ) → List ℕ → Bool
may_be_kept kept line = is_kept line && is_behind (slice_get kept (length kept - 1)) line

-- each of them may stand after those before it
pub data AreInOrder : List (List ℕ) → Type 0 where
  NoneKept : AreInOrder []
  OneMore : (kept : List (List ℕ)) (line : List ℕ) → AreInOrder kept → may_be_kept kept line ≡ true → AreInOrder (kept ++ line ∷ [])

-- how often a task may be run again: in an early text never
abbrev pub IsAgain : Bool → ℕ → Type 0
IsAgain false again = again ≤ 8
IsAgain true again = again ≡ 0

abbrev pub is_again : What → Bool
is_again (Again task answer) = true
is_again what = false

-- what an early text may hold, or another: no task was run again in an early one
abbrev pub may_stand : Bool → What → Bool
may_stand early what = not (early && is_again what)

-- the line is that of the entry, which may stand in such a text
abbrev pub HasEntry : Bool → List ℕ → Entry → Type 0
HasEntry early line entry = (line ≡ entry_line entry) × IsEntry entry × IsTrue (may_stand early entry.what)

-- it is the line of no such entry
abbrev pub HasNoEntry : Bool → List ℕ → Type 0
HasNoEntry early line = (entry : Entry) → IsEntry entry → IsTrue (may_stand early entry.what) → line ≡ entry_line entry → ⊥

-- each of them can be written as a line
abbrev pub AreEntries : List Entry → Type 0
AreEntries entries = (n : ℕ) (entry : Entry) → slice_get entries n ≡ Some entry → IsEntry entry

-- what a text may tell
pub record IsTold (t : Told) : Type 0 where
  pub uuid : IsTrue (is_uuid t.uuid)
  pub name : IsTrue (is_text t.name)
  pub gitdir : IsTrue (is_text t.gitdir)
  pub stamp : t.stamp < 2 ^ 64
  pub again : IsAgain t.early t.again
  pub few : length t.tasks ≤ 65536
  pub tasks : (n : ℕ) (task : Task) → slice_get t.tasks n ≡ Some task → IsTask task
  pub kept : AreInOrder t.kept
  pub entries : AreEntries t.entries
  pub stand : (n : ℕ) (entry : Entry) → slice_get t.entries n ≡ Some entry → IsTrue (may_stand t.early entry.what)

-- the lines are the text of a run
abbrev pub IsWhole : List (List ℕ) → Type 0
IsWhole lines = (t : Told) × IsTold t × (told_lines t ≡ lines)

-- the text of some run begins with them
abbrev pub Begins : List (List ℕ) → Type 0
Begins lines = (more : List (List ℕ)) × IsWhole (lines ++ more)
