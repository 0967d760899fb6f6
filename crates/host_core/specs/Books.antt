-- The book of notes after a journal, and what a group notes in it.
use Rattle.std.specs.Prelude.{ℕ, ◌≡◌, ◌<◌, Bool, true, false, List, Option, Some, None, IsTrue}
use Rattle.task_text.specs.declared.chunk_log.note.Note.{Note}
use Rattle.task_text.specs.ChunkLog.NoteBooks.{in_order}
use Rattle.journal_model.specs.declared.entry.What.{What}
use Rattle.journal_model.specs.declared.entry.What.TheVariants.{Note as Noted}
use Rattle.journal_model.specs.declared.entry.Entry.{Entry}
use Rattle.journal_model.specs.declared.opening.Opening.{Opening}
use Rattle.journal_model.specs.Journal.{each_of}
use Rattle.journal_model.specs.Legality.{task_of}
use Rattle.journal_model.specs.Notes.{AreCurrentAt, noted, with_notes}
use Rattle.task_text.specs.declared.task.Task.{Task}

-- the book that the run began with, given each note of the journal in turn
abbrev pub notes_after : Opening → List Entry → List Note
notes_after o past = with_notes o.notes (each_of (noted o) past)

-- this is the book after the journal, and the one that the run began with is in order
pub record IsNoted (o : Opening) (past : List Entry) (notes : List Note) : Type 0 where
  pub given : notes ≡ notes_after o past
  pub order : IsTrue (in_order o.notes)

-- the remote has the content of this task's key in these layouts, by all notes so far
abbrev pub AreTaskLayouts : Opening → List Entry → ℕ → List (ℕ × ℕ) → Type 0
AreTaskLayouts o past number layouts = (task : Task) × (task_of o number ≡ Some task) × AreCurrentAt o past task.key layouts

-- ---- what the first entry of a group notes

abbrev pub noted_in : Opening → Option What → Option Note
noted_in o None = None
noted_in o (Some w) = noted o w

abbrev pub is_note : Option What → Bool
is_note (Some (Noted task chunk count)) = true
is_note what = false

-- a note is of chunks that hold something
abbrev pub IsSized : Option What → Type 0
IsSized (Some (Noted task chunk count)) = 0 < chunk
IsSized what = Unit {0}
