-- The layouts in which the remote is known to have a task's key, and what stays of them.
use Rattle.std.specs.Prelude.{ℕ, ◌≡◌, ◌==◌, not, Bool, true, false, List, [], ◌∷◌, ◌++◌, Option, Some, None, IsTrue}
use Rattle.std.specs.List.{list_all}
use Rattle.task_text.specs.declared.chunk_log.note.Note.{Note}
use Rattle.task_text.specs.ChunkLog.NoteBooks.{in_order}
use Rattle.task_text.specs.ChunkLog.Current.{layouts_of}
use Rattle.task_text.specs.declared.task.Task.{Task}
use Rattle.journal_model.specs.declared.entry.What.TheVariants.{Claim}
use Rattle.journal_model.specs.declared.entry.Entry.{Entry}
use Rattle.journal_model.specs.declared.opening.Opening.{Opening}
use Rattle.journal_model.specs.Journal.{any}
use Rattle.journal_model.specs.Legality.{Legal, closes, is_busy, task_of}
use Rattle.journal_model.specs.Notes.{AreCurrentAt}
use Rattle.host_core.specs.Books.{notes_after}
use Rattle.host_core.specs.declared.event.Reply.{Reply}
use Rattle.host_core.specs.declared.event.Reply.TheVariants.{Layouts as Known}
use Rattle.crew_work.specs.Worker.Noting.{by_noting}

-- a note is of chunks that hold something
abbrev pub is_sized : Note → Bool
is_sized note = not (note.line.chunk == 0)

-- One line for each key, UUID and chunk size, in their order, and each of chunks that hold something: each book that code makes
-- is so, and so the one that a run begins with.
pub record IsBook (notes : List Note) : Type 0 where
  pub order : IsTrue (in_order notes)
  pub sized : list_all is_sized notes ≡ true

abbrev pub layouts_at : Opening → List Entry → Option Task → List (ℕ × ℕ)
layouts_at o journal None = []
layouts_at o journal (Some task) = layouts_of (notes_after o journal) task.key o.identity.uuid

-- those that the core tells of task t after the journal
abbrev pub known_layouts : Opening → List Entry → ℕ → List (ℕ × ℕ)
known_layouts o journal t = layouts_at o journal (task_of o t)

-- the layouts that a reply tells, or none
abbrev pub known_in : Reply → List (ℕ × ℕ)
known_in (Known layouts) = layouts
known_in reply = []

-- two busy tasks never name one key
abbrev pub BusyKeysDiffer : Type 0
BusyKeysDiffer =
    (o : Opening) (journal : List Entry) → Legal o journal → (t u : ℕ) (s r : Task) → is_busy journal t ≡ true → is_busy journal u ≡ true
    → task_of o t ≡ Some s → task_of o u ≡ Some r → s.key ≡ r.key → t ≡ u

-- while a task is busy and notes nothing, whatever others note, its layouts stay
abbrev pub LayoutsStay : Type 0
LayoutsStay =
    (o : Opening) (past more : List Entry) (t : ℕ) → Legal o (past ++ more) → is_busy past t ≡ true → any (closes t) more ≡ false → any (by_noting t) more ≡ false
    → known_layouts o (past ++ more) t ≡ known_layouts o past t

-- Since its claim, as long as it noted nothing and its run isn't closed, its layouts are those in which the remote was known to have its key
-- when it was claimed. A book that a run begins with is in order.
abbrev pub LayoutsSinceClaim : Type 0
LayoutsSinceClaim =
    (o : Opening) (past within : List Entry) (by c t : ℕ) (task : Task) → IsTrue (in_order o.notes) → task_of o t ≡ Some task
    → Legal o (past ++ record { by = by; what = Claim t c } ∷ within) → any (closes t) within ≡ false → any (by_noting t) within ≡ false
    → AreCurrentAt o past task.key (known_layouts o (past ++ record { by = by; what = Claim t c } ∷ within) t)
