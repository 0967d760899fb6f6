-- Which chunks the remote is known to have at a place of the journal: what the run began with, and then what was noted.
use Rattle.std.specs.Prelude.{ℕ, ◌≡◌, ◌*◌, ◌/◌, ◌%◌, List, ◌++◌, Option, None, option_map, fold, IsTrue}
use Rattle.task_text.specs.declared.chunk_log.note.Note.{Note}
use Rattle.task_text.specs.declared.chunk_log.stamp.Stamp.{Stamp}
use Rattle.task_text.specs.ChunkLog.NoteBooks.{counting, in_order, inserted}
use Rattle.task_text.specs.ChunkLog.Current.{IsCurrent}
use Rattle.task_text.specs.declared.task.Task.{Task}
use Rattle.journal_model.specs.declared.entry.What.{What}
use Rattle.journal_model.specs.declared.entry.What.TheVariants.{Note as Noted}
use Rattle.journal_model.specs.declared.entry.Entry.{Entry}
use Rattle.journal_model.specs.declared.opening.Opening.{Opening}
use Rattle.journal_model.specs.Journal.{each_of}
use Rattle.journal_model.specs.Legality.{task_of}

-- a stamp of microseconds as one of a chunk log
abbrev pub stamp_of : ℕ → Stamp
stamp_of micros = record { seconds = micros / 1000000; nanos = micros % 1000000 * 1000 }

-- so many chunks of that size of the task's key, by this remote, with the run's stamp
abbrev pub note_of : Opening → ℕ → ℕ → Task → Note
note_of o chunk count task = record {
  key = task.key;
  line = record { stamp = stamp_of o.stamp; uuid = o.identity.uuid; chunk = chunk; count = count };
}

abbrev pub noted : Opening → What → Option Note
noted o (Noted task chunk count) = option_map (note_of o chunk count) (task_of o task)
noted o w = None

-- all notes so far, in the order in which they came
abbrev pub notes_at : Opening → List Entry → List Note
notes_at o past = o.notes ++ each_of (noted o) past

-- The remote has the key in these layouts: a book with one line for each key, UUID and chunk size, the one that counts of all
-- notes so far, gives them.
pub record AreCurrentAt (o : Opening) (past : List Entry) (key : List ℕ) (layouts : List (ℕ × ℕ)) : Type 0 where
  pub book : List Note
  pub order : IsTrue (in_order book)
  pub counts : (k uuid : List ℕ) (chunk : ℕ) → counting book k uuid chunk ≡ counting (notes_at o past) k uuid chunk
  pub current : IsCurrent book key o.identity.uuid layouts

-- a book that is given notes one by one
abbrev pub with_notes : List Note → List Note → List Note
with_notes book notes = fold (λ b n. inserted n b) book notes

-- the run's book was in order, and gives these layouts once it is given all notes so far
abbrev pub GivesLayouts : Opening → List Entry → List ℕ → List (ℕ × ℕ) → Type 0
GivesLayouts o past key layouts = IsTrue (in_order o.notes) × IsCurrent (with_notes o.notes (each_of (noted o) past)) key o.identity.uuid layouts
