-- Openings whose text tells them whole, but for users and passwords and for parts of a microsecond.
use Rattle.std.specs.Prelude.{ℕ, ◌≡◌, ◌<◌, ◌≤◌, ◌^◌, List, [], Some, All, map, length, slice_get, IsTrue}
use Rattle.registers.specs.Registers.{IsKept}
use Rattle.task_text.specs.ChunkLog.NoteBooks.{in_order}
use Rattle.kept_file.specs.Text.KeptFiles.{cut_note, IsKeepable}
use Rattle.task_text.specs.TaskLines.{IsTask}
use Rattle.task_text.specs.declared.task.Task.{Task}
use Rattle.journal_model.specs.declared.entry.Entry.{Entry}
use Rattle.journal_model.specs.declared.opening.Opening.{Opening}
use Rattle.journal_reader.specs.RunTexts.{AreEntries, is_uuid}
use Rattle.journal_model.specs.Legality.{is_text}

-- its texts, numbers, tasks, registers and notes are of their classes
pub record IsTellable (o : Opening) : Type 0 where
  pub uuid : IsTrue (is_uuid o.identity.uuid)
  pub name : IsTrue (is_text o.identity.name)
  pub gitdir : IsTrue (is_text o.identity.gitdir)
  pub stamp : o.stamp < 2 ^ 64
  pub again : o.again ≤ 8
  pub few : length o.tasks ≤ 65536
  pub tasks : (n : ℕ) (task : Task) → slice_get o.tasks n ≡ Some task → IsTask task
  pub registers : IsKept o.registers
  pub notes : All IsKeepable o.notes
  pub order : IsTrue (in_order o.notes)

-- and so is each entry of the journal
pub record CanBeTold (o : Opening) (journal : List Entry) : Type 0 where
  pub opening : IsTellable o
  pub entries : AreEntries journal

-- The opening that was read is the one that was written: users and passwords are left out, and the stamps of notes are cut to
-- microseconds.
pub record IsReadBack (read written : Opening) : Type 0 where
  pub tasks : read.tasks ≡ written.tasks
  pub registers : read.registers ≡ record written.registers { creds = [] }
  pub notes : read.notes ≡ map cut_note written.notes
  pub identity : read.identity ≡ written.identity
  pub stamp : read.stamp ≡ written.stamp
  pub again : read.again ≡ written.again

-- What the text of an opening tells of it: all but users and passwords, and the stamps of notes cut to microseconds.
abbrev pub as_told : Opening → Opening
as_told o = record {
  tasks = o.tasks;
  registers = record o.registers { creds = [] };
  notes = map cut_note o.notes;
  identity = o.identity;
  stamp = o.stamp;
  again = o.again;
}
