use Rattle.std.specs.Prelude.{List, Bool}
use Rattle.task_text.specs.declared.chunk_log.note.Note.{Note}
use Rattle.registers.specs.Registers.{RegisterFile}
use Rattle.journal_model.specs.declared.entry.Entry.{Entry}
use Rattle.journal_model.specs.declared.opening.Opening.{Opening}

-- what contracts see of a core
pub record CoreValue : Type 0 where
  pub opening : Opening
  pub journal : List Entry
  pub registers : RegisterFile
  pub notes : List Note
  pub shut : Bool
