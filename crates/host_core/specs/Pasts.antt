-- The first entries of a journal, and a place of theirs before which none asks a job that is due.
use Rattle.std.specs.Prelude.{◌≤◌, List, length, take}
use Rattle.journal_model.specs.declared.entry.Entry.{Entry}
use Rattle.journal_scan.specs.Looks.{NoneDue}
use Rattle.host_core.specs.declared.group.Past.{Past}

pub record IsPast (entries : List Entry) (past : Past) : Type 0 where
  pub long : past.n ≤ length entries
  pub from : past.from ≤ past.n
  pub none : NoneDue (take past.n entries) past.from
