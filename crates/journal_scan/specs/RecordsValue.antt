use Rattle.std.specs.Prelude.{ℕ, List}
use Rattle.journal_model.specs.declared.entry.Entry.{Entry}

-- what contracts see of records: the entries; for how many in all there is room; for how many more bytes of lines there is room
pub record RecordsValue : Type 0 where
  pub entries : List Entry
  pub room : ℕ
  pub spare : ℕ
