-- A journal that is being written.
use Rattle.std.specs.Prelude.{ℕ, Bool, List}
use Rattle.kit_async_model.specs.declared.entry.Entry.{Entry}

-- whether its entries are in hand, they, and how many more have room
pub record EntriesValue : Type 0 where
  pub kept : Bool
  pub entries : List Entry
  pub room : ℕ
