-- Bytes under names: keys with what is stored, or files with what is in them.
use Rattle.std.specs.Prelude.{ℕ, List, [], Option, fold}
use Rattle.registers.specs.Tables.{Texts, value_at, put, without as all_but}

-- names and bytes, in the rising byte order of the names
abbrev pub Items : Type 0
Items = Texts

-- the bytes under the name, if there are any
abbrev pub content : List ℕ → Items → Option (List ℕ)
content name items = value_at items name

-- all but what stands under the name
abbrev pub without : List ℕ → Items → Items
without name items = all_but items name

-- the bytes under the name, in place of what stood there
abbrev pub with_item : List ℕ → List ℕ → Items → Items
with_item name bytes items = put items name bytes

-- these, put one after the other
abbrev pub items_of : Items → Items
items_of pairs = fold (λ items pair. with_item pair.0 pair.1 items) [] pairs
