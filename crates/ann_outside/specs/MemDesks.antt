-- What desks in memory are made of.
use Rattle.std.specs.Prelude.{◌≡◌, ℕ, List, [], ◌∷◌, drop, length, Some}
use Rattle.ann_outside.specs.Desks.{Made}
use Rattle.ann_outside.specs.Fails.{Begins}
use Rattle.ann_outside.specs.Files.{Files}
use Rattle.ann_outside.specs.MemDesk.{desk_fails}
use Rattle.ann_outside.specs.declared.mem.desk.MemDesk.{MemDesk}
use Rattle.ann_outside.specs.declared.mem.desks.MemDesks.{MemDesks}

-- the desks that weren't handed out yet
abbrev pub desks_left : MemDesks → List MemDesk
desks_left s = drop (length s.numbers.items) s.desks.items

-- the files of the first of the desks, and which of its calls fail; none has no files
abbrev pub files_next : List MemDesk → Files
files_next [] = []
files_next (desk ∷ later) = desk.state.files.items

abbrev pub fails_next_desk : List MemDesk → List ℕ
fails_next_desk [] = []
fails_next_desk (desk ∷ later) = desk.state.fails.at.items

-- the desks that were made for these numbers, in order
abbrev pub made_from : List MemDesk → List ℕ → List Made
made_from desks [] = []
made_from desks (number ∷ later) = record { number = number; files = Some (files_next desks) } ∷ made_from (drop 1 desks) later

-- a desk without calls, which holds these files, and of which these calls are to fail
pub record IsBegun (desk : MemDesk) (held : Files) (failing : List ℕ) : Type 0 where
  pub files : desk.state.files.items ≡ held
  pub fails : Begins (desk_fails desk) failing
  pub log : (desk.state.log.items ≡ []) × (desk.origin.value.items ≡ held)
  pub missing : desk.state.missing ≡ 0
