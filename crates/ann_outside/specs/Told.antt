-- What the objects outside tell, each as one value.
use Rattle.std.specs.Prelude.{ℕ, ◌≡◌, Bool, List, Option}
use Rattle.ann_outside.specs.Calls.{IsLogBlank, IsLogFrom, Log}
use Rattle.ann_outside.specs.DeskCauses.{Counts}
use Rattle.ann_outside.specs.Desks.{no_counts}
use Rattle.ann_outside.specs.Files.{Files}
use Rattle.ann_outside.specs.Starts.{Starts}

-- of a source: how often it failed, what it gave so far, what it has still to give, whether it is open, and the number of its start,
-- where it is a child's output
pub record SourceTold : Type 0 where
  pub faults : ℕ
  pub given : Option (List ℕ)
  pub left : Option (List ℕ)
  pub is_open : Bool
  pub number : Option ℕ

-- of a sink: how often it failed, what it took so far, whether it is open, and the number of its start, where it is a child's input
pub record SinkTold : Type 0 where
  pub faults : ℕ
  pub taken : Option (List ℕ)
  pub is_open : Bool
  pub number : Option ℕ

-- of programs: how often they failed, and the names asked for so far, each with whether a child was started; a start that found no
-- memory isn't among them
pub record ProgramsTold : Type 0 where
  pub faults : ℕ
  pub starts : Option Starts

-- of a desk: its counts, its files, and its calls so far, after the files that it had before the first; a call that found no memory
-- isn't among them
pub record DeskTold : Type 0 where
  pub counts : Counts
  pub files : Option Files
  pub log : Option Log

-- a desk that was made just now: it counted nothing, no call was made on it, and its log begins with the files that it has
abbrev pub IsNew : DeskTold → Type 0
IsNew desk = (desk.counts ≡ no_counts) × IsLogBlank desk.log × IsLogFrom desk.log desk.files
