-- What copying a range of a file out does at a desk.
use Rattle.std.specs.Prelude.{nat_lt, Bool, true, ◌≡◌, ℕ, ◌≤◌, ◌+◌, ◌-◌, ◌⊎◌, List, [], ◌∷◌, ◌++◌, length, Option, Result, Ok, Err}
use Rattle.std.specs.List.{concat, list_all}
use Rattle.ann_key.specs.declared.bytes.NoMemory.{NoMemory}
use Rattle.ann_outside.specs.Calls.{Log, Gained}
use Rattle.ann_outside.specs.Files.{Files, WhereTold}
use Rattle.ann_outside.specs.declared.file_desk.Call.{Call}
use Rattle.ann_outside.specs.declared.file_desk.Call.TheVariants.{Create, ReadAt}
use Rattle.task_model.specs.declared.copying.copied.Copied.{Copied}
use Rattle.task_model.specs.declared.copying.copied.Copied.TheVariants.{Done, Fault, Missing}
use Rattle.task_model.specs.Copying.Copies.{copy_calls, CountIs, EndsCopy}
use Rattle.task_model.specs.Copying.FilesAfter.{HoldsRange, IsUnmade}
use Rattle.task_model.specs.Copying.Resumes.{IsNotBegun}

-- the call reads from no place at `to` or after it
abbrev pub reads_before : ℕ → Call → Bool
reads_before to (ReadAt name at answer) = nat_lt at to
reads_before to _ = true

-- These calls and then pieces of the one file, from the range's begin on, in their order and of no more bytes than it has, were read and
-- appended to the other.
pub record CopiesRange (before_them : List Call) (old new : Option Log) (file : List ℕ) (from to : ℕ) (name : List ℕ) (result : Result Copied NoMemory) : Type 0 where
  pub pieces : List (List ℕ)
  pub ending : List Call
  pub calls : Gained old new (before_them ++ copy_calls file name from pieces ++ ending)
  pub ends : EndsCopy file name (from + length (concat pieces)) ((to - from) - length (concat pieces)) result ending
  pub count : CountIs result (length (concat pieces))
  pub most : length (concat pieces) ≤ to - from
  pub within : list_all (reads_before to) (copy_calls file name from pieces ++ ending) ≡ true

-- The named file was made, got the range, and holds what it got. Where it wasn't made, nothing was read.
abbrev pub CopiesOut : Option Log → Option Log → Option Files → Option Files → List ℕ → ℕ → ℕ → List ℕ → Result Copied NoMemory → Type 0
CopiesOut old new before after file from to name result =
    (CopiesRange (Create name (Ok tt) ∷ []) old new file from to name result × WhereTold before after (HoldsRange file name from to result))
    ⊎ (IsNotBegun (λ answer. Create name answer) old new result × WhereTold before after (IsUnmade name result))

-- no byte was copied
abbrev pub CopiesNothing : Result Copied NoMemory → Type 0
CopiesNothing (Ok (Done n)) = n ≡ 0
CopiesNothing (Ok Fault) = Unit {0}
CopiesNothing (Ok Missing) = Unit {0}
CopiesNothing (Err e) = Unit {0}
