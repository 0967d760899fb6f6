-- Which files reading and writing a kept file name.
use Rattle.std.proofs.Common.{◌≡◌, ◌⊎◌, ℕ, List, inl, inr, Option, Ok, Err}
use Rattle.std.specs.Prelude.{Result}
use Rattle.ann_key.specs.declared.bytes.NoMemory.{NoMemory}
use Rattle.ann_outside.specs.Calls.{Log}
use Rattle.ann_outside.specs.declared.file_desk.DeskError.TheVariants as E
use Rattle.ann_outside.specs.TextFile.Names.{NamesOnly}
use Rattle.ann_outside.specs.TextFile.Writes.{new_name}
use Rattle.ann_outside.proofs.TextFileLemmas.Naming.{names_none, reads_named, replaces_named}
use Rattle.kept_file.specs.Desk.KeptDesks.{IsReadAs, IsWrittenBy}
use Rattle.kept_file.specs.declared.desk.reading.KeptRead.{KeptRead}
use Rattle.kept_file.specs.declared.desk.writing.KeptWritten.{KeptWritten}
use Rattle.kept_file.specs.declared.desk.writing.KeptWritten.TheVariants as W

pub kept_read_named : {old new : Option Log} (name : List ℕ) (result : Result KeptRead NoMemory) → IsReadAs old new name result → NamesOnly (λ other. other ≡ name) old new
kept_read_named name result (read, by, comes) = reads_named by

pub kept_written_named : {old new : Option Log} (name text : List ℕ) (result : Result KeptWritten NoMemory) → IsWrittenBy old new name text result → NamesOnly (λ other. (other ≡ name) ⊎ (other ≡ new_name name)) old new
kept_written_named name text (Ok W.TooLarge) h = names_none h.1
kept_written_named name text (Ok W.Done) h = replaces_named name text (Ok tt) h.1
kept_written_named name text (Ok W.Fault) (inl h) = replaces_named name text (Err E.Failed) h
kept_written_named name text (Ok W.Fault) (inr h) = replaces_named name text (Err E.Missing) h
kept_written_named name text (Err e) (inl h) = replaces_named name text (Err E.NoMemory) h
kept_written_named name text (Err e) (inr h) = names_none h
