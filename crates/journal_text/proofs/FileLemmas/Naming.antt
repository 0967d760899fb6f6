-- Which file writing a journal file names.
use Rattle.std.proofs.Common.{◌≡◌, ℕ, List, [], ◌∷◌, refl, inl, inr, Option, Ok, Err}
use Rattle.std.specs.Prelude.{Result}
use Rattle.ann_key.specs.declared.bytes.NoMemory.{NoMemory}
use Rattle.ann_outside.specs.Calls.{Log}
use Rattle.ann_outside.specs.declared.file_desk.DeskError.{DeskError}
use Rattle.ann_outside.specs.declared.file_desk.DeskError.TheVariants as E
use Rattle.ann_outside.specs.TextFile.Names.{CallsName, NamesOnly}
use Rattle.ann_outside.proofs.TextFileLemmas.Naming.{makes_named}
use Rattle.journal_text.specs.File.JournalDesks.{IsWrittenBy, MakesLines, MakesSynced, piece_appends, piece_calls}
use Rattle.journal_text.specs.declared.file.writing.JournalWritten.{JournalWritten}
use Rattle.journal_text.specs.declared.file.writing.JournalWritten.TheVariants.{Done, Fault}

pieces_named : (name : List ℕ) (pieces : List (List (List ℕ))) → CallsName (λ other. other ≡ name) (piece_appends name pieces)
pieces_named name [] = tt
pieces_named name (piece ∷ pieces) = (refl, pieces_named name pieces)

lines_named : {old new : Option Log} (name : List ℕ) (lines : List (List ℕ)) (result : Result (Unit {0}) DeskError) → MakesLines old new name lines result → NamesOnly (λ other. other ≡ name) old new
lines_named {old} {new} name lines result (pieces, are, makes) = makes_named (piece_calls name pieces) result (refl, pieces_named name pieces) makes

synced_named : {old new : Option Log} (name : List ℕ) (lines : List (List ℕ)) (result : Result (Unit {0}) DeskError) → MakesSynced old new name lines result → NamesOnly (λ other. other ≡ name) old new
synced_named name lines (Ok done) h = lines_named name lines (Ok tt) h
synced_named name lines (Err e) (inl h) = lines_named name lines (Err e) h
synced_named name lines (Err e) (inr h) = lines_named name lines (Ok tt) h

pub journal_written_named : {old new : Option Log} (name : List ℕ) (lines : List (List ℕ)) (result : Result JournalWritten NoMemory) → IsWrittenBy old new name lines result → NamesOnly (λ other. other ≡ name) old new
journal_written_named name lines (Ok Done) h = synced_named name lines (Ok tt) h
journal_written_named name lines (Ok Fault) (inl h) = synced_named name lines (Err E.Failed) h
journal_written_named name lines (Ok Fault) (inr h) = synced_named name lines (Err E.Missing) h
journal_written_named name lines (Err e) h = synced_named name lines (Err E.NoMemory) h
