-- What is kept is what a setup begins with.
use Rattle.std.proofs.Common.{◌≡◌, ℕ, List, [], refl, subst}
use Rattle.std.specs.Prelude.{Option, Some, None, Result, Ok, Err, IfSome}
use Rattle.ann_key.specs.declared.bytes.NoMemory.{NoMemory}
use Rattle.ann_outside.specs.Calls.{Log}
use Rattle.ann_outside.specs.Files.{Files}
use Rattle.registers.specs.Registers.{RegisterFile}
use Rattle.task_text.specs.declared.chunk_log.note.Note.{Note}
use Rattle.cli_words.specs.declared.command.InitWords.{InitWords}
use Rattle.journal_model.specs.declared.opening.Opening.{Opening}
use Rattle.ann_outside.specs.declared.text_file.reading.FileRead.TheVariants as F
use Rattle.kept_file.specs.declared.desk.reading.KeptRead.{KeptRead}
use Rattle.kept_file.specs.declared.desk.reading.KeptRead.TheVariants.{Kept, TooLarge as LargeKept, Fault as FaultyKept}
use Rattle.kept_file.specs.Desk.KeptDesks.{IsKeptOf, IsReadAs, text_at, IsKeptAt}
use Rattle.info_and_init.specs.declared.init.beginning.Begun.TheVariants.{Ready}
use Rattle.info_and_init.specs.Init.Setups.{init_opening, IsTextOf, Begins}

-- ---- some text was read, and where files are told it is the file's

abbrev Reads : InitWords → Option Files → (List ℕ → Type 0) → Type 0
Reads words told P = (kept : List ℕ) × IsTextOf words told kept × P kept

-- what was read, where files are told, and where they aren't
told_text : (words : InitWords) (told : Option Files) (result : Result KeptRead NoMemory) (P : List ℕ → Type 0) → ((files : Files) → IsKeptAt words.keep files result → P (text_at words.keep files))
    → (kept : List ℕ) × P kept → IfSome told (λ files. IsKeptAt words.keep files result) → Reads words told P
told_text words None result P f k h = (k.0, tt, k.1)
told_text words (Some files) result P f k h = (text_at words.keep files, refl, f files h)

kept_text : (old new : Option Log) (name : List ℕ) (registers : RegisterFile) (notes : List Note) → IsReadAs old new name (Ok (Kept registers notes))
    → (kept : List ℕ) × IsKeptOf kept (Ok (Kept registers notes))
kept_text old new name registers notes (Ok (F.Text text), by, comes) = (text, comes)
kept_text old new name registers notes (Ok F.Missing, by, comes) = ([], comes)
kept_text old new name registers notes (Ok F.TooLarge, by, comes) = absurd (let bad : Ok (Kept registers notes) ≡ Ok LargeKept = comes in cc)
kept_text old new name registers notes (Ok F.Fault, by, comes) = absurd (let bad : Ok (Kept registers notes) ≡ Ok FaultyKept = comes in cc)
kept_text old new name registers notes (Err e, by, comes) = absurd (let bad : Ok (Kept registers notes) ≡ Err e = comes in cc)

-- ---- what it begins with

pub ready : (words : InitWords) (told : Option Files) (old new : Option Log) (registers : RegisterFile) (notes : List Note) (opening : Opening) → IsReadAs old new words.keep (Ok (Kept registers notes))
    → IfSome told (λ files. IsKeptAt words.keep files (Ok (Kept registers notes))) → opening ≡ init_opening words registers notes → Begins words told (Ok (Ready opening))
ready words told old new registers notes opening read known e =
    let found = told_text words told (Ok (Kept registers notes)) (λ kept. IsKeptOf kept (Ok (Kept registers notes))) (λ files h. h) (kept_text old new words.keep registers notes read) known in (
      found.0,
      found.1,
      found.2.0,
      record {
        notes = notes;
        counts = found.2.2;
        is = subst (λ (r : RegisterFile). opening ≡ init_opening words r notes) found.2.1 e;
      },
    )
