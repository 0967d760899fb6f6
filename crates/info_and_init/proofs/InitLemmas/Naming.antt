-- Which files a setup's calls on desk 0 name.
use Rattle.std.proofs.Common.{◌≡◌, ◌⊎◌, ℕ, List, Option, subst}
use Rattle.std.specs.Prelude.{Result}
use Rattle.ann_key.specs.declared.bytes.NoMemory.{NoMemory}
use Rattle.ann_outside.specs.Calls.{Log}
use Rattle.cli_words.specs.declared.command.InitWords.{InitWords}
use Rattle.ann_outside.specs.TextFile.Names.{NamesOnly}
use Rattle.ann_outside.specs.TextFile.Writes.{new_name}
use Rattle.kept_file.specs.Desk.KeptDesks.{IsReadAs, IsWrittenBy}
use Rattle.kept_file.specs.declared.desk.reading.KeptRead.{KeptRead}
use Rattle.kept_file.specs.declared.desk.writing.KeptWritten.{KeptWritten}
use Rattle.kept_file.proofs.DeskLemmas.Naming.{kept_read_named, kept_written_named}
use Rattle.info_and_init.specs.Init.Inits.{IsInitFile}

-- the kept file is read by the name that the words give
pub begun_named : {old new : Option Log} {name keep : List ℕ} (result : Result KeptRead NoMemory) → name ≡ keep → IsReadAs old new name result → NamesOnly (λ other. other ≡ keep) old new
begun_named {old} {new} {name} {keep} result is by = subst (λ (n : List ℕ). NamesOnly (λ other. other ≡ n) old new) is (kept_read_named name result by)

-- and written by it
pub kept_named : (words : InitWords) {old new : Option Log} (name text : List ℕ) (result : Result KeptWritten NoMemory) → name ≡ words.keep → IsWrittenBy old new name text result → NamesOnly (IsInitFile words) old new
kept_named words {old} {new} name text result is by = subst (λ (n : List ℕ). NamesOnly (λ other. (other ≡ n) ⊎ (other ≡ new_name n)) old new) is (kept_written_named name text result by)
