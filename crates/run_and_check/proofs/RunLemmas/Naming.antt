-- Which files a run's calls on desk 0 name.
use Rattle.std.proofs.Common.{◌≡◌, ◌⊎◌, ◌∙◌, ℕ, List, ap, sym, subst, inl, inr, Some, Option}
use Rattle.std.specs.Prelude.{Result}
use Rattle.ann_key.specs.declared.bytes.NoMemory.{NoMemory}
use Rattle.ann_outside.specs.Calls.{Log}
use Rattle.ann_outside.specs.TextFile.Names.{NamesOnly}
use Rattle.ann_outside.specs.TextFile.Writes.{new_name}
use Rattle.ann_outside.proofs.TextFileLemmas.Naming.{names_wider}
use Rattle.kept_file.specs.Desk.KeptDesks.{IsReadAs, IsWrittenBy as IsKeptBy}
use Rattle.kept_file.specs.declared.desk.reading.KeptRead.{KeptRead}
use Rattle.kept_file.specs.declared.desk.writing.KeptWritten.{KeptWritten}
use Rattle.kept_file.proofs.DeskLemmas.Naming.{kept_read_named, kept_written_named}
use Rattle.journal_text.specs.File.JournalDesks.{IsWrittenBy}
use Rattle.journal_text.specs.declared.file.writing.JournalWritten.{JournalWritten}
use Rattle.journal_text.proofs.FileLemmas.Naming.{journal_written_named}
use Rattle.cli_words.specs.declared.command.RunWords.{RunWords}
use Rattle.run_and_check.specs.Run.Runs.{IsKeptFile, IsRunFile}

kept_file : (words : RunWords) (name other : List ℕ) → words.keep ≡ Some name → (other ≡ name) ⊎ (other ≡ new_name name) → IsRunFile words other
kept_file words name other e h = inl (subst (λ (k : Option (List ℕ)). IsKeptFile k other) (sym e) h)

module _ (words : RunWords) {old new : Option Log} (name : List ℕ) where
  pub read_names : (result : Result KeptRead NoMemory) → words.keep ≡ Some name → IsReadAs old new name result → NamesOnly (IsRunFile words) old new
  read_names result e by = names_wider (λ other is. kept_file words name other e (inl is)) (kept_read_named name result by)

  -- the name that was used is the one of the words
  module _ (given : List ℕ) (same : name ≡ given) where
    pub kept_names : (text : List ℕ) (result : Result KeptWritten NoMemory) → words.keep ≡ Some given → IsKeptBy old new name text result → NamesOnly (IsRunFile words) old new
    kept_names text result e by = names_wider (λ other is. kept_file words name other (e ∙ ap (λ (x : List ℕ). Some x) (sym same)) is) (kept_written_named name text result by)

    pub journal_names : (lines : List (List ℕ)) (result : Result JournalWritten NoMemory) → words.journal ≡ Some given → IsWrittenBy old new name lines result → NamesOnly (IsRunFile words) old new
    journal_names lines result e by = names_wider (λ other is. inr (e ∙ ap (λ (x : List ℕ). Some x) (sym (is ∙ same)))) (journal_written_named name lines result by)
