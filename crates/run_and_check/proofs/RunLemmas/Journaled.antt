-- What comes of writing the journal file after the kept file.
use Rattle.ann_outside.specs.Told.{DeskTold}
use Rattle.std.proofs.Common.{◌≡◌, ℕ, List, refl, sym, subst, inl, inr, true, false, Some, None, Option, Ok, Err}
use Rattle.std.specs.Prelude.{Result, IsErr}
use Rattle.ann_key.specs.declared.bytes.NoMemory.{NoMemory}
use Rattle.ann_outside.specs.Files.{Files, WhereTold}
use Rattle.kept_file.specs.declared.desk.writing.KeptWritten.{KeptWritten}
use Rattle.journal_text.specs.File.JournalDesks.{HasWriteCauses, IsWrittenIn, journal_text}
use Rattle.journal_text.specs.declared.file.writing.JournalWritten.{JournalWritten}
use Rattle.journal_text.specs.declared.file.writing.JournalWritten.TheVariants as J
use Rattle.cli_words.specs.declared.command.RunWords.{RunWords}
use Rattle.journal_model.specs.declared.entry.Entry.{Entry}
use Rattle.journal_model.specs.declared.opening.Opening.{Opening}
use Rattle.run_and_check.specs.Run.Runs.{RunFilesStay, IsRunKept, IsJournaled, told_of}
use Rattle.run_and_check.specs.Run.Workings.{Writes}

-- what holds of the words with that journal file holds of them
with_journal : (P : RunWords → Type 0) (words : RunWords) (journal : Option (List ℕ)) → words.journal ≡ journal → P (record words { journal = journal }) → P words
with_journal P words journal e h = subst (λ (j : Option (List ℕ)). P (record words { journal = j })) (sym e) h

-- ---- the journal file

pub journaled_none : (words : RunWords) (table : DeskTold) (o : Opening) (journal : List Entry) → words.journal ≡ None → IsJournaled words table table o journal (Ok J.Done)
journaled_none words table o journal e = with_journal (λ (w : RunWords). IsJournaled w table table o journal (Ok J.Done)) words None e (refl, refl)

pub journaled_named : (words : RunWords) (before after : DeskTold) (o o' : Opening) (journal journal' : List Entry) (name : List ℕ) (result : Result JournalWritten NoMemory) → words.journal ≡ Some name → o' ≡ o → journal' ≡ journal
    → WhereTold before.files after.files (IsWrittenIn name (journal_text o' journal') result) → HasWriteCauses before.files before.counts after.counts result → IsJournaled words before after o journal result
journaled_named words before after o o' journal journal' name result e same_o same_j files causes =
    with_journal (λ (w : RunWords). IsJournaled w before after o journal result) words (Some name) e (
      subst (λ (x : Opening). WhereTold before.files after.files (IsWrittenIn name (journal_text x journal) result)) same_o
          (subst (λ (x : List Entry). WhereTold before.files after.files (IsWrittenIn name (journal_text o' x) result)) same_j files),
      causes,
    )

-- ---- both files

pub writes_both : (words : RunWords) (told : Option Files) (mid table : DeskTold) (o : Opening) (journal : List Entry) (of_kept written : KeptWritten) (of_journal : JournalWritten) → IsRunKept words told mid o journal of_kept
    → IsJournaled words mid table o journal (Ok of_journal) → written ≡ told_of of_kept of_journal → Writes words told table o journal (Ok written)
writes_both words told mid table o journal of_kept written of_journal kept journaled is =
    record { mid = mid; of_kept = of_kept; kept = kept; of_journal = of_journal; journaled = journaled; told_is = is }

pub writes_kept_alone : (words : RunWords) (told : Option Files) (mid table : DeskTold) (o : Opening) (journal : List Entry) (of_kept : KeptWritten) (want : NoMemory) (result : Result KeptWritten NoMemory) → IsErr result
    → IsRunKept words told mid o journal of_kept → IsJournaled words mid table o journal (Err want) → Writes words told table o journal result
writes_kept_alone words told mid table o journal of_kept want (Ok written) bad kept journaled = absurd (let no : false ≡ true = bad in cc)
writes_kept_alone words told mid table o journal of_kept want (Err e) is kept journaled =
    inr record { mid = mid; of_kept = of_kept; kept = kept; want = want; journaled = journaled }

pub writes_nothing : (words : RunWords) (told : Option Files) (table : DeskTold) (o : Opening) (journal : List Entry) (want : NoMemory) → RunFilesStay words told table → Writes words told table o journal (Err want)
writes_nothing words told table o journal want before = inl before
