-- What comes of keeping what is known.
use Rattle.ann_outside.specs.Told.{DeskTold}
use Rattle.std.proofs.Common.{◌≡◌, ◌⊎◌, ℕ, List, refl, sym, ap, subst, arith, inl, inr, Some, None, Option, Ok, Err}
use Rattle.std.specs.Prelude.{Result}
use Rattle.ann_key.specs.declared.bytes.NoMemory.{NoMemory}
use Rattle.ann_outside.specs.Calls.{Log}
use Rattle.ann_outside.specs.Causes.{Rose}
use Rattle.ann_outside.specs.DeskCauses.{Counts}
use Rattle.ann_outside.specs.Files.{Files, WhereTold, OthersStay, content}
use Rattle.ann_outside.specs.TextFile.Writes.{new_name}
use Rattle.kept_file.specs.declared.desk.writing.KeptWritten.{KeptWritten}
use Rattle.kept_file.specs.declared.desk.writing.KeptWritten.TheVariants as W
use Rattle.kept_file.specs.Desk.KeptDesks.{IsWrittenBy, IsWrittenIn, HasWriteCauses}
use Rattle.cli_words.specs.declared.command.RunWords.{RunWords}
use Rattle.journal_model.specs.declared.entry.Entry.{Entry}
use Rattle.journal_model.specs.declared.opening.Opening.{Opening}
use Rattle.run_and_check.specs.Run.Runs.{IsNewOf, RunFilesStay, HasFailed, IsRunKept, IsKeptIn, kept_after}
use Rattle.run_and_check.specs.Run.Workings.{Keeps}
use Rattle.run_and_check.proofs.RunLemmas.Begun.{with_keep}

-- ---- files that stay

pub as_before : (words : RunWords) (told : Option Files) (table : DeskTold) → table.files ≡ told → RunFilesStay words told table
as_before words told table e = subst (λ (t : Option Files). WhereTold told t (OthersStay (IsNewOf words.keep))) (sym e) (go told)
  where
    go : (told : Option Files) → WhereTold told told (OthersStay (IsNewOf words.keep))
    go None = tt
    go (Some files) = λ other d. refl

unnamed : (words : RunWords) (told : Option Files) (table : DeskTold) (o : Opening) (journal : List Entry) → words.keep ≡ None → table.files ≡ told → IsRunKept words told table o journal W.Done
unnamed words told table o journal e same =
    with_keep (λ (w : RunWords). IsRunKept w told table o journal W.Done) words None e (refl, as_before (record words { keep = None }) told table same)

pub keeps_unnamed : (words : RunWords) (told : Option Files) (table : DeskTold) (o : Opening) (journal : List Entry) → words.keep ≡ None → table.files ≡ told → Keeps words told table o journal (Ok W.Done)
keeps_unnamed words told table o journal e same = unnamed words told table o journal e same

-- ---- what was written

pub rises : (faults faults' : ℕ) → Rose faults faults' → Rose 0 faults'
rises faults faults' h = omega (arith, h)

failed : (told : Option Files) (old : Counts) (table : DeskTold) → Rose old.faults table.counts.faults ⊎ ((told ≡ None) × Rose old.missing table.counts.missing) → HasFailed told table
failed told old table (inl h) = inl (rises old.faults table.counts.faults h)
failed told old table (inr h) = inr (h.0, rises old.missing table.counts.missing h.1)

named_before : (words : RunWords) (told : Option Files) (table : DeskTold) (name : List ℕ) → words.keep ≡ Some name
    → WhereTold told table.files (OthersStay (λ other. other ≡ new_name name)) → RunFilesStay words told table
named_before words told table name e h = with_keep (λ (w : RunWords). RunFilesStay w told table) words (Some name) e h

same_before : (words : RunWords) (told : Option Files) (table : DeskTold) → WhereTold told table.files (λ old new. new ≡ old) → RunFilesStay words told table
same_before words told table h = go told table.files h
  where
    go : (told new : Option Files) → WhereTold told new (λ old new. new ≡ old) → WhereTold told new (OthersStay (IsNewOf words.keep))
    go None None h = tt
    go None (Some new) h = absurd h
    go (Some old) None h = absurd h
    go (Some old) (Some new) h = λ other d. ap (content other) h

module _ (words : RunWords) (told : Option Files) (table : DeskTold) (o : Opening) (journal : List Entry) (name text : List ℕ) (log log' : Option Log) (old : Counts) (named : words.keep ≡ Some name)
    (is : text ≡ kept_after o journal) where
  kept_in : (written : KeptWritten) → IsWrittenBy log log' name text (Ok written) → WhereTold told table.files (IsWrittenIn name text (Ok written)) → HasWriteCauses told old table.counts (Ok written)
      → IsKeptIn words name told table o journal written
  kept_in W.Done by files causes = subst (λ (t : List ℕ). WhereTold told table.files (IsWrittenIn name t (Ok W.Done))) is files
  kept_in W.TooLarge by files causes = ((subst (λ (t : List ℕ). IsWrittenBy log log' name t (Ok W.TooLarge)) is by).0, same_before words told table files)
  kept_in W.Fault by files causes = (failed told old table (causes.fault refl), named_before words told table name named files)

  kept : (written : KeptWritten) → IsWrittenBy log log' name text (Ok written) → WhereTold told table.files (IsWrittenIn name text (Ok written)) → HasWriteCauses told old table.counts (Ok written)
      → IsRunKept words told table o journal written
  kept written by files causes = with_keep (λ (w : RunWords). IsKeptIn words name told table o journal written → IsRunKept w told table o journal written) words (Some name) named (go written) (kept_in written by files causes)
    where
      go : (written : KeptWritten) → IsKeptIn words name told table o journal written → IsRunKept (record words { keep = Some name }) told table o journal written
      go W.Done h = h
      go W.TooLarge h = (h.0, with_keep (λ (w : RunWords). RunFilesStay w told table → RunFilesStay (record words { keep = Some name }) told table) words (Some name) named (λ x. x) h.1)
      go W.Fault h = (h.0, with_keep (λ (w : RunWords). RunFilesStay w told table → RunFilesStay (record words { keep = Some name }) told table) words (Some name) named (λ x. x) h.1)

  pub keeps_named : (result : Result KeptWritten NoMemory) → IsWrittenBy log log' name text result → WhereTold told table.files (IsWrittenIn name text result) → HasWriteCauses told old table.counts result
      → Keeps words told table o journal result
  keeps_named (Ok written) by files causes = kept written by files causes
  keeps_named (Err e) by files causes = named_before words told table name named files
