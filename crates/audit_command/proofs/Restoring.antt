-- The kept file of a run that is recovered.
use Rattle.std.proofs.Common.{◌≡◌, ◌⊎◌, ℕ, ◌+◌, ◌<◌, List, [], length, replicate, refl, sym, ap, subst, arith, inl, inr, Some, None, Option, Ok, Err}
use Rattle.std.specs.Prelude.{Result, IfOk, IfSome}
use Rattle.std.proofs.lemmas.List.{length-replicate}
use Rattle.ann_key.specs.declared.bytes.NoMemory.{NoMemory}
use Rattle.ann_key.proofs.Options.{some_is}
use Rattle.ann_outside.specs.Calls.{Log}
use Rattle.ann_outside.specs.Causes.{Rose}
use Rattle.ann_outside.specs.DeskCauses.{Counts}
use Rattle.ann_outside.specs.Files.{Files, WhereTold, OthersStay, content}
use Rattle.ann_outside.specs.Told.{DeskTold}
use Rattle.ann_outside.specs.declared.text_file.reading.FileRead.TheVariants as F
use Rattle.task_text.specs.declared.chunk_log.note.Note.{Note}
use Rattle.registers.specs.Registers.{RegisterFile}
use Rattle.kept_file.specs.Text.KeptFiles.{bad_line}
use Rattle.kept_file.specs.Desk.KeptDesks.{IsKeptAt, IsKeptOf, IsReadAs, IsWrittenBy, IsWrittenIn, HasWriteCauses, text_at}
use Rattle.kept_file.specs.declared.desk.TheConstants.{MOST_BYTES}
use Rattle.kept_file.specs.declared.desk.reading.KeptRead.TheVariants as K
use Rattle.kept_file.specs.declared.desk.writing.KeptWritten.{KeptWritten}
use Rattle.kept_file.specs.declared.desk.writing.KeptWritten.TheVariants as W
use Rattle.host_core.specs.CoreValue.{CoreValue}
use Rattle.journal_model.specs.declared.entry.Entry.{Entry}
use Rattle.journal_model.specs.declared.opening.Opening.{Opening}
use Rattle.audit_command.specs.Recoveries.{HandsOn, HasFailed, Holds, IsKeptText, IsNewOf, IsPut, IsRestored, IsRestoredOver, KeptStays, kept_after}
use Rattle.audit_command.specs.declared.recover.made.KeptEnd.{KeptEnd}
use Rattle.audit_command.specs.declared.recover.made.KeptEnd.TheVariants.{Written, Changed, Fault}

-- ---- files that stay

pub kept_stays : (keep : Option (List ℕ)) (told : Option Files) (table : DeskTold) → table.files ≡ told → KeptStays keep told table
kept_stays keep told table e = subst (λ (t : Option Files). WhereTold told t (OthersStay (IsNewOf keep))) (sym e) (go told)
  where
    go : (told : Option Files) → WhereTold told told (OthersStay (IsNewOf keep))
    go None = tt
    go (Some files) = λ other d. refl

same_stays : (name : List ℕ) (told : Option Files) (table : DeskTold) → WhereTold told table.files (λ old new. new ≡ old) → KeptStays (Some name) told table
same_stays name told table h = go told table.files h
  where
    go : (told new : Option Files) → WhereTold told new (λ old new. new ≡ old) → WhereTold told new (OthersStay (IsNewOf (Some name)))
    go None None h = tt
    go None (Some new) h = absurd h
    go (Some old) None h = absurd h
    go (Some old) (Some new) h = λ other d. ap (content other) h

-- ---- what is written

rises : (before now : ℕ) → Rose before now → Rose 0 now
rises before now h = omega (arith, h)

failed : (told : Option Files) (old new : Counts) → Rose old.faults new.faults ⊎ ((told ≡ None) × Rose old.missing new.missing) → HasFailed told new
failed told old new (inl h) = inl (rises old.faults new.faults h)
failed told old new (inr h) = inr (h.0, rises old.missing new.missing h.1)

module _ (name text : List ℕ) (told : Option Files) (table : DeskTold) (log : Option Log) (old : Counts) (o : Opening) (journal : List Entry) (is : text ≡ kept_after o journal) where
  pub is_put : (written : KeptWritten) → IsWrittenBy log table.log name text (Ok written) → WhereTold told table.files (IsWrittenIn name text (Ok written)) → HasWriteCauses told old table.counts (Ok written)
      → IsPut name told table o journal written
  is_put W.Done by files causes = subst (λ (t : List ℕ). WhereTold told table.files (IsWrittenIn name t (Ok W.Done))) is files
  is_put W.TooLarge by files causes = ((subst (λ (t : List ℕ). IsWrittenBy log table.log name t (Ok W.TooLarge)) is by).0, same_stays name told table files)
  is_put W.Fault by files causes = (failed told old table.counts (causes.fault refl), files)

-- ---- what was read

-- some text was read, and where files are told it is the file's
some_kept : {P : List ℕ → Type 0} (told : Option Files) (name : List ℕ) → (text : List ℕ) × P text → IfSome told (λ files. P (text_at name files)) → (text : List ℕ) × IsKeptText name told text × P text
some_kept None name some known = (some.0, tt, some.1)
some_kept (Some files) name some known = (text_at name files, refl, known)

kept_text : (old new : Option Log) (name : List ℕ) (registers : RegisterFile) (notes : List Note) → IsReadAs old new name (Ok (K.Kept registers notes))
    → (text : List ℕ) × IsKeptOf text (Ok (K.Kept registers notes))
kept_text old new name registers notes (Ok (F.Text text), by, comes) = (text, comes)
kept_text old new name registers notes (Ok F.Missing, by, comes) = ([], comes)
kept_text old new name registers notes (Ok F.TooLarge, by, comes) = absurd (let bad : Ok (K.Kept registers notes) ≡ Ok K.TooLarge = comes in cc)
kept_text old new name registers notes (Ok F.Fault, by, comes) = absurd (let bad : Ok (K.Kept registers notes) ≡ Ok K.Fault = comes in cc)
kept_text old new name registers notes (Err e, by, comes) = absurd (let bad : Ok (K.Kept registers notes) ≡ Err e = comes in cc)

bad_text : (old new : Option Log) (name : List ℕ) (line : ℕ) → IsReadAs old new name (Ok (K.BadLine line)) → (text : List ℕ) × (bad_line text ≡ Some line)
bad_text old new name line (Ok (F.Text text), by, comes) = (text, comes)
bad_text old new name line (Ok F.Missing, by, comes) = ([], comes)
bad_text old new name line (Ok F.TooLarge, by, comes) = absurd (let bad : Ok (K.BadLine line) ≡ Ok K.TooLarge = comes in cc)
bad_text old new name line (Ok F.Fault, by, comes) = absurd (let bad : Ok (K.BadLine line) ≡ Ok K.Fault = comes in cc)
bad_text old new name line (Err e, by, comes) = absurd (let bad : Ok (K.BadLine line) ≡ Err e = comes in cc)

-- where no files are told, some text is that large
large : (most : ℕ) → (text : List ℕ) × (most < length text)
large most = (replicate (most + 1) 0, let long = length-replicate {A = ℕ} (most + 1) 0 in omega (arith, long))

-- ---- what is restored

hands_on : (P : RegisterFile → List Note → Type 0) (text : List ℕ) (registers : RegisterFile) (notes : List Note) → IsKeptOf text (Ok (K.Kept registers notes)) → P registers notes → HandsOn text P
hands_on P text registers notes is h = (notes, is.2, subst (λ (r : RegisterFile). P r notes) is.1 h)

module _ (name : List ℕ) (told mid : Option Files) (table : DeskTold) (core : CoreValue) (same : mid ≡ told) where
  pub restored_over : (old new : Option Log) (registers : RegisterFile) (notes : List Note) (end : KeptEnd) → IsReadAs old new name (Ok (K.Kept registers notes))
      → IfSome told (λ files. IsKeptAt name files (Ok (K.Kept registers notes))) → IsRestoredOver name mid table registers notes core end → IsRestored name told table core.opening core.journal end
  restored_over old new registers notes end read known over = go end (subst (λ (t : Option Files). IsRestoredOver name t table registers notes core end) same over)
    where
      go : (end : KeptEnd) → IsRestoredOver name told table registers notes core end → IsRestored name told table core.opening core.journal end
      go (Written written) h =
          let some = some_kept {P = λ text. IsKeptOf text (Ok (K.Kept registers notes))} told name (kept_text old new name registers notes read) known in
          (some.0, some.1, hands_on (λ r ns. Holds r ns core.opening core.journal) some.0 registers notes some.2 h.0, h.1)
      go Changed h =
          let some = some_kept {P = λ text. IsKeptOf text (Ok (K.Kept registers notes))} told name (kept_text old new name registers notes read) known in
          (some.0, some.1, inr (inr (hands_on (λ r ns. Holds r ns core.opening core.journal → ⊥) some.0 registers notes some.2 h.0)), h.1)
      go Fault h = absurd h

module _ (name : List ℕ) (told : Option Files) (table : DeskTold) (o : Opening) (journal : List Entry) (same : table.files ≡ told) where
  pub bad_kept : (old new : Option Log) (line : ℕ) → IsReadAs old new name (Ok (K.BadLine line)) → IfSome told (λ files. IsKeptAt name files (Ok (K.BadLine line)))
      → IsRestored name told table o journal Changed
  bad_kept old new line read known =
      let some = some_kept {P = λ text. bad_line text ≡ Some line} told name (bad_text old new name line read) known in
      (some.0, some.1, inl (some_is (bad_line some.0) line some.2), kept_stays (Some name) told table same)

  pub large_kept : IfSome told (λ files. IsKeptAt name files (Ok K.TooLarge)) → IsRestored name told table o journal Changed
  large_kept known =
      let some = some_kept {P = λ text. MOST_BYTES < length text} told name (large MOST_BYTES) known in
      (some.0, some.1, inr (inl some.2), kept_stays (Some name) told table same)

  pub unread_kept : (old : Counts) → Rose old.faults table.counts.faults → IsRestored name told table o journal Fault
  unread_kept old rose = (rises old.faults table.counts.faults rose, kept_stays (Some name) told table same)

-- what holds where there is a value makes something else hold there
pub if_ok : {T : Type 0} {P Q : T → Type 0} (r : Result T NoMemory) → ((x : T) → P x → Q x) → IfOk r P → IfOk r Q
if_ok (Ok x) f p = f x p
if_ok (Err e) f p = tt
