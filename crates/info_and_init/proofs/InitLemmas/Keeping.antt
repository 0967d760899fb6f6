-- What a setup comes to at its desk: from what was read of the kept file to what was written.
use Rattle.ann_outside.specs.Told.{DeskTold}
use Rattle.std.proofs.Common.{◌≡◌, ◌∙◌, List, refl, sym, ap, subst, inr, Some, None, Option, Ok}
use Rattle.std.specs.Prelude.{Result, IfOk, IsErr, true, false}
use Rattle.ann_key.specs.declared.bytes.NoMemory.{NoMemory}
use Rattle.ann_outside.specs.Calls.{Log}
use Rattle.ann_outside.specs.DeskCauses.{Counts}
use Rattle.ann_outside.specs.Files.{Files, WhereTold, OthersStay}
use Rattle.ann_outside.specs.TextFile.Writes.{new_name}
use Rattle.kept_file.specs.declared.desk.writing.KeptWritten.{KeptWritten}
use Rattle.kept_file.specs.declared.desk.writing.KeptWritten.TheVariants as W
use Rattle.cli_words.specs.declared.command.InitWords.{InitWords}
use Rattle.journal_model.specs.declared.answer.Answer.{Answer}
use Rattle.journal_model.specs.declared.entry.Entry.{Entry}
use Rattle.journal_model.specs.declared.opening.Opening.{Opening}
use Rattle.journal_model.specs.Legality.{Legal}
use Rattle.journal_model.proofs.Projecting.{parts_fit}
use Rattle.info_and_init.specs.declared.init.beginning.Begun.TheVariants.{Ready}
use Rattle.info_and_init.specs.declared.init.setup.Setup.{Setup}
use Rattle.info_and_init.specs.declared.init.setup.Setup.TheVariants.{Initialized, Stopped}
use Rattle.info_and_init.specs.Init.Setups.{Begins, outcome_of}
use Rattle.info_and_init.specs.declared.init.made.InitEnd.{InitEnd}
use Rattle.info_and_init.specs.declared.init.made.InitEnd.TheVariants.{Memory, SetUp, NotSetUp}
use Rattle.info_and_init.specs.Init.Inits.{IsSetup, IsRunOf, InitFilesStay, IsInitKept, EndsInit, EndsKeep}

-- ---- files that stay

pub as_before : (words : InitWords) (told : Option Files) (table : DeskTold) → table.files ≡ told → InitFilesStay words told table
as_before words told table e = subst (λ (t : Option Files). WhereTold told t (OthersStay (λ other. other ≡ new_name words.keep))) (sym e) (go told)
  where
    go : (told : Option Files) → WhereTold told told (OthersStay (λ other. other ≡ new_name words.keep))
    go None = tt
    go (Some files) = λ other d. refl

-- ---- its end

pub is_run : (words : InitWords) (told : Option Files) (o o' : Opening) (journal : List Entry) → Begins words told (Ok (Ready o)) → o' ≡ o → Legal o' journal → IsSetup journal → IsRunOf words told journal
is_run words told o o' journal begins e legal run =
    let l : Legal o journal = subst (λ (x : Opening). Legal x journal) e legal in
    record {
      kept = begins.0;
      text = begins.1;
      right = begins.2;
      opening = o;
      begins = begins.3;
      legal = l;
      parts = parts_fit o journal l;
      run = run;
    }

kept_as : (words : InitWords) (told told' : Option Files) (counts : Counts) (log : Option Log) (o : Opening) (journal : List Entry) (k : KeptWritten)
    → IsInitKept words told (record { counts = counts; files = told'; log = None }) o journal k → IsInitKept words told (record { counts = counts; files = told'; log = log }) o journal k
kept_as words told told' counts log o journal W.Done h = h
kept_as words told told' counts log o journal W.TooLarge h = h
kept_as words told told' counts log o journal W.Fault h = h

pub ends_kept : (words : InitWords) (told told' : Option Files) (counts : Counts) (log : Option Log) (o o' : Opening) (journal : List Entry) (end : InitEnd)
    → (begins : Begins words told (Ok (Ready o))) → (e : o' ≡ o) → Legal o' journal → IsSetup journal → outcome_of journal ≡ Some Initialized → EndsKeep words told told' counts o' journal end
    → EndsInit words told (record { counts = counts; files = told'; log = log }) journal end
unfolding is_run
ends_kept words told told' counts log o o' journal (SetUp k) begins e legal run outcome h =
    (is_run words told o o' journal begins e legal run, outcome, kept_as words told told' counts log o journal k (subst (λ (x : Opening). IsInitKept words told (record { counts = counts; files = told'; log = None }) x journal k) e h))
ends_kept words told told' counts log o o' journal Memory begins e legal run outcome h = (inr (is_run words told o o' journal begins e legal run), h)
ends_kept words told told' counts log o o' journal end begins e legal run outcome h = absurd h

-- what was asked of the child is kept
pub ends_set : (words : InitWords) (told told' : Option Files) (counts : Counts) (log : Option Log) (table : DeskTold) (o o' : Opening) (journal journal' : List Entry) (setup : Setup) (end end' : InitEnd)
    → Begins words told (Ok (Ready o)) → o' ≡ o → Legal o' journal → IsSetup journal → outcome_of journal ≡ Some setup → setup ≡ Initialized → EndsKeep words told told' counts o' journal end
    → end' ≡ end → table ≡ record { counts = counts; files = told'; log = log } → journal' ≡ journal → EndsInit words told table journal' end'
ends_set words told told' counts log table o o' journal journal' setup end end' begins e legal run outcome is h f t j =
    subst (λ (x : List Entry). EndsInit words told table x end') (sym j)
    (subst (λ (x : InitEnd). EndsInit words told table journal x) (sym f)
    (subst (λ (x : DeskTold). EndsInit words told x journal end) (sym t)
    (ends_kept words told told' counts log o o' journal end begins e legal run (outcome ∙ ap Some is) h)))

-- or the child wasn't set up
pub ends_stopped : (words : InitWords) (told : Option Files) (table : DeskTold) (o o' : Opening) (journal journal' : List Entry) (setup : Setup) (answer : Answer) (end' : InitEnd) → Begins words told (Ok (Ready o))
    → o' ≡ o → Legal o' journal → IsSetup journal → outcome_of journal ≡ Some setup → setup ≡ Stopped answer → end' ≡ NotSetUp answer → table.files ≡ told → journal' ≡ journal → EndsInit words told table journal' end'
ends_stopped words told table o o' journal journal' setup answer end' begins e legal run outcome is f t j =
    subst (λ (x : List Entry). EndsInit words told table x end') (sym j)
    (subst (λ (x : InitEnd). EndsInit words told table journal x) (sym f)
    (is_run words told o o' journal begins e legal run, outcome ∙ ap Some is, as_before words told table t))

-- or no memory was found
pub ends_wanting : (words : InitWords) (told : Option Files) (table : DeskTold) (o o' : Opening) (journal journal' : List Entry) (end' : InitEnd) → Begins words told (Ok (Ready o)) → o' ≡ o → Legal o' journal
    → IsSetup journal → end' ≡ Memory → table.files ≡ told → journal' ≡ journal → EndsInit words told table journal' end'
ends_wanting words told table o o' journal journal' end' begins e legal run f t j =
    subst (λ (x : List Entry). EndsInit words told table x end') (sym j)
    (subst (λ (x : InitEnd). EndsInit words told table journal x) (sym f)
    (inr (is_run words told o o' journal begins e legal run), as_before words told table t))

-- ---- the desk

pub same_files : (words : InitWords) (told told' : Option Files) (table : DeskTold) (journal : List Entry) (end : InitEnd) → told' ≡ told → EndsInit words told' table journal end → EndsInit words told table journal end
same_files words told told' table journal end e h = subst (λ (t : Option Files). EndsInit words t table journal end) e h

-- ---- the objects

pub outcome_ok : (journal : List Entry) (r : Result Setup NoMemory) (setup : Setup) → r ≡ Ok setup → IfOk r (λ x. outcome_of journal ≡ Some x) → outcome_of journal ≡ Some setup
outcome_ok journal r setup e h = subst (λ (x : Result Setup NoMemory). IfOk x (λ y. outcome_of journal ≡ Some y)) e h

pub ok_err : {A : Type 0} (r : Result Setup NoMemory) (setup : Setup) → r ≡ Ok setup → IsErr r → A
ok_err r setup e h = absurd (let bad : false ≡ true = subst IsErr e h in cc)
