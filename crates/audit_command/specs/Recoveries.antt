-- What is recovered of the text of a run, which may be cut off.
use Rattle.std.specs.Prelude.{ℕ, ◌≡◌, ◌⊎◌, ◌<◌, ⊤, List, [], ◌∷◌, length, map, Option, Some, None, IfSome, IsSome, Result, Ok, Err}
use Rattle.ann_key.specs.declared.bytes.NoMemory.{NoMemory}
use Rattle.ann_outside.specs.Causes.{AddsOne, Rose}
use Rattle.ann_outside.specs.DeskCauses.{Counts}
use Rattle.ann_outside.specs.Desks.{Made}
use Rattle.ann_outside.specs.Files.{Files, WhereTold, OthersStay, content}
use Rattle.ann_outside.specs.TextFile.Names.{CallsName}
use Rattle.ann_outside.specs.TextFile.Writes.{new_name, IsReplacedBy}
use Rattle.ann_outside.specs.Told.{DeskTold, IsNew}
use Rattle.task_text.specs.declared.chunk_log.note.Note.{Note}
use Rattle.registers.specs.Registers.{RegisterFile}
use Rattle.kept_file.specs.Desk.KeptDesks.{text_at}
use Rattle.kept_file.specs.Text.KeptFiles.{CountsAs, bad_line, kept_text, notes_of, registers_of}
use Rattle.kept_file.specs.declared.desk.TheConstants.{MOST_BYTES}
use Rattle.kept_file.specs.declared.desk.writing.KeptWritten.{KeptWritten}
use Rattle.kept_file.specs.declared.desk.writing.KeptWritten.TheVariants as W
use Rattle.journal_model.specs.declared.answer.Answer.{Answer}
use Rattle.journal_model.specs.declared.entry.Entry.{Entry}
use Rattle.journal_model.specs.declared.opening.Opening.{Opening}
use Rattle.journal_model.specs.Legality.{numbers_of}
use Rattle.host_core.specs.Books.{notes_after}
use Rattle.host_core.specs.CoreValue.{CoreValue}
use Rattle.host_core.specs.Settings.{registers_after}
use Rattle.run_answers.specs.Answers.{answer_of}
use Rattle.journal_audit.specs.Audits.{IsMisplaced}
use Rattle.journal_audit.specs.Replays.{IsReplayed}
use Rattle.audit_command.specs.Inputs.{audit_limits}
use Rattle.audit_command.specs.SoFar.{HaveEnded, IsRefusedSoFar, IsTextSoFar, IsUnbegun, LinesCome}
use Rattle.audit_command.specs.declared.recover.made.KeptEnd.{KeptEnd}
use Rattle.audit_command.specs.declared.recover.made.KeptEnd.TheVariants.{Written, Changed, Fault}
use Rattle.audit_command.specs.declared.recover.made.RecoverEnd.{RecoverEnd}
use Rattle.audit_command.specs.declared.recover.made.RecoverEnd.TheVariants.{FileFailed, TextTooLarge, Refused, Memory, Unbegun, Wrong, Answered}
use Rattle.audit_command.specs.declared.recover.text.TextRead.{TextRead}
use Rattle.audit_command.specs.declared.recover.text.TextRead.TheVariants.{SoFar, Refused as RefusedAt, TooLarge as LargeText, Fault as NoText}

-- ---- the kept file

-- what is kept after a journal: the config that the run began with, the other registers after the journal, and the notes after it
abbrev pub kept_after : Opening → List Entry → List ℕ
kept_after o journal = kept_text o.registers (registers_after o journal) (notes_after o journal)

-- what was kept when the run began
abbrev pub kept_before : Opening → List ℕ
kept_before o = kept_text o.registers o.registers o.notes

-- a kept file that hands this on says what was kept when the run began, or already what is kept after it
abbrev pub Holds : RegisterFile → List Note → Opening → List Entry → Type 0
Holds registers notes o journal = (kept_text registers registers notes ≡ kept_before o) ⊎ (kept_text registers registers notes ≡ kept_after o journal)

-- the text hands on something of which this holds
abbrev pub HandsOn : List ℕ → (RegisterFile → List Note → Type 0) → Type 0
HandsOn text P = (notes : List Note) × CountsAs notes (notes_of text) × P (registers_of text) notes

-- the name of the file in which a kept file is made
abbrev pub IsNewOf : Option (List ℕ) → List ℕ → Type 0
IsNewOf None other = ⊥
IsNewOf (Some name) other = other ≡ new_name name

-- the kept file, or the one in which it is made
abbrev pub IsKeptFile : Option (List ℕ) → List ℕ → Type 0
IsKeptFile None other = ⊥
IsKeptFile (Some name) other = (other ≡ name) ⊎ (other ≡ new_name name)

-- the kept file, where one is named, is as before, where files are told
abbrev pub KeptStays : Option (List ℕ) → Option Files → DeskTold → Type 0
KeptStays keep told table = WhereTold told table.files (OthersStay (IsNewOf keep))

-- the kept file of that name has this text, where files are told; an empty one, where there is none
abbrev pub IsKeptText : List ℕ → Option Files → List ℕ → Type 0
IsKeptText name told text = IfSome told (λ files. text ≡ text_at name files)

-- the text is none of a kept file, or hands on something else
abbrev pub Differs : List ℕ → Opening → List Entry → Type 0
Differs text o journal = IsSome (bad_line text) ⊎ (MOST_BYTES < length text) ⊎ HandsOn text (λ r notes. Holds r notes o journal → ⊥)

-- a call on it failed
abbrev pub HasFailed : Option Files → Counts → Type 0
HasFailed told counts = Rose 0 counts.faults ⊎ ((told ≡ None) × Rose 0 counts.missing)

-- what is kept after the journal was put in its place, or that is as before
abbrev pub IsPut : List ℕ → Option Files → DeskTold → Opening → List Entry → KeptWritten → Type 0
IsPut name told table o journal W.Done = WhereTold told table.files (IsReplacedBy name (kept_after o journal) (Ok tt))
IsPut name told table o journal W.TooLarge = (MOST_BYTES < length (kept_after o journal)) × KeptStays (Some name) told table
IsPut name told table o journal W.Fault = HasFailed told table.counts × KeptStays (Some name) told table

-- where it held what the run began with, or already what is kept after the journal, that was put in its place; else it is as before
abbrev pub IsRestored : List ℕ → Option Files → DeskTold → Opening → List Entry → KeptEnd → Type 0
IsRestored name told table o journal (Written written) =
    (text : List ℕ) × IsKeptText name told text × HandsOn text (λ r notes. Holds r notes o journal) × IsPut name told table o journal written
IsRestored name told table o journal Changed = (text : List ℕ) × IsKeptText name told text × Differs text o journal × KeptStays (Some name) told table
IsRestored name told table o journal Fault = Rose 0 table.counts.faults × KeptStays (Some name) told table

-- so it is, where one is named
abbrev pub IsKeptBy : Option (List ℕ) → Option Files → DeskTold → Opening → List Entry → KeptEnd → Type 0
IsKeptBy None told table o journal end = (end ≡ Written W.Done) × KeptStays None told table
IsKeptBy (Some name) told table o journal end = IsRestored name told table o journal end

-- ---- the text

-- the words: the file of the text, and the kept file, where one is named
pub record RecoverNames : Type 0 where
  pub journal : List ℕ
  pub keep : Option (List ℕ)

-- the desk that reads the text, and the one that has the kept file: the files that were told of each when it was made, and what it tells then
pub record RecoverDesks : Type 0 where
  pub read : Option Files
  pub reader : DeskTold
  pub told : Option Files
  pub keeper : DeskTold

-- the file has this text, where files are told
abbrev pub IsText : RecoverNames → RecoverDesks → List ℕ → Type 0
IsText names d text = IfSome d.read (λ files. content names.journal files ≡ Some text)

-- the kept file is as before
abbrev pub StaysKept : RecoverNames → RecoverDesks → Type 0
StaysKept names d = KeptStays names.keep d.told d.keeper

-- this holds of the text, and the kept file is as before
abbrev pub IsRead : RecoverNames → RecoverDesks → (List ℕ → Type 0) → Type 0
IsRead names d P = (text : List ℕ) × IsText names d text × P text × StaysKept names d

-- the lines of the text that have ended are such
abbrev pub EndsIn : (List (List ℕ) → Type 0) → List ℕ → Type 0
EndsIn P text = (lines : List (List ℕ)) × HaveEnded text lines × P lines

-- The journal so far is legal as far as it goes, these are the answers that stand in it, and this came of the kept file. What was made
-- is the journal, with what is due after its last entry.
pub record IsRecovered (names : RecoverNames) (d : RecoverDesks) (journal : List Entry) (answers : List (Option Answer)) (kept : KeptEnd) : Type 0 where
  pub text : List ℕ
  pub is : IsText names d text
  pub opening : Opening
  pub so_far : EndsIn (IsTextSoFar opening journal) text
  pub made : List Entry
  pub replayed : IsReplayed opening journal None made
  pub given : answers ≡ map (answer_of journal) (numbers_of opening)
  pub restored : IsKeptBy names.keep d.told d.keeper opening made kept

abbrev pub EndsRecovery : RecoverNames → RecoverDesks → List Entry → RecoverEnd → Type 0
EndsRecovery names d journal FileFailed = (journal ≡ []) × (Rose 0 d.reader.counts.faults ⊎ Rose 0 d.reader.counts.missing) × StaysKept names d
EndsRecovery names d journal TextTooLarge = (journal ≡ []) × IsRead names d (λ text. audit_limits.bytes < length text)
EndsRecovery names d journal (Refused line) = (journal ≡ []) × IsRead names d (λ text. IsRefusedSoFar audit_limits text line)
EndsRecovery names d journal Memory = (journal ≡ []) × StaysKept names d
EndsRecovery names d journal Unbegun = (journal ≡ []) × IsRead names d (EndsIn IsUnbegun)
EndsRecovery names d journal (Wrong misplaced) = (opening : Opening) × IsMisplaced opening journal misplaced × IsRead names d (EndsIn (IsTextSoFar opening journal))
EndsRecovery names d journal (Answered answers kept) = IsRecovered names d journal answers.items kept

-- ---- at the desks

-- what a recovery leaves, as contracts see it
pub record RecoveredValue : Type 0 where
  pub journal : List Entry
  pub tables : List DeskTold
  pub end : RecoverEnd

-- Desk 0, for the kept file, and then desk 1, for the text, were asked for, and this came of it. Where they tell their calls, these name the
-- files of each alone; and no call of desk 1 changes a file.
pub record IsAtDesks (names : RecoverNames) (before after : Option (List Made)) (left : RecoveredValue) : Type 0 where
  pub d : RecoverDesks
  pub tables : left.tables ≡ d.keeper ∷ d.reader ∷ []
  pub between : Option (List Made)
  pub first : AddsOne before between (record { number = 0; files = d.told })
  pub second : AddsOne between after (record { number = 1; files = d.read })
  pub ends : EndsRecovery names d left.journal left.end
  pub kept : IfSome d.keeper.log (λ log. CallsName (IsKeptFile names.keep) log.calls)
  pub named : IfSome d.reader.log (λ log. CallsName (λ other. other ≡ names.journal) log.calls)
  pub same : d.reader.files ≡ d.read

-- no memory was found for desk 1: desk 0 was asked for nothing
pub record IsAlone (before after : Option (List Made)) (left : RecoveredValue) : Type 0 where
  pub table : DeskTold
  pub tables : left.tables ≡ table ∷ []
  pub desks : AddsOne before after (record { number = 0; files = table.files })
  pub fresh : IsNew table
  pub journal : left.journal ≡ []
  pub end : left.end ≡ Memory

-- nothing was asked of anything
pub record IsIdle (before after : Option (List Made)) (left : RecoveredValue) : Type 0 where
  pub desks : after ≡ before
  pub journal : left.journal ≡ []
  pub tables : left.tables ≡ []
  pub end : left.end ≡ Memory

-- so it is, or no memory was found for a desk
abbrev pub HasRecovered : RecoverNames → Option (List Made) → Option (List Made) → RecoveredValue → Type 0
HasRecovered names before after left = IsIdle before after left ⊎ IsAlone before after left ⊎ IsAtDesks names before after left

-- ---- on the way

-- what the text comes to
abbrev pub TextComes : List ℕ → Result TextRead NoMemory → Type 0
TextComes text (Ok (SoFar run)) = EndsIn (λ lines. LinesCome lines (Ok run)) text
TextComes text (Ok (RefusedAt line)) = IsRefusedSoFar audit_limits text line
TextComes text (Ok LargeText) = audit_limits.bytes < length text
TextComes text (Ok NoText) = ⊥
TextComes text (Err e) = ⊤

-- the file has such a text, where files are told; nothing is said of it where it couldn't be read, and where no memory was found
abbrev pub TextIs : List ℕ → Option Files → Result TextRead NoMemory → Type 0
TextIs name told (Ok NoText) = ⊤
TextIs name told (Err e) = ⊤
TextIs name told result = (text : List ℕ) × IfSome told (λ files. content name files ≡ Some text) × TextComes text result

-- it couldn't be read only where a count rose
abbrev pub HasTextCauses : Counts → Counts → Result TextRead NoMemory → Type 0
HasTextCauses old new result = result ≡ Ok NoText → Rose old.faults new.faults ⊎ Rose old.missing new.missing

-- so it is restored over a kept file that hands this on
abbrev pub IsRestoredOver : List ℕ → Option Files → DeskTold → RegisterFile → List Note → CoreValue → KeptEnd → Type 0
IsRestoredOver name told table registers notes core (Written written) = Holds registers notes core.opening core.journal × IsPut name told table core.opening core.journal written
IsRestoredOver name told table registers notes core Changed = (Holds registers notes core.opening core.journal → ⊥) × KeptStays (Some name) told table
IsRestoredOver name told table registers notes core end = ⊥

-- the answers of the journal are given, and what is kept after the core's came to this
abbrev pub EndsAnswered : Option (List ℕ) → Option Files → DeskTold → List Entry → CoreValue → List Entry → RecoverEnd → Type 0
EndsAnswered keep told table journal core left (Answered answers kept) =
    (left ≡ journal) × (answers.items ≡ map (answer_of journal) (numbers_of core.opening)) × IsKeptBy keep told table core.opening core.journal kept
EndsAnswered keep told table journal core left Memory = (left ≡ []) × KeptStays keep told table
EndsAnswered keep told table journal core left end = ⊥

-- what comes of the journal of a run that began so
abbrev pub EndsRun : Option (List ℕ) → Option Files → DeskTold → Opening → List Entry → List Entry → RecoverEnd → Type 0
EndsRun keep told table o journal left (Answered answers kept) =
    (left ≡ journal) × (answers.items ≡ map (answer_of journal) (numbers_of o)) × ((made : List Entry) × IsReplayed o journal None made × IsKeptBy keep told table o made kept)
EndsRun keep told table o journal left (Wrong misplaced) = (left ≡ journal) × IsMisplaced o journal misplaced × KeptStays keep told table
EndsRun keep told table o journal left Memory = (left ≡ []) × KeptStays keep told table
EndsRun keep told table o journal left end = ⊥
