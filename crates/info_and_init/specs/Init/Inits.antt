-- What comes of an init: what its child was asked, and what is kept.
use Rattle.ann_outside.specs.Told.{DeskTold}
use Rattle.std.specs.Prelude.{ℕ, ◌≡◌, ◌⊎◌, ◌==◌, ◌&&◌, ◌<◌, not, Bool, true, false, List, [], ◌∷◌, length, Option, IfSome, Some, None, Ok}
use Rattle.std.specs.List.{list_all}
use Rattle.ann_outside.specs.Causes.{AddsOne, Rose}
use Rattle.ann_outside.specs.DeskCauses.{Counts}
use Rattle.ann_outside.specs.Files.{Files, WhereTold, OthersStay}
use Rattle.ann_outside.specs.TextFile.Names.{CallsName}
use Rattle.ann_outside.specs.TextFile.Writes.{new_name, IsReplacedBy}
use Rattle.kept_file.specs.Text.KeptFiles.{bad_line, kept_text}
use Rattle.kept_file.specs.declared.desk.TheConstants.{MOST_BYTES}
use Rattle.kept_file.specs.declared.desk.writing.KeptWritten.{KeptWritten}
use Rattle.kept_file.specs.declared.desk.writing.KeptWritten.TheVariants as W
use Rattle.task_text.specs.ChunkLog.ChunkLines.{IsWrittenUuid}
use Rattle.cli_words.specs.Identities.{IsFit}
use Rattle.cli_words.specs.declared.command.Command.TheVariants.{Init as InitCommand}
use Rattle.cli_words.specs.declared.command.InitWords.{InitWords}
use Rattle.journal_model.specs.declared.answer.Answer.TheVariants as answer
use Rattle.journal_model.specs.declared.entry.What.{What}
use Rattle.journal_model.specs.declared.entry.What.TheVariants.{Start, NoStart, End}
use Rattle.journal_model.specs.declared.entry.Entry.{Entry}
use Rattle.journal_model.specs.declared.opening.Opening.{Opening}
use Rattle.journal_model.specs.Journal.{is_live, is_started, open_jobs}
use Rattle.journal_model.specs.Due.{replies_at}
use Rattle.journal_model.specs.Legality.{Legal}
use Rattle.journal_model.specs.Projection.{JobFits}
use Rattle.journal_model.specs.Shares.{are_by}
use Rattle.host_core.specs.Settings.{registers_after}
use Rattle.child_life.specs.declared.start.greeting.Mode.TheVariants.{Init}
use Rattle.child_life.specs.declared.start.greeting.Came.{Came}
use Rattle.child_life.specs.declared.start.greeting.Came.TheVariants.{Ready, Refused, Ended, Unsent}
use Rattle.child_life.specs.Start.Greetings.{is_of_greeting_for}
use Rattle.info_and_init.specs.Init.Setups.{IsOpening, IsTextOf, outcome_of, setup_for}
use Rattle.info_and_init.specs.declared.init.setup.Setup.{Setup}
use Rattle.info_and_init.specs.declared.init.setup.Setup.TheVariants.{Initialized, Stopped}
use Rattle.info_and_init.specs.declared.init.made.InitEnd.{InitEnd}
use Rattle.info_and_init.specs.declared.init.made.InitEnd.TheVariants.{Memory, BadKept, KeptTooLarge, FileFailed, SetUp, NotSetUp}
use Rattle.run_starts.specs.Once.Once.{starts_in}
use Rattle.child_life.specs.End.Outsides.{OutsideValue}
use Rattle.child_life.specs.End.Programs.{Leaves}
use Rattle.child_link.specs.Wires.{WireValue}

-- ---- the words

-- what cli_words says of the words that it reads
pub record AreSound (words : InitWords) : Type 0 where
  pub fit : IsFit (InitCommand words)
  pub uuid : IsWrittenUuid words.uuid

-- ---- the journal

-- the one start, the closing, or an entry of the child's greeting, whose last request is INITREMOTE
abbrev pub is_of_setup : What → Bool
is_of_setup (Start child slot offer) = child == 1 && (slot == 0 && not offer)
is_of_setup (NoStart slot) = slot == 0
is_of_setup (End child why) = true
is_of_setup w = is_of_greeting_for Init 1 w

-- There is one start at most, in slot 0, and ASYNC is not offered. The child was asked EXTENSIONS and then INITREMOTE, as far as
-- it came, and nothing else; no job of it is open, and it has ended. No task is claimed or answered. All entries are the main
-- thread's.
pub record IsSetup (journal : List Entry) : Type 0 where
  pub main : are_by 0 journal ≡ true
  pub once : (starts_in journal ≡ []) ⊎ (starts_in journal ≡ Start 1 0 false ∷ []) ⊎ (starts_in journal ≡ NoStart 0 ∷ [])
  pub own : list_all (λ e. is_of_setup e.what) journal ≡ true
  pub settled : open_jobs journal 1 ≡ []
  pub ended : is_live journal 1 ≡ false

-- From an opening of the words, over what the text of their kept file hands on, the journal is legal, and each job's part fits.
pub record IsRunOf (words : InitWords) (told : Option Files) (journal : List Entry) : Type 0 where
  pub kept : List ℕ
  pub text : IsTextOf words told kept
  pub right : bad_line kept ≡ None
  pub opening : Opening
  pub begins : IsOpening words kept opening
  pub legal : Legal opening journal
  pub parts : (c j : ℕ) → JobFits (replies_at opening journal) journal c j
  pub run : IsSetup journal

-- ---- the kept file

-- the kept file is as before, where files are told
abbrev pub InitFilesStay : InitWords → Option Files → DeskTold → Type 0
InitFilesStay words told table = WhereTold told table.files (OthersStay (λ other. other ≡ new_name words.keep))

-- the desk counted a fault, or a missing file where it tells no files
abbrev pub HasFailed : Option Files → DeskTold → Type 0
HasFailed told table = Rose 0 table.counts.faults ⊎ ((told ≡ None) × Rose 0 table.counts.missing)

-- it is the text of the registers after the journal and of the notes, or as before
abbrev pub IsInitKept : InitWords → Option Files → DeskTold → Opening → List Entry → KeptWritten → Type 0
IsInitKept words told table o journal W.Done =
    WhereTold told table.files (IsReplacedBy words.keep (kept_text (registers_after o journal) (registers_after o journal) o.notes) (Ok tt))
IsInitKept words told table o journal W.TooLarge =
    (MOST_BYTES < length (kept_text (registers_after o journal) (registers_after o journal) o.notes)) × InitFilesStay words told table
IsInitKept words told table o journal W.Fault = HasFailed told table × InitFilesStay words told table

-- ---- its end

-- the setup didn't begin: nothing was started, and the kept file is as before
pub record IsUnbegun (words : InitWords) (told : Option Files) (table : DeskTold) (journal : List Entry) (P : List ℕ → Type 0) : Type 0 where
  pub kept : List ℕ
  pub text : IsTextOf words told kept
  pub cause : P kept
  pub nothing : journal ≡ []
  pub before : InitFilesStay words told table

-- a file of a setup at desk 0: the kept file, or the one in which it is made
abbrev pub IsInitFile : InitWords → List ℕ → Type 0
IsInitFile words other = (other ≡ words.keep) ⊎ (other ≡ new_name words.keep)

-- what a setup at desk 0 comes to, by its end
abbrev pub EndsInit : InitWords → Option Files → DeskTold → List Entry → InitEnd → Type 0
EndsInit words told table journal (BadKept line) = IsUnbegun words told table journal (λ kept. bad_line kept ≡ Some line)
EndsInit words told table journal KeptTooLarge = IsUnbegun words told table journal (λ kept. MOST_BYTES < length kept)
EndsInit words told table journal FileFailed = (journal ≡ []) × Rose 0 table.counts.faults × InitFilesStay words told table
EndsInit words told table journal (SetUp written) =
    (run : IsRunOf words told journal) × (outcome_of journal ≡ Some Initialized) × IsInitKept words told table run.opening journal written
EndsInit words told table journal (NotSetUp answer) = IsRunOf words told journal × (outcome_of journal ≡ Some (Stopped answer)) × InitFilesStay words told table
EndsInit words told table journal Memory = ((journal ≡ []) ⊎ IsRunOf words told journal) × InitFilesStay words told table

-- what an init leaves, as contracts see it
pub record InitValue : Type 0 where
  pub journal : List Entry
  pub wires : List WireValue
  pub tables : List DeskTold
  pub end : InitEnd

-- desk 0 was asked for, once, and this came of it; where it tells its calls, they name those files alone
pub record IsAtDesk (words : InitWords) (before after : OutsideValue) (left : InitValue) : Type 0 where
  pub told : Option Files
  pub table : DeskTold
  pub tables : left.tables ≡ table ∷ []
  pub made : AddsOne before.made after.made (record { number = 0; files = told })
  pub ends : EndsInit words told table left.journal left.end
  pub named : IfSome table.log (λ log. CallsName (IsInitFile words) log.calls)
  pub objects : Leaves (left.end ≡ Memory) words.program left.journal before.programs after.programs left.wires

-- nothing was asked of anything
pub record IsIdle (before after : OutsideValue) (left : InitValue) : Type 0 where
  pub outside : after ≡ before
  pub journal : left.journal ≡ []
  pub wires : left.wires ≡ []
  pub tables : left.tables ≡ []

-- so it is, or no memory was found for a desk
abbrev pub HasSetUp : InitWords → OutsideValue → OutsideValue → InitValue → Type 0
HasSetUp words before after left = ((left.end ≡ Memory) × IsIdle before after left) ⊎ IsAtDesk words before after left

-- ---- on the way

-- what keeping it comes to, from the files that are told before and after it, and what the desk counted
abbrev pub EndsKeep : InitWords → Option Files → Option Files → Counts → Opening → List Entry → InitEnd → Type 0
EndsKeep words told told' counts o journal (SetUp written) = IsInitKept words told (record { counts = counts; files = told'; log = None }) o journal written
EndsKeep words told told' counts o journal Memory = WhereTold told told' (OthersStay (λ other. other ≡ new_name words.keep))
EndsKeep words told told' counts o journal end = ⊥

-- what a setup comes to by what its greeting came to
abbrev pub setup_of : Came → Setup
setup_of (Ready tagged) = Initialized
setup_of (Refused verdict) = setup_for verdict
setup_of (Ended why) = Stopped (answer.Ended why)
setup_of Unsent = Stopped answer.Unsent

-- the child is the first, its jobs are settled, and it comes to this
pub record IsTalked (journal : List Entry) (c : ℕ) (setup : Setup) : Type 0 where
  pub main : are_by 0 journal ≡ true
  pub first : c ≡ 1
  pub started : is_started journal c ≡ true
  pub starts : starts_in journal ≡ Start 1 0 false ∷ []
  pub own : list_all (λ e. is_of_setup e.what) journal ≡ true
  pub settled : open_jobs journal c ≡ []
  pub outcome : outcome_of journal ≡ Some setup
