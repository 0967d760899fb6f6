-- What a setup begins with, what its child is asked, and what it comes to.
-- https://git-annex.branchable.com/design/external_special_remote_protocol/
use Rattle.std.specs.Prelude.{ℕ, ◌≡◌, ◌<◌, if◌then◌else◌, Bool, List, [], ◌∷◌, ◌++◌, length, codes, Option, Some, None, IfSome, Result, Ok, Err}
use Rattle.ann_key.specs.declared.bytes.NoMemory.{NoMemory}
use Rattle.ann_outside.specs.Files.{Files}
use Rattle.registers.specs.Registers.{RegisterFile}
use Rattle.task_text.specs.declared.chunk_log.note.Note.{Note}
use Rattle.cli_words.specs.Identities.{init_identity}
use Rattle.cli_words.specs.Settings.{set_all}
use Rattle.cli_words.specs.declared.command.InitWords.{InitWords}
use Rattle.journal_model.specs.declared.verdict.Why.{Why}
use Rattle.journal_model.specs.declared.verdict.Why.TheVariants.{Closed}
use Rattle.journal_model.specs.declared.verdict.Verdict.{Verdict}
use Rattle.journal_model.specs.declared.verdict.Verdict.TheVariants.{Done, Failed, Absent, Unknown, Unsupported, Ended, Unsent}
use Rattle.journal_model.specs.declared.answer.Answer.TheVariants as answer
use Rattle.journal_model.specs.declared.entry.Entry.{Entry}
use Rattle.journal_model.specs.declared.opening.Opening.{Opening}
use Rattle.journal_model.specs.Journal.{any, is_mute, is_started, verdict_of, why_of}
use Rattle.journal_model.specs.Output.{answer_words}
use Rattle.journal_scan.specs.Looks.{is_no_start}
use Rattle.kept_file.specs.Text.KeptFiles.{bad_line, registers_of, notes_of, CountsAs}
use Rattle.kept_file.specs.Desk.KeptDesks.{text_at}
use Rattle.kept_file.specs.declared.desk.TheConstants.{MOST_BYTES}
use Rattle.info_and_init.specs.declared.init.beginning.Begun.{Begun}
use Rattle.info_and_init.specs.declared.init.beginning.Begun.TheVariants.{Ready, BadLine, TooLarge, Fault}
use Rattle.info_and_init.specs.declared.init.setup.Setup.{Setup}
use Rattle.info_and_init.specs.declared.init.setup.Setup.TheVariants.{Initialized, Stopped}

-- ---- what it begins with

-- no task and no stamp, the identity and the settings of the words, and what was kept
abbrev pub init_opening : InitWords → RegisterFile → List Note → Opening
init_opening words registers notes = record {
  tasks = [];
  registers = set_all registers words.settings;
  notes = notes;
  identity = init_identity words;
  stamp = 0;
  again = 0;
}

-- the opening is the words', over what the text of their kept file hands on
pub record IsOpening (words : InitWords) (kept : List ℕ) (opening : Opening) : Type 0 where
  pub notes : List Note
  pub counts : CountsAs notes (notes_of kept)
  pub is : opening ≡ init_opening words (registers_of kept) notes

-- where files are told, the kept file has this text, which is empty where there is no such file
abbrev pub IsTextOf : InitWords → Option Files → List ℕ → Type 0
IsTextOf words told kept = IfSome told (λ files. kept ≡ text_at words.keep files)

-- what was read of the kept file comes to
abbrev pub Begins : InitWords → Option Files → Result Begun NoMemory → Type 0
Begins words told (Ok (Ready opening)) = (kept : List ℕ) × IsTextOf words told kept × (bad_line kept ≡ None) × IsOpening words kept opening
Begins words told (Ok (BadLine line)) = (kept : List ℕ) × IsTextOf words told kept × (bad_line kept ≡ Some line)
Begins words told (Ok TooLarge) = (kept : List ℕ) × IsTextOf words told kept × (MOST_BYTES < length kept)
Begins words told (Ok Fault) = Unit {0}
Begins words told (Err e) = Unit {0}

-- ---- what it comes to

abbrev pub setup_for : Verdict → Setup
setup_for (Done at) = Initialized
setup_for (Failed at) = Stopped (answer.Failed at)
setup_for (Absent at) = Stopped answer.Absent
setup_for (Unknown at) = Stopped (answer.Unknown at)
setup_for (Unsupported at) = Stopped answer.Unsupported
setup_for (Ended why) = Stopped (answer.Ended why)
setup_for Unsent = Stopped answer.Unsent

abbrev pub mute_outcome : Bool → Option Setup
mute_outcome mute = if mute then Some (Stopped answer.Unsent) else None

-- a child that said nothing of it: its end, but for its closing, or else its mute
abbrev pub gone_outcome : Option Why → Bool → Option Setup
gone_outcome None mute = mute_outcome mute
gone_outcome (Some Closed) mute = mute_outcome mute
gone_outcome (Some why) mute = Some (Stopped (answer.Ended why))

abbrev pub verdict_outcome : Option Verdict → Option Why → Bool → Option Setup
verdict_outcome (Some (Done at)) why mute = Some Initialized
verdict_outcome (Some (Failed at)) why mute = Some (Stopped (answer.Failed at))
verdict_outcome (Some (Unsupported at)) why mute = Some (Stopped answer.Unsupported)
verdict_outcome verdict why mute = gone_outcome why mute

-- what a line of its child said of job 1, or why none did; a start that failed; nothing where nothing was started
abbrev pub outcome_of : List Entry → Option Setup
outcome_of journal =
    if any is_no_start journal then Some (Stopped answer.StartFault)
    else if is_started journal 1 then verdict_outcome (verdict_of journal 1 1) (why_of journal 1) (is_mute journal 1)
    else None

-- ---- what is told of it

abbrev pub setup_words : List Entry → Setup → List ℕ
setup_words journal Initialized = codes "initialized"
setup_words journal (Stopped answer) = answer_words journal answer

abbrev pub setup_text : List Entry → Setup → List ℕ
setup_text journal setup = setup_words journal setup ++ 10 ∷ []
