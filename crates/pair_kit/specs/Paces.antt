-- How host and kit keep step: who of the two has to say something, by the journal.
-- What follows of a line that is heard is in proofs/PaceHeard: of a busy child it is what its kit, which took all that was written,
-- says to the last message (`HeardBusy`).
use Rattle.std.specs.Prelude.{ℕ, ◌≡◌, ◌⊎◌, ◌+◌, ◌&&◌, not, Bool, true, false, List, [], ◌∷◌, ◌++◌, map, filter, filter_map, length, Option, None, Some, is_some}
use Rattle.std.specs.List.{list_all}
use Rattle.annex_model.specs.Lines.{has_newline}
use Rattle.annex_model.specs.Messages.{HostMessage, Export, host_reading}
use Rattle.annex_model.specs.Talks.{said}
use Rattle.annex_model.specs.Hearings.{request_in}
use Rattle.registers.specs.Registers.{IsKept}
use Rattle.journal_model.specs.declared.entry.Entry.{Entry}
use Rattle.journal_model.specs.Beginnings.{MayBegin}
use Rattle.journal_model.specs.Journal.{each_of, writes, got_lines, open_jobs, asked_jobs, is_live, is_mute, is_tagged}
use Rattle.journal_model.specs.Parts.{part}
use Rattle.journal_model.specs.Registers.{settings as settings_made}
use Rattle.kit_serve.specs.declared.kit.call.Call.{Call}
use Rattle.kit_serve.specs.declared.kit.call.Said.{Said}
use Rattle.kit_serve.specs.declared.kit.call.Said.TheVariants.{Set}
use Rattle.kit_serve.specs.declared.kit.kit.Stage.TheVariants.{Waiting}
use Rattle.kit_serve.specs.Kit.Calls.{is_line_said}
use Rattle.kit_serve.specs.Kit.Kits.{is_over, request_of as request_of_messages}
use Rattle.kit_serve.specs.Kit.Stages.{stage_of}
use Rattle.pair_kit.specs.declared.taken.Taken.{Taken}
use Rattle.pair_kit.specs.Cues.{settings}
use Rattle.pair_kit.specs.Pairs.{pair_of}
use Rattle.pair_kit.specs.Answered.{request_of}
use Rattle.pair_kit.specs.Worlds.{WorldValue}

-- the lines that are written to the child, sent or not
abbrev pub written_lines : List Entry → ℕ → List (List ℕ)
written_lines journal c = map (λ w. w.1) (each_of (writes c) journal)

-- the messages that they spell
abbrev pub written : List Entry → ℕ → List HostMessage
written journal c = filter_map host_reading (written_lines journal c)

-- nothing is said to a name
abbrev pub is_name : HostMessage → Bool
is_name (Export name) = true
is_name m = false

-- how many lines a kit says to these messages: one to each but a name
abbrev pub replies_to : List HostMessage → ℕ
replies_to ms = length (filter (λ m. not (is_name m)) ms)

-- the bytes are one line, and spell a message
abbrev pub is_message_line : List ℕ → Bool
is_message_line line = not (has_newline line) && is_some (host_reading line)

-- what the remote said sets nothing, so that one line is said for it
abbrev pub sets_nothing : Said → Bool
sets_nothing (Set pairs) = false
sets_nothing said = true

-- no line ends in what the remote said, and it sets nothing
abbrev pub is_line_call : Option Call → Bool
is_line_call None = true
is_line_call (Some call) = sets_nothing call.said && is_line_said call.said

-- one line was taken, and one is said to it
abbrev pub is_whole : Taken → Bool
is_whole t = not (has_newline t.line) && is_line_call t.call

-- A kit that takes all that is written to the child expects each message.
pub record IsExpected (journal : List Entry) (c : ℕ) : Type 0 where
  pub lines : list_all is_message_line (written_lines journal c) ≡ true
  pub expected : is_over settings (written journal c) ≡ false

-- nothing was said by either, and the child owes its version
pub record IsSilent (journal : List Entry) (c : ℕ) : Type 0 where
  pub got : got_lines journal c ≡ []
  pub written : written_lines journal c ≡ []
  pub asked : asked_jobs journal c ≡ []

-- the child owes nothing
pub record IsIdle (journal : List Entry) (c : ℕ) : Type 0 where
  pub got : length (got_lines journal c) ≡ 1 + replies_to (written journal c)
  pub none_open : open_jobs journal c ≡ []
  pub stage : stage_of settings (written journal c) ≡ Waiting

-- the child owes the line to the last message, which belongs to the request of its last job
pub record IsBusy (journal : List Entry) (c : ℕ) : Type 0 where
  pub job : ℕ
  pub line : List ℕ
  pub request : HostMessage
  pub open_job : open_jobs journal c ≡ job ∷ []
  pub last : 1 + job ≡ length (asked_jobs journal c)
  pub got : length (got_lines journal c) ≡ replies_to (written journal c)
  pub asked : request_of journal c job ≡ Some line
  pub spelled : host_reading line ≡ Some request
  pub asking : request_in (part journal c job) ≡ Some request
  pub current : request_of_messages (written journal c) ≡ Some request
  pub earlier : List HostMessage
  pub message : HostMessage
  pub ends : written journal c ≡ earlier ++ message ∷ []
  pub answerable : is_name message ≡ false
  pub nothing_said : said (part journal c job) ≡ []

-- a live child has no tags, and is silent, idle or busy
pub record KeepsStep (journal : List Entry) (c : ℕ) : Type 0 where
  pub untagged : is_tagged journal c ≡ false
  pub turn : IsSilent journal c ⊎ (IsIdle journal c ⊎ IsBusy journal c)

-- So it is of each child, from what a run may begin with. No kit set anything, no child was found mute, and after its end too a
-- child's kit expects what was written to it.
pub record AreInStep (w : WorldValue) : Type 0 where
  pub begins : MayBegin w.opening
  pub kept : IsKept w.opening.registers
  pub unset : settings_made w.journal ≡ []
  pub unmuted : (c : ℕ) → is_mute w.journal c ≡ false
  pub expected : (c : ℕ) → IsExpected w.journal c
  pub whole : (c : ℕ) → list_all is_whole (pair_of w.pairs c).taken ≡ true
  pub steps : (c : ℕ) → is_live w.journal c ≡ true → KeepsStep w.journal c
