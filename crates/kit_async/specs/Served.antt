-- What a kit that served several jobs at once did.
use Rattle.std.specs.Prelude.{ℕ, ◌≡◌, ◌⊎◌, ◌+◌, ◌<◌, Bool, true, false, List, [], ◌∷◌, ◌++◌, length, slice_get, codes, Option, Some, None, option_map, IfSome, IsTrue}
use Rattle.std.specs.List.{list_any, list_all}
use Rattle.std.specs.Io.KnownBytes.{Appends}
use Rattle.ann_outside.specs.Causes.{Rose, StaysUntold}
use Rattle.ann_outside.specs.Told.{SinkTold, SourceTold}
use Rattle.annex_model.specs.Lines.{text, has_newline, Cut}
use Rattle.kit_serve.specs.declared.kit.call.Call.{Call as RemoteCall}
use Rattle.kit_serve.specs.Kit.Descriptions.{Description}
use Rattle.kit_serve.specs.Limits.{longest_line, is_short, next_line}
use Rattle.kit_async_model.specs.declared.about.Fact.{Fact}
use Rattle.kit_async_model.specs.declared.setup.Setup.{Setup}
use Rattle.kit_async.specs.declared.why.Why.{Why}
use Rattle.kit_async.specs.declared.why.Why.TheVariants.{Eof, ReadFault, WriteFault, Bad, Memory}
use Rattle.kit_async_model.specs.declared.entry.Entry.{Entry}
use Rattle.kit_async_model.specs.declared.entry.Entry.TheVariants.{Heard, Take, Call, Say, Wrote, Close, Lack}
use Rattle.kit_async.specs.declared.lent.KitEntry.{KitEntry}
use Rattle.kit_async.specs.declared.lent.KitEntry.TheVariants.{Heard as HeardShown, Take as TakeShown, Call as CallShown, Say as SayShown, Wrote as WroteShown, Close as CloseShown, Lack as LackShown, Stop as StopShown}
use Rattle.kit_async_model.specs.Abouts.{about_of}
use Rattle.kit_async_model.specs.Callings.{calls_of}
use Rattle.kit_async_model.specs.Entries.{EntriesValue}
use Rattle.kit_async_model.specs.Legality.{is_legal, is_lack, IsFinished}
use Rattle.kit_async_model.specs.Lines.{heard_lines}
use Rattle.kit_async_model.specs.Standings.{standing}
use Rattle.kit_async.specs.Work.Writing.{IsFaltered, written_lines}

-- ---- the end

-- How it stands by why it stopped, with what is held of the host's bytes and what its source has left. At the end of the host's lines
-- and after a failed read no whole line is held. Bad is a line that ended it, or one that is too long, which was never heard.
abbrev pub IsEnd : Why → Setup → List Entry → List ℕ → Option (List ℕ) → Type 0
IsEnd Eof setup journal rest left =
    IsFinished setup (standing setup journal) × ((standing setup journal).over ≡ false) × ((standing setup journal).closed ≡ true) × (has_newline rest ≡ false) × IfSome left (λ bytes. bytes ≡ [])
IsEnd ReadFault setup journal rest left =
    IsFinished setup (standing setup journal) × ((standing setup journal).over ≡ false) × ((standing setup journal).closed ≡ true) × (has_newline rest ≡ false)
IsEnd Bad setup journal rest left =
    IsFinished setup (standing setup journal)
    × ((((standing setup journal).over ≡ true) × (list_any is_lack journal ≡ false))
    ⊎ (((standing setup journal).over ≡ false) × ((standing setup journal).closed ≡ true) × (longest_line < length (next_line rest))))
IsEnd WriteFault setup journal rest left = Unit {0}
IsEnd Memory setup journal rest left = Unit {0}

-- ---- the exit status

abbrev pub status_of : Why → ℕ
status_of Eof = 0
status_of Bad = 1
status_of ReadFault = 4
status_of WriteFault = 5
status_of Memory = 7

-- A read failed only where it stopped for that, and none where the host's lines came to an end. A write failed exactly where it stopped
-- for that: whatever else came, a failed write counts.
pub record HasCauses (why : Why) (source source' : SourceTold) (sink sink' : SinkTold) : Type 0 where
  pub read : why ≡ ReadFault → Rose source.faults source'.faults
  pub unread : why ≡ Eof → source'.faults ≡ source.faults
  pub wrote : why ≡ WriteFault → Rose sink.faults sink'.faults
  pub unwritten : (why ≡ WriteFault → ⊥) → sink'.faults ≡ sink.faults

-- ---- the journal as it is lent

pub record JournalValue : Type 0 where
  pub entries : List Entry
  pub why : Why

-- of the entries, kept or not, and why it stopped
abbrev pub journal_of : EntriesValue → Why → JournalValue
journal_of log why = record { entries = log.entries; why = why }

-- the entry that is lent; the last one, Stop, is none of the list
abbrev pub entry_shown : KitEntry → Option Entry
entry_shown (HeardShown line) = Some (Heard line.now)
entry_shown (TakeShown job remote) = Some (Take job remote)
entry_shown (CallShown job remote said) = Some (Call job remote said.now)
entry_shown (SayShown job line) = Some (Say job line.now)
entry_shown WroteShown = Some Wrote
entry_shown CloseShown = Some Close
entry_shown LackShown = Some Lack
entry_shown (StopShown why) = None

abbrev pub why_shown : KitEntry → Option Why
why_shown (StopShown why) = Some why
why_shown entry = None

-- what is lent of a place: an entry; after the last, why it stopped; and then nothing
abbrev pub IsEntryAt : JournalValue → ℕ → Option KitEntry → Type 0
IsEntryAt journal at None = length journal.entries < at
IsEntryAt journal at (Some entry) =
    (entry_shown entry ≡ slice_get journal.entries at) × (at ≡ length journal.entries → why_shown entry ≡ Some journal.why)

-- ---- what was served

-- what is seen of a source, a sink and the remotes
pub record Tells : Type 0 where
  pub given : Option (List ℕ)
  pub left : Option (List ℕ)
  pub taken : Option (List ℕ)
  pub calls : List (Option (List RemoteCall))

abbrev pub tells_by : SourceTold → SinkTold → List (Option (List RemoteCall)) → Tells
tells_by source sink calls = record { given = source.given; left = source.left; taken = sink.taken; calls = calls }

-- each remote gained the calls that the journal has of it
abbrev pub Gained : Setup → List Entry → ℕ → List (Option (List RemoteCall)) → List (Option (List RemoteCall)) → Type 0
Gained setup journal n [] [] = Unit {0}
Gained setup journal n [] (new ∷ news) = ⊥
Gained setup journal n (old ∷ olds) [] = ⊥
Gained setup journal n (old ∷ olds) (new ∷ news) =
    (new ≡ option_map (λ told. told ++ calls_of setup n journal) old) × Gained setup journal (n + 1) olds news

-- these bytes are the text of the lines that are written; where writing failed, the first bytes of the next come after it
abbrev pub IsWrittenBy : Why → List Entry → List ℕ → Type 0
IsWrittenBy WriteFault journal bytes = IsFaltered journal bytes
IsWrittenBy why journal bytes = bytes ≡ text (written_lines journal)

-- the kit says its version before all else
abbrev pub Begins : List Entry → Type 0
Begins journal = (rest : List Entry) × (journal ≡ Say 0 (codes "VERSION 1") ∷ rest)

-- The journal is legal, and unless memory ran out it begins with the version and nothing is left due. The source gave the lines that were
-- heard, none of them too long, and a rest. The sink took the text of the lines that are written, and where writing failed the first bytes of the next. Each remote had
-- the calls that the journal has of it, with their requests' arguments. And it stands as the end says.
pub record Serves (setup : Setup) (old new : Tells) (journal : JournalValue) : Type 0 where
  pub given : List ℕ
  pub taken : List ℕ
  pub rest : List ℕ
  pub legal : is_legal setup journal.entries ≡ true
  pub begins : (journal.why ≡ Memory → ⊥) → Begins journal.entries
  pub told : (journal.why ≡ Memory → ⊥) → (standing setup journal.entries).due ≡ []
  pub gave : Appends old.given new.given given × StaysUntold old.given new.given
  pub cut : Cut given (heard_lines journal.entries) rest
  pub short : IsTrue (list_all is_short (heard_lines journal.entries))
  pub took : Appends old.taken new.taken taken × StaysUntold old.taken new.taken
  pub written : IsWrittenBy journal.why journal.entries taken
  pub gained : Gained setup journal.entries 0 old.calls new.calls
  pub ended : IsEnd journal.why setup journal.entries rest new.left

-- whether the journal is kept, the settings of the first remote, and how many there are
abbrev pub setup_of : {K : Type 0} → Bool → (K → List (List ℕ)) → List K → Setup
setup_of kept settings [] = record { kept = kept; settings = []; remotes = 0; about = None }
setup_of kept settings (k ∷ ks) = record { kept = kept; settings = settings k; remotes = length ks + 1; about = None }

-- the same, with what the first remote says of itself, and these facts
abbrev pub described_setup : {K : Type 0} → Bool → (K → List (List ℕ)) → (K → Description) → List Fact → List K → Setup
described_setup kept settings description facts [] = setup_of kept settings []
described_setup kept settings description facts (k ∷ ks) = record (setup_of kept settings (k ∷ ks)) { about = Some (about_of (description k) facts) }
