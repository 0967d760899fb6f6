-- How entries are kept: a line and a digest by their numbers.
use Rattle.std.specs.Prelude.{ℕ, ◌≡◌, ◌+◌, ◌-◌, ◌<◌, ◌≤◌, List, [], ◌∷◌, ◌++◌, length, Option, Some, None, slice_get, slice_index_or, ⊤}
use Rattle.std.specs.List.{AllByRecursion}
use Rattle.ann_digest.specs.declared.digest.Digest.{Digest}
use Rattle.journal_scan.specs.Tables.Lines.{LineStoreValue, total}
use Rattle.journal_model.specs.declared.answer.Answer.{Answer}
use Rattle.journal_model.specs.declared.answer.Answer.TheVariants.{Stored, Got as GotAnswer, Present, Dropped, Renamed, Absent, Unsupported, Unsent, StartFault, NoChild, FileFault, NoFile, Memory, Failed, Unknown, NotPrepared, Ended, Size, Hash}
use Rattle.journal_model.specs.declared.entry.What.{What}
use Rattle.journal_model.specs.declared.entry.What.TheVariants.{Claim, Start, NoStart, Lead, Ask, Put, Sent, Mute, Got, End, Verdict, Lost, Answer as Answered, Note, Again}
use Rattle.journal_model.specs.declared.entry.Entry.{Entry}
use Rattle.journal_scan.specs.declared.record.KeptAnswer.{KeptAnswer}
use Rattle.journal_scan.specs.declared.record.KeptAnswer.TheVariants.{Stored as KeptStored, Got as KeptGotAnswer, Present as KeptPresent, Dropped as KeptDropped, Renamed as KeptRenamed, Absent as KeptAbsent, Unsupported as KeptUnsupported, Unsent as KeptUnsent, StartFault as KeptStartFault, NoChild as KeptNoChild, FileFault as KeptFileFault, NoFile as KeptNoFile, Memory as KeptMemory, Failed as KeptFailed, Unknown as KeptUnknown, NotPrepared as KeptNotPrepared, Ended as KeptEnded, Size as KeptSize, Hash as KeptHash}
use Rattle.journal_scan.specs.declared.record.Kept.{Kept}
use Rattle.journal_scan.specs.declared.record.Kept.TheVariants.{Claim as KeptClaim, Start as KeptStart, NoStart as KeptNoStart, Lead as KeptLead, Ask as KeptAsk, Put as KeptPut, Sent as KeptSent, Mute as KeptMute, Got as KeptGot, End as KeptEnd, Verdict as KeptVerdict, Lost as KeptLost, Answer as KeptAnswered, Note as KeptNote, Again as KeptAgain}
use Rattle.journal_scan.specs.declared.record.Record.{Record}

-- ---- what is kept, read back

abbrev pub line_kept : List (List ℕ) → ℕ → List ℕ
line_kept lines n = slice_index_or lines n []

-- the answer by a digest, if it is there
abbrev pub by_digest : Option Digest → Answer
by_digest None = Memory
by_digest (Some digest) = Hash digest

abbrev pub answer_kept : List Digest → KeptAnswer → Answer
answer_kept digests KeptStored = Stored
answer_kept digests KeptGotAnswer = GotAnswer
answer_kept digests KeptPresent = Present
answer_kept digests KeptDropped = Dropped
answer_kept digests KeptRenamed = Renamed
answer_kept digests KeptAbsent = Absent
answer_kept digests KeptUnsupported = Unsupported
answer_kept digests KeptUnsent = Unsent
answer_kept digests KeptStartFault = StartFault
answer_kept digests KeptNoChild = NoChild
answer_kept digests KeptFileFault = FileFault
answer_kept digests KeptNoFile = NoFile
answer_kept digests KeptMemory = Memory
answer_kept digests (KeptFailed at) = Failed at
answer_kept digests (KeptUnknown at) = Unknown at
answer_kept digests (KeptNotPrepared at) = NotPrepared at
answer_kept digests (KeptEnded why) = Ended why
answer_kept digests (KeptSize bytes) = Size bytes
answer_kept digests (KeptHash digest) = by_digest (slice_get digests digest)

abbrev pub what_kept : List (List ℕ) → List Digest → Kept → What
what_kept lines digests (KeptClaim task child) = Claim task child
what_kept lines digests (KeptStart child slot offer) = Start child slot offer
what_kept lines digests (KeptNoStart slot) = NoStart slot
what_kept lines digests (KeptLead child job line) = Lead child job (line_kept lines line)
what_kept lines digests (KeptAsk child job task line) = Ask child job task (line_kept lines line)
what_kept lines digests (KeptPut child job line) = Put child job (line_kept lines line)
what_kept lines digests (KeptSent child) = Sent child
what_kept lines digests (KeptMute child) = Mute child
what_kept lines digests (KeptGot child line) = Got child (line_kept lines line)
what_kept lines digests (KeptEnd child why) = End child why
what_kept lines digests (KeptVerdict child job verdict) = Verdict child job verdict
what_kept lines digests (KeptLost child task) = Lost child task
what_kept lines digests (KeptAnswered task answer) = Answered task (answer_kept digests answer)
what_kept lines digests (KeptNote task chunk count) = Note task chunk count
what_kept lines digests (KeptAgain task answer) = Again task (answer_kept digests answer)

abbrev pub entry_kept : List (List ℕ) → List Digest → Record → Entry
entry_kept lines digests r = record { by = r.by; what = what_kept lines digests r.what }

-- ---- what one more entry adds

abbrev pub with_line : List (List ℕ) → What → List (List ℕ)
with_line lines (Lead child job line) = lines ++ line ∷ []
with_line lines (Ask child job task line) = lines ++ line ∷ []
with_line lines (Put child job line) = lines ++ line ∷ []
with_line lines (Got child line) = lines ++ line ∷ []
with_line lines _ = lines

abbrev pub with_digest_of : List Digest → Answer → List Digest
with_digest_of digests (Hash digest) = digests ++ digest ∷ []
with_digest_of digests _ = digests

abbrev pub with_digest : List Digest → What → List Digest
with_digest digests (Answered task answer) = with_digest_of digests answer
with_digest digests (Again task answer) = with_digest_of digests answer
with_digest digests _ = digests

-- ---- numbers that are there

-- the number of a digest is one of so many
abbrev pub IsAnswerWithin : ℕ → KeptAnswer → Type 0
IsAnswerWithin n (KeptHash digest) = digest < n
IsAnswerWithin n _ = ⊤

-- the numbers of a line and of a digest are some of so many lines and digests
abbrev pub IsWithin : ℕ → ℕ → Kept → Type 0
IsWithin lines digests (KeptLead child job line) = line < lines
IsWithin lines digests (KeptAsk child job task line) = line < lines
IsWithin lines digests (KeptPut child job line) = line < lines
IsWithin lines digests (KeptGot child line) = line < lines
IsWithin lines digests (KeptAnswered task answer) = IsAnswerWithin digests answer
IsWithin lines digests (KeptAgain task answer) = IsAnswerWithin digests answer
IsWithin lines digests _ = ⊤

-- it says what happened
pub record IsKept (lines : List (List ℕ)) (digests : List Digest) (kept : Kept) (what : What) : Type 0 where
  pub says : what_kept lines digests kept ≡ what
  pub within : IsWithin (length lines) (length digests) kept

-- What the records name is there, and each entry for which there is room may have a line and a digest.
pub record AreRecords (records : List Record) (lines : LineStoreValue) (digests : List Digest) (room most_records most_digests : ℕ) : Type 0 where
  pub within : AllByRecursion (λ r. IsWithin (length lines.lines) (length digests) r.what) records
  pub bytes : total lines.lines ≤ lines.space
  pub for_records : room ≤ most_records
  pub for_lines : length lines.lines + (room - length records) ≤ lines.room
  pub for_digests : length digests + (room - length records) ≤ most_digests
