-- How a store in chunks goes: what it asks first, and what it does for each chunk.
use Rattle.std.specs.Prelude.{ℕ, ◌≡◌, ◌+◌, ◌-◌, ◌<◌, Bool, true, false, is_some, List, [], ◌∷◌, ◌++◌, length, map, Option, Some, None, Result, Ok, Err}
use Rattle.std.specs.Bool.{MatchBool}
use Rattle.std.specs.List.{concat, list_all, range_with_len}
use Rattle.ann_key.specs.Keys.{Parts, with_chunk}
use Rattle.ann_key.specs.declared.bytes.NoMemory.{NoMemory}
use Rattle.annex_model.specs.Messages.{HostMessage, Transfer}
use Rattle.journal_model.specs.declared.verdict.Verdict.{Verdict}
use Rattle.journal_model.specs.declared.verdict.Verdict.TheVariants.{Done as DoneAt, Failed as FailedAt, Absent as AbsentAt, Unknown as UnknownAt, Unsupported as UnsupportedAt}
use Rattle.ann_outside.specs.Calls.{Log, Gained, logged}
use Rattle.ann_outside.specs.declared.file_desk.DeskError.{DeskError}
use Rattle.ann_outside.specs.declared.file_desk.Call.{Call}
use Rattle.ann_outside.specs.declared.file_desk.Call.TheVariants.{Size, Create, Remove}
use Rattle.task_model.specs.Copying.Copies.{copy_calls, EndsWhole, EndsRefused}
use Rattle.task_model.specs.Copying.CopiesOut.{reads_before}
use Rattle.task_model.specs.Askers.{Asking, Noting}
use Rattle.journal_model.specs.declared.answer.Answer.{Answer}
use Rattle.journal_model.specs.declared.answer.Answer.TheVariants.{Size as SizeAnswer, Stored}
use Rattle.task_model.specs.declared.setup.Setup.{Setup}
use Rattle.task_model.specs.declared.turn.TaskTurn.{TaskTurn}
use Rattle.task_run.specs.declared.store.chunk_store.Sought.{Sought}
use Rattle.task_run.specs.declared.store.chunk_store.Sought.TheVariants.{All, Missing, Over}
use Rattle.task_run.specs.declared.store.chunk_store.Standing.{Standing}
use Rattle.task_run.specs.declared.store.chunk_store.Standing.TheVariants as S
use Rattle.task_model.specs.Stops.{is_done, is_done_at, verdict_stop}
use Rattle.task_model.specs.Requests.{AsksFor, AskInOrder}
use Rattle.task_model.specs.Checks.{present_request}
use Rattle.task_model.specs.Ran.{refusal, undone_answer, behind_more, answered, may_follow_refusal}
use Rattle.task_model.specs.Fetching.{Outcome, if_made}
use Rattle.task_model.specs.Runs.{RunOf}
use Rattle.task_text.specs.Layouts.Layouts.{count_of}
use Rattle.task_text.specs.declared.task.Work.TheVariants.{Store}

-- ---- one request

-- one pair more, of a request for this key
pub record AsksOneFor (ask : ℕ → List ℕ → HostMessage) (key : Parts) (before after : List Asking) (v : Verdict) : Type 0 where
  pub request : Option HostMessage
  pub asks : AsksFor ask 1 key (record { request = request; name = None; verdict = v })
  pub added : after ≡ before ++ record { request = request; name = None; verdict = v } ∷ []

abbrev pub AsksNext : (ℕ → List ℕ → HostMessage) → Parts → List Asking → List Asking → Result Verdict NoMemory → Type 0
AsksNext ask key before after (Ok v) = AsksOneFor ask key before after v
AsksNext ask key before after (Err e) = after ≡ before

-- the request of a chunk that is stored from the named file
abbrev pub from_file : List ℕ → ℕ → List ℕ → HostMessage
from_file name n text = Transfer true text name

-- ---- what is there

-- all of these mean that the chunk isn't there
abbrev pub is_missing_at : Verdict → Bool
is_missing_at (AbsentAt at) = true
is_missing_at (UnknownAt at) = true
is_missing_at (UnsupportedAt at) = true
is_missing_at _ = false

-- what is so of a chunk that such a verdict was given of; the answer of an end tells of no call of the desk
abbrev pub StandsAs : Verdict → Standing → Type 0
StandsAs v S.There = is_done_at v ≡ true
StandsAs v S.Missing = is_missing_at v ≡ true
StandsAs v (S.Over answer) = (verdict_stop true v ≡ Some answer) × (may_follow_refusal (Ok answer) ≡ false)

-- the keys of n chunks, from the first of these numbers on
abbrev pub chunk_keys : Parts → ℕ → ℕ → ℕ → List Parts
chunk_keys key chunk first n = map (λ number. with_chunk chunk number key) (range_with_len first n)

-- what was asked after the chunks that are there: nothing where all are, or no memory was found; else of one that isn't, or of a child that is gone
abbrev pub EndsSeeking : ℕ → ℕ → List Asking → Result Sought NoMemory → Type 0
EndsSeeking count n last (Ok All) = (last ≡ []) × (n ≡ count)
EndsSeeking count n last (Ok (Missing k)) = (k ≡ n) × ((a : Asking) × (last ≡ a ∷ []) × (is_missing_at a.verdict ≡ true))
EndsSeeking count n last (Ok (Over answer)) = (a : Asking) × (last ≡ a ∷ []) × (verdict_stop true a.verdict ≡ Some answer)
EndsSeeking count n last (Err e) = last ≡ []

-- The remote was asked for the chunks in their order: those that are there, and one more where it isn't.
pub record Seeks (key : Parts) (chunk count : ℕ) (before after : List Asking) (result : Result Sought NoMemory) : Type 0 where
  pub there : List Asking
  pub last : List Asking
  pub pairs_are : after ≡ before ++ (there ++ last)
  pub in_order : AskInOrder present_request 1 (chunk_keys key chunk 1 count) (there ++ last)
  pub each_there : list_all is_done there ≡ true
  pub ends : EndsSeeking count (length there) last result

-- ---- one chunk

-- of the range all was copied, or the file ended before
pub record Cut (file name : List ℕ) (from to : ℕ) (pieces : List (List ℕ)) (ending : List Call) : Type 0 where
  pub ends : EndsWhole file (from + length (concat pieces)) ((to - from) - length (concat pieces)) ending
  pub within : list_all (reads_before to) (copy_calls file name from pieces ++ ending) ≡ true
  pub itself : file ≡ name → length (concat pieces) ≡ 0

-- how one chunk went: its file wasn't made; copying to it was refused; the range was cut short; nothing was asked; the request ended the
-- task; or it was done or failed, and so was the chunk's file removed
pub data Chunk : Type 0 where
  NotMade : (e : DeskError) → Chunk
  NotCopied : (pieces : List (List ℕ)) (ending : List Call) (e : DeskError) → Chunk
  CutShort : (pieces : List (List ℕ)) (ending : List Call) → Chunk
  Unasked : (pieces : List (List ℕ)) (ending : List Call) → Chunk
  Undone : (pieces : List (List ℕ)) (ending : List Call) (a : Asking) → Chunk
  Settled : (pieces : List (List ℕ)) (ending : List Call) (a : Asking) (r : Outcome) → Chunk

abbrev pub cut_calls : List ℕ → List ℕ → ℕ → List (List ℕ) → List Call → List Call
cut_calls file name from pieces ending = Create name (Ok tt) ∷ copy_calls file name from pieces ++ ending

abbrev pub chunk_calls : List ℕ → List ℕ → ℕ → Chunk → List Call
chunk_calls file name from (NotMade e) = if_made (Err e) (Create name (Err e))
chunk_calls file name from (NotCopied pieces ending e) = cut_calls file name from pieces ending
chunk_calls file name from (CutShort pieces ending) = cut_calls file name from pieces ending
chunk_calls file name from (Unasked pieces ending) = cut_calls file name from pieces ending
chunk_calls file name from (Undone pieces ending a) = cut_calls file name from pieces ending
chunk_calls file name from (Settled pieces ending a r) = cut_calls file name from pieces ending ++ if_made r (Remove name r)

abbrev pub chunk_asked : Chunk → List Asking
chunk_asked (Undone pieces ending a) = a ∷ []
chunk_asked (Settled pieces ending a r) = a ∷ []
chunk_asked _ = []

-- a refusal ends the task
abbrev pub ended : Result Answer NoMemory → Result (Option Answer) NoMemory
ended (Ok answer) = Ok (Some answer)
ended (Err e) = Err e

abbrev pub removal_result : Option Answer → Outcome → Result (Option Answer) NoMemory
removal_result then (Ok done) = Ok then
removal_result then (Err e) = ended (refusal e)

-- the answer that ends the task; none where the chunk was stored
abbrev pub chunk_result : Chunk → Result (Option Answer) NoMemory
chunk_result (NotMade e) = ended (refusal e)
chunk_result (NotCopied pieces ending e) = ended (refusal e)
chunk_result (CutShort pieces ending) = Ok (Some (SizeAnswer (length (concat pieces))))
chunk_result (Unasked pieces ending) = Err record {}
chunk_result (Undone pieces ending a) = Ok (undone_answer a.verdict)
chunk_result (Settled pieces ending a r) = removal_result (undone_answer a.verdict) r

abbrev pub is_settled_at : Verdict → Bool
is_settled_at (DoneAt at) = true
is_settled_at (FailedAt at) = true
is_settled_at _ = false

abbrev pub ChunkIs : List ℕ → List ℕ → ℕ → ℕ → Parts → Chunk → Type 0
ChunkIs file name from to key (NotMade e) = Unit {0}
ChunkIs file name from to key (NotCopied pieces ending e) =
    EndsRefused e file name (from + length (concat pieces)) ending × (list_all (reads_before to) (copy_calls file name from pieces ++ ending) ≡ true)
ChunkIs file name from to key (CutShort pieces ending) = Cut file name from to pieces ending × (length (concat pieces) < to - from)
ChunkIs file name from to key (Unasked pieces ending) = Cut file name from to pieces ending × (length (concat pieces) ≡ to - from)
ChunkIs file name from to key (Undone pieces ending a) =
    Cut file name from to pieces ending × (length (concat pieces) ≡ to - from) × AsksFor (from_file name) 1 key a × (is_some (verdict_stop false a.verdict) ≡ true)
ChunkIs file name from to key (Settled pieces ending a r) =
    Cut file name from to pieces ending × (length (concat pieces) ≡ to - from) × AsksFor (from_file name) 1 key a × (is_settled_at a.verdict ≡ true)

pub record StoresChunk (file name : List ℕ) (from to : ℕ) (key : Parts) (before after : List Asking) (old new : Option Log) (result : Result (Option Answer) NoMemory) : Type 0 where
  pub how : Chunk
  pub pairs_are : after ≡ before ++ chunk_asked how
  pub calls : Gained old new (chunk_calls file name from how)
  pub result_is : result ≡ chunk_result how
  pub so : ChunkIs file name from to key how

-- ---- parts of one chunk

-- copying ended the task, whatever the chunk's key is
pub record NotWhole (file name : List ℕ) (from to : ℕ) (old new : Option Log) (result : Result (Option Answer) NoMemory) : Type 0 where
  pub how : Chunk
  pub calls : Gained old new (chunk_calls file name from how)
  pub result_is : result ≡ chunk_result how
  pub so : (key : Parts) → ChunkIs file name from to key how
  pub unasked : chunk_asked how ≡ []

-- the range was copied whole, or copying it ended the task
abbrev pub CopiesChunk : List ℕ → List ℕ → ℕ → ℕ → Option Log → Option Log → Result (Option Answer) NoMemory → Type 0
CopiesChunk file name from to old new (Ok None) =
    (pieces : List (List ℕ)) × (ending : List Call) × Gained old new (cut_calls file name from pieces ending) × Cut file name from to pieces ending
    × (length (concat pieces) ≡ to - from)
CopiesChunk file name from to old new (Ok (Some answer)) = NotWhole file name from to old new (Ok (Some answer))
CopiesChunk file name from to old new (Err e) = NotWhole file name from to old new (Err e)

-- after done and failed the chunk's file is removed; else it stays
abbrev pub SettlesChunk : List ℕ → Verdict → Option Log → Option Log → Result (Option Answer) NoMemory → Type 0
SettlesChunk name v old new result =
    MatchBool (is_settled_at v) ((r : Outcome) × (new ≡ logged old (Remove name r)) × (result ≡ removal_result (undone_answer v) r))
    ((new ≡ old) × (result ≡ Ok (undone_answer v)))

-- the answer so far, where there is one; a chunk that was stored counts as stored
abbrev pub so_far : Result (Option Answer) NoMemory → Result Answer NoMemory
so_far (Ok None) = Ok Stored
so_far (Ok (Some answer)) = Ok answer
so_far (Err e) = Err e

-- ---- all chunks from the first that isn't there

-- so many chunks are there, and the next one isn't
pub record IsSought (key : Parts) (chunk count n : ℕ) (asked : List Asking) : Type 0 where
  pub there : List Asking
  pub one : Asking
  pub asked_is : asked ≡ there ++ one ∷ []
  pub in_order : AskInOrder present_request 1 (chunk_keys key chunk 1 count) asked
  pub each_there : list_all is_done there ≡ true
  pub so_many : length there ≡ n
  pub missing : is_missing_at one.verdict ≡ true

-- After the questions, and the length of the file, this makes a run of the task.
pub record StoresFrom (setup : Setup) (t : TaskTurn) (key : Parts) (file : List ℕ) (size n : ℕ) (pairs_before pairs_after : List Asking)
    (notes_before notes_after : List Noting) (old new : Option Log) (result : Result Answer NoMemory) : Type 0 where
  pub asked : List Asking
  pub calls : List Call
  pub noted : List Noting
  pub pairs_are : pairs_after ≡ pairs_before ++ asked
  pub notes_are : notes_after ≡ notes_before ++ map (behind_more (length pairs_before)) noted
  pub log_is : Gained old new calls
  pub run : (text : List ℕ) (layouts : List (ℕ × ℕ)) (questions : List Asking) → IsSought key setup.chunk (count_of size setup.chunk) n questions
      → RunOf setup t (record { work = Store; key = text; file = file; name = []; onto = [] }) key layouts (questions ++ asked) (Size file (Ok size) ∷ calls)
      (map (behind_more (length questions)) noted) (answered result)

-- the chunks are noted, after so many requests, and the content is stored
abbrev pub NotesChunks : ℕ → ℕ → ℕ → List Noting → List Noting → Result Answer NoMemory → Type 0
NotesChunks chunk count behind old new (Ok answer) = (answer ≡ Stored) × (new ≡ old ++ record { chunk = chunk; count = count; behind = behind } ∷ [])
NotesChunks chunk count behind old new (Err e) = new ≡ old

-- After the length of the file, which is the key's size, this makes a run of the task.
pub record StoresSized (setup : Setup) (t : TaskTurn) (key : Parts) (file : List ℕ) (size : ℕ) (pairs_before pairs_after : List Asking)
    (notes_before notes_after : List Noting) (old new : Option Log) (result : Result Answer NoMemory) : Type 0 where
  pub asked : List Asking
  pub calls : List Call
  pub noted : List Noting
  pub pairs_are : pairs_after ≡ pairs_before ++ asked
  pub notes_are : notes_after ≡ notes_before ++ map (behind_more (length pairs_before)) noted
  pub log_is : Gained old new calls
  pub run : (text : List ℕ) (layouts : List (ℕ × ℕ)) → RunOf setup t (record { work = Store; key = text; file = file; name = []; onto = [] }) key layouts asked
      (Size file (Ok size) ∷ calls) noted (answered result)

-- where asking ended the task, its answer tells of no call of the desk
abbrev pub IsQuiet : Sought → Type 0
IsQuiet All = Unit {0}
IsQuiet (Missing n) = Unit {0}
IsQuiet (Over answer) = may_follow_refusal (Ok answer) ≡ false
