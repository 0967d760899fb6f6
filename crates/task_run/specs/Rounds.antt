-- What a task asks of the keys of one layout.
use Rattle.std.specs.Prelude.{ℕ, ◌≡◌, ◌==◌, true, false, if◌then◌else◌, List, [], ◌∷◌, ◌++◌, length, map, Option, Some, None, Result, Ok, Err, unwrap_or}
use Rattle.std.specs.List.{list_all}
use Rattle.ann_key.specs.Keys.{Parts, with_chunk}
use Rattle.ann_key.specs.declared.bytes.NoMemory.{NoMemory}
use Rattle.task_text.specs.Layouts.Layouts.{count_of}
use Rattle.annex_model.specs.Messages.{HostMessage}
use Rattle.journal_model.specs.declared.verdict.Verdict.{Verdict}
use Rattle.journal_model.specs.declared.answer.Answer.{Answer}
use Rattle.journal_model.specs.declared.answer.Answer.TheVariants.{Absent}
use Rattle.task_text.specs.declared.task.Task.{Task}
use Rattle.task_model.specs.Askers.{Asking, Noting}
use Rattle.task_model.specs.declared.setup.Setup.{Setup}
use Rattle.task_model.specs.declared.turn.TaskTurn.{TaskTurn}
use Rattle.task_run.specs.declared.layouts.Query.{Query}
use Rattle.task_run.specs.declared.layouts.Query.TheVariants as Q
use Rattle.task_model.specs.Stops.{is_done, is_done_at, verdict_stop}
use Rattle.task_model.specs.Requests.{AskInOrder, RoundsAsk}
use Rattle.task_model.specs.Checks.{present_request, unknown_at, not_there}
use Rattle.task_model.specs.Drops.{remove_request, keys_dropped, drop_notes}
use Rattle.task_model.specs.Ran.{is_verdict_of, behind_more, answered}
use Rattle.task_model.specs.Runs.{TaskRun}

-- the request of each key
abbrev pub asked_by : Query → ℕ → List ℕ → HostMessage
asked_by Q.Present = present_request
asked_by Q.Remove = remove_request

-- how many keys a layout has of content of a size, where chunk size 0 is the plain layout, and the key of a number
abbrev pub key_count : Option ℕ → ℕ → ℕ
key_count size chunk = if chunk == 0 then 1 else count_of (unwrap_or size 0) chunk

abbrev pub key_at : Parts → ℕ → ℕ → Parts
key_at key chunk n = if chunk == 0 then key else with_chunk chunk n key

-- all were done; or the last one wasn't; or no memory was found after some that were
abbrev pub RoundEnds : Query → List Parts → List Asking → Result (Option Verdict) NoMemory → Type 0
RoundEnds query keys round (Ok None) = (list_all is_done round ≡ true) × (length round ≡ length keys)
RoundEnds query keys round (Ok (Some v)) =
    (front : List Asking) × (a : Asking) × (round ≡ front ++ a ∷ []) × (list_all is_done front ≡ true) × (a.verdict ≡ v) × (is_done_at v ≡ false)
    × (is_verdict_of (asked_by query 1 []) v ≡ true)
RoundEnds query keys round (Err e) = list_all is_done round ≡ true

-- The keys were asked for in their order, until one wasn't done.
pub record RoundAsks (query : Query) (old new : List Asking) (keys : List Parts) (result : Result (Option Verdict) NoMemory) : Type 0 where
  pub round : List Asking
  pub pairs_are : new ≡ old ++ round
  pub in_order : (n : ℕ) → AskInOrder (asked_by query) n keys round
  pub ends : RoundEnds query keys round result

-- The same so far: `at` keys were asked for, and all were done.
pub record Asked (query : Query) (old new : List Asking) (keys : List Parts) (at : ℕ) : Type 0 where
  pub round : List Asking
  pub pairs_are : new ≡ old ++ round
  pub in_order : (n : ℕ) → AskInOrder (asked_by query) n keys round
  pub each_done : list_all is_done round ≡ true
  pub so_many : length round ≡ at

-- the answer of a check whose layouts so far have this one, where the next layout lacks a key by this verdict
abbrev pub missing_more : Answer → Verdict → Answer
missing_more Absent v = unwrap_or (unknown_at v) Absent
missing_more answer v = answer

-- ---- round after round

-- the askings of these rounds
abbrev pub joined : List (List Asking) → List Asking
joined [] = []
joined (round ∷ more) = round ++ joined more

-- the round ends with the first that isn't done, which doesn't end the task
pub record Ended (round : List Asking) : Type 0 where
  pub front : List Asking
  pub last : Asking
  pub is : round ≡ front ++ last ∷ []
  pub done : list_all is_done front ≡ true
  pub not_done : is_done last ≡ false
  pub goes_on : verdict_stop false last.verdict ≡ None

abbrev pub EachEnded : List (List Asking) → Type 0
EachEnded [] = Unit {0}
EachEnded (round ∷ more) = Ended round × EachEnded more

-- A check so far: each of these layouts lacks a key.
pub record Missed (old new : List Asking) (layouts : List (List Parts)) (missing : Answer) : Type 0 where
  pub past : List (List Asking)
  pub pairs_are : new ≡ old ++ joined past
  pub each : EachEnded past
  pub so_many : length past ≡ length layouts
  pub in_order : RoundsAsk present_request 1 layouts past
  pub missing_is : missing ≡ not_there (joined past)

-- A drop so far: the keys of these layouts were removed, and noted.
pub record Removed (old new : List Asking) (notes later : List Noting) (key : Parts) (sizes : List ℕ) : Type 0 where
  pub asked : List Asking
  pub pairs_are : new ≡ old ++ asked
  pub in_order : (n : ℕ) → AskInOrder remove_request n (keys_dropped key sizes) asked
  pub each_done : list_all is_done asked ≡ true
  pub so_many : length asked ≡ length (keys_dropped key sizes)
  pub notes_are : later ≡ notes ++ map (behind_more (length old)) (drop_notes key 0 sizes)

-- that there are no chunks of this size was noted after so many requests; of the plain layout nothing is noted
abbrev pub notes_none : ℕ → ℕ → List Noting
notes_none behind chunk = if chunk == 0 then [] else record { chunk = chunk; count = 0; behind = behind } ∷ []

-- without memory nothing was noted
abbrev pub NotesNone : List Noting → List Noting → ℕ → ℕ → Result (Unit {0}) NoMemory → Type 0
NotesNone notes later behind chunk (Ok done) = later ≡ notes ++ notes_none behind chunk
NotesNone notes later behind chunk (Err e) = later ≡ notes

-- The pairs and the notes grew by those of one run of the task, which made no calls.
pub record RanNoting (task : Task) (t : TaskTurn) (layouts : List (ℕ × ℕ)) (before after : List Asking) (notes later : List Noting) (result : Result Answer NoMemory) : Type 0 where
  pub asked : List Asking
  pub noted : List Noting
  pub pairs_are : after ≡ before ++ asked
  pub notes_are : later ≡ notes ++ map (behind_more (length before)) noted
  pub run : (setup : Setup) → TaskRun task t setup layouts asked [] noted (answered result)
