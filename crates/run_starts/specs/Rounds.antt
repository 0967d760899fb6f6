-- In which turn a run starts its children and claims its tasks, and how it answers those that no child takes.
use Rattle.std.specs.Prelude.{ℕ, ◌≡◌, ◌<◌, ◌==◌, ◌||◌, not, if◌then◌else◌, Bool, true, false, List, [], ◌∷◌, ◌++◌, Option, Some, None, option_and_then, Result, MatchResult}
use Rattle.std.specs.List.{list_all, last_or}
use Rattle.ann_key.specs.declared.bytes.NoMemory.{NoMemory}
use Rattle.journal_model.specs.declared.verdict.Why.TheVariants.{Memory as ForMemory}
use Rattle.journal_model.specs.declared.answer.Answer.{Answer}
use Rattle.journal_model.specs.declared.answer.Answer.TheVariants.{Memory, NoChild}
use Rattle.journal_model.specs.declared.entry.What.{What}
use Rattle.journal_model.specs.declared.entry.What.TheVariants.{Start, NoStart, Claim, Ask, End, Lost, Again}
use Rattle.journal_model.specs.declared.entry.Entry.{Entry}
use Rattle.journal_model.specs.declared.opening.Opening.{Opening}
use Rattle.journal_model.specs.Journal.{any, each_of}
use Rattle.journal_model.specs.Shares.{is_closed}
use Rattle.host_core.specs.Steps.{are_all_claimed}
use Rattle.task_model.specs.TaskRuns.{failed_start}
use Rattle.child_life.specs.Start.Greetings.{is_greeting_line}
use Rattle.crew_work.specs.Worker.Works.{ends_closed}
use Rattle.run_starts.specs.Starting.{AreEnded}

-- ---- a task that no child takes

-- What starts of slot 0 and claims come to, in turn: a start to its child or to none, which a claim takes up.
abbrev pub turn_of : What → Option (Option (Option ℕ))
turn_of (Start child slot offer) = if slot == 0 then Some (Some (Some child)) else None
turn_of (NoStart slot) = if slot == 0 then Some (Some None) else None
turn_of (Claim task child) = Some None
turn_of w = None

-- what the last start came to, where no task was claimed after it
abbrev pub start_untaken : List Entry → Option (Option ℕ)
start_untaken past = option_and_then (λ turn. turn) (last_or None (each_of turn_of past))

-- no start that gave no child that is ready is left for a task to take up
abbrev pub NoneUntaken : List Entry → Type 0
NoneUntaken past = failed_start past (start_untaken past) ≡ None

-- ---- in which turn

-- Slot 0 may be started: a task is left, each child before has ended, and no start is left for one to take up.
pub record MayStart (o : Opening) (past : List Entry) : Type 0 where
  pub left : are_all_claimed o past ≡ false
  pub ended : AreEnded past
  pub taken : NoneUntaken past

-- slot 0 is started only where it may be, and a task is claimed for a child only where no start is left for one to take up
abbrev pub StandsNext : Opening → List Entry → What → Type 0
StandsNext o past (Start child slot offer) = slot ≡ 0 → MayStart o past
StandsNext o past (NoStart slot) = slot ≡ 0 → MayStart o past
StandsNext o past (Claim task child) = 0 < child → NoneUntaken past
StandsNext o past w = Unit {0}

-- so do all of the entries, which stand after past
abbrev pub AllStandNext : Opening → List Entry → List Entry → Type 0
AllStandNext o past [] = Unit {0}
AllStandNext o past (e ∷ rest) = StandsNext o past e.what × AllStandNext o (past ++ e ∷ []) rest

-- ---- requests that are lost

-- what starts and claims come to, in any slot: a start to its child or to none, which a claim takes up
abbrev pub opened_in : What → Option (Option ℕ)
opened_in (Start child slot offer) = Some (Some child)
opened_in (NoStart slot) = Some None
opened_in (Claim task child) = Some None
opened_in w = None

-- the child that is greeted here: that of the last start, where no task was claimed after it
abbrev pub greeted : List Entry → Option ℕ
greeted past = option_and_then (λ child. child) (last_or None (each_of opened_in past))

-- a request of no task is lost in the greeting of its child alone
abbrev pub IsLostIn : List Entry → What → Type 0
IsLostIn past (Lost child task) = task ≡ 0 → greeted past ≡ Some child
IsLostIn past w = Unit {0}

-- so is each that the main thread lost among the entries, which stand after past
abbrev pub AllLostWell : List Entry → List Entry → Type 0
AllLostWell past [] = Unit {0}
AllLostWell past (e ∷ rest) = (e.by ≡ 0 → IsLostIn past e.what) × AllLostWell (past ++ e ∷ []) rest

-- ---- a task that is left

-- a child ended for lack of memory
abbrev pub ends_for_memory : What → Bool
ends_for_memory (End child ForMemory) = true
ends_for_memory w = false

-- the answer with which the entry says that the task is to be run again
abbrev pub again_of : ℕ → What → Option Answer
again_of t (Again task answer) = if task == t then Some answer else None
again_of t w = None

-- that of the task's last Again
abbrev pub last_again : List Entry → ℕ → Option Answer
last_again past t = last_or None (each_of (again_of t) past)

-- how a task is answered that was never to be run again, when no child can be started any more
abbrev pub unserved_answer : List Entry → Answer
unserved_answer past = if any ends_for_memory past then Memory else NoChild

abbrev pub or_unserved : Option Answer → List Entry → Answer
or_unserved (Some answer) past = answer
or_unserved None past = unserved_answer past

-- how a task is answered that is left when no child can be started any more: as its last Again says, if it has one
abbrev pub left_answer : List Entry → ℕ → Answer
left_answer past t = or_unserved (last_again past t) past

-- ---- the run

-- job 0 and job 1 are the greeting's, which ends by PREPARE, and each later one is a task's
abbrev pub is_of_run : What → Bool
is_of_run (Ask child job task line) = if is_greeting_line job line then task == 0 else not (job == 0 || (job == 1 || task == 0))
is_of_run w = true

-- a closing of a child
abbrev pub is_closing : What → Bool
is_closing (End child why) = is_closed why
is_closing w = false

-- after the last run was closed children were closed, and nothing else was done
pub record EndsClosed (journal : List Entry) : Type 0 where
  pub past : List Entry
  pub closings : List Entry
  pub is : journal ≡ past ++ closings
  pub answered : ends_closed past ≡ true
  pub closed : list_all (λ e. is_closing e.what) closings ≡ true

-- all tasks were claimed, unless no memory was found to start a child
abbrev pub IsWhole : Opening → List Entry → Result (Unit {0}) NoMemory → Type 0
IsWhole o journal result = MatchResult result (λ _. are_all_claimed o journal ≡ true) (λ _. Unit {0})
