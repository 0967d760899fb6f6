-- What one start and what follows it comes to, and how a run stands between two starts.
use Rattle.ann_outside.specs.Told.{DeskTold, ProgramsTold}
use Rattle.std.specs.Prelude.{ℕ, ◌≡◌, ◌⊎◌, ◌<◌, ◌≤◌, ◌+◌, ◌==◌, ◌&&◌, not, Bool, true, false, List, [], ◌∷◌, ◌++◌, Option, Some, None, option_map, Result, MatchResult}
use Rattle.std.specs.List.{list_all, list_any}
use Rattle.ann_key.specs.declared.bytes.NoMemory.{NoMemory}
use Rattle.ann_outside.specs.Calls.{Gained}
use Rattle.ann_outside.specs.Causes.{AddsOne, Stays}
use Rattle.ann_outside.specs.Starts.{Starts}
use Rattle.journal_model.specs.declared.answer.Answer.{Answer}
use Rattle.journal_model.specs.declared.answer.Answer.TheVariants.{NotPrepared, Ended as EndedAnswer, Unsent as UnsentAnswer}
use Rattle.journal_model.specs.declared.entry.What.{What}
use Rattle.journal_model.specs.declared.entry.What.TheVariants.{Claim, Start, NoStart, Lead, Ask, Put, Sent, Mute, Got, End, Verdict as Settled, Lost, Answer as Answered, Note, Again}
use Rattle.journal_model.specs.declared.entry.Entry.{Entry}
use Rattle.journal_model.specs.declared.opening.Opening.{Opening}
use Rattle.journal_model.specs.Journal.{is_ended}
use Rattle.journal_model.specs.Legality.{count, is_busy, is_start, least_free, turn_of_task}
use Rattle.journal_model.specs.Shares.{are_by}
use Rattle.journal_model.specs.Halves.{EarValue, MouthValue}
use Rattle.host_core.specs.declared.event.Reply.{Reply}
use Rattle.host_core.specs.declared.event.Reply.TheVariants.{Task as TaskReply}
use Rattle.host_core.specs.Steps.{are_all_claimed}
use Rattle.child_link.specs.Alone.{Closes}
use Rattle.crew_work.specs.Laws.Tasks.{IsThrough, turns_by}
use Rattle.child_life.specs.declared.start.greeting.Came.{Came}
use Rattle.child_life.specs.declared.start.greeting.Came.TheVariants.{Ready, Refused, Ended, Unsent}
use Rattle.task_model.specs.declared.setup.Setup.{Setup}
use Rattle.task_model.specs.TaskRuns.{failed_start, refused_at}
use Rattle.crew_work.specs.Laws.JournalRuns.{JournalRun}
use Rattle.crew_work.specs.Worker.Works.{CanWork, TaskDone, WorkedAlone, CausedInTurn, all_calls, turns_of}
use Rattle.task_model.specs.declared.turn.TaskTurn.{TaskTurn}
use Rattle.child_link.specs.Wires.{WireValue}
use Rattle.child_life.specs.End.Wires.{IsHeld, IsOfStart, came}
use Rattle.child_life.specs.End.Programs.{AddsAll, RoseBy, is_failed_start, told}
use Rattle.run_starts.specs.Starting.{children, is_ready_untagged, is_spent}
use Rattle.run_starts.specs.Rounds.{AllLostWell, AllStandNext, EndsClosed, NoneUntaken, ends_for_memory, is_of_run, start_untaken}

-- an entry of the main thread's own
abbrev pub main_entry : What → Entry
main_entry w = record { by = 0; what = w }

-- ---- a task that is claimed without a child

-- the task that the core claimed, and the turn of it that begins
abbrev pub task_in : Reply → Option TaskTurn
task_in (TaskReply task turn) = Some (record { task = task; turn = turn })
task_in reply = None

-- the least free task was claimed so; or nothing was done, and all are claimed
abbrev pub ClaimsZero : Opening → List Entry → List Entry → Option TaskTurn → Type 0
ClaimsZero o old new (Some u) = (least_free o old ≡ Some u.task) × (u.turn ≡ turn_of_task old u.task) × (new ≡ old ++ main_entry (Claim u.task 0) ∷ [])
ClaimsZero o old new None = (new ≡ old) × (are_all_claimed o old ≡ true)

-- one was claimed so and answered at once, each as is said of it; or nothing was done, and all are claimed
abbrev pub AnswersOne : Opening → List Entry → List Entry → (ℕ → Answer) → Bool → Type 0
AnswersOne o old new answer true = (t : ℕ) × (least_free o old ≡ Some t) × (new ≡ old ++ main_entry (Claim t 0) ∷ main_entry (Answered t (answer t)) ∷ [])
AnswersOne o old new answer false = (new ≡ old) × (are_all_claimed o old ≡ true)

-- there is such an entry, which ends a child for lack of memory
abbrev pub is_memory_end : Option Entry → Bool
is_memory_end None = false
is_memory_end (Some e) = ends_for_memory e.what

-- these tasks, one after the other
abbrev pub answered_so : (ℕ → Answer) → List ℕ → List Entry
answered_so answer [] = []
answered_so answer (t ∷ ts) = main_entry (Claim t 0) ∷ main_entry (Answered t (answer t)) ∷ answered_so answer ts

-- all that were left were claimed and answered so
pub record AnswersLeft (o : Opening) (old new : List Entry) (answer : ℕ → Answer) : Type 0 where
  pub tasks : List ℕ
  pub is : new ≡ old ++ answered_so answer tasks
  pub all : are_all_claimed o new ≡ true

-- ---- over a child

-- one task was answered so, where one was left, and the child was closed
abbrev pub TurnsAway : Opening → ℕ → List Entry → List Entry → Answer → Type 0
TurnsAway o c old new answer = (mid : List Entry) × ((b : Bool) × AnswersOne o old mid (λ t. answer) b) × Closes 0 c mid new

-- tasks were done over the child until it was gone or all were claimed, and it was closed
pub record HasServed (o : Opening) (setup : Setup) (c : ℕ) (old new : List Entry) (desk desk' : DeskTold) : Type 0 where
  pub mid : List Entry
  pub worked : WorkedAlone o setup 0 c old mid desk desk'
  pub can : CanWork o c mid
  pub through : IsThrough o mid c
  pub closes : Closes 0 c mid new

-- ---- what the child came to

-- whether it is ready, and then whether it takes tags
abbrev pub tagged_of : Came → Option Bool
tagged_of (Ready tagged) = Some tagged
tagged_of came = None

-- the answer of a task that finds the child so: none where it is ready
abbrev pub came_answer : Came → Option Answer
came_answer (Ready tagged) = None
came_answer (Refused verdict) = option_map NotPrepared (refused_at verdict)
came_answer (Ended why) = Some (EndedAnswer why)
came_answer Unsent = Some UnsentAnswer

-- ---- tasks that are done

-- It was claimed for a child, run over it by the main thread, and closed so.
pub record ChildRun (o : Opening) (setup : Setup) (journal : List Entry) (r : TaskDone) : Type 0 where
  pub run : JournalRun o setup r.calls 0 r.task r.turn journal
  pub child : 0 < run.run.child
  pub answer : run.run.answer ≡ r.answer

-- It was claimed without a child after a start that gave none that is ready, and answered at once by what came of that start.
pub record FailedRun (journal : List Entry) (t : ℕ) (answer : Answer) : Type 0 where
  pub past : List Entry
  pub rest : List Entry
  pub is : journal ≡ past ++ main_entry (Claim t 0) ∷ main_entry (Answered t answer) ∷ rest
  pub failed : failed_start past (start_untaken past) ≡ Some answer

-- over a child, or without one and without a call of its desk
abbrev pub HasRun : Opening → Setup → List Entry → TaskDone → Type 0
HasRun o setup journal r = ChildRun o setup journal r ⊎ (FailedRun journal r.task r.answer × (r.calls ≡ []))

-- each of them has its run
abbrev pub AllHaveRun : Opening → Setup → List Entry → List TaskDone → Type 0
AllHaveRun o setup journal [] = Unit {0}
AllHaveRun o setup journal (r ∷ rs) = HasRun o setup journal r × AllHaveRun o setup journal rs

-- The turns of tasks that the main thread claims among the entries, which stand after past, are run in the journal, one after the other,
-- and the desk made the calls of these runs.
pub record TasksDone (o : Opening) (setup : Setup) (journal past entries : List Entry) (desk desk' : DeskTold) : Type 0 where
  pub done : List TaskDone
  pub claimed : turns_of done ≡ turns_by 0 past entries
  pub ran : AllHaveRun o setup journal done
  pub log_is : Gained desk.log desk'.log (all_calls done)
  pub caused : CausedInTurn desk.counts done desk'.counts

-- ---- one start

-- what may stand after the start of c: no other start, and nothing of another child
abbrev pub in_stint : ℕ → What → Bool
in_stint c (Claim task child) = true
in_stint c (Start child slot offer) = false
in_stint c (NoStart slot) = false
in_stint c (Lead child job line) = child == c
in_stint c (Ask child job task line) = child == c
in_stint c (Put child job line) = child == c
in_stint c (Sent child) = child == c
in_stint c (Mute child) = child == c
in_stint c (Got child line) = child == c
in_stint c (End child why) = child == c
in_stint c (Settled child job verdict) = child == c
in_stint c (Lost child task) = child == c
in_stint c (Answered task answer) = true
in_stint c (Note task chunk count) = true
in_stint c (Again task answer) = true

-- the number of the next child
abbrev pub next_child : List Entry → ℕ
next_child past = count is_start past + 1

-- a start in slot 0, which gave the next child or none
abbrev pub IsStart : List Entry → Bool → What → Type 0
IsStart past offer first = (first ≡ Start (next_child past) 0 offer) ⊎ (first ≡ NoStart 0)

-- Where a task is left, the journal has one start more, and what followed it, whoever made that, in turn. No task is busy after it; its
-- child has ended; it is spent, or all tasks are claimed. `next` says whether ASYNC is offered from then on.
pub record Stretch (o : Opening) (offer next : Bool) (first : What) (old new : List Entry) : Type 0 where
  pub left : are_all_claimed o old ≡ false
  pub later : List Entry
  pub is : new ≡ old ++ main_entry first ∷ later
  pub start : IsStart old offer first
  pub turn : AllStandNext o (old ++ main_entry first ∷ []) later
  pub within : list_all (λ e. in_stint (next_child old) e.what) later ≡ true
  pub asks : list_all (λ e. is_of_run e.what) later ≡ true
  pub lost : AllLostWell (old ++ main_entry first ∷ []) later
  pub rest : (t : ℕ) → is_busy new t ≡ false
  pub ended : list_all (is_ended new) (children (main_entry first ∷ [])) ≡ true
  pub spent : (list_all (is_spent new) (children (main_entry first ∷ [])) ≡ true) ⊎ (are_all_claimed o new ≡ true)
  pub untaken : NoneUntaken new
  pub offers : next ≡ (offer && not (list_any (is_ready_untagged new) (children (main_entry first ∷ []))))

-- the same, where the main thread made it, did the tasks and closed the child
pub record Stint (o : Opening) (setup : Setup) (offer next : Bool) (first : What) (old new : List Entry) (desk desk' : DeskTold) : Type 0 where
  pub stretch : Stretch o offer next first old new
  pub main : are_by 0 stretch.later ≡ true
  pub done : TasksDone o setup new (old ++ main_entry first ∷ []) stretch.later desk desk'
  pub last : are_all_claimed o new ≡ true → EndsClosed new

-- ---- wires and programs

-- the halves that a wire tells of
abbrev pub ear_of : WireValue → EarValue
ear_of wire = record { child = wire.child; given = wire.given; left = wire.left; faults = wire.read_faults; number = wire.outlet_number; held = wire.rest }

abbrev pub mouth_of : WireValue → MouthValue
mouth_of wire = record { child = wire.child; taken = wire.taken; faults = wire.write_faults; number = wire.inlet_number }

-- its halves are wired to the journal, where the main thread served the child alone its requests were written before they were
-- answered; the halves are those of the nth start, and are closed
pub record IsLinked (starts : Option Starts) (journal : List Entry) (n : ℕ) (wire : WireValue) : Type 0 where
  pub linked : IsHeld journal (ear_of wire) (mouth_of wire)
  pub inlet : IsOfStart starts n wire.inlet_number
  pub outlet : IsOfStart starts n wire.outlet_number
  pub closed : (wire.is_inlet_open ≡ false) × (wire.is_outlet_open ≡ false)

-- such a wire for each child that a start gave, in order, where n starts stand before these
abbrev pub AreLinked : Option Starts → List Entry → ℕ → List (Option ℕ) → List WireValue → Type 0
AreLinked starts journal n [] [] = Unit {0}
AreLinked starts journal n (None ∷ cs) wires = AreLinked starts journal (n + 1) cs wires
AreLinked starts journal n (Some c ∷ cs) (wire ∷ wires) = (wire.child ≡ c) × IsLinked starts journal (n + 1) wire × AreLinked starts journal (n + 1) cs wires
AreLinked starts journal n _ _ = ⊥

-- the programs were asked for this one once more, and the wires are those of its child, or none; a fault was counted if it failed
pub record StartsOne (program : List ℕ) (journal : List Entry) (first : What) (before after : ProgramsTold) (wires wires' : List WireValue) : Type 0 where
  pub adds : AddsAll before.starts after.starts (told program (main_entry first ∷ []))
  pub new : List WireValue
  pub laid : wires' ≡ wires ++ new
  pub linked : AreLinked before.starts journal 0 (came (main_entry first ∷ [])) new
  pub faults : RoseBy (count is_failed_start (main_entry first ∷ [])) before.faults after.faults
  pub later : before.faults ≤ after.faults

-- the programs were not asked, or once for nothing
abbrev pub MayHaveAsked : List ℕ → ProgramsTold → ProgramsTold → Type 0
MayHaveAsked program before after =
    (Stays before.starts after.starts ⊎ ((b : Bool) × AddsOne before.starts after.starts (program, b))) × (before.faults ≤ after.faults)

-- ---- between two starts

-- the children have numbers up to n
abbrev pub AreUpTo : ℕ → List (Option ℕ) → Type 0
AreUpTo n [] = Unit {0}
AreUpTo n (None ∷ cs) = AreUpTo n cs
AreUpTo n (Some c ∷ cs) = (c ≤ n) × AreUpTo n cs

-- the programs were asked for what the journal says, each of its children has its wire, and a fault was counted for each that failed
pub record Kept (program : List ℕ) (journal : List Entry) (before after : ProgramsTold) (wires : List WireValue) : Type 0 where
  pub linked : AreLinked before.starts journal 0 (came journal) wires
  pub started : AddsAll before.starts after.starts (told program journal)
  pub faults : RoseBy (count is_failed_start journal) before.faults after.faults
  pub later : before.faults ≤ after.faults

-- the same, where they may have been asked once more for lack of memory
abbrev pub KeptOr : List ℕ → List Entry → ProgramsTold → ProgramsTold → List WireValue → Result (Unit {0}) NoMemory → Type 0
KeptOr program journal before after wires result =
    MatchResult result
    (λ _. Kept program journal before after wires)
    (λ _. (mid : ProgramsTold) × Kept program journal before mid wires × MayHaveAsked program mid after)

-- all starts are made, or all tasks claimed
abbrev pub IsOver : Opening → ℕ → ℕ → List Entry → Type 0
IsOver o limit made journal = (made ≡ limit) ⊎ (are_all_claimed o journal ≡ true)
