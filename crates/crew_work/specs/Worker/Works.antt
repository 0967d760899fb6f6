-- How a worker stands between two tasks and in one, and what it leaves. Others may step the core too, or nobody else does.
use Rattle.std.specs.Prelude.{ℕ, ◌≡◌, ◌<◌, ◌==◌, ◌&&◌, not, Bool, true, false, List, [], ◌∷◌, ◌++◌, map, Some, Ok, Result}
use Rattle.ann_key.specs.declared.bytes.NoMemory.{NoMemory}
use Rattle.ann_outside.specs.Told.{DeskTold}
use Rattle.ann_outside.specs.Calls.{Gained}
use Rattle.ann_outside.specs.DeskCauses.{Counts}
use Rattle.ann_outside.specs.declared.file_desk.Call.{Call}
use Rattle.task_text.specs.declared.task.Task.{Task}
use Rattle.task_text.specs.TaskLines.{IsTask}
use Rattle.journal_model.specs.declared.answer.Answer.{Answer}
use Rattle.journal_model.specs.declared.entry.What.{What}
use Rattle.journal_model.specs.declared.entry.What.TheVariants.{Claim, Lead, Ask, Lost, Answer as Answered, Note, Again}
use Rattle.journal_model.specs.declared.entry.Entry.{Entry}
use Rattle.journal_model.specs.declared.opening.Opening.{Opening}
use Rattle.journal_model.specs.Journal.{is_started, open_jobs}
use Rattle.journal_model.specs.Legality.{Legal, is_busy, is_claimed_by, is_prepared, is_run_again, least_free, turn_of_task}
use Rattle.journal_model.specs.Room.{claims_left}
use Rattle.journal_model.specs.Shares.{Moved, by_link, is_of_child}
use Rattle.host_core.specs.declared.event.Reply.{Reply}
use Rattle.host_core.specs.declared.event.Reply.TheVariants.{Task as TaskReply, Wait as WaitReply}
use Rattle.host_core.specs.Steps.{are_all_claimed, is_gone}
use Rattle.child_link.specs.Doors.{Appended, DoorView, Passed, Waits}
use Rattle.child_link.specs.declared.ear.Turn.{Turn}
use Rattle.child_link.specs.declared.ear.Turn.TheVariants.{Again as GoesAgain, Rest, Over as Ended}
use Rattle.crew_work.specs.Laws.JournalRuns.{JournalRun}
use Rattle.crew_work.specs.Laws.Tasks.{HoldsNoMore, IsThrough, turns_by}
use Rattle.task_model.specs.declared.setup.Setup.{Setup}
use Rattle.task_model.specs.declared.turn.TaskTurn.{TaskTurn}
use Rattle.task_model.specs.Askings.{askings, closing}
use Rattle.task_model.specs.Ran.{HasTaskCauses, Ran}
use Rattle.crew_work.specs.Worker.AtTasks.{AtTask, notings}
use Rattle.crew_work.specs.Worker.KnownLayouts.{IsBook, known_layouts}
use Rattle.crew_work.specs.Worker.Servings.{by_jobs, by_server}
use Rattle.crew_work.specs.declared.worker.claims.Claimed.{Claimed}
use Rattle.crew_work.specs.declared.worker.claims.Claimed.TheVariants.{Task as TaskClaimed, Wait, Over}

-- ---- between two tasks

-- the child was got ready, in a legal journal, in a run that began with a book
pub record CanServe (o : Opening) (c : ℕ) (seen : List Entry) : Type 0 where
  pub legal : Legal o seen
  pub number : 0 < c
  pub started : is_started seen c ≡ true
  pub prepared : is_prepared seen c ≡ true
  pub book : IsBook o.notes

-- the child has no open job, and no task is busy
pub record NoneAtWork (c : ℕ) (seen : List Entry) : Type 0 where
  pub idle : open_jobs seen c ≡ []
  pub rest : (t : ℕ) → is_busy seen t ≡ false

-- both
pub record CanWork (o : Opening) (c : ℕ) (seen : List Entry) : Type 0 where
  pub serves : CanServe o c seen
  pub rests : NoneAtWork c seen

-- a task may be claimed for the child: it can serve, and where nobody else steps the core it is at rest
pub record CanClaim {H : Type 0} (door : DoorView H) (c : ℕ) : Type 0 where
  pub serves : CanServe door.opening c door.seen
  pub rests : door.alone ≡ true → NoneAtWork c door.seen

-- each task is one that some line spells
abbrev pub AreTasks : List Task → Type 0
AreTasks [] = Unit {0}
AreTasks (task ∷ more) = IsTask task × AreTasks more

-- ---- a claim

-- what a reply to a claim says
abbrev pub claimed_of : Reply → Claimed
claimed_of (TaskReply task turn) = TaskClaimed (record { task = task; turn = turn })
claimed_of WaitReply = Wait
claimed_of reply = Over

-- This turn of the least free task was just claimed for the child, by a number that holds it now. Where nobody else steps the core, the
-- child was at rest.
pub record TurnBegun (o : Opening) (number : ℕ) (alone : Bool) (c : ℕ) (u : TaskTurn) (seen : List Entry) : Type 0 where
  pub past : List Entry
  pub is : seen ≡ past ++ record { by = number; what = Claim u.task c } ∷ []
  pub least : least_free o past ≡ Some u.task
  pub turn : turn_of_task past u.task ≡ u.turn
  pub at : AtTask o number u.task seen
  pub can : CanServe o c seen
  pub rests : alone ≡ true → NoneAtWork c past

-- the same of a door
abbrev pub BegunAt : {H : Type 0} → DoorView H → ℕ → TaskTurn → Type 0
BegunAt door c u = TurnBegun door.opening door.number door.alone c u door.seen

-- a worker of c may find more to do: not all tasks are claimed, and c is there
abbrev pub MayHaveMore : Opening → List Entry → ℕ → Type 0
MayHaveMore o past c = (are_all_claimed o past ≡ false) × (is_gone past c ≡ false)

-- others hold tasks that keep the rest from being claimed; where nobody else steps the core there is never such a wait
pub record IsHeldUp (o : Opening) (number : ℕ) (alone : Bool) (c : ℕ) (journal : List Entry) : Type 0 where
  pub shared : alone ≡ false
  pub more : MayHaveMore o journal c
  pub waits : Waits o number journal

-- After entries of others a task was claimed; or nothing was done, and there is nothing to do for now, or nothing more.
abbrev pub HasClaimed : Opening → ℕ → Bool → List Entry → List Entry → ℕ → Claimed → Type 0
HasClaimed o number alone old new c (TaskClaimed u) = (b : TurnBegun o number alone c u new) × Passed number alone old b.past
HasClaimed o number alone old new c Wait = Passed number alone old new × IsHeldUp o number alone c new
HasClaimed o number alone old new c Over = Passed number alone old new × IsThrough o new c

-- What a turn came to: a task was claimed, so that fewer claims are left; or there may be more once others go on; or there is nothing more.
abbrev pub GoesOn : Opening → ℕ → Bool → List Entry → List Entry → ℕ → Turn → Type 0
GoesOn o number alone old new c GoesAgain = claims_left o new < claims_left o old
GoesOn o number alone old new c Rest = IsHeldUp o number alone c new
GoesOn o number alone old new c Ended = IsThrough o new c

-- ---- what a worker makes

-- Claims for c, requests of tasks with the names before them, lost ones, notes, answers and Agains; and what c's link does, where the
-- worker has it for itself.
abbrev pub by_worker : Bool → ℕ → What → Bool
by_worker owns c (Claim task child) = child == c
by_worker owns c (Lead child job line) = child == c
by_worker owns c (Ask child job task line) = child == c && not (task == 0)
by_worker owns c (Lost child task) = child == c && not (task == 0)
by_worker owns c (Note task chunk count) = true
by_worker owns c (Answered task answer) = true
by_worker owns c (Again task answer) = true
by_worker owns c w = owns && by_link c w

-- what it makes for task t
abbrev pub by_task : Bool → ℕ → ℕ → What → Bool
by_task true c t w = by_server c t w
by_task false c t w = by_jobs c t w

-- for task t it made nothing else; where others left the child alone, what held before holds after
abbrev pub MovedFor : {H : Type 0} → Bool → ℕ → ℕ → DoorView H → DoorView H → (List Entry → Type 0) → (List Entry → Type 0) → Type 0
MovedFor owns c t x y Before After = Moved x.number x.alone (by_task owns c t) (is_of_child c) x.seen y.seen (Before x.seen) (After y.seen)

-- the task was run so through the door, in the layouts that the core tells when it begins
abbrev pub RanAt : {H : Type 0} → Task → TaskTurn → Setup → DoorView H → DoorView H → DeskTold → DeskTold → Result Answer NoMemory → Type 0
RanAt task u setup x y desk desk' result =
    Ran task u setup (known_layouts x.opening x.seen u.task) (askings x.seen u.task) (askings y.seen u.task) (notings x.seen u.task) (notings y.seen u.task) desk.log desk'.log result

-- The number made what a worker of c makes and nothing else, and claimed these turns of tasks, in order. Where others left the child
-- alone, what held before holds after.
pub record Did (owns : Bool) (number : ℕ) (alone : Bool) (c : ℕ) (old new : List Entry) (Before After : Type 0) (turns : List (ℕ × ℕ)) : Type 0 where
  pub moved : Moved number alone (by_worker owns c) (is_of_child c) old new Before After
  pub claimed : turns_by number old moved.more ≡ turns

-- ---- what was done

-- a run of a task: which turn of it, the calls of its desk, its answer, and the desk's counts then
pub record TaskDone : Type 0 where
  pub task : ℕ
  pub turn : ℕ
  pub calls : List Call
  pub answer : Answer
  pub counts : Counts

-- the turns of tasks that were run, in order
abbrev pub turns_of : List TaskDone → List (ℕ × ℕ)
turns_of done = map (λ (r : TaskDone). (r.task, r.turn)) done

-- the journal has a run of this turn of the task by this number, claimed for c, with these calls and this answer
pub record RanFor (o : Opening) (setup : Setup) (calls : List Call) (number c : ℕ) (u : TaskTurn) (answer : Answer) (journal : List Entry) : Type 0 where
  pub run : JournalRun o setup calls number u.task u.turn journal
  pub child : run.run.child ≡ c
  pub answer_is : run.run.answer ≡ answer

-- the journal has such a run of each of the tasks
abbrev pub AllRan : Opening → Setup → ℕ → ℕ → List Entry → List TaskDone → Type 0
AllRan o setup number c journal [] = Unit {0}
AllRan o setup number c journal (r ∷ rs) = RanFor o setup r.calls number c (record { task = r.task; turn = r.turn }) r.answer journal × AllRan o setup number c journal rs

-- the calls of the tasks, one task after the other
abbrev pub all_calls : List TaskDone → List Call
all_calls [] = []
all_calls (r ∷ rs) = r.calls ++ all_calls rs

-- from one task to the next the desk's counts have their causes
abbrev pub CausedInTurn : Counts → List TaskDone → Counts → Type 0
CausedInTurn old [] new = new ≡ old
CausedInTurn old (r ∷ rs) new = HasTaskCauses old r.counts (Ok r.answer) × CausedInTurn r.counts rs new

-- the entry closes a run
abbrev pub is_closing : What → Bool
is_closing (Answered task answer) = true
is_closing (Again task answer) = true
is_closing w = false

-- the last of the entries, where there are any, closes a run
abbrev pub ends_closed : List Entry → Bool
ends_closed [] = true
ends_closed (e ∷ []) = is_closing e.what
ends_closed (e ∷ f ∷ more) = ends_closed (f ∷ more)

-- What a worker of c left, by this number: it claimed these turns of tasks and no others, ran each, one after the other, and holds no
-- task more; and its desk made the calls of these runs, in their order, and no others. Where nobody else steps the core, the last entry
-- closes a run.
pub record Worked (o : Opening) (setup : Setup) (owns : Bool) (number : ℕ) (alone : Bool) (c : ℕ) (old new : List Entry) (Before After : Type 0) (desk desk' : DeskTold) : Type 0 where
  pub done : List TaskDone
  pub did : Did owns number alone c old new Before After (turns_of done)
  pub rests : HoldsNoMore number old new
  pub ran : AllRan o setup number c new done
  pub log_is : Gained desk.log desk'.log (all_calls done)
  pub caused : CausedInTurn desk.counts done desk'.counts
  pub last : alone ≡ true → ends_closed did.moved.more ≡ true

-- the same through a door
abbrev pub WorkedAt : {H : Type 0} → Setup → Bool → ℕ → DoorView H → DoorView H → (List Entry → Type 0) → (List Entry → Type 0) → DeskTold → DeskTold → Type 0
WorkedAt setup owns c x y Before After desk desk' = Worked x.opening setup owns x.number x.alone c x.seen y.seen (Before x.seen) (After y.seen) desk desk'

-- the same of a worker that nobody else steps the core beside, and that has its child for itself
abbrev pub WorkedAlone : Opening → Setup → ℕ → ℕ → List Entry → List Entry → DeskTold → DeskTold → Type 0
WorkedAlone o setup number c old new desk desk' = Worked o setup true number true c old new (Unit {0}) (Unit {0}) desk desk'

-- ---- one task

-- After entries of others the answer of the task was given, or it is to be run again in its place.
pub record Given (o : Opening) (number : ℕ) (alone : Bool) (old new : List Entry) (t : ℕ) (answer : Answer) : Type 0 where
  pub again : Bool
  pub is : Appended o number alone old new (closing again t answer) (AtTask o number t)
  pub where_may : is_run_again o is.past t answer ≡ again

-- the last of the entries after old closes a run
pub record EndsClosing (old new : List Entry) : Type 0 where
  pub front : List Entry
  pub last : Entry
  pub is : new ≡ (old ++ front) ++ last ∷ []
  pub closes : is_closing last.what ≡ true

-- one turn of a task: it was asked and noted for, and answered as it ran, or is to be run again
pub record TurnDone (o : Opening) (setup : Setup) (owns : Bool) (number : ℕ) (alone : Bool) (c : ℕ) (u : TaskTurn) (old new : List Entry) (Before After : Type 0) (desk desk' : DeskTold) : Type 0 where
  pub answer : Answer
  pub calls : List Call
  pub did : Did owns number alone c old new Before After []
  pub left : is_claimed_by new number u.task ≡ false
  pub run : RanFor o setup calls number c u answer new
  pub log_is : Gained desk.log desk'.log calls
  pub caused : HasTaskCauses desk.counts desk'.counts (Ok answer)
  pub last : EndsClosing old new

-- the same through a door
abbrev pub DidTurn : {H : Type 0} → Setup → Bool → ℕ → TaskTurn → DoorView H → DoorView H → (List Entry → Type 0) → (List Entry → Type 0) → DeskTold → DeskTold → Type 0
DidTurn setup owns c u x y Before After desk desk' = TurnDone x.opening setup owns x.number x.alone c u x.seen y.seen (Before x.seen) (After y.seen) desk desk'
