-- What the worker of a child does next, as the journal stands.
use Rattle.std.specs.Prelude.{ℕ, ◌==◌, ◌-◌, ◌||◌, not, true, false, if◌then◌else◌, List, Option, Some, None, option_map, is_some, fold}
use Rattle.task_text.specs.declared.task.Task.{Task}
use Rattle.task_text.specs.declared.task.Work.{Work}
use Rattle.task_text.specs.declared.task.Work.TheVariants.{Store, Get, Check, Drop, XStore, XGet, XCheck, XDrop, XRename}
use Rattle.host_talk.specs.declared.request.request.Request.{Request}
use Rattle.host_talk.specs.declared.request.request.Request.TheVariants.{Extensions, Prepare, Transfer, CheckPresent, Remove}
use Rattle.journal_model.specs.declared.answer.Answer.{Answer}
use Rattle.journal_model.specs.declared.answer.Answer.TheVariants as A
use Rattle.journal_model.specs.declared.verdict.Verdict.{Verdict}
use Rattle.journal_model.specs.declared.verdict.Verdict.TheVariants as V
use Rattle.journal_model.specs.declared.entry.What.{What}
use Rattle.journal_model.specs.declared.entry.What.TheVariants.{Claim, Ask}
use Rattle.journal_model.specs.declared.entry.Entry.{Entry}
use Rattle.journal_model.specs.declared.opening.Opening.{Opening}
use Rattle.journal_model.specs.Journal.{is_started, is_ended, has_spoken, open_jobs, verdict_of}
use Rattle.journal_model.specs.Legality.{count, is_start, is_empty, is_claimed_by, least_free, task_of}
use Rattle.host_core.specs.declared.event.Event.{Event}
use Rattle.host_core.specs.declared.event.Event.TheVariants.{Claim as ClaimEvent, Start as StartEvent, Ask as AskEvent, Answer as AnswerEvent}
use Rattle.rehearse_command.specs.declared.world.worker.Turn.{Turn}
use Rattle.rehearse_command.specs.declared.world.worker.Turn.TheVariants.{Claimed, Asked}

-- ---- one task

-- what is asked for it. The worker does no tasks of exports
abbrev pub request_for : Work → List ℕ → List ℕ → Option Request
request_for Store key file = Some (Transfer true key file)
request_for Get key file = Some (Transfer false key file)
request_for Check key file = Some (CheckPresent key)
request_for Drop key file = Some (Remove key)
request_for XStore key file = None
request_for XGet key file = None
request_for XCheck key file = None
request_for XDrop key file = None
request_for XRename key file = None

-- its answer where its request is done
abbrev pub success_of : Work → Answer
success_of Store = A.Stored
success_of Get = A.Got
success_of Check = A.Present
success_of Drop = A.Dropped
success_of XStore = A.Stored
success_of XGet = A.Got
success_of XCheck = A.Present
success_of XDrop = A.Dropped
success_of XRename = A.Renamed

-- its answer by how its request was settled
abbrev pub answer_by : Answer → Verdict → Answer
answer_by success (V.Done at) = success
answer_by success (V.Failed at) = A.Failed at
answer_by success (V.Absent at) = A.Absent
answer_by success (V.Unknown at) = A.Unknown at
answer_by success (V.Unsupported at) = A.Unsupported
answer_by success (V.Ended why) = A.Ended why
answer_by success V.Unsent = A.Unsent

-- ---- what it did last

-- the entry claims a task for the child, or asks a job of it
abbrev pub turn_in : ℕ → What → Option Turn
turn_in c (Claim task child) = if child == c then Some (Claimed task) else None
turn_in c (Ask child job task line) = if child == c then Some (Asked job task) else None
turn_in c w = None

abbrev pub later : Option Turn → Option Turn → Option Turn
later None before = before
later (Some turn) before = Some turn

abbrev pub turn_after : ℕ → Option Turn → Entry → Option Turn
turn_after c before e = later (turn_in c e.what) before

-- the last of these
abbrev pub last_turn : List Entry → ℕ → Option Turn
last_turn past c = fold (turn_after c) None past

-- ---- what it does next

-- children are started in the order of their numbers, each in a slot of its own
abbrev pub start_of : List Entry → ℕ → Option Event
start_of past c = if count is_start past == c - 1 then Some (StartEvent (c - 1) false) else None

-- the child said its version
abbrev pub greeting_of : List Entry → ℕ → Option Event
greeting_of past c = if has_spoken past c then Some (AskEvent c 0 (Extensions false)) else None

-- a task is free
abbrev pub claim_of : Opening → List Entry → ℕ → Option Event
claim_of o past c = if is_some (least_free o past) then Some (ClaimEvent c) else None

abbrev pub asking_for : ℕ → ℕ → Option Task → Option Event
asking_for c task None = None
asking_for c task (Some t) = option_map (λ request. AskEvent c task request) (request_for t.work t.key t.file)

abbrev pub answer_for : ℕ → Option Task → Option Verdict → Option Event
answer_for task (Some t) (Some verdict) = Some (AnswerEvent task (answer_by (success_of t.work) verdict))
answer_for task (Some t) None = None
answer_for task None verdict = None

-- After the first job the child is to get ready, and after a job of a task that the worker holds it is answered.
abbrev pub behind_job : Opening → List Entry → ℕ → ℕ → ℕ → Option Event
behind_job o past c job task =
    if job == 0 then Some (AskEvent c 0 Prepare)
    else if is_claimed_by past 0 task then answer_for task (task_of o task) (verdict_of past c job)
    else claim_of o past c

abbrev pub behind_turn : Opening → List Entry → ℕ → Option Turn → Option Event
behind_turn o past c None = greeting_of past c
behind_turn o past c (Some (Claimed task)) = asking_for c task (task_of o task)
behind_turn o past c (Some (Asked job task)) = behind_job o past c job task

-- Its next event, where it can do anything: not while a job of the child is open, nor where no task is free.
unfoldable pub next_of : Opening → List Entry → ℕ → Option Event
next_of o past c =
    if not (is_started past c) then start_of past c
    else if is_ended past c || not (is_empty (open_jobs past c)) then None
    else behind_turn o past c (last_turn past c)
