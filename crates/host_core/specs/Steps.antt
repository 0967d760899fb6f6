-- What one event appends to the journal, and what is answered.
use Rattle.std.specs.Prelude.{ℕ, ◌⊎◌, ◌≡◌, ◌+◌, ◌==◌, ◌&&◌, ◌||◌, not, nat_lt, nat_le, Bool, true, false, if◌then◌else◌, List, [], ◌∷◌, ◌++◌, length, Option, Some, None, filter}
use Rattle.std.specs.List.{list_any, list_all}
use Rattle.journal_model.specs.declared.answer.Answer.{Answer}
use Rattle.journal_model.specs.declared.verdict.Why.{Why}
use Rattle.journal_model.specs.declared.verdict.Why.TheVariants.{Full}
use Rattle.journal_model.specs.declared.verdict.Verdict.{Verdict}
use Rattle.task_text.specs.ChunkLog.Current.{layouts_of}
use Rattle.task_text.specs.declared.task.Task.{Task}
use Rattle.annex_model.specs.Lines.{has_newline}
use Rattle.annex_model.specs.Messages.{HostMessage, Export, host_line, is_askable}
use Rattle.journal_model.specs.declared.entry.What.{What}
use Rattle.journal_model.specs.declared.entry.What.TheVariants.{Claim, Start, NoStart, Lead, Ask, Sent, Mute, Got, End, Lost, Answer as Answered, Note as Noted, Again}
use Rattle.journal_model.specs.declared.entry.Entry.{Entry}
use Rattle.journal_model.specs.declared.opening.Opening.{Opening}
use Rattle.journal_model.specs.Journal.{is_started, is_ended, is_mute, asked_jobs, open_jobs, has_spoken, verdict_of, unsent, is_full, on_wire, why_of}
use Rattle.journal_model.specs.Room.{room_for}
use Rattle.journal_model.specs.Due.{due_after, made_by}
use Rattle.journal_model.specs.Legality.{IsGroup, is_empty, is_text, count, is_start, is_claimed, numbers_of, least_free, is_prepared, is_in_turn, may_ask, may_stop, is_claimed_by, is_run_again, has_open_job, has_busy_task, task_of, may_note, turn_of_task}
use Rattle.host_talk.specs.Request.Requests.{message_of, name_of}
use Rattle.host_core.specs.Books.{notes_after}
use Rattle.host_core.specs.declared.event.Event.{Event}
use Rattle.host_core.specs.declared.event.Event.TheVariants.{Claim as ClaimEvent, Start as StartEvent, NoStart as NoStartEvent, Ask as AskEvent, Lookup, Look, Listen, Fetch, Got as GotEvent, Stop, Sent as SentEvent, Mute as MuteEvent, Answer as AnswerEvent, Note as NoteEvent, Layouts as LayoutsEvent, Shut}
use Rattle.host_core.specs.declared.event.Reply.{Reply}
use Rattle.host_core.specs.declared.event.Reply.TheVariants.{Task as TaskReply, Child, Job, Verdict as Settled, Layouts as Known, Line, Read, Wait, NoTask, Gone, Over, Done, Odd}

pub record Step : Type 0 where
  pub reply : Reply
  pub group : List Entry

-- ---- the kinds of steps

-- the event may not come
abbrev pub odd : Step
odd = record { reply = Odd; group = [] }

-- an answer that appends nothing
abbrev pub only : Reply → Step
only reply = record { reply = reply; group = [] }

-- the entry, and what it makes due
abbrev pub group_of : Opening → List Entry → ℕ → What → List Entry
group_of o past by w = record { by = by; what = w } ∷ due_after o past (record { by = by; what = w })

abbrev pub append : Opening → List Entry → ℕ → What → Reply → Step
append o past by w reply = record { reply = reply; group = group_of o past by w }

-- ---- conditions

abbrev pub is_gone : List Entry → ℕ → Bool
is_gone past child = is_ended past child || is_mute past child

-- why the child ended, which is nothing where it is but mute
abbrev pub gone : List Entry → ℕ → Reply
gone past child = Gone (why_of past child)

abbrev pub is_asked : List Entry → ℕ → ℕ → Bool
is_asked past child job = list_any (λ k. k == job) (asked_jobs past child)

abbrev pub next_job : List Entry → ℕ → ℕ
next_job past child = length (asked_jobs past child)

-- the request may be the next job of the child
abbrev pub may_request : List Entry → ℕ → ℕ → ℕ → HostMessage → Bool
may_request past by task child q =
    is_started past child && may_ask past by task child && is_in_turn past child (next_job past child) q && is_askable q

-- the name that is said before it, where one is, is text on one line
abbrev pub is_named_well : Option (List ℕ) → Bool
is_named_well None = true
is_named_well (Some name) = is_text name

abbrev pub is_full_why : Why → Bool
is_full_why Full = true
is_full_why _ = false

-- an event may end the child so. A full journal ends it only in place of its line
abbrev pub may_end : List Entry → ℕ → Why → Bool
may_end past child why = not (is_full_why why) && may_stop past child why

abbrev pub may_answer : List Entry → ℕ → ℕ → Bool
may_answer past by task = is_claimed_by past by task && not (has_open_job past task)

abbrev pub may_add_note : Opening → List Entry → ℕ → ℕ → ℕ → Bool
may_add_note o past by task chunk =
    is_claimed_by past by task && may_note (task_of o task) && not (has_open_job past task) && nat_lt 0 chunk

-- ---- memory

-- no room for the entry was kept before
abbrev pub needs_room : Entry → Bool
needs_room e = nat_lt 0 (room_for e.what)

-- the reply is a line, or layouts
abbrev pub needs_memory : Reply → Bool
needs_memory (Line line) = true
needs_memory (Known layouts) = true
needs_memory reply = false

-- A step takes memory only for an entry whose room was not kept before, or for a line or layouts that it answers.
abbrev pub is_free : Step → Bool
is_free s = not (list_any needs_room s.group) && not (needs_memory s.reply)

-- such are all steps by this event
abbrev pub takes_no_memory : Event → Bool
takes_no_memory (StartEvent slot offer) = false
takes_no_memory (NoStartEvent slot) = false
takes_no_memory (AskEvent child task request) = false
takes_no_memory (Fetch child) = false
takes_no_memory (GotEvent child line) = false
takes_no_memory (NoteEvent task chunk count) = false
takes_no_memory (LayoutsEvent task) = false
takes_no_memory _ = true

-- ---- steps that have more than one outcome

abbrev pub are_all_claimed : Opening → List Entry → Bool
are_all_claimed o past = list_all (is_claimed past) (numbers_of o)

-- the tasks that are left
abbrev pub unclaimed : Opening → List Entry → List ℕ
unclaimed o past = filter (λ t. not (is_claimed past t)) (numbers_of o)

-- the least free task is claimed for the child, for the turn that comes next
abbrev pub claim : Opening → List Entry → ℕ → ℕ → Option ℕ → Step
claim o past by child (Some task) = append o past by (Claim task child) (TaskReply task (turn_of_task past task))
claim o past by child None = only (if are_all_claimed o past then NoTask else Wait)

-- the task is run again in place of the answer, or answered so
abbrev pub closing : Opening → List Entry → ℕ → Answer → What
closing o past task answer = if is_run_again o past task answer then Again task answer else Answered task answer

-- the message as the next line to the child
abbrev pub next_on_wire : List Entry → ℕ → HostMessage → List ℕ
next_on_wire past child q = on_wire past child (next_job past child) (host_line q)

-- the request, and before it the name, where one is said
abbrev pub asking : List Entry → ℕ → ℕ → Option (List ℕ) → HostMessage → List What
asking past task child None q = Ask child (next_job past child) task (next_on_wire past child q) ∷ []
asking past task child (Some name) q =
    Lead child (next_job past child) (next_on_wire past child (Export name)) ∷ Ask child (next_job past child) task (next_on_wire past child q) ∷ []

-- the job is asked, or lost where the child is gone
abbrev pub ask : Opening → List Entry → ℕ → ℕ → ℕ → Option (List ℕ) → HostMessage → Step
ask o past by task child name q =
    if is_gone past child then append o past by (Lost child task) (gone past child)
    else record { reply = Job (next_job past child); group = made_by by (asking past task child name q) }

abbrev pub settled_so : Option Verdict → Reply
settled_so (Some verdict) = Settled verdict
settled_so None = Wait

-- a line of the child is due or may be: a job of it is open, or it has not said its version
abbrev pub is_awaited : List Entry → ℕ → Bool
is_awaited past child = not (is_empty (open_jobs past child)) || not (has_spoken past child)

-- nothing more will be asked of the child: each task is claimed, and none is busy with it
abbrev pub is_idle : Opening → List Entry → ℕ → Bool
is_idle o past child = are_all_claimed o past && not (has_busy_task past child)

-- what is to be done about the output of a child that hasn't ended
abbrev pub listening : Opening → List Entry → ℕ → Reply
listening o past child =
    if is_awaited past child then Read
    else if is_mute past child || is_idle o past child then Over
    else Wait

-- the same about its input, where no line is to be written
abbrev pub resting : Opening → List Entry → ℕ → Reply
resting o past child = if not (is_awaited past child) && is_idle o past child then Over else Wait

-- the first of the lines that are to be written, with its byte 10, or else this reply
abbrev pub next_line : Reply → List (Option ℕ × List ℕ) → Reply
next_line rest [] = rest
next_line rest (w ∷ ws) = Line (w.1 ++ 10 ∷ [])

-- the layouts in which the remote is known to have the task's key, by all notes so far
abbrev pub layouts_for : Opening → List Entry → Option Task → Step
layouts_for o past None = odd
layouts_for o past (Some task) = only (Known (layouts_of (notes_after o past) task.key o.identity.uuid))

-- ---- the table of events

abbrev pub step_of : Opening → List Entry → ℕ → Event → Step
step_of o past by (ClaimEvent child) =
    if child == 0 && by == 0 then claim o past by child (least_free o past)
    else if not (is_started past child && is_prepared past child) then odd
    else if is_gone past child then only (gone past child)
    else claim o past by child (least_free o past)
step_of o past by (StartEvent slot offer) =
    if by == 0 && nat_lt (count is_start past) 4294967295
    then append o past by (Start (count is_start past + 1) slot offer) (Child (count is_start past + 1))
    else odd
step_of o past by (NoStartEvent slot) = if by == 0 then append o past by (NoStart slot) Done else odd
step_of o past by (AskEvent child task request) =
    if may_request past by task child (message_of request) && is_named_well (name_of request)
    then ask o past by task child (name_of request) (message_of request) else odd
step_of o past by (Lookup child job) = if is_asked past child job then only (settled_so (verdict_of past child job)) else odd
step_of o past by (Look child) =
    if not (is_started past child) then odd
    else if is_gone past child then only (gone past child)
    else only Done
step_of o past by (Listen child) =
    if not (is_started past child) then odd
    else if is_ended past child then only Over
    else only (listening o past child)
step_of o past by (Fetch child) =
    if not (is_started past child) then odd
    else if is_gone past child then only Over
    else only (next_line (resting o past child) (unsent past child))
step_of o past by (GotEvent child line) =
    if not (is_started past child) || has_newline line then odd
    else if is_ended past child then only (gone past child)
    else if is_full past then append o past by (End child Full) (Gone (Some Full))
    else append o past by (Got child line) Done
step_of o past by (Stop child why) =
    if not (is_started past child && may_end past child why) then odd
    else if is_ended past child then only (gone past child)
    else append o past by (End child why) Done
step_of o past by (SentEvent child) = if is_empty (unsent past child) then odd else append o past by (Sent child) Done
step_of o past by (MuteEvent child) =
    if is_started past child && not (is_mute past child) then append o past by (Mute child) Done else odd
step_of o past by (AnswerEvent task answer) = if may_answer past by task then append o past by (closing o past task answer) Done else odd
step_of o past by (NoteEvent task chunk count) = if may_add_note o past by task chunk then append o past by (Noted task chunk count) Done else odd
step_of o past by (LayoutsEvent task) = if is_claimed_by past by task then layouts_for o past (task_of o task) else odd
step_of o past by (Shut on) = if nat_le by 1 then only Done else odd

-- ---- a core that was shut: those that would wait for a child are told that it is over, unless a line of it is awaited

abbrev pub unless_shut : Bool → Reply → Reply
unless_shut shut Wait = if shut then Over else Wait
unless_shut shut reply = reply

-- whether a core that is shut or not has nothing more to do about the event's child
abbrev pub shut_for : List Entry → Bool → Event → Bool
shut_for past shut (Fetch child) = shut && not (is_awaited past child)
shut_for past shut event = shut

-- what is answered by a core that is shut or not: Over in place of Wait, and to Fetch exactly where Listen is answered so
abbrev pub told : List Entry → Bool → Event → Reply → Reply
told past shut (Listen child) reply = unless_shut (shut_for past shut (Listen child)) reply
told past shut (Fetch child) reply = unless_shut (shut_for past shut (Fetch child)) reply
told past shut _ reply = reply

-- whether the core is shut after the event
abbrev pub shut_by : ℕ → Event → Bool → Bool
shut_by by (Shut on) shut = if nat_le by 1 then on else shut
shut_by by _ shut = shut

-- the step appends nothing, or a whole group
abbrev pub Comes : Opening → List Entry → Step → Type 0
Comes o past s = (s.group ≡ []) ⊎ IsGroup o past s.group

-- some event by this number appends the entry first
abbrev pub Appends : Opening → List Entry → ℕ → What → Type 0
Appends o past by w = (event : Event) × (rest : List Entry) × ((step_of o past by event).group ≡ record { by = by; what = w } ∷ rest)
