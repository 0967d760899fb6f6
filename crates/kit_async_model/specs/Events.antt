-- What the core of a kit does at one event, for all that its journal says.
use Rattle.std.specs.Prelude.{ℕ, ◌≡◌, ◌⊎◌, ◌+◌, ◌-◌, ◌≤◌, ◌==◌, ◌&&◌, ◌||◌, not, nat_lt, nat_le, Bool, true, false, if◌then◌else◌, List, [], ◌∷◌, ◌++◌, find, Option, Some, None}
use Rattle.kit_serve.specs.declared.kit.call.Said.{Said}
use Rattle.kit_serve.specs.declared.kit.call.Asked.{Asked}
use Rattle.kit_serve.specs.Kit.Calls.{is_line_said}
use Rattle.kit_async_model.specs.declared.setup.Setup.{Setup}
use Rattle.kit_async_model.specs.declared.job.Job.{Job}
use Rattle.kit_async_model.specs.declared.entry.Entry.{Entry}
use Rattle.kit_async_model.specs.declared.entry.Entry.TheVariants.{Heard, Take, Call, Say, Wrote, Close, Lack}
use Rattle.kit_async_model.specs.declared.event.Event.{Event}
use Rattle.kit_async_model.specs.declared.event.Event.TheVariants.{Hear, Take as TakeUp, Called, Next, Wrote as Written, Close as Deafen, Break}
use Rattle.kit_async_model.specs.declared.event.Reply.{Reply}
use Rattle.kit_async_model.specs.declared.event.Reply.TheVariants.{Done, Last, Wait, Over, Odd, Unsaid, Broken, Work, Line}
use Rattle.kit_async_model.specs.Jobs.{work_asked, job_line}
use Rattle.kit_async_model.specs.Standings.{Standing, after, standing}
use Rattle.kit_async_model.specs.Legality.{Legal, may_hear, is_idle, is_free, is_turn_of, is_called, is_done}

-- ---- who acts

-- the numbers of the passes: the reader's, the writer's, and from 3 on one of each remote
abbrev pub reader : ℕ
reader = 1

abbrev pub writer : ℕ
writer = 2

abbrev pub remote_of : ℕ → ℕ
remote_of by = by - 3

abbrev pub is_of_remote : Setup → ℕ → Bool
is_of_remote setup by = nat_le 3 by && nat_lt (remote_of by) setup.remotes

-- the number's part makes such an entry
abbrev pub IsMadeBy : ℕ → Entry → Type 0
IsMadeBy by (Heard line) = by ≡ 1
IsMadeBy by (Take job remote) = by ≡ remote + 3
IsMadeBy by (Call job remote said) = by ≡ remote + 3
IsMadeBy by (Say job line) = (by ≡ 1) ⊎ (3 ≤ by)
IsMadeBy by Wrote = by ≡ 2
IsMadeBy by Close = by ≡ 1
IsMadeBy by Lack = 3 ≤ by

-- ---- groups and replies

pub record Stepped : Type 0 where
  pub group : List Entry
  pub reply : Reply

abbrev pub only : Reply → Stepped
only reply = record { group = []; reply = reply }

-- nothing can be done now, or ever
abbrev pub waiting : Bool → Reply
waiting true = Over
waiting false = Wait

-- all that is due, said
abbrev pub due_said : List (ℕ × List ℕ) → List Entry
due_said [] = []
due_said (due ∷ rest) = Say due.0 (job_line due.0 due.1) ∷ due_said rest

-- ---- a line of the host

abbrev pub heard_reply : Bool → Reply
heard_reply true = Last
heard_reply false = Done

abbrev pub heard_step : Standing → List ℕ → Stepped
heard_step new line = record { group = Heard line ∷ due_said new.due; reply = heard_reply new.over }

abbrev pub hear_step : Setup → Standing → List ℕ → Stepped
hear_step setup s line = if may_hear setup s then heard_step (after setup s (Heard line)) line else only (waiting (s.over || s.closed))

-- ---- work for a remote

abbrev pub work_by : Option Asked → Reply
work_by None = Odd
work_by (Some asked) = Work asked

-- what the job asks of its remote
abbrev pub work_in : Setup → Job → Reply
work_in setup job = work_by (work_asked setup job)

-- the first request that may be taken up, where the remote may take one
abbrev pub first_free : Setup → Standing → ℕ → Option Job
first_free setup s remote = if s.over || not (is_idle s.jobs remote) then None else find (is_free setup s.jobs) s.jobs

abbrev pub free_step : Setup → Standing → ℕ → Option Job → Stepped
free_step setup s remote None = only (waiting (is_done setup s))
free_step setup s remote (Some job) = record { group = Take job.number remote ∷ []; reply = work_in setup job }

abbrev pub turn_step : Setup → Standing → ℕ → Option Job → Stepped
turn_step setup s remote None = free_step setup s remote (first_free setup s remote)
turn_step setup s remote (Some job) = only (work_in setup job)

-- Where it is the remote's turn to get ready it does so; else it takes up the first request that it may.
abbrev pub take_step : Setup → Standing → ℕ → Stepped
take_step setup s remote = turn_step setup s remote (find (is_turn_of setup s.jobs remote) s.jobs)

-- ---- what a remote said

-- the call, and what is due then
abbrev pub called_then : Standing → Entry → Stepped
called_then new call = record { group = call ∷ due_said new.due; reply = Done }

abbrev pub called_step : Setup → Standing → ℕ → Said → Option Job → Stepped
called_step setup s remote said None = only Odd
called_step setup s remote said (Some job) = called_then (after setup s (Call job.number remote said)) (Call job.number remote said)

abbrev pub call_step : Setup → Standing → ℕ → Said → Stepped
call_step setup s remote said =
    if is_line_said said then called_step setup s remote said (find (is_called setup s.jobs remote) s.jobs) else only Odd

-- ---- writing

abbrev pub next_reply : Bool → List (List ℕ) → Reply
next_reply done [] = waiting done
next_reply done (line ∷ lines) = Line line

abbrev pub wrote_step : List (List ℕ) → Stepped
wrote_step [] = only Odd
wrote_step (line ∷ lines) = record { group = Wrote ∷ []; reply = Done }

-- ---- every event

abbrev pub close_step : Standing → Stepped
close_step s = if s.over || s.closed then only Done else record { group = Close ∷ []; reply = Done }

abbrev pub if_it_is : Bool → Stepped → Stepped
if_it_is true step = step
if_it_is false step = only Odd

-- each event is one number's; to another the answer is Odd
abbrev pub event_step : Setup → Standing → ℕ → Event → Stepped
event_step setup s by (Hear line) = if_it_is (by == reader) (hear_step setup s line)
event_step setup s by TakeUp = if_it_is (is_of_remote setup by) (take_step setup s (remote_of by))
event_step setup s by (Called said) = if_it_is (is_of_remote setup by) (call_step setup s (remote_of by) said)
event_step setup s by Next = if_it_is (by == writer) (only (next_reply (is_done setup s) s.unwritten))
event_step setup s by Written = if_it_is (by == writer) (wrote_step s.unwritten)
event_step setup s by Deafen = if_it_is (by == reader) (close_step s)
event_step setup s by Break = only Done

abbrev pub step_of : Setup → List Entry → ℕ → Event → Stepped
step_of setup past by event = event_step setup (standing setup past) by event

-- ---- what a core that several threads step may do

-- A core that is broken off does nothing but what was begun.
abbrev pub can_break : Event → Bool
can_break (Hear line) = true
can_break TakeUp = true
can_break Next = true
can_break event = false

pub record IsBrokenOff (event : Event) (group : List Entry) (reply : Reply) : Type 0 where
  pub may : can_break event ≡ true
  pub reply_is : reply ≡ Broken
  pub group_is : group ≡ []

-- the call is noted, and there is no memory for its answer
pub record IsUnsaid (step : Stepped) (group : List Entry) (reply : Reply) : Type 0 where
  pub call : Entry
  pub answer : Entry
  pub more : List Entry
  pub whole : step.group ≡ call ∷ answer ∷ more
  pub reply_is : reply ≡ Unsaid
  pub group_is : group ≡ call ∷ Lack ∷ []

pub record IsStepped (step : Stepped) (group : List Entry) (reply : Reply) : Type 0 where
  pub reply_is : reply ≡ step.reply
  pub group_is : group ≡ step.group

abbrev pub is_call : Event → Bool
is_call (Called said) = true
is_call event = false

-- The group and the reply are the event's, or those of a core that is broken off or found no memory for an answer; and what stands
-- then is legal.
pub record MayStep (setup : Setup) (past : List Entry) (by : ℕ) (event : Event) (group : List Entry) (reply : Reply) : Type 0 where
  pub step : IsStepped (step_of setup past by event) group reply ⊎ (IsBrokenOff event group reply ⊎ ((is_call event ≡ true) × IsUnsaid (step_of setup past by event) group reply))
  pub legal : Legal setup (past ++ group)

-- these never want memory
abbrev pub takes_no_memory : Event → Bool
takes_no_memory (Called said) = true
takes_no_memory Written = true
takes_no_memory Break = true
takes_no_memory event = false

abbrev pub IsFree : Event → Type 0
IsFree event = takes_no_memory event ≡ true

-- from then on a core is broken off
abbrev pub is_break : Event → Bool
is_break Break = true
is_break event = false
