-- Each event of the core that the world lets by keeps every child in step.
use Rattle.std.proofs.Common.{ℕ, ◌≡◌, ◌+◌, ◌<◌, ◌^◌, ◌==◌, inl, inr, Bool, true, false, not, cond, List, [], ◌∷◌, length, Option, Some, None, refl, sym, ap, subst, ◌∙◌}
use Rattle.std.specs.Prelude.{◌&&◌, nat_lt, nat_le}
use Rattle.std.proofs.lemmas.Bool.{not-true}
use Rattle.annex_model.specs.Messages.{HostMessage}
use Rattle.task_text.specs.declared.task.Task.{Task}
use Rattle.host_talk.specs.Request.Requests.{message_of, name_of}
use Rattle.journal_model.specs.declared.answer.Answer.{Answer}
use Rattle.journal_model.specs.declared.verdict.Why.{Why}
use Rattle.journal_model.specs.declared.entry.What.{What}
use Rattle.journal_model.specs.declared.entry.What.TheVariants.{Start, NoStart, Sent, End, Lost, Answer as Answered, Note as Noted, Again}
use Rattle.journal_model.specs.declared.entry.Entry.{Entry}
use Rattle.journal_model.specs.declared.opening.Opening.{Opening}
use Rattle.journal_model.specs.Journal.{is_started, is_ended, unsent, verdict_of}
use Rattle.journal_model.specs.Due.{made_by}
use Rattle.journal_model.specs.Legality.{Legal, is_empty, count, is_start, is_prepared, is_claimed_by, is_run_again, least_free, task_of}
use Rattle.host_core.specs.declared.event.Event.{Event}
use Rattle.host_core.specs.declared.event.Event.TheVariants.{Claim as ClaimEvent, Start as StartEvent, NoStart as NoStartEvent, Ask as AskEvent, Lookup, Look, Listen, Fetch, Got as GotEvent, Stop, Sent as SentEvent, Mute as MuteEvent, Answer as AnswerEvent, Note as NoteEvent, Layouts as LayoutsEvent, Shut}
use Rattle.host_core.specs.declared.event.Reply.{Reply}
use Rattle.host_core.specs.declared.event.Reply.TheVariants.{Child, Job, Over, Done}
use Rattle.host_core.specs.Steps.{Step, step_of, append, odd, only, gone, is_gone, claim, next_job, asking, is_named_well, may_request, may_answer, may_add_note, may_end, is_asked, settled_so, next_line, listening, resting, layouts_for}
use Rattle.host_core.proofs.Stepping.{Came, step_came}
use Rattle.pair_world.specs.Moves.{is_barred}
use Rattle.pair_kit.proofs.PaceGroups.{JournalInStep, Goes, IsNumbered, is_heard, goes_nowhere, led_goes, plain_goes}

-- ---- such an event hears no child, and finds none mute

-- the group begins with no line of a child, and with no mute
abbrev calm_head : List Entry → Bool
calm_head [] = true
calm_head (e ∷ rest) = not (is_heard e.what)

abbrev Calm : Step → Type 0
Calm s = calm_head s.group ≡ true

calm_claim : (o : Opening) (past : List Entry) (by child : ℕ) (free : Option ℕ) → Calm (claim o past by child free)
calm_claim o past by child (Some t) = refl
calm_claim o past by child None = refl

calm_claims : (o : Opening) (past : List Entry) (by child : ℕ) (a b c : Bool)
    → Calm (cond a (claim o past by child (least_free o past)) (cond (not b) odd (cond c (only (gone past child)) (claim o past by child (least_free o past)))))
calm_claims o past by child true b c = calm_claim o past by child (least_free o past)
calm_claims o past by child false false c = refl
calm_claims o past by child false true true = refl
calm_claims o past by child false true false = calm_claim o past by child (least_free o past)

calm_append : (o : Opening) (past : List Entry) (by : ℕ) (w : What) (r : Reply) (b : Bool) → is_heard w ≡ false → Calm (cond b (append o past by w r) odd)
calm_append o past by w r true quiet = ap not quiet
calm_append o past by w r false quiet = refl

calm_asks : (o : Opening) (past : List Entry) (by task child : ℕ) (name : Option (List ℕ)) (q : HostMessage) (a b : Bool)
    → Calm (cond a (cond b (append o past by (Lost child task) (gone past child)) (record { reply = Job (next_job past child); group = made_by by (asking past task child name q) })) odd)
calm_asks o past by task child name q true true = refl
calm_asks o past by task child None q true false = refl
calm_asks o past by task child (Some n) q true false = refl
calm_asks o past by task child name q false b = refl

calm_only : (r : Reply) (b : Bool) → Calm (cond b (only r) odd)
calm_only r true = refl
calm_only r false = refl

calm_two : (r t : Reply) (a b : Bool) → Calm (cond (not a) odd (cond b (only r) (only t)))
calm_two r t true true = refl
calm_two r t true false = refl
calm_two r t false b = refl

calm_stops : (o : Opening) (past : List Entry) (by child : ℕ) (why : Why) (a b : Bool) → Calm (cond (not a) odd (cond b (only (gone past child)) (append o past by (End child why) Done)))
calm_stops o past by child why true true = refl
calm_stops o past by child why true false = refl
calm_stops o past by child why false b = refl

calm_closes : (o : Opening) (past : List Entry) (by task : ℕ) (answer : Answer) (b again : Bool) → Calm (cond b (append o past by (cond again (Again task answer) (Answered task answer)) Done) odd)
calm_closes o past by task answer true true = refl
calm_closes o past by task answer true false = refl
calm_closes o past by task answer false again = refl

calm_layouts : (o : Opening) (past : List Entry) (b : Bool) (task : Option Task) → Calm (cond b (layouts_for o past task) odd)
calm_layouts o past true (Some task) = refl
calm_layouts o past true None = refl
calm_layouts o past false task = refl

calm_event : (o : Opening) (past : List Entry) (by : ℕ) (event : Event) → is_barred event ≡ false → Calm (step_of o past by event)
calm_event o past by (ClaimEvent child) b = calm_claims o past by child (child == 0 && by == 0) (is_started past child && is_prepared past child) (is_gone past child)
calm_event o past by (StartEvent slot offer) b =
    calm_append o past by (Start (count is_start past + 1) slot offer) (Child (count is_start past + 1)) (by == 0 && nat_lt (count is_start past) 4294967295) refl
calm_event o past by (NoStartEvent slot) b = calm_append o past by (NoStart slot) Done (by == 0) refl
calm_event o past by (AskEvent child task request) b =
    calm_asks o past by task child (name_of request) (message_of request) (may_request past by task child (message_of request) && is_named_well (name_of request)) (is_gone past child)
calm_event o past by (Lookup child job) b = calm_only (settled_so (verdict_of past child job)) (is_asked past child job)
calm_event o past by (Look child) b = calm_two (gone past child) Done (is_started past child) (is_gone past child)
calm_event o past by (Listen child) b = calm_two Over (listening o past child) (is_started past child) (is_ended past child)
calm_event o past by (Fetch child) b = calm_two Over (next_line (resting o past child) (unsent past child)) (is_started past child) (is_gone past child)
calm_event o past by (GotEvent child line) b = absurd cc
calm_event o past by (Stop child why) b = calm_stops o past by child why (is_started past child && may_end past child why) (is_ended past child)
calm_event o past by (SentEvent child) b = absurd cc
calm_event o past by (MuteEvent child) b = absurd cc
calm_event o past by (AnswerEvent task answer) b = calm_closes o past by task answer (may_answer past by task) (is_run_again o past task answer)
calm_event o past by (NoteEvent task chunk n) b = calm_append o past by (Noted task chunk n) Done (may_add_note o past by task chunk) refl
calm_event o past by (LayoutsEvent task) b = calm_layouts o past (is_claimed_by past by task) (task_of o task)
calm_event o past by (Shut on) b = calm_only Done (nat_le by 1)

-- ---- so it keeps every child in step

came_goes : (o : Opening) (past : List Entry) (by : ℕ) (s : Step) → Came o past by s → Calm s → Legal o past → JournalInStep o past → IsNumbered past → Goes o past s.group
came_goes o past by s (inl none) calm legal h new = goes_nowhere o past s.group h none
came_goes o past by s (inr (inl some)) calm legal h new =
    let quiet : is_heard some.0 ≡ false = not-true (is_heard some.0) (sym (ap calm_head some.2) ∙ calm) in
    subst (λ (group : List Entry). Goes o past group) (sym some.2) (plain_goes o past by some.0 legal h new some.1 quiet)
came_goes o past by s (inr (inr led)) calm legal h new =
    subst (λ (group : List Entry). Goes o past group) (sym led.is) (led_goes o past by led.child led.job led.task led.name led.line legal h led.led)

pub event_goes : (o : Opening) (past : List Entry) (by : ℕ) (event : Event) → is_barred event ≡ false → length past < 2 ^ 64 → Legal o past → JournalInStep o past → IsNumbered past
    → Goes o past (step_of o past by event).group
event_goes o past by event unbarred few legal h new = came_goes o past by (step_of o past by event) (step_came o past by event few) (calm_event o past by event unbarred) legal h new

-- an event that isn't heard of a child, by what it may append
quiet_goes : (o : Opening) (past : List Entry) (by : ℕ) (event : Event) → calm_head (step_of o past by event).group ≡ true → length past < 2 ^ 64 → Legal o past → JournalInStep o past → IsNumbered past
    → Goes o past (step_of o past by event).group
quiet_goes o past by event calm few legal h new = came_goes o past by (step_of o past by event) (step_came o past by event few) calm legal h new

-- a stop, whoever tells it, and a line that is covered
pub stop_goes : (o : Opening) (past : List Entry) (by child : ℕ) (why : Why) → length past < 2 ^ 64 → Legal o past → JournalInStep o past → IsNumbered past → Goes o past (step_of o past by (Stop child why)).group
stop_goes o past by child why few legal h new =
    quiet_goes o past by (Stop child why) (calm_stops o past by child why (is_started past child && may_end past child why) (is_ended past child)) few legal h new

pub sent_goes : (o : Opening) (past : List Entry) (by child : ℕ) → length past < 2 ^ 64 → Legal o past → JournalInStep o past → IsNumbered past → Goes o past (step_of o past by (SentEvent child)).group
sent_goes o past by child few legal h new = quiet_goes o past by (SentEvent child) (go (is_empty (unsent past child))) few legal h new
  where
    go : (b : Bool) → Calm (cond b odd (append o past by (Sent child) Done))
    go true = refl
    go false = refl
