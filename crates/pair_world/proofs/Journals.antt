-- What an event of the core adds to the journal, as a child of the world sees it.
use Rattle.std.proofs.Common.{ℕ, ◌≡◌, ◌+◌, ◌≤◌, Bool, true, false, not, cond, List, [], ◌∷◌, ◌++◌, length, take, Option, Some, None, refl, sym, ap, ◌∙◌, arith, append-nil, length-drop}
use Rattle.std.specs.Prelude.{◌||◌, ◌&&◌, ◌==◌, nat_le, nat_lt, map}
use Rattle.std.specs.List.{list_all}
use Rattle.std.proofs.Math.Seq.{take-add}
use Rattle.std.proofs.lemmas.List.{map-append}
use Rattle.annex_model.specs.Lines.{text, has_newline}
use Rattle.annex_model.specs.Messages.{HostMessage}
use Rattle.task_text.specs.declared.task.Task.{Task}
use Rattle.journal_model.specs.declared.verdict.Why.{Why}
use Rattle.journal_model.specs.declared.verdict.Why.TheVariants.{Full}
use Rattle.journal_model.specs.declared.verdict.Verdict.{Verdict}
use Rattle.journal_model.specs.declared.verdict.Verdict.TheVariants.{Ended}
use Rattle.journal_model.specs.declared.entry.What.{What}
use Rattle.journal_model.specs.declared.entry.What.TheVariants.{Claim, Start, NoStart, Put, Sent, Mute, Got, End, Verdict as Settled, Lost, Answer as Answered, Note as Noted, Again}
use Rattle.journal_model.specs.declared.entry.Entry.{Entry}
use Rattle.journal_model.specs.declared.opening.Opening.{Opening}
use Rattle.journal_model.specs.declared.answer.Answer.{Answer}
use Rattle.journal_model.specs.Journal.{each_of, writes, is_started, is_ended, is_mute, is_full, got_lines, unsent, open_jobs, verdict_of}
use Rattle.journal_model.specs.Legality.{is_empty, count, is_start, is_claimed_by, is_run_again, is_prepared, least_free, task_of, turn_of_task}
use Rattle.journal_model.specs.Due.{due_by, due_by_got, made_by}
use Rattle.journal_model.specs.Wires.{sent_lines}
use Rattle.journal_model.proofs.Looks.{each_of-append}
use Rattle.journal_model.proofs.Soft.{is_soft, soft_verdicts, soft_got, soft_stretch}
use Rattle.journal_model.proofs.Linking.{sent_count, sent_count-append, got_more}
use Rattle.journal_model.proofs.Mouths.{lines_same, covered_more}
use Rattle.journal_model.proofs.Fresh.{other_child}
use Rattle.host_talk.specs.Request.Requests.{message_of, name_of}
use Rattle.host_core.specs.declared.event.Event.{Event}
use Rattle.host_core.specs.declared.event.Event.TheVariants.{Claim as ClaimEvent, Start as StartEvent, NoStart as NoStartEvent, Ask as AskEvent, Lookup, Look, Listen, Fetch, Got as GotEvent, Stop, Sent as SentEvent, Mute as MuteEvent, Answer as AnswerEvent, Note as NoteEvent, Layouts as LayoutsEvent, Shut}
use Rattle.host_core.specs.declared.event.Reply.{Reply}
use Rattle.host_core.specs.declared.event.Reply.TheVariants.{Task as TaskReply, Child, Job, Read, Wait, NoTask, Gone, Over, Done}
use Rattle.host_core.specs.Steps.{Step, step_of, group_of, append, odd, only, gone, is_gone, claim, ask, asking, closing, next_job, may_request, is_named_well, may_answer, may_add_note, may_end, is_asked, settled_so, next_line, listening, resting, layouts_for, is_awaited, is_idle, are_all_claimed, told, unless_shut, shut_for, shut_by}
use Rattle.pair_kit.specs.Pairs.{PairValue, new_pair}
use Rattle.pair_kit.specs.Worlds.{IsFed, IsRead}
use Rattle.pair_world.specs.Moves.{begun_by, is_barred, is_odd}
use Rattle.ann_key.proofs.Numbers.{same_number as same}

-- ---- stretches that neither hear nor cover

-- nothing is got of the child and no line to it is covered, and no child is started
pub record Calm (c : ℕ) (more : List Entry) : Type 0 where
  pub got : got_lines more c ≡ []
  pub sent : sent_count more c ≡ 0
  pub starts : count is_start more ≡ 0
  pub started : is_started more c ≡ false

pub calm_none : (c : ℕ) → Calm c []
calm_none c = record { got = refl; sent = refl; starts = refl; started = refl }

soft_starts : (c by : ℕ) (ws : List What) → list_all is_soft ws ≡ true → (count is_start (made_by by ws) ≡ 0) × (is_started (made_by by ws) c ≡ false)
soft_starts c by [] h = (refl, refl)
soft_starts c by (Settled child job verdict ∷ ws) h = soft_starts c by ws h
soft_starts c by (Put child job line ∷ ws) h = soft_starts c by ws h
soft_starts c by (End child why ∷ ws) h = soft_starts c by ws (last (is_soft (End child why)) (list_all is_soft ws) h)
  where
    last : (a b : Bool) → (a && b) ≡ true → b ≡ true
    last true b e = e
    last false b e = cc
soft_starts c by (w ∷ ws) h = absurd cc

calm_soft : (c by : ℕ) (ws : List What) → list_all is_soft ws ≡ true → Calm c (made_by by ws)
calm_soft c by ws h =
    let s = soft_stretch c by ws h in
    let t = soft_starts c by ws h in
    record { got = s.got; sent = ap (λ (l : List Entry). length l) s.sent; starts = t.0; started = t.1 }

-- a child's end with the verdicts that it makes due
pub calm_end : (o : Opening) (past : List Entry) (c by child : ℕ) (why : Why) → Calm c (group_of o past by (End child why))
calm_end o past c by child why =
    let s = calm_soft c by (due_by o past (End child why)) (soft_verdicts child (Ended why) (open_jobs past child)) in
    record { got = s.got; sent = s.sent; starts = s.starts; started = s.started }

-- a line that is got of another child
pub calm_got : (o : Opening) (past : List Entry) (c by child : ℕ) (line : List ℕ) → (child == c) ≡ false → Calm c (group_of o past by (Got child line))
calm_got o past c by child line apart =
    let n = other_child o past c by (Got child line) apart in
    let t = soft_starts c by (due_by_got o past child line) (soft_got o past child line) in
    record { got = n.got; sent = n.covers; starts = t.0; started = t.1 }

-- a line to another child that is covered
pub calm_sent : (o : Opening) (past : List Entry) (c by child : ℕ) → (child == c) ≡ false → Calm c (group_of o past by (Sent child))
calm_sent o past c by child apart = record { got = refl; sent = rw apart refl; starts = refl; started = refl }

-- ---- events that neither hear nor cover

-- the step starts no child, and is calm for each
abbrev Quiet : Step → Type 0
Quiet s = (begun_by s.reply ≡ []) × ((c : ℕ) → Calm c s.group)

quiet_if : (b : Bool) (x y : Step) → Quiet x → Quiet y → Quiet (cond b x y)
quiet_if true x y p q = p
quiet_if false x y p q = q

-- an answer that appends nothing
quiet_only : (r : Reply) → begun_by r ≡ [] → Quiet (only r)
quiet_only r e = (e, λ c. calm_none c)

quiet_odd : Quiet odd
quiet_odd = (refl, λ c. calm_none c)

quiet_gone : (past : List Entry) (child : ℕ) → Quiet (only (gone past child))
quiet_gone past child = (refl, λ c. calm_none c)

quiet_claim : (o : Opening) (past : List Entry) (by child : ℕ) (free : Option ℕ) → Quiet (claim o past by child free)
quiet_claim o past by child (Some t) = (refl, λ c. record { got = refl; sent = refl; starts = refl; started = refl })
quiet_claim o past by child None = (go (are_all_claimed o past), λ c. calm_none c)
  where
    go : (b : Bool) → begun_by (cond b NoTask Wait) ≡ []
    go true = refl
    go false = refl

-- a request, with or without a name before it
calm_asking : (past : List Entry) (c by task child : ℕ) (name : Option (List ℕ)) (q : HostMessage) → Calm c (made_by by (asking past task child name q))
calm_asking past c by task child None q = record { got = refl; sent = refl; starts = refl; started = refl }
calm_asking past c by task child (Some name) q = record { got = refl; sent = refl; starts = refl; started = refl }

-- the request is asked
abbrev asked : (past : List Entry) (by task child : ℕ) (name : Option (List ℕ)) (q : HostMessage) → Step
asked past by task child name q = record { reply = Job (next_job past child); group = made_by by (asking past task child name q) }

quiet_ask : (o : Opening) (past : List Entry) (by task child : ℕ) (name : Option (List ℕ)) (q : HostMessage) → Quiet (ask o past by task child name q)
quiet_ask o past by task child name q = quiet_if (is_gone past child) (append o past by (Lost child task) (gone past child)) (asked past by task child name q)
    (refl, λ c. record { got = refl; sent = refl; starts = refl; started = refl })
    (refl, λ c. calm_asking past c by task child name q)

-- a task is answered, or run again in place of the answer
calm_closing : (o : Opening) (past : List Entry) (c by task : ℕ) (answer : Answer) → Calm c (group_of o past by (closing o past task answer))
calm_closing o past c by task answer = go (is_run_again o past task answer)
  where
    go : (b : Bool) → Calm c (group_of o past by (cond b (Again task answer) (Answered task answer)))
    go true = record { got = refl; sent = refl; starts = refl; started = refl }
    go false = record { got = refl; sent = refl; starts = refl; started = refl }

quiet_settled : (v : Option Verdict) → Quiet (only (settled_so v))
quiet_settled (Some v) = (refl, λ c. calm_none c)
quiet_settled None = (refl, λ c. calm_none c)

quiet_listening : (o : Opening) (past : List Entry) (child : ℕ) → Quiet (only (listening o past child))
quiet_listening o past child = (go (is_awaited past child) (is_mute past child || is_idle o past child), λ c. calm_none c)
  where
    go : (a b : Bool) → begun_by (cond a Read (cond b Over Wait)) ≡ []
    go true b = refl
    go false true = refl
    go false false = refl

quiet_next : (o : Opening) (past : List Entry) (child : ℕ) (ws : List (Option ℕ × List ℕ)) → Quiet (only (next_line (resting o past child) ws))
quiet_next o past child (w ∷ ws) = (refl, λ c. calm_none c)
quiet_next o past child [] = (go (not (is_awaited past child) && is_idle o past child), λ c. calm_none c)
  where
    go : (b : Bool) → begun_by (cond b Over Wait) ≡ []
    go true = refl
    go false = refl

quiet_layouts : (o : Opening) (past : List Entry) (task : Option Task) → Quiet (layouts_for o past task)
quiet_layouts o past None = quiet_odd
quiet_layouts o past (Some task) = (refl, λ c. calm_none c)

quiet_end : (o : Opening) (past : List Entry) (by child : ℕ) (why : Why) → Quiet (append o past by (End child why) Done)
quiet_end o past by child why = (refl, λ c. calm_end o past c by child why)

-- an end that is told
pub quiet_stop : (o : Opening) (past : List Entry) (by child : ℕ) (why : Why) → Quiet (step_of o past by (Stop child why))
quiet_stop o past by child why =
    quiet_if (not (is_started past child && may_end past child why)) odd (cond (is_ended past child) (only (gone past child)) (append o past by (End child why) Done)) quiet_odd
    (quiet_if (is_ended past child) (only (gone past child)) (append o past by (End child why) Done) (quiet_gone past child) (quiet_end o past by child why))

is_start_event : Event → Bool
is_start_event (StartEvent slot offer) = true
is_start_event event = false

quiet_event : (o : Opening) (past : List Entry) (by : ℕ) (event : Event) → is_barred event ≡ false → is_start_event event ≡ false → Quiet (step_of o past by event)
unfolding is_start_event
quiet_event o past by (ClaimEvent child) b s =
    let f = claim o past by child (least_free o past) in
    quiet_if (child == 0 && by == 0) f (cond (not (is_started past child && is_prepared past child)) odd (cond (is_gone past child) (only (gone past child)) f)) (quiet_claim o past by child (least_free o past))
    (quiet_if (not (is_started past child && is_prepared past child)) odd (cond (is_gone past child) (only (gone past child)) f) quiet_odd
    (quiet_if (is_gone past child) (only (gone past child)) f (quiet_gone past child) (quiet_claim o past by child (least_free o past))))
quiet_event o past by (StartEvent slot offer) b s = absurd cc
quiet_event o past by (NoStartEvent slot) b s =
    quiet_if (by == 0) (append o past by (NoStart slot) Done) odd (refl, λ c. record { got = refl; sent = refl; starts = refl; started = refl }) quiet_odd
quiet_event o past by (AskEvent child task request) b s =
    let f = ask o past by task child (name_of request) (message_of request) in
    quiet_if (may_request past by task child (message_of request) && is_named_well (name_of request)) f odd (quiet_ask o past by task child (name_of request) (message_of request)) quiet_odd
quiet_event o past by (Lookup child job) b s =
    quiet_if (is_asked past child job) (only (settled_so (verdict_of past child job))) odd (quiet_settled (verdict_of past child job)) quiet_odd
quiet_event o past by (Look child) b s =
    quiet_if (not (is_started past child)) odd (cond (is_gone past child) (only (gone past child)) (only Done)) quiet_odd
    (quiet_if (is_gone past child) (only (gone past child)) (only Done) (quiet_gone past child) (quiet_only Done refl))
quiet_event o past by (Listen child) b s =
    quiet_if (not (is_started past child)) odd (cond (is_ended past child) (only Over) (only (listening o past child))) quiet_odd
    (quiet_if (is_ended past child) (only Over) (only (listening o past child)) (quiet_only Over refl) (quiet_listening o past child))
quiet_event o past by (Fetch child) b s =
    quiet_if (not (is_started past child)) odd (cond (is_gone past child) (only Over) (only (next_line (resting o past child) (unsent past child)))) quiet_odd
    (quiet_if (is_gone past child) (only Over) (only (next_line (resting o past child) (unsent past child))) (quiet_only Over refl) (quiet_next o past child (unsent past child)))
quiet_event o past by (GotEvent child line) b s = absurd cc
quiet_event o past by (Stop child why) b s = quiet_stop o past by child why
quiet_event o past by (SentEvent child) b s = absurd cc
quiet_event o past by (MuteEvent child) b s = absurd cc
quiet_event o past by (AnswerEvent task answer) b s =
    quiet_if (may_answer past by task) (append o past by (closing o past task answer) Done) odd (refl, λ c. calm_closing o past c by task answer) quiet_odd
quiet_event o past by (NoteEvent task chunk n) b s =
    quiet_if (may_add_note o past by task chunk) (append o past by (Noted task chunk n) Done) odd (refl, λ c. record { got = refl; sent = refl; starts = refl; started = refl }) quiet_odd
quiet_event o past by (LayoutsEvent task) b s = quiet_if (is_claimed_by past by task) (layouts_for o past (task_of o task)) odd (quiet_layouts o past (task_of o task)) quiet_odd
quiet_event o past by (Shut on) b s = quiet_if (nat_le by 1) (only Done) odd (quiet_only Done refl) quiet_odd

-- what a core that is shut or not answers starts a child where the table does
told_begun : (past : List Entry) (shut : Bool) (event : Event) (r : Reply) → begun_by (told past shut event r) ≡ begun_by r
told_begun past shut (Listen child) r = waits (shut_for past shut (Listen child)) r
  where
    waits : (b : Bool) (r : Reply) → begun_by (unless_shut b r) ≡ begun_by r
    waits true Wait = refl
    waits false Wait = refl
    waits b r = refl
told_begun past shut (Fetch child) r = waits (shut_for past shut (Fetch child)) r
  where
    waits : (b : Bool) (r : Reply) → begun_by (unless_shut b r) ≡ begun_by r
    waits true Wait = refl
    waits false Wait = refl
    waits b r = refl
told_begun past shut event r = refl

-- a child is started, or nothing is but what the children so far are concerned with
pub data Grows (o : Opening) (past : List Entry) (by : ℕ) (shut : Bool) (event : Event) : Type 0 where
  Starts : (slot : ℕ) (offer : Bool) → begun_by (told past shut event (step_of o past by event).reply) ≡ new_pair ∷ []
      → (step_of o past by event).group ≡ record { by = by; what = Start (count is_start past + 1) slot offer } ∷ [] → Grows o past by shut event
  Stays : begun_by (told past shut event (step_of o past by event).reply) ≡ [] → ((c : ℕ) → Calm c (step_of o past by event).group) → Grows o past by shut event

pub grows_event : (o : Opening) (past : List Entry) (by : ℕ) (shut : Bool) (event : Event) → is_barred event ≡ false → Grows o past by shut event
unfolding is_start_event
grows_event o past by shut (StartEvent slot offer) barred = go (by == 0 && nat_lt (count is_start past) 4294967295) refl
  where
    go : (b : Bool) → (by == 0 && nat_lt (count is_start past) 4294967295) ≡ b → Grows o past by shut (StartEvent slot offer)
    go true e = Starts slot offer (rw e refl) (rw e refl)
    go false e = Stays (rw e refl) (λ c. rw e (calm_none c))
grows_event o past by shut event barred =
    let q = quiet_event o past by event barred refl in
    Stays (told_begun past shut event (step_of o past by event).reply ∙ q.0) q.1

-- ---- an event that may not come appends nothing

-- where the step is refused, it appends nothing
abbrev Refused : Step → Type 0
Refused s = is_odd s.reply ≡ true → s.group ≡ []

refused_if : (b : Bool) (x y : Step) → Refused x → Refused y → Refused (cond b x y)
refused_if true x y p q = p
refused_if false x y p q = q

refused_only : (r : Reply) → Refused (only r)
refused_only r e = refl

refused_odd : Refused odd
refused_odd e = refl

-- a step that is answered otherwise isn't refused
refused_not : (s : Step) → is_odd s.reply ≡ false → Refused s
refused_not s other e = let bad : false ≡ true = sym other ∙ e in absurd cc

refused_append : (o : Opening) (past : List Entry) (by : ℕ) (w : What) (r : Reply) → is_odd r ≡ false → Refused (append o past by w r)
refused_append o past by w r other = refused_not (append o past by w r) other

refused_claim : (o : Opening) (past : List Entry) (by child : ℕ) (free : Option ℕ) → Refused (claim o past by child free)
refused_claim o past by child (Some t) = refused_append o past by (Claim t child) (TaskReply t (turn_of_task past t)) refl
refused_claim o past by child None = refused_only (cond (are_all_claimed o past) NoTask Wait)

refused_layouts : (o : Opening) (past : List Entry) (task : Option Task) → Refused (layouts_for o past task)
refused_layouts o past None e = refl
refused_layouts o past (Some task) e = refl

refused_step : (o : Opening) (past : List Entry) (by : ℕ) (event : Event) → Refused (step_of o past by event)
refused_step o past by (ClaimEvent child) =
    let f = claim o past by child (least_free o past) in
    refused_if (child == 0 && by == 0) f (cond (not (is_started past child && is_prepared past child)) odd (cond (is_gone past child) (only (gone past child)) f)) (refused_claim o past by child (least_free o past))
    (refused_if (not (is_started past child && is_prepared past child)) odd (cond (is_gone past child) (only (gone past child)) f) refused_odd
    (refused_if (is_gone past child) (only (gone past child)) f (refused_only (gone past child)) (refused_claim o past by child (least_free o past))))
refused_step o past by (StartEvent slot offer) =
    let n = count is_start past + 1 in
    refused_if (by == 0 && nat_lt (count is_start past) 4294967295) (append o past by (Start n slot offer) (Child n)) odd (refused_append o past by (Start n slot offer) (Child n) refl) refused_odd
refused_step o past by (NoStartEvent slot) = refused_if (by == 0) (append o past by (NoStart slot) Done) odd (refused_append o past by (NoStart slot) Done refl) refused_odd
refused_step o past by (AskEvent child task request) =
    let q = message_of request in
    let name = name_of request in
    let lost = append o past by (Lost child task) (gone past child) in
    let said = asked past by task child name q in
    refused_if (may_request past by task child q && is_named_well name) (ask o past by task child name q) odd
    (refused_if (is_gone past child) lost said (refused_append o past by (Lost child task) (gone past child) refl) (refused_not said refl)) refused_odd
refused_step o past by (Lookup child job) = refused_if (is_asked past child job) (only (settled_so (verdict_of past child job))) odd (refused_only (settled_so (verdict_of past child job))) refused_odd
refused_step o past by (Look child) =
    refused_if (not (is_started past child)) odd (cond (is_gone past child) (only (gone past child)) (only Done)) refused_odd
    (refused_if (is_gone past child) (only (gone past child)) (only Done) (refused_only (gone past child)) (refused_only Done))
refused_step o past by (Listen child) =
    refused_if (not (is_started past child)) odd (cond (is_ended past child) (only Over) (only (listening o past child))) refused_odd
    (refused_if (is_ended past child) (only Over) (only (listening o past child)) (refused_only Over) (refused_only (listening o past child)))
refused_step o past by (Fetch child) =
    let next = next_line (resting o past child) (unsent past child) in
    refused_if (not (is_started past child)) odd (cond (is_gone past child) (only Over) (only next)) refused_odd
    (refused_if (is_gone past child) (only Over) (only next) (refused_only Over) (refused_only next))
refused_step o past by (GotEvent child line) =
    let full = append o past by (End child Full) (Gone (Some Full)) in
    let got = append o past by (Got child line) Done in
    refused_if (not (is_started past child) || has_newline line) odd (cond (is_ended past child) (only (gone past child)) (cond (is_full past) full got)) refused_odd
    (refused_if (is_ended past child) (only (gone past child)) (cond (is_full past) full got) (refused_only (gone past child))
    (refused_if (is_full past) full got (refused_append o past by (End child Full) (Gone (Some Full)) refl) (refused_append o past by (Got child line) Done refl)))
refused_step o past by (Stop child why) =
    let end = append o past by (End child why) Done in
    refused_if (not (is_started past child && may_end past child why)) odd (cond (is_ended past child) (only (gone past child)) end) refused_odd
    (refused_if (is_ended past child) (only (gone past child)) end (refused_only (gone past child)) (refused_append o past by (End child why) Done refl))
refused_step o past by (SentEvent child) = refused_if (is_empty (unsent past child)) odd (append o past by (Sent child) Done) refused_odd (refused_append o past by (Sent child) Done refl)
refused_step o past by (MuteEvent child) =
    refused_if (is_started past child && not (is_mute past child)) (append o past by (Mute child) Done) odd (refused_append o past by (Mute child) Done refl) refused_odd
refused_step o past by (AnswerEvent task answer) =
    let w = closing o past task answer in
    refused_if (may_answer past by task) (append o past by w Done) odd (refused_append o past by w Done refl) refused_odd
refused_step o past by (NoteEvent task chunk n) =
    refused_if (may_add_note o past by task chunk) (append o past by (Noted task chunk n) Done) odd (refused_append o past by (Noted task chunk n) Done refl) refused_odd
refused_step o past by (LayoutsEvent task) = refused_if (is_claimed_by past by task) (layouts_for o past (task_of o task)) odd (refused_layouts o past (task_of o task)) refused_odd
refused_step o past by (Shut on) = refused_if (nat_le by 1) (only Done) odd (refused_only Done) refused_odd

told_odd : (past : List Entry) (shut : Bool) (event : Event) (r : Reply) → is_odd (told past shut event r) ≡ is_odd r
told_odd past shut (Listen child) r = waits (shut_for past shut (Listen child)) r
  where
    waits : (b : Bool) (r : Reply) → is_odd (unless_shut b r) ≡ is_odd r
    waits true Wait = refl
    waits false Wait = refl
    waits b r = refl
told_odd past shut (Fetch child) r = waits (shut_for past shut (Fetch child)) r
  where
    waits : (b : Bool) (r : Reply) → is_odd (unless_shut b r) ≡ is_odd r
    waits true Wait = refl
    waits false Wait = refl
    waits b r = refl
told_odd past shut event r = refl

odd_shut : (o : Opening) (past : List Entry) (by : ℕ) (shut : Bool) (event : Event) → is_odd (step_of o past by event).reply ≡ true → shut_by by event shut ≡ shut
odd_shut o past by shut (Shut on) e = go (nat_le by 1) refl e
  where
    go : (b : Bool) → nat_le by 1 ≡ b → is_odd (cond b (only Done) odd).reply ≡ true → cond b on shut ≡ shut
    go true k f = absurd cc
    go false k f = refl
odd_shut o past by shut event e = refl

-- an odd event leaves the journal and whether the core is shut
pub odd_stays : (o : Opening) (past : List Entry) (by : ℕ) (shut : Bool) (event : Event) → is_odd (told past shut event (step_of o past by event).reply) ≡ true
    → ((step_of o past by event).group ≡ []) × (shut_by by event shut ≡ shut)
odd_stays o past by shut event e =
    let odd_reply : is_odd (step_of o past by event).reply ≡ true = sym (told_odd past shut event (step_of o past by event).reply) ∙ e in
    (refused_step o past by event odd_reply, odd_shut o past by shut event odd_reply)

-- ---- one child after a stretch

pub fed_on : (past more : List Entry) (c : ℕ) (p : PairValue) → sent_count more c ≡ 0 → IsFed past c p → IsFed (past ++ more) c p
fed_on past more c p sent h = record {
  covered = covered_more past more c sent h.covered;
  bytes = ap text (lines_same past more c sent h.covered) ∙ h.bytes;
}

pub read_on : (past more : List Entry) (c : ℕ) (p : PairValue) → got_lines more c ≡ [] → IsRead past c p → IsRead (past ++ more) c p
read_on past more c p got h = record {
  bytes = ap (λ (ls : List (List ℕ)). text ls ++ p.at_host ++ p.to_host) (got_more past more c [] got ∙ append-nil (got_lines past c)) ∙ h.bytes;
}

abbrev Written : Type 0
Written = List (Option ℕ × List ℕ)

abbrev texts : Written → List (List ℕ)
texts ws = map (λ w. w.1) ws

-- the next line is covered
pub sent_one : (past : List Entry) (by c : ℕ) (w : Option ℕ × List ℕ) (ws : Written) → unsent past c ≡ w ∷ ws
    → sent_count past c ≤ length (each_of (writes c) past)
    → (sent_lines (past ++ record { by = by; what = Sent c } ∷ []) c ≡ sent_lines past c ++ w.1 ∷ [])
    × (sent_count (past ++ record { by = by; what = Sent c } ∷ []) c ≤ length (each_of (writes c) (past ++ record { by = by; what = Sent c } ∷ [])))
sent_one past by c w ws next covered =
    let one : List Entry = record { by = by; what = Sent c } ∷ [] in
    let W : Written = each_of (writes c) past in
    let S = sent_count past c in
    let w' : each_of (writes c) (past ++ one) ≡ W = each_of-append (writes c) past one ∙ append-nil W in
    let covers : sent_count one c ≡ 1 = rw (same c) refl in
    let n : sent_count (past ++ one) c ≡ S + 1 = omega (arith, sent_count-append past one c, covers) in
    let first : take (S + 1) W ≡ take S W ++ w ∷ [] = take-add S 1 W ∙ ap (λ (x : Written). take S W ++ take 1 x) next in (
      ap (λ (m : ℕ). texts (take m (each_of (writes c) (past ++ one)))) n ∙ ap (λ (x : Written). texts (take (S + 1) x)) w' ∙ ap texts first
          ∙ map-append (λ (y : Option ℕ × List ℕ). y.1) (take S W) (w ∷ []),
      omega (arith, n, ap (λ (x : Written). length x) w', length-drop S W, ap (λ (x : Written). length x) next, covered),
    )

-- a line is got
pub got_one : (o : Opening) (past : List Entry) (by c : ℕ) (line : List ℕ)
    → (got_lines (past ++ group_of o past by (Got c line)) c ≡ got_lines past c ++ line ∷ []) × (sent_count (group_of o past by (Got c line)) c ≡ 0)
    × (count is_start (group_of o past by (Got c line)) ≡ 0) × ((d : ℕ) → is_started (group_of o past by (Got c line)) d ≡ false)
got_one o past by c line =
    let due = calm_soft c by (due_by_got o past c line) (soft_got o past c line) in
    let gots : got_lines (group_of o past by (Got c line)) c ≡ line ∷ [] = rw (same c) (ap (λ (ls : List (List ℕ)). line ∷ ls) due.got) in
    (got_more past (group_of o past by (Got c line)) c (line ∷ []) gots, due.sent, due.starts, λ d. (soft_starts d by (due_by_got o past c line) (soft_got o past c line)).1)
