-- Each step appends nothing, or a group that may come; and each entry that may come is the first of some event's step.
use Rattle.std.proofs.Common.{◌≡◌, ℕ, List, ◌++◌, ◌+◌, ◌<◌, [], ◌⊎◌, refl, sym, ap, subst, ◌∙◌, Bool, true, false, cond, not, Option, Some, None, arith, inl, inr, length, append-nil}
use Rattle.std.specs.Prelude.{◌&&◌, ◌||◌, ◌==◌, ◌^◌, nat_lt, nat_le}
use Rattle.std.proofs.lemmas.Bool.Decides.{nat_tests}
use Rattle.journal_model.specs.declared.verdict.Why.{Why}
use Rattle.journal_model.specs.declared.verdict.Why.TheVariants.{Full}
use Rattle.annex_model.specs.Lines.{has_newline}
use Rattle.annex_model.specs.Messages.{HostMessage, Export, host_line, host_reading, is_askable}
use Rattle.annex_model.specs.Talks.{has_lead}
use Rattle.annex_model.specs.Turns.{turn_of, is_at}
use Rattle.annex_model.specs.declared.turn.Turn.{Turn}
use Rattle.annex_model.specs.declared.turn.Turn.TheVariants.{Later}
use Rattle.annex_model.proofs.Readings.{canonical_read}
use Rattle.annex_model.proofs.Classes.{test_askable}
use Rattle.std.specs.Prelude.{bytes_eq}
use Rattle.std.proofs.lemmas.Slice.Eq.{bytes_eq-Decides}
use Rattle.journal_model.specs.declared.answer.Answer.{Answer}
use Rattle.journal_model.specs.declared.entry.What.{What}
use Rattle.journal_model.specs.declared.entry.What.TheVariants.{Claim, Start, NoStart, Lead, Ask, Sent, Mute, Got, End, Lost, Answer as Answered, Note as Noted, Again}
use Rattle.journal_model.specs.declared.entry.Entry.{Entry}
use Rattle.journal_model.specs.declared.opening.Opening.{Opening}
use Rattle.journal_model.specs.Journal.{is_started, is_ended, is_mute, is_live, unsent, addressed, on_wire, verdict_of, is_full}
use Rattle.journal_model.specs.Legality.{Legal, IsGroup, is_led, needs_lead, says_name, is_text, suits_child, is_empty, count, is_start, least_free, is_prepared, is_in_turn, may_ask, may_stop, may_come, is_number, asks_in_turn, is_claimed_by, is_run_again, task_of}
use Rattle.task_text.specs.declared.task.Task.{Task}
use Rattle.journal_model.specs.Due.{made_by}
use Rattle.journal_model.proofs.Growing.{Led, pair, is_lead, due_group, pair_group, group_keeps}
use Rattle.journal_model.proofs.Named.{lead_work, same_addressed, same_ask}
use Rattle.host_core.specs.declared.event.Event.{Event}
use Rattle.host_core.specs.declared.event.Event.TheVariants.{Claim as ClaimEvent, Start as StartEvent, NoStart as NoStartEvent, Ask as AskEvent, Lookup, Look, Listen, Fetch, Got as GotEvent, Stop, Sent as SentEvent, Mute as MuteEvent, Answer as AnswerEvent, Note as NoteEvent, Layouts as LayoutsEvent, Shut}
use Rattle.host_core.specs.declared.event.Reply.TheVariants.{Child, Job, Over, Done, Gone}
use Rattle.host_core.specs.Steps.{Step, step_of, group_of, append, odd, only, gone, is_gone, claim, next_job, next_on_wire, asking, is_named_well, may_request, may_answer, may_add_note, may_end, is_full_why, is_asked, settled_so, next_line, listening, resting, layouts_for, Comes}
use Rattle.host_talk.specs.declared.request.request.Request.{Request}
use Rattle.host_talk.specs.declared.request.request.Request.TheVariants.{TransferExport, CheckExport, RemoveExport, RenameExport}
use Rattle.host_talk.specs.Request.Requests.{message_of, name_of}
use Rattle.host_core.proofs.Wiring.{wired_text, wired_turn, few_jobs}
use Rattle.std.proofs.lemmas.Bool.{not-true as not_true, and_parts as both}
use Rattle.ann_key.proofs.Numbers.{same_number as same}

-- ---- what a step may append: nothing; an entry that is no name and needs none, with what it makes due; or a name and the request that it leads

abbrev pub stands_plain : Opening → List Entry → ℕ → What → Bool
stands_plain o past by w = not (is_lead w) && (not (needs_lead past w) && may_come o past by w)

pub plain_may : (o : Opening) (past : List Entry) (by : ℕ) (w : What) → stands_plain o past by w ≡ true → may_come o past by w ≡ true
plain_may o past by w h =
    (both (not (needs_lead past w)) (may_come o past by w) (both (not (is_lead w)) (not (needs_lead past w) && may_come o past by w) h).1).1

pub record Leads (o : Opening) (past : List Entry) (by : ℕ) (s : Step) : Type 0 where
  pub child : ℕ
  pub job : ℕ
  pub task : ℕ
  pub name : List ℕ
  pub line : List ℕ
  pub led : Led o past by child job task name line
  pub is : s.group ≡ pair by child job task name line

abbrev pub Came : Opening → List Entry → ℕ → Step → Type 0
Came o past by s = (s.group ≡ []) ⊎ ((w : What) × (stands_plain o past by w ≡ true) × (s.group ≡ group_of o past by w)) ⊎ Leads o past by s

claim_comes : (o : Opening) (past : List Entry) (by child : ℕ) (free : Option ℕ)
    → ((t : ℕ) → free ≡ Some t → may_come o past by (Claim t child) ≡ true) → Came o past by (claim o past by child free)
claim_comes o past by child (Some t) may = inr (inl (Claim t child, may t refl, refl))
claim_comes o past by child None may = inl refl

claims_keep : (o : Opening) (past : List Entry) (by child : ℕ) (main started prepared ended mute : Bool)
    → (child == 0 && by == 0) ≡ main → is_started past child ≡ started → is_prepared past child ≡ prepared → is_ended past child ≡ ended → is_mute past child ≡ mute
    → Came o past by (cond main (claim o past by child (least_free o past))
    (cond (not (started && prepared)) odd (cond (ended || mute) (only (gone past child)) (claim o past by child (least_free o past)))))
claims_keep o past by child true started prepared ended mute a s p e m =
    claim_comes o past by child (least_free o past) (λ t f. (let may : (is_number t (least_free o past) && ((child == 0 && by == 0) || (is_prepared past child && is_live past child && not (is_mute past child)))) ≡ true = rw (f, same t, a) refl in may))
claims_keep o past by child false false prepared ended mute a s p e m = inl refl
claims_keep o past by child false true false ended mute a s p e m = inl refl
claims_keep o past by child false true true true mute a s p e m = inl refl
claims_keep o past by child false true true false true a s p e m = inl refl
claims_keep o past by child false true true false false a s p e m =
    claim_comes o past by child (least_free o past) (λ t f. (let may : (is_number t (least_free o past) && ((child == 0 && by == 0) || (is_prepared past child && (is_started past child && not (is_ended past child)) && not (is_mute past child)))) ≡ true = rw (f, same t, a, s, p, e, m) refl in may))

starts_keep : (o : Opening) (past : List Entry) (by slot : ℕ) (offer b : Bool) → (by == 0 && nat_lt (count is_start past) 4294967295) ≡ b
    → Came o past by (cond b (append o past by (Start (count is_start past + 1) slot offer) (Child (count is_start past + 1))) odd)
starts_keep o past by slot offer false e = inl refl
starts_keep o past by slot offer true e =
    let n = count is_start past in
    let may : (by == 0 && (n + 1) == (n + 1) && nat_lt (n + 1) (2 ^ 32)) ≡ true = grind (arith, nat_tests) in
    inr (inl (Start (n + 1) slot offer, may, refl))

no_starts_keep : (o : Opening) (past : List Entry) (by slot : ℕ) (b : Bool) → (by == 0) ≡ b → Came o past by (cond b (append o past by (NoStart slot) Done) odd)
no_starts_keep o past by slot true e = inr (inl (NoStart slot, e, refl))
no_starts_keep o past by slot false e = inl refl

asks_lost : (o : Opening) (past : List Entry) (by task child : ℕ) (q : HostMessage) → may_request past by task child q ≡ true → (is_ended past child || is_mute past child) ≡ true
    → Came o past by (append o past by (Lost child task) (gone past child))
asks_lost o past by task child q b g =
    let t = both (is_started past child && may_ask past by task child && is_in_turn past child (next_job past child) q) (is_askable q) b in
    let u = both (is_started past child && may_ask past by task child) (is_in_turn past child (next_job past child) q) t.0 in
    let v = both (is_started past child) (may_ask past by task child) u.0 in
    let may : (is_started past child && (is_ended past child || is_mute past child) && may_ask past by task child) ≡ true = rw (v.0, v.1, g) refl in
    inr (inl (Lost child task, may, refl))

-- a request without a name needs none, and one with a name is for a later job
pub unnamed : (r : Request) → name_of r ≡ None → has_lead (message_of r) ≡ false
unnamed (TransferExport store key file name) h = absurd cc
unnamed (CheckExport key name) h = absurd cc
unnamed (RemoveExport key name) h = absurd cc
unnamed (RenameExport key name onto) h = absurd cc
unnamed r h = refl

pub named : (r : Request) (name : List ℕ) → name_of r ≡ Some name → (has_lead (message_of r) ≡ true) × (turn_of (message_of r) ≡ Later)
named (TransferExport store key file name) n h = (refl, refl)
named (CheckExport key name) n h = (refl, refl)
named (RemoveExport key name) n h = (refl, refl)
named (RenameExport key name onto) n h = (refl, refl)
named r n h = absurd cc

asks_keep : (o : Opening) (past : List Entry) (by task child : ℕ) (r : Request) (b n ended mute : Bool)
    → length past < 2 ^ 64 → may_request past by task child (message_of r) ≡ b → is_named_well (name_of r) ≡ n → is_ended past child ≡ ended → is_mute past child ≡ mute
    → Came o past by (cond (b && n) (cond (ended || mute) (append o past by (Lost child task) (gone past child))
    (record { reply = Job (next_job past child); group = made_by by (asking past task child (name_of r) (message_of r)) })) odd)
asks_keep o past by task child r false n ended mute few b w e m = inl refl
asks_keep o past by task child r true false ended mute few b w e m = inl refl
asks_keep o past by task child r true true true mute few b w e m = asks_lost o past by task child (message_of r) b (rw e refl)
asks_keep o past by task child r true true false true few b w e m = asks_lost o past by task child (message_of r) b (rw (e, m) refl)
asks_keep o past by task child r true true false false few b w e m = by_name (name_of r) refl
  where
    q : HostMessage
    q = message_of r

    j : ℕ
    j = next_job past child

    line : List ℕ
    line = next_on_wire past child q

    small : j < 2 ^ 64
    small = let f = few_jobs past child in omega (arith, few, f)

    t : ((is_started past child && may_ask past by task child && is_in_turn past child j q) ≡ true) × (is_askable q ≡ true)
    t = both (is_started past child && may_ask past by task child && is_in_turn past child j q) (is_askable q) b

    u : ((is_started past child && may_ask past by task child) ≡ true) × (is_in_turn past child j q ≡ true)
    u = both (is_started past child && may_ask past by task child) (is_in_turn past child j q) t.0

    v : (is_started past child ≡ true) × (may_ask past by task child ≡ true)
    v = both (is_started past child) (may_ask past by task child) u.0

    turn : asks_in_turn past child j line (host_reading (addressed past child line).1) ≡ true
    turn = wired_turn past child j q small u.1 t.1

    may : may_come o past by (Ask child j task line) ≡ true
    may = rw (v.0, e, m, same j, turn, v.1) refl

    reads : host_reading (addressed past child line).1 ≡ Some q
    reads = ap host_reading (wired_text past child j (host_line q) small) ∙ canonical_read q (test_askable q t.1)

    by_name : (name : Option (List ℕ)) → name_of r ≡ name → Came o past by (record { reply = Job j; group = made_by by (asking past task child name q) })
    by_name None is =
        let plain : is_led (host_reading (addressed past child line).1) ≡ false = ap is_led reads ∙ unnamed r is in
        inr (inl (Ask child j task line, rw (plain, may) refl, refl))
    by_name (Some name) is =
        let leads = named r name is in
        let lead : List ℕ = next_on_wire past child (Export name) in
        let well : is_text name ≡ true = sym (ap is_named_well is) ∙ w in
        let read : host_reading (addressed past child lead).1 ≡ Some (Export name) =
        ap host_reading (wired_text past child j (host_line (Export name)) small) ∙ canonical_read (Export name) tt in
        let own : bytes_eq lead lead ≡ true = (bytes_eq-Decides lead lead).1 refl in
        let says : says_name past child j lead (host_reading (addressed past child lead).1) ≡ true = ap (says_name past child j lead) read ∙ rw (well, own) refl in
        let later : is_at Later j ≡ true =
        subst (λ (x : Turn). is_at x j ≡ true) leads.1 (both (is_at (turn_of q) j) (suits_child past child q) u.1).0 in
        let works = lead_work past by task child v.1 in
        inr (inr record {
          child = child;
          job = j;
          task = task;
          name = lead;
          line = line;
          led = record {
            first = rw (v.0, e, m, same j, says, later, works) refl;
            led = ap (λ (a : Option ℕ × List ℕ). is_led (host_reading a.1)) (same_addressed past by child j lead child line) ∙ ap is_led reads ∙ leads.0;
            second = same_ask past by child j lead o child j task line ∙ may;
          };
          is = refl;
        })

lookups_keep : (o : Opening) (past : List Entry) (by child job : ℕ) (b : Bool) → Came o past by (cond b (only (settled_so (verdict_of past child job))) odd)
lookups_keep o past by child job true = inl refl
lookups_keep o past by child job false = inl refl

looks_keep : (o : Opening) (past : List Entry) (by child : ℕ) (a b : Bool) → Came o past by (cond (not a) odd (cond b (only (gone past child)) (only Done)))
looks_keep o past by child true true = inl refl
looks_keep o past by child true false = inl refl
looks_keep o past by child false b = inl refl

listens_keep : (o : Opening) (past : List Entry) (by child : ℕ) (a b : Bool) → Came o past by (cond (not a) odd (cond b (only Over) (only (listening o past child))))
listens_keep o past by child true true = inl refl
listens_keep o past by child true false = inl refl
listens_keep o past by child false b = inl refl

shuts_keep : (o : Opening) (past : List Entry) (by : ℕ) (b : Bool) → Came o past by (cond b (only Done) odd)
shuts_keep o past by true = inl refl
shuts_keep o past by false = inl refl

fetches_keep : (o : Opening) (past : List Entry) (by child : ℕ) (a b : Bool) → Came o past by (cond (not a) odd (cond b (only Over) (only (next_line (resting o past child) (unsent past child)))))
fetches_keep o past by child true true = inl refl
fetches_keep o past by child true false = inl refl
fetches_keep o past by child false b = inl refl

gots_keep : (o : Opening) (past : List Entry) (by child : ℕ) (line : List ℕ) (started newline ended full : Bool)
    → is_started past child ≡ started → has_newline line ≡ newline → is_ended past child ≡ ended → is_full past ≡ full
    → Came o past by (cond (not started || newline) odd (cond ended (only (gone past child)) (cond full (append o past by (End child Full) (Gone (Some Full))) (append o past by (Got child line) Done))))
gots_keep o past by child line false newline ended full s n e f = inl refl
gots_keep o past by child line true true ended full s n e f = inl refl
gots_keep o past by child line true false true full s n e f = inl refl
gots_keep o past by child line true false false true s n e f =
    let may : ((is_started past child && not (is_ended past child)) && is_full past) ≡ true = rw (s, e, f) refl in
    inr (inl (End child Full, may, refl))
gots_keep o past by child line true false false false s n e f =
    let may : ((is_started past child && not (is_ended past child)) && not (has_newline line) && not (is_full past)) ≡ true = rw (s, n, e, f) refl in
    inr (inl (Got child line, may, refl))

stops_keep : (o : Opening) (past : List Entry) (by child : ℕ) (why : Why) (started told ended : Bool)
    → is_started past child ≡ started → may_end past child why ≡ told → is_ended past child ≡ ended
    → Came o past by (cond (not (started && told)) odd (cond ended (only (gone past child)) (append o past by (End child why) Done)))
stops_keep o past by child why false told ended s t e = inl refl
stops_keep o past by child why true false ended s t e = inl refl
stops_keep o past by child why true true true s t e = inl refl
stops_keep o past by child why true true false s t e =
    let stop : may_stop past child why ≡ true = (both (not (is_full_why why)) (may_stop past child why) t).1 in
    let may : ((is_started past child && not (is_ended past child)) && may_stop past child why) ≡ true = rw (s, stop, e) refl in
    inr (inl (End child why, may, refl))

sents_keep : (o : Opening) (past : List Entry) (by child : ℕ) (b : Bool) → is_empty (unsent past child) ≡ b → Came o past by (cond b odd (append o past by (Sent child) Done))
sents_keep o past by child true e = inl refl
sents_keep o past by child false e = inr (inl (Sent child, ap not e, refl))

mutes_keep : (o : Opening) (past : List Entry) (by child : ℕ) (b : Bool) → (is_started past child && not (is_mute past child)) ≡ b
    → Came o past by (cond b (append o past by (Mute child) Done) odd)
mutes_keep o past by child true e = inr (inl (Mute child, e, refl))
mutes_keep o past by child false e = inl refl

answers_keep : (o : Opening) (past : List Entry) (by task : ℕ) (answer : Answer) (b again : Bool) → may_answer past by task ≡ b → is_run_again o past task answer ≡ again
    → Came o past by (cond b (append o past by (cond again (Again task answer) (Answered task answer)) Done) odd)
answers_keep o past by task answer true true e a =
    let may : (may_answer past by task && is_run_again o past task answer) ≡ true = rw (e, a) refl in
    inr (inl (Again task answer, may, refl))
answers_keep o past by task answer true false e a =
    let may : (may_answer past by task && not (is_run_again o past task answer)) ≡ true = rw (e, a) refl in
    inr (inl (Answered task answer, may, refl))
answers_keep o past by task answer false again e a = inl refl

notes_keep : (o : Opening) (past : List Entry) (by task chunk count : ℕ) (b : Bool) → may_add_note o past by task chunk ≡ b
    → Came o past by (cond b (append o past by (Noted task chunk count) Done) odd)
notes_keep o past by task chunk count true e = inr (inl (Noted task chunk count, e, refl))
notes_keep o past by task chunk count false e = inl refl

layouts_keep : (o : Opening) (past : List Entry) (by : ℕ) (b : Bool) (task : Option Task) → Came o past by (cond b (layouts_for o past task) odd)
layouts_keep o past by true (Some task) = inl refl
layouts_keep o past by true None = inl refl
layouts_keep o past by false task = inl refl

pub step_came : (o : Opening) (past : List Entry) (by : ℕ) (event : Event) → length past < 2 ^ 64 → Came o past by (step_of o past by event)
step_came o past by (ClaimEvent child) few =
    claims_keep o past by child (child == 0 && by == 0) (is_started past child) (is_prepared past child) (is_ended past child) (is_mute past child) refl refl refl refl refl
step_came o past by (StartEvent slot offer) few = starts_keep o past by slot offer (by == 0 && nat_lt (count is_start past) 4294967295) refl
step_came o past by (NoStartEvent slot) few = no_starts_keep o past by slot (by == 0) refl
step_came o past by (AskEvent child task request) few =
    asks_keep o past by task child request (may_request past by task child (message_of request)) (is_named_well (name_of request)) (is_ended past child) (is_mute past child) few refl refl refl refl
step_came o past by (Lookup child job) few = lookups_keep o past by child job (is_asked past child job)
step_came o past by (Look child) few = looks_keep o past by child (is_started past child) (is_gone past child)
step_came o past by (Listen child) few = listens_keep o past by child (is_started past child) (is_ended past child)
step_came o past by (LayoutsEvent task) few = layouts_keep o past by (is_claimed_by past by task) (task_of o task)
step_came o past by (Shut on) few = shuts_keep o past by (nat_le by 1)
step_came o past by (Fetch child) few = fetches_keep o past by child (is_started past child) (is_gone past child)
step_came o past by (GotEvent child line) few = gots_keep o past by child line (is_started past child) (has_newline line) (is_ended past child) (is_full past) refl refl refl refl
step_came o past by (Stop child why) few = stops_keep o past by child why (is_started past child) (may_end past child why) (is_ended past child) refl refl refl
step_came o past by (SentEvent child) few = sents_keep o past by child (is_empty (unsent past child)) refl
step_came o past by (MuteEvent child) few = mutes_keep o past by child (is_started past child && not (is_mute past child)) refl
step_came o past by (AnswerEvent task answer) few = answers_keep o past by task answer (may_answer past by task) (is_run_again o past task answer) refl refl
step_came o past by (NoteEvent task chunk count) few = notes_keep o past by task chunk count (may_add_note o past by task chunk) refl

pub step_comes : (o : Opening) (past : List Entry) (by : ℕ) (event : Event) → length past < 2 ^ 64 → Comes o past (step_of o past by event)
step_comes o past by event few = go (step_of o past by event) (step_came o past by event few)
  where
    go : (s : Step) → Came o past by s → Comes o past s
    go s (inl none) = inl none
    go s (inr (inl some)) =
        let t = both (not (is_lead some.0)) (not (needs_lead past some.0) && may_come o past by some.0) some.1 in
        inr (subst (IsGroup o past) (sym some.2) (due_group o past (record { by = by; what = some.0 }) t.1 (not_true (is_lead some.0) t.0)))
    go s (inr (inr named)) = inr (subst (IsGroup o past) (sym named.is) (pair_group o past by named.child named.job named.task named.name named.line named.led))

-- each step keeps a journal legal
pub Legal-step : (o : Opening) (past : List Entry) (by : ℕ) (event : Event) → length past < 2 ^ 64 → Legal o past → Legal o (past ++ (step_of o past by event).group)
Legal-step o past by event few legal = go (step_of o past by event) (step_comes o past by event few)
  where
    go : (s : Step) → Comes o past s → Legal o (past ++ s.group)
    go s (inl none) = subst (Legal o) (sym (append-nil past) ∙ ap (λ (g : List Entry). past ++ g) (sym none)) legal
    go s (inr some) = group_keeps o past s.group legal some
