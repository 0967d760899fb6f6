-- What the events of roles find and leave, by the core's table.
use Rattle.std.proofs.Common.{◌≡◌, ℕ, List, [], ◌∷◌, ◌++◌, refl, sym, ap, subst, ◌∙◌, Bool, true, false, not, cond, if◌then◌else◌, Some, None, Option, append-nil, inl, inr}
use Rattle.std.specs.Prelude.{◌&&◌, ◌||◌}
use Rattle.journal_model.specs.declared.verdict.Why.{Why}
use Rattle.journal_model.specs.declared.verdict.Why.TheVariants.{Eof, ReadFault, LongLine, Memory}
use Rattle.annex_model.specs.Lines.{has_newline}
use Rattle.annex_model.specs.Messages.{HostMessage}
use Rattle.journal_model.specs.declared.entry.What.{What}
use Rattle.journal_model.specs.declared.entry.What.TheVariants.{End}
use Rattle.journal_model.specs.declared.entry.Entry.{Entry}
use Rattle.journal_model.specs.declared.opening.Opening.{Opening}
use Rattle.journal_model.specs.Journal.{starts, ends, is_started, is_ended, is_full, is_mute, has_spoken, open_jobs, is_tagged, why_of, unsent, verdict_of}
use Rattle.journal_model.specs.Legality.{Legal, is_empty}
use Rattle.journal_model.specs.Due.{made_by}
use Rattle.journal_model.specs.Wires.{may_hear}
use Rattle.journal_model.proofs.Looks.{any-append}
use Rattle.journal_model.proofs.Linking.{unended}
use Rattle.host_talk.specs.declared.request.request.Request.{Request}
use Rattle.host_talk.specs.Request.Requests.{message_of, name_of}
use Rattle.host_core.specs.declared.event.Event.{Event}
use Rattle.host_core.specs.declared.event.Event.TheVariants.{Look, Lookup, Listen, Fetch, Got, Ask, Stop, Sent, Mute}
use Rattle.host_core.specs.declared.event.Reply.{Reply}
use Rattle.host_core.specs.declared.event.Reply.TheVariants.{Done, Over, Job, Read, Wait, Odd, Line}
use Rattle.host_core.specs.Steps.{Step, step_of, told, shut_for, only, odd, gone, is_gone, is_asked, is_awaited, is_idle, listening, resting, next_job, next_line, settled_so, group_of, is_named_well, may_request, may_end}
use Rattle.child_link.specs.Replies.{gone_why, is_done, settled_as, listening_of, fetched_of, asked_of}
use Rattle.child_link.specs.Events.{IsListening, IsFetched, IsAsked, Says, can_end}
use Rattle.child_link.specs.Doors.{Passed, Made, Stands, Appended, Ends, Sends, Mutes, Takes, Waits}
use Rattle.child_link.proofs.Roles.{any_on, asked_on}
use Rattle.std.proofs.lemmas.Bool.{and_parts as both}
use Rattle.ann_key.proofs.Numbers.{same_number as same}
use Rattle.ann_key.proofs.Booleans.{left_false as either_left, right_false as either_right, or_true}

-- ---- events that append nothing

pub passed_by : {o : Opening} {n : ℕ} {a : Bool} {old new : List Entry} {event : Event} {reply : Reply} → (m : Made o n a old new event reply)
    → ((past : List Entry) → (step_of o past n event).group ≡ []) → Passed n a old new
passed_by {o} {n} {event = event} m g = record {
  others = m.passed.others;
  is = m.is ∙ ap (λ (x : List Entry). m.past ++ x) (g m.past) ∙ append-nil m.past ∙ m.passed.is;
  apart = m.passed.apart;
  none = m.passed.none;
}

-- the reply is that of the journal which is seen now
pub says_now : {o : Opening} {n : ℕ} {a : Bool} {old new : List Entry} {event : Event} {reply : Reply} → (m : Made o n a old new event reply)
    → ((past : List Entry) → (step_of o past n event).group ≡ []) → Says o n new event reply
says_now {o} {n} {new = new} {event = event} m g =
    let e : new ≡ m.past = m.is ∙ ap (λ (x : List Entry). m.past ++ x) (g m.past) ∙ append-nil m.past in
    (m.shut, m.reply_is ∙ ap (λ (j : List Entry). told j m.shut event (step_of o j n event).reply) (sym e))

pub look_none : (o : Opening) (n c : ℕ) (past : List Entry) → (step_of o past n (Look c)).group ≡ []
look_none o n c past = go (is_started past c) (is_gone past c)
  where
    go : (a b : Bool) → (cond (not a) odd (cond b (only (gone past c)) (only Done))).group ≡ []
    go false b = refl
    go true true = refl
    go true false = refl

pub lookup_none : (o : Opening) (n c j : ℕ) (past : List Entry) → (step_of o past n (Lookup c j)).group ≡ []
lookup_none o n c j past = go (is_asked past c j)
  where
    go : (a : Bool) → (cond a (only (settled_so (verdict_of past c j))) odd).group ≡ []
    go false = refl
    go true = refl

pub listen_none : (o : Opening) (n c : ℕ) (past : List Entry) → (step_of o past n (Listen c)).group ≡ []
listen_none o n c past = go (is_started past c) (is_ended past c)
  where
    go : (a b : Bool) → (cond (not a) odd (cond b (only Over) (only (listening o past c)))).group ≡ []
    go false b = refl
    go true true = refl
    go true false = refl

pub fetch_none : (o : Opening) (n c : ℕ) (past : List Entry) → (step_of o past n (Fetch c)).group ≡ []
fetch_none o n c past = go (is_started past c) (is_gone past c)
  where
    go : (a b : Bool) → (cond (not a) odd (cond b (only Over) (only (next_line (resting o past c) (unsent past c))))).group ≡ []
    go false b = refl
    go true true = refl
    go true false = refl

-- ---- what there is to wait for

-- of the same door
pub waits_as : {o p : Opening} {n m : ℕ} {journal : List Entry} → p ≡ o → m ≡ n → Waits o n journal → Waits p m journal
waits_as {o} {p} {n} {m} {journal} eo en w = subst (λ (q : Opening). Waits q m journal) (sym eo) (subst (λ (k : ℕ). Waits o k journal) (sym en) w)

pub said_waits : (o : Opening) (n : ℕ) (journal : List Entry) (event : Event) → Says o n journal event Wait → Waits o n journal
said_waits o n journal event says = record { event = event; shut = says.0; reply_is = says.1 }

-- a job that was asked and isn't settled
pub unsettled_waits : (o : Opening) (n c j : ℕ) (journal : List Entry) → is_asked journal c j ≡ true → verdict_of journal c j ≡ None → Waits o n journal
unsettled_waits o n c j journal asked none = record { event = Lookup c j; shut = false; reply_is = rw (asked, none) refl }

pub started_then : {n : ℕ} {a : Bool} {old new : List Entry} (c : ℕ) → Passed n a old new → is_started old c ≡ true → is_started new c ≡ true
started_then {old = old} {new = new} c s h = any_on (starts c) old s.others new s.is h

pub asked_then : {n : ℕ} {a : Bool} {old new : List Entry} (c j : ℕ) → Passed n a old new → is_asked old c j ≡ true → is_asked new c j ≡ true
asked_then {old = old} {new = new} c j s h = asked_on old s.others new c j s.is h

-- ---- what they say

pub look_why : (o : Opening) (past : List Entry) (n c : ℕ) → is_started past c ≡ true → gone_why (step_of o past n (Look c)).reply ≡ why_of past c
look_why o past n c started = rw started (go (is_gone past c) refl)
  where
    go : (b : Bool) → is_gone past c ≡ b → gone_why (cond b (only (gone past c)) (only Done)).reply ≡ why_of past c
    go true e = refl
    go false e = sym (unended past c (either_left (is_ended past c) (is_mute past c) e))

pub lookup_verdict : (o : Opening) (past : List Entry) (n c j : ℕ) → is_asked past c j ≡ true → settled_as (step_of o past n (Lookup c j)).reply ≡ verdict_of past c j
lookup_verdict o past n c j asked = rw asked (go (verdict_of past c j))
  where
    go : (v : Option _) → settled_as (settled_so v) ≡ v
    go None = refl
    go (Some v) = refl

-- what is awaited may be heard
awaited_hears : (past : List Entry) (c : ℕ) → is_awaited past c ≡ true → may_hear past c ≡ true
awaited_hears past c h = go (is_empty (open_jobs past c)) (has_spoken past c) (is_tagged past c) h
  where
    go : (e s t : Bool) → (not e || not s) ≡ true → (not s || (t || not e)) ≡ true
    go e false t h = refl
    go e true true h = refl
    go true true false h = h
    go false true false h = refl

pub heard_so : (o : Opening) (past : List Entry) (n c : ℕ) (shut : Bool) → is_started past c ≡ true → (reply : Reply)
    → reply ≡ told past shut (Listen c) (step_of o past n (Listen c)).reply → IsListening o n past c (listening_of reply)
heard_so o past n c shut started reply e =
    by_end (is_ended past c) refl
  where
    turn : (r : Reply) → reply ≡ r → IsListening o n past c (listening_of r) → IsListening o n past c (listening_of reply)
    turn r k h = subst (λ (x : Reply). IsListening o n past c (listening_of x)) (sym k) h

    by_idle : (b s : Bool) → shut ≡ s → is_ended past c ≡ false → is_awaited past c ≡ false → (is_mute past c || is_idle o past c) ≡ b → IsListening o n past c (listening_of reply)
    by_idle true s f k w i =
        let r : reply ≡ Over = e ∙ (rw (started, k, w, i) refl) in turn Over r (shut, sym r ∙ e)
    by_idle false true f k w i =
        let r : reply ≡ Over = e ∙ (rw (started, k, w, i, f) refl) in turn Over r (shut, sym r ∙ e)
    by_idle false false f k w i =
        let r : reply ≡ Wait = e ∙ (rw (started, k, w, i, f) refl) in turn Wait r (shut, sym r ∙ e)

    by_wait : (b : Bool) → is_ended past c ≡ false → is_awaited past c ≡ b → IsListening o n past c (listening_of reply)
    by_wait true k w = let r : reply ≡ Read = e ∙ (rw (started, k, w) refl) in turn Read r (k, awaited_hears past c w)
    by_wait false k w = by_idle (is_mute past c || is_idle o past c) shut refl k w refl

    by_end : (b : Bool) → is_ended past c ≡ b → IsListening o n past c (listening_of reply)
    by_end true k = let r : reply ≡ Over = e ∙ (rw (started, k) refl) in turn Over r (shut, sym r ∙ e)
    by_end false k = by_wait (is_awaited past c) k refl

pub fetched_so : (o : Opening) (past : List Entry) (n c : ℕ) (shut : Bool) → is_started past c ≡ true → (reply : Reply)
    → reply ≡ told past shut (Fetch c) (step_of o past n (Fetch c)).reply → IsFetched o n past c (fetched_of reply)
fetched_so o past n c shut started reply e = by_gone (is_gone past c) refl
  where
    turn : (r : Reply) → reply ≡ r → IsFetched o n past c (fetched_of r) → IsFetched o n past c (fetched_of reply)
    turn r k h = subst (λ (x : Reply). IsFetched o n past c (fetched_of x)) (sym k) h

    by_rest : (b s : Bool) → shut_for past shut (Fetch c) ≡ s → is_gone past c ≡ false → unsent past c ≡ [] → resting o past c ≡ (if b then Over else Wait) → IsFetched o n past c (fetched_of reply)
    by_rest true s f g u i = let r : reply ≡ Over = e ∙ (rw (started, g, u, i) refl) in turn Over r (shut, sym r ∙ e)
    by_rest false true f g u i = let r : reply ≡ Over = e ∙ (rw (started, g, u, i, f) refl) in turn Over r (shut, sym r ∙ e)
    by_rest false false f g u i = let r : reply ≡ Wait = e ∙ (rw (started, g, u, i, f) refl) in turn Wait r (shut, sym r ∙ e)

    by_line : (ws : List (Option ℕ × List ℕ)) → unsent past c ≡ ws → is_gone past c ≡ false → IsFetched o n past c (fetched_of reply)
    by_line [] u g = by_rest (not (is_awaited past c) && is_idle o past c) (shut_for past shut (Fetch c)) refl g u refl
    by_line (w ∷ ws) u g =
        let r : reply ≡ Line (w.1 ++ 10 ∷ []) = e ∙ (rw (started, g, u) refl) in
        turn (Line (w.1 ++ 10 ∷ [])) r
        (record { next = w; more = ws; unsent = u; whole = refl; live = either_left (is_ended past c) (is_mute past c) g; loud = either_right (is_ended past c) (is_mute past c) g })

    by_gone : (b : Bool) → is_gone past c ≡ b → IsFetched o n past c (fetched_of reply)
    by_gone true g = let r : reply ≡ Over = e ∙ (rw (started, g) refl) in turn Over r (shut, sym r ∙ e)
    by_gone false g = by_line (unsent past c) refl g

-- ---- events that append

nothing : {n : ℕ} {a : Bool} {old past new : List Entry} (s : Step) → Passed n a old past → s.group ≡ [] → new ≡ past ++ s.group → Passed n a old new
nothing {past = past} s p g e = record { others = p.others; is = e ∙ ap (λ (x : List Entry). past ++ x) g ∙ append-nil past ∙ p.is; apart = p.apart; none = p.none }

stands : {o : Opening} {n : ℕ} {a : Bool} {old past new : List Entry} {ws : List Entry → List What} {Found : List Entry → Type 0} (s : Step) → Passed n a old past → (Legal o old → Legal o past) → Found past
    → s.group ≡ made_by n (ws past) → new ≡ past ++ s.group → Stands o n a old new ws Found
stands {past = past} s p l f g e = record { past = past; passed = p; legal = l; found = f; is = e ∙ ap (λ (x : List Entry). past ++ x) g }

here : {o : Opening} {n : ℕ} {a : Bool} {old past new : List Entry} {w : What} {Found : List Entry → Type 0} (s : Step) → Passed n a old past → (Legal o old → Legal o past) → Found past → s.group ≡ group_of o past n w
    → new ≡ past ++ s.group → Appended o n a old new w Found
here s p l f g e = stands s p l f g e

ended_so : {new : List Entry} (past : List Entry) (s : Step) (c : ℕ) → is_ended past c ≡ true → new ≡ past ++ s.group → is_ended new c ≡ true
ended_so {new} past s c h e = any_on (ends c) past s.group new e h

end_group : {new : List Entry} (o : Opening) (past : List Entry) (n c : ℕ) (why : Why) → new ≡ past ++ group_of o past n (End c why) → is_ended new c ≡ true
end_group o past n c why e =
    let own : is_ended (group_of o past n (End c why)) c ≡ true = rw (same c) refl in
    ap (λ (j : List Entry). is_ended j c) e ∙ any-append (ends c) past (group_of o past n (End c why)) ∙ ap (λ (b : Bool). is_ended past c || b) own ∙ or_true (is_ended past c)

may_ends : (past : List Entry) (c : ℕ) (why : Why) → can_end why ≡ true → may_end past c why ≡ true
may_ends past c Eof h = refl
may_ends past c ReadFault h = refl
may_ends past c LongLine h = refl
may_ends past c Memory h = refl
may_ends past c why h = absurd cc

module _ {o : Opening} {n : ℕ} {a : Bool} {old new : List Entry} where
  pub over_by : (c : ℕ) (why : Why) → Ends o n a old new c why → is_ended new c ≡ true
  over_by c why (inr s) = s.1
  over_by c why (inl s) = end_group o s.past n c why s.is

  pub stopped : {reply : Reply} (c : ℕ) (why : Why) → is_started old c ≡ true → can_end why ≡ true → Made o n a old new (Stop c why) reply → Ends o n a old new c why
  stopped c why started can m = go (is_ended m.past c) refl
    where
      s : Step
      s = step_of o m.past n (Stop c why)

      may : is_started m.past c ≡ true
      may = started_then c m.passed started

      go : (b : Bool) → is_ended m.past c ≡ b → Ends o n a old new c why
      go true e = inr (nothing s m.passed (rw (may, may_ends m.past c why can, e) refl) m.is, ended_so m.past s c e m.is)
      go false e = inl (here s m.passed m.legal e (rw (may, may_ends m.past c why can, e) refl) m.is)

  pub sent_so : {reply : Reply} (c : ℕ) → Made o n a old new (Sent c) reply → Sends o n a old new c
  sent_so c m = go (unsent m.past c) refl
    where
      s : Step
      s = step_of o m.past n (Sent c)

      go : (ws : List (Option ℕ × List ℕ)) → unsent m.past c ≡ ws → Sends o n a old new c
      go [] e =
          let none : s.group ≡ [] = rw e refl in
          let still' : new ≡ m.past = m.is ∙ ap (λ (x : List Entry). m.past ++ x) none ∙ append-nil m.past in
          inr (nothing s m.passed none m.is, ap (λ (j : List Entry). unsent j c) still' ∙ e)
      go (w ∷ ws) e = inl (here s m.passed m.legal tt (rw e refl) m.is)

  pub mute_so : {reply : Reply} (c : ℕ) → is_started old c ≡ true → Made o n a old new (Mute c) reply → Mutes o n a old new c
  mute_so c started m = go (is_mute m.past c) refl
    where
      s : Step
      s = step_of o m.past n (Mute c)

      may : is_started m.past c ≡ true
      may = started_then c m.passed started

      go : (b : Bool) → is_mute m.past c ≡ b → Mutes o n a old new c
      go true e =
          let none : s.group ≡ [] = rw (may, e) refl in
          let still' : new ≡ m.past = m.is ∙ ap (λ (x : List Entry). m.past ++ x) none ∙ append-nil m.past in
          inr (nothing s m.passed none m.is, ap (λ (j : List Entry). is_mute j c) still' ∙ e)
      go false e = inl (here s m.passed m.legal tt (rw (may, e) refl) m.is)

  pub got_so : {reply : Reply} (c : ℕ) (line : List ℕ) → is_started old c ≡ true → has_newline line ≡ false → Made o n a old new (Got c line) reply
      → Takes o n a old new c line (is_done reply)
  got_so {reply} c line started whole m = by_end (is_ended m.past c) refl
    where
      s : Step
      s = step_of o m.past n (Got c line)

      may : is_started m.past c ≡ true
      may = started_then c m.passed started

      by_full : (b : Bool) → is_full m.past ≡ b → is_ended m.past c ≡ false → Takes o n a old new c line (is_done reply)
      by_full true f e =
          let r : is_done reply ≡ false = ap is_done m.reply_is ∙ (rw (may, whole, e, f) refl) in
          subst (λ (b : Bool). Takes o n a old new c line b) (sym r) (inl (here s m.passed m.legal e (rw (may, whole, e, f) refl) m.is))
      by_full false f e =
          let r : is_done reply ≡ true = ap is_done m.reply_is ∙ (rw (may, whole, e, f) refl) in
          subst (λ (b : Bool). Takes o n a old new c line b) (sym r) (here s m.passed m.legal e (rw (may, whole, e, f) refl) m.is)

      by_end : (b : Bool) → is_ended m.past c ≡ b → Takes o n a old new c line (is_done reply)
      by_end true e =
          let r : is_done reply ≡ false = ap is_done m.reply_is ∙ (rw (may, whole, e) refl) in
          subst (λ (b : Bool). Takes o n a old new c line b) (sym r)
          (inr (nothing s m.passed (rw (may, whole, e) refl) m.is, ended_so m.past s c e m.is))
      by_end false e = by_full (is_full m.past) refl e

  pub asked_so : {reply : Reply} (c t : ℕ) (request : Request) → Made o n a old new (Ask c t request) reply
      → IsAsked o n a old new c t (name_of request) (message_of request) (asked_of reply)
  asked_so {reply} c t request m = by_may (may_request m.past n t c (message_of request) && is_named_well (name_of request)) refl
    where
      q : HostMessage
      q = message_of request

      name : Option (List ℕ)
      name = name_of request

      may : Bool
      may = may_request m.past n t c q && is_named_well name

      s : Step
      s = step_of o m.past n (Ask c t request)

      turn : (r : Reply) → reply ≡ r → IsAsked o n a old new c t name q (asked_of r) → IsAsked o n a old new c t name q (asked_of reply)
      turn r k h = subst (λ (x : Reply). IsAsked o n a old new c t name q (asked_of x)) (sym k) h

      by_gone : (b : Bool) → is_gone m.past c ≡ b → may ≡ true → IsAsked o n a old new c t name q (asked_of reply)
      by_gone true g f =
          turn (gone m.past c) (m.reply_is ∙ (rw (f, g) refl)) (here s m.passed m.legal (g, refl) (rw (f, g) refl) m.is)
      by_gone false g f =
          let asks : may_request m.past n t c q ≡ true = (both (may_request m.past n t c q) (is_named_well name) f).0 in
          turn (Job (next_job m.past c)) (m.reply_is ∙ (rw (f, g) refl))
          (stands s m.passed m.legal record { may = asks; live = either_left (is_ended m.past c) (is_mute m.past c) g; loud = either_right (is_ended m.past c) (is_mute m.past c) g; next = refl } (rw (f, g) refl) m.is)

      by_may : (b : Bool) → may ≡ b → IsAsked o n a old new c t name q (asked_of reply)
      by_may false f = turn Odd (m.reply_is ∙ (rw f refl)) (nothing s m.passed (rw f refl) m.is)
      by_may true f = by_gone (is_gone m.past c) refl f
