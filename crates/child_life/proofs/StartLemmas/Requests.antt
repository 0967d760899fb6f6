-- What one request of a greeting leaves, whether it is done, refused or neither.
use Rattle.std.proofs.Common.{◌≡◌, ℕ, ◌≤◌, ◌<◌, ◌^◌, lit<, List, [], ◌∷◌, ◌++◌, refl, sym, ap, subst, ◌∙◌, append_assoc, length, arith, Bool, true, false, cond, ◌==◌, Some, None, Option, inl, inr}
use Rattle.std.specs.Prelude.{◌&&◌, ◌||◌, bytes_eq, is_some}
use Rattle.std.specs.List.{list_all}
use Rattle.journal_model.specs.declared.verdict.Why.{Why}
use Rattle.annex_model.specs.declared.final_line.Final.{Final}
use Rattle.annex_model.specs.declared.final_line.Final.TheVariants.{Absent, Unknown, Unsupported}
use Rattle.journal_model.specs.declared.verdict.Verdict.{Verdict}
use Rattle.journal_model.specs.declared.verdict.Verdict.TheVariants.{Done as DoneAt, Failed as FailedAt, Absent as AbsentAt, Unknown as UnknownAt, Unsupported as UnsupportedAt, Ended, Unsent}
use Rattle.annex_model.specs.Messages.{RemoteMessage, Extensions, PrepareSuccess, PrepareFailure, InitremoteSuccess, InitremoteFailure, HostMessage, AskExtensions, Prepare, Initremote, host_line, host_reading, is_askable}
use Rattle.annex_model.specs.Tags.{tagged_line, without_tag}
use Rattle.annex_model.proofs.TagReadings.{untag_of_tagged}
use Rattle.annex_model.specs.Talks.{final_of, has_lead, is_unsupported, one_line, said_alone}
use Rattle.journal_model.specs.declared.entry.What.{What}
use Rattle.journal_model.specs.declared.entry.What.TheVariants.{Ask, Lost}
use Rattle.journal_model.specs.declared.entry.Entry.{Entry}
use Rattle.journal_model.specs.declared.opening.Opening.{Opening}
use Rattle.journal_model.specs.Journal.{any, is_started, is_ended, is_mute, asked_jobs, open_jobs, verdict_of, is_tagged, on_wire, why_of}
use Rattle.journal_model.specs.Legality.{Legal, count, is_prepare, asks_prepare, is_done, is_in_turn, may_ask, offered_names}
use Rattle.journal_model.specs.Projection.{IsNamed, final_in}
use Rattle.journal_model.proofs.Projecting.{invariant}
use Rattle.journal_model.proofs.Verdicts.{ended_verdict, unsent_verdict, unasked_none}
use Rattle.host_talk.specs.declared.request.request.Request.{Request}
use Rattle.host_talk.specs.Request.Requests.{message_of, name_of}
use Rattle.host_talk.proofs.RequestLemmas.Reading.{unnamed}
use Rattle.host_core.specs.Steps.{group_of, is_gone, is_named_well, next_job, may_request}
use Rattle.journal_model.specs.Shares.{are_by, by_link}
use Rattle.child_link.specs.Asks.{lost_as}
use Rattle.child_link.specs.Alone.{GoesOn, AskedAlone, IsSettled, IsLost}
use Rattle.child_life.specs.declared.start.greeting.Mode.{Mode}
use Rattle.child_life.specs.declared.start.greeting.Mode.TheVariants.{Serve, Init}
use Rattle.child_life.specs.Start.Greetings.{is_greeting_line_for, is_of_greeting_for, is_initremote, asks_for, is_refusal, loses}
use Rattle.child_life.specs.Start.Stages.{asked_as, is_greeting, is_asked_for, GreetsOn, IsGoneNext, AsksNext}
use Rattle.child_life.proofs.StartLemmas.Jobs.{goes_jobs, goes_idle, jobs_settled, jobs_lost, idle_asked}
use Rattle.child_life.proofs.StartLemmas.Losing.{count_behind, count_none, links_unlost, unlost_on}
use Rattle.child_link.proofs.Roles.{all-append as all_both, by_append as main_both}
use Rattle.child_link.proofs.Settling.{gone_more as gone_on}
use Rattle.std.proofs.lemmas.Bool.{and_parts as both, eqb-true as same_number}
use Rattle.ann_key.proofs.Numbers.{same_number as same}
use Rattle.ann_key.proofs.Booleans.{or_true}

-- ---- the greeting goes on

own_link : (mode : Mode) (c : ℕ) (w : What) → by_link c w ≡ true → is_of_greeting_for mode c w ≡ true
own_link mode c (Ask child job task line) h = absurd cc
own_link mode c (Lost child task) h = absurd cc
own_link mode c w h = h

own_links : (mode : Mode) (c : ℕ) (more : List Entry) → list_all (λ (e : Entry). by_link c e.what) more ≡ true → list_all (λ (e : Entry). is_of_greeting_for mode c e.what) more ≡ true
own_links mode c [] h = refl
own_links mode c (e ∷ more) h =
    let t : (by_link c e.what ≡ true) × (list_all (λ (e : Entry). by_link c e.what) more ≡ true) = both (by_link c e.what) (list_all (λ (e : Entry). by_link c e.what) more) h in
    rw (own_link mode c e.what t.0, own_links mode c more t.1) refl

own_both : (mode : Mode) (c : ℕ) (xs ys : List Entry) → list_all (λ (e : Entry). is_of_greeting_for mode c e.what) xs ≡ true → list_all (λ (e : Entry). is_of_greeting_for mode c e.what) ys ≡ true
    → list_all (λ (e : Entry). is_of_greeting_for mode c e.what) (xs ++ ys) ≡ true
own_both mode c xs ys h k = all_both (λ (e : Entry). is_of_greeting_for mode c e.what) xs ys h k

-- no request was lost in the first
pub greets_both : {mode : Mode} (a b d : List Entry) (c : ℕ) (x : GreetsOn mode a b c) → GreetsOn mode b d c → any (loses c) x.more ≡ false → GreetsOn mode a d c
greets_both {mode} a b d c x y none = record {
  more = x.more ++ y.more;
  is = y.is ∙ ap (λ (l : List Entry). l ++ y.more) x.is ∙ append_assoc a x.more y.more;
  own = own_both mode c x.more y.more x.own y.own;
  main = main_both 0 x.more y.more x.main y.main;
  idle = y.idle;
  lost = omega (arith, count_behind c x.more y.more none, y.lost);
}

-- a link's own entries, by the main thread
pub greets_goes : {mode : Mode} {n : ℕ} (old new : List Entry) (c : ℕ) → n ≡ 0 → GoesOn n c old new → open_jobs old c ≡ [] → GreetsOn mode old new c
greets_goes {mode} old new c first g idle = record {
  more = g.more;
  is = g.is;
  own = own_links mode c g.more g.quiet;
  main = subst (λ (k : ℕ). are_by k g.more ≡ true) first g.own;
  idle = goes_idle old new c g idle;
  lost = omega (arith, count_none c g.more (links_unlost c c g.more g.quiet));
}

-- the line of a request of its own reads as that request, with its tag or without
module _ (asks : List ℕ → Bool) (q : HostMessage) (reads : (line : List ℕ) → line ≡ host_line q → asks line ≡ true)
    (tagged : asks (tagged_line 1 (host_line q)) ≡ true) where
  second_line : (past : List Entry) (c job : ℕ) → (job == 1) ≡ true → (job == 0 || (job == 1 && asks (on_wire past c job (host_line q)))) ≡ true
  second_line past c job one =
      let number : job ≡ 1 = same_number job 1 one in
      let asked : asks (on_wire past c job (host_line q)) ≡ true = ap (λ (k : ℕ). asks (on_wire past c k (host_line q))) number ∙ wired (is_tagged past c) in
      ap (λ (b : Bool). job == 0 || (b && asks (on_wire past c job (host_line q)))) one ∙ ap (λ (b : Bool). job == 0 || b) asked ∙ or_true (job == 0)
    where
      wired : (b : Bool) → asks (cond b (tagged_line 1 (host_line q)) (host_line q)) ≡ true
      wired true = tagged
      wired false = reads (host_line q) refl

-- a request of the greeting is job 0, or job 1 to get ready or to be set up
early_turn : (past : List Entry) (c job : ℕ) (q : HostMessage) (mode : Mode) → is_asked_for q mode ≡ true → is_in_turn past c job q ≡ true
    → is_greeting_line_for mode job (on_wire past c job (host_line q)) ≡ true
early_turn past c job (AskExtensions names) mode g h =
    ap (λ (b : Bool). b || (job == 1 && asks_for mode (on_wire past c job (host_line (AskExtensions names))))) (both (job == 0) (bytes_eq names (offered_names past c)) h).0
early_turn past c job Prepare Serve g h =
    second_line asks_prepare Prepare (λ line e. ap asks_prepare e) tagged past c job (both (job == 1) true h).0
  where
    tagged : asks_prepare (tagged_line 1 (host_line Prepare)) ≡ true
    tagged =
        let small : 1 < 2 ^ 64 = lit< tt in
        ap (λ (t : Option (ℕ × List ℕ)). is_prepare (host_reading (without_tag (tagged_line 1 (host_line Prepare)) t))) (untag_of_tagged 1 (host_line Prepare) small)
early_turn past c job Initremote Init g h =
    second_line (asks_for Init) Initremote (λ line e. ap (asks_for Init) e) tagged past c job (both (job == 1) true h).0
  where
    tagged : asks_for Init (tagged_line 1 (host_line Initremote)) ≡ true
    tagged =
        let small : 1 < 2 ^ 64 = lit< tt in
        ap (λ (t : Option (ℕ × List ℕ)). is_initremote (host_reading (without_tag (tagged_line 1 (host_line Initremote)) t))) (untag_of_tagged 1 (host_line Initremote) small)
early_turn past c job q mode g h = absurd cc

pub early_job : (past : List Entry) (by c : ℕ) (q : HostMessage) (mode : Mode) → is_asked_for q mode ≡ true → may_request past by 0 c q ≡ true
    → is_greeting_line_for mode (next_job past c) (on_wire past c (next_job past c) (host_line q)) ≡ true
early_job past by c q mode g h =
    let turn : (is_started past c && may_ask past by 0 c && is_in_turn past c (next_job past c) q) ≡ true =
    (both (is_started past c && may_ask past by 0 c && is_in_turn past c (next_job past c) q) (is_askable q) h).0 in
    early_turn past c (next_job past c) q mode g (both (is_started past c && may_ask past by 0 c) (is_in_turn past c (next_job past c) q) turn).1

-- none of them has a lead
greeting_leads : (q : HostMessage) → is_greeting q ≡ true → has_lead q ≡ false
greeting_leads (AskExtensions names) h = refl
greeting_leads Prepare h = refl
greeting_leads Initremote h = refl
greeting_leads q h = absurd cc

pub greeting_named : (r : Request) → is_greeting (message_of r) ≡ true → is_named_well (name_of r) ≡ true
greeting_named r h = ap is_named_well (unnamed r (greeting_leads (message_of r) h))

-- so no name was said before it
pub asked_plain : (o : Opening) (old new : List Entry) (by c : ℕ) (r : Request) (verdict : Verdict) → is_greeting (message_of r) ≡ true → AskedAlone o old new by c 0 (name_of r) (message_of r) verdict
    → AskedAlone o old new by c 0 None (message_of r) verdict
asked_plain o old new by c r verdict h a =
    subst (λ (n : Option (List ℕ)). AskedAlone o old new by c 0 n (message_of r) verdict) (unnamed r (greeting_leads (message_of r) h)) a

-- a request that is no task's
pub greets_asked : {mode : Mode} (o : Opening) (old new : List Entry) (by c : ℕ) (q : HostMessage) (verdict : Verdict) → by ≡ 0 → open_jobs old c ≡ []
    → is_greeting_line_for mode (next_job old c) (on_wire old c (next_job old c) (host_line q)) ≡ true → AskedAlone o old new by c 0 None q verdict → GreetsOn mode old new c
greets_asked {mode} o old new by c q verdict first idle early (inl s) =
    let asked : List Entry = group_of o old by (Ask c (next_job old c) 0 (on_wire old c (next_job old c) (host_line q))) in
    record {
      more = asked ++ s.goes.more;
      is = s.goes.is ∙ append_assoc old asked s.goes.more;
      own = own_both mode c asked s.goes.more (rw (same c, early) refl) (own_links mode c s.goes.more s.goes.quiet);
      main = subst (λ (k : ℕ). are_by k (asked ++ s.goes.more) ≡ true) first (main_both by asked s.goes.more (rw (same by) refl) s.goes.own);
      idle = idle_asked o old new by c 0 q verdict idle (inl s);
      lost = omega (arith, count_behind c asked s.goes.more refl, count_none c s.goes.more (links_unlost c c s.goes.more s.goes.quiet));
    }
greets_asked {mode} o old new by c q verdict first idle early (inr l) =
    let lost : List Entry = group_of o old by (Lost c 0) in
    let own : are_by by lost ≡ true = rw (same by) refl in
    let one : count (loses c) lost ≡ 1 = rw (same c) refl in
    record {
      more = lost;
      is = l.made;
      own = rw (same c) refl;
      main = subst (λ (k : ℕ). are_by k lost ≡ true) first own;
      idle = idle_asked o old new by c 0 q verdict idle (inr l);
      lost = omega (arith, one);
    }

-- ---- the next job

gone_ended : (journal : List Entry) (c : ℕ) → is_ended journal c ≡ true → is_gone journal c ≡ true
gone_ended journal c h = ap (λ (b : Bool). b || is_mute journal c) h

gone_mute : (journal : List Entry) (c : ℕ) → is_mute journal c ≡ true → is_gone journal c ≡ true
gone_mute journal c h = ap (λ (b : Bool). is_ended journal c || b) h ∙ or_true (is_ended journal c)

-- a job that is not among those that were asked has no verdict
pub none_later : (o : Opening) (journal : List Entry) (c k : ℕ) → Legal o journal → length (asked_jobs journal c) ≤ k → verdict_of journal c k ≡ None
none_later o journal c k legal few = unasked_none o journal legal c k ((invariant o journal legal).fresh c k few)

-- ---- the verdicts of a greeting's requests

-- it says neither absent nor unknown
abbrev is_plain : Option Final → Bool
is_plain (Some Absent) = false
is_plain (Some Unknown) = false
is_plain f = true

one_plain : (q : HostMessage) (m : RemoteMessage) → is_greeting q ≡ true → is_plain (one_line q m) ≡ true
one_plain (AskExtensions names) (Extensions answer) h = refl
one_plain (AskExtensions names) m h = refl
one_plain Prepare PrepareSuccess h = refl
one_plain Prepare (PrepareFailure text) h = refl
one_plain Prepare m h = refl
one_plain Initremote InitremoteSuccess h = refl
one_plain Initremote (InitremoteFailure text) h = refl
one_plain Initremote m h = refl
one_plain q m h = absurd cc

alone_plain : (q : HostMessage) (ms : List (Option RemoteMessage)) → is_greeting q ≡ true → is_plain (said_alone q ms) ≡ true
alone_plain q (Some m ∷ []) h = one_plain q m h
alone_plain q ms h = refl

either_plain : (b : Bool) (f : Option Final) → is_plain f ≡ true → is_plain (cond b (Some Unsupported) f) ≡ true
either_plain true f h = refl
either_plain false f h = h

final_plain : (q : HostMessage) (ms : List (Option RemoteMessage)) → is_greeting q ≡ true → is_plain (final_of q ms) ≡ true
final_plain (AskExtensions names) ms h = either_plain (is_unsupported ms) (said_alone (AskExtensions names) ms) (alone_plain (AskExtensions names) ms h)
final_plain Prepare ms h = either_plain (is_unsupported ms) (said_alone Prepare ms) (alone_plain Prepare ms h)
final_plain Initremote ms h = either_plain (is_unsupported ms) (said_alone Initremote ms) (alone_plain Initremote ms h)
final_plain q ms h = absurd cc

-- no answer to a request of the greeting says so
never_said : {A : Type 0} (q : HostMessage) (ms : List (Option RemoteMessage)) (f : Final) → is_greeting q ≡ true → is_plain (Some f) ≡ false
    → final_of q ms ≡ Some f → A
never_said q ms f h k e = let bad : false ≡ true = sym k ∙ ap is_plain (sym e) ∙ final_plain q ms h in absurd cc

-- a verdict that a line gave is not that of a request that was lost
pub not_lost : {A : Type 0} (v : Verdict) (why : Option Why) → is_some (final_in v) ≡ true → v ≡ lost_as why → A
not_lost v None h e = let bad : false ≡ true = subst (λ (x : Verdict). is_some (final_in x) ≡ true) e h in absurd cc
not_lost v (Some why) h e = let bad : false ≡ true = subst (λ (x : Verdict). is_some (final_in x) ≡ true) e h in absurd cc

module _ (o o' : Opening) (old new : List Entry) (by c : ℕ) (q : HostMessage) where
  gone_lost : (verdict : Verdict) → Legal o' new → IsLost o old new by c 0 verdict → IsGoneNext old new c
  gone_lost verdict legal l =
      let jobs : asked_jobs new c ≡ asked_jobs old c = jobs_lost o old new by c 0 q verdict l in
      let few : length (asked_jobs new c) ≤ next_job old c = omega (arith, ap length jobs) in
      let none : verdict_of new c (next_job old c) ≡ None = none_later o' new c (next_job old c) legal few in
      record {
        gone = ap (λ (x : List Entry). is_gone x c) l.made ∙ gone_on old (group_of o old by (Lost c 0)) c l.gone;
        undone = ap is_done none;
        unrefused = ap is_refusal none;
        jobs = inl jobs;
      }

  gone_settled : (verdict : Verdict) → is_done (Some verdict) ≡ false → is_refusal (Some verdict) ≡ false → is_gone new c ≡ true
      → IsSettled o old new by c 0 None q verdict → IsGoneNext old new c
  gone_settled verdict undone unrefused gone s = record {
    gone = gone;
    undone = ap is_done s.settled ∙ undone;
    unrefused = ap is_refusal s.settled ∙ unrefused;
    jobs = inr (jobs_settled o old new by c 0 q verdict s);
  }

  settled_unlost : (verdict : Verdict) → IsSettled o old new by c 0 None q verdict → any (loses c) new ≡ any (loses c) old
  settled_unlost verdict s =
      let asked : List Entry = group_of o old by (Ask c (next_job old c) 0 (on_wire old c (next_job old c) (host_line q))) in
      unlost_on c (old ++ asked) new s.goes.more s.goes.is (links_unlost c c s.goes.more s.goes.quiet) ∙ unlost_on c old (old ++ asked) asked refl refl

  -- the request was asked, and settled so
  pub asked_next : (verdict : Verdict) → Legal o' new → is_greeting q ≡ true → IsNamed q verdict → AskedAlone o old new by c 0 None q verdict
      → AsksNext old new c (asked_as verdict)
  asked_next (DoneAt at) legal kind n (inl s) = record { done = ap is_done s.settled; jobs = jobs_settled o old new by c 0 q (DoneAt at) s; unlost = settled_unlost (DoneAt at) s }
  asked_next (DoneAt at) legal kind n (inr l) = not_lost (DoneAt at) (why_of old c) refl l.lost
  asked_next (FailedAt at) legal kind n (inl s) = record { settled = s.settled; place = at; refusal = inl refl; jobs = jobs_settled o old new by c 0 q (FailedAt at) s; unlost = settled_unlost (FailedAt at) s }
  asked_next (FailedAt at) legal kind n (inr l) = not_lost (FailedAt at) (why_of old c) refl l.lost
  asked_next (UnsupportedAt at) legal kind n (inl s) = record { settled = s.settled; place = at; refusal = inr refl; jobs = jobs_settled o old new by c 0 q (UnsupportedAt at) s; unlost = settled_unlost (UnsupportedAt at) s }
  asked_next (UnsupportedAt at) legal kind n (inr l) = not_lost (UnsupportedAt at) (why_of old c) refl l.lost
  asked_next (AbsentAt at) legal kind n h = never_said q n.0 Absent kind refl n.1
  asked_next (UnknownAt at) legal kind n h = never_said q n.0 Unknown kind refl n.1
  asked_next (Ended why) legal kind n (inl s) =
      gone_settled (Ended why) refl refl (gone_ended new c (ended_verdict o' new legal c (next_job old c) why s.settled)) s
  asked_next (Ended why) legal kind n (inr l) = gone_lost (Ended why) legal l
  asked_next Unsent legal kind n (inl s) =
      gone_settled Unsent refl refl (gone_mute new c (unsent_verdict o' new legal c (next_job old c) s.settled)) s
  asked_next Unsent legal kind n (inr l) = gone_lost Unsent legal l

  -- it was not asked, and the child was ended
  pub given_up_next : Legal o' new → GoesOn by c old new → is_ended new c ≡ true → IsGoneNext old new c
  given_up_next legal g over =
      let jobs : asked_jobs new c ≡ asked_jobs old c = goes_jobs old new c g in
      let few : length (asked_jobs new c) ≤ next_job old c = omega (arith, ap length jobs) in
      let none : verdict_of new c (next_job old c) ≡ None = none_later o' new c (next_job old c) legal few in
      record { gone = gone_ended new c over; undone = ap is_done none; unrefused = ap is_refusal none; jobs = inl jobs }
