-- From a greeting by INITREMOTE to what a setup comes to, and the closing of its child.
use Rattle.std.proofs.Common.{◌≡◌, ◌⊎◌, ℕ, List, [], ◌∷◌, ◌++◌, refl, sym, ap, subst, ◌∙◌, Bool, true, false, not, cond, Some, None, Option, inl, inr, append-nil}
use Rattle.std.specs.Prelude.{◌&&◌, ◌||◌}
use Rattle.std.specs.Option.{option_or}
use Rattle.std.specs.List.{list_all}
use Rattle.std.proofs.lemmas.List.Folds.{list_all-append}
use Rattle.journal_model.specs.declared.verdict.Why.{Why}
use Rattle.journal_model.specs.declared.verdict.Why.TheVariants.{Closed}
use Rattle.journal_model.specs.declared.verdict.Verdict.{Verdict}
use Rattle.journal_model.specs.declared.verdict.Verdict.TheVariants.{Done as DoneAt, Failed as FailedAt, Unsupported as UnsupportedAt}
use Rattle.journal_model.specs.declared.answer.Answer.TheVariants as answer
use Rattle.journal_model.specs.declared.entry.What.{What}
use Rattle.journal_model.specs.declared.entry.What.TheVariants.{Claim, Start, NoStart, End, Answer as Answered, Note as Noted, Again}
use Rattle.journal_model.specs.declared.entry.Entry.{Entry}
use Rattle.journal_model.specs.Journal.{any, starts, ends, mutes, is_started, is_ended, is_mute, open_jobs, verdict_of, why_of}
use Rattle.journal_model.specs.Legality.{is_done, may_stop}
use Rattle.journal_model.proofs.Looks.{any-append, each_of-append, verdict_of-append}
use Rattle.journal_model.proofs.Linking.{why_of-append, why_is_end}
use Rattle.journal_scan.specs.Looks.{is_no_start}
use Rattle.journal_model.specs.Shares.{are_by, is_closed}
use Rattle.child_link.specs.Alone.{Closes}
use Rattle.child_life.specs.declared.start.greeting.Mode.TheVariants.{Init}
use Rattle.child_life.specs.declared.start.greeting.Came.{Came}
use Rattle.child_life.specs.declared.start.greeting.Came.TheVariants.{Ready, Refused, Ended, Unsent}
use Rattle.child_life.specs.Start.Greetings.{CameTo, GreetedFor, IsSetUp, IsRefused, HasEnded, IsUnsent, is_of_greeting_for, is_refusal}
use Rattle.info_and_init.specs.declared.init.setup.Setup.{Setup}
use Rattle.info_and_init.specs.declared.init.setup.Setup.TheVariants.{Initialized, Stopped}
use Rattle.info_and_init.specs.Init.Setups.{setup_for, mute_outcome, gone_outcome, verdict_outcome, outcome_of}
use Rattle.run_starts.specs.Stints.{main_entry}
use Rattle.run_starts.specs.Once.Once.{is_of_task, start_in, starts_in}
use Rattle.run_starts.proofs.OnceLemmas.Closing.{closing_of, closed_so, IsStill, closing_still, idle_may_stop, over_or}
use Rattle.info_and_init.specs.Init.Inits.{is_of_setup, setup_of, IsSetup, IsTalked}
use Rattle.ann_key.proofs.Booleans.{or_false as or_none, and_false as off}
use Rattle.std.proofs.lemmas.Bool.{and_parts as both}
use Rattle.ann_key.proofs.Numbers.{same_number as same}
use Rattle.child_link.proofs.Roles.{by_append as main_both}
use Rattle.journal_model.proofs.Across.{no_why as none_why, all_in as all_weaken, none_so as any_none, idle_on}

-- ---- the entries

own_setup : (w : What) → is_of_greeting_for Init 1 w ≡ true → is_of_setup w ≡ true
own_setup (Start child slot offer) h = absurd cc
own_setup (NoStart slot) h = absurd cc
own_setup (End child why) h = refl
own_setup w h = h

startless : (c : ℕ) (w : What) → is_of_greeting_for Init c w ≡ true → start_in w ≡ None
startless c (Start child slot offer) h = absurd cc
startless c (NoStart slot) h = absurd cc
startless c w h = refl

no_starts : (c : ℕ) (more : List Entry) → list_all (λ (e : Entry). is_of_greeting_for Init c e.what) more ≡ true → starts_in more ≡ []
no_starts c [] h = refl
no_starts c (e ∷ more) h =
    let t = both (is_of_greeting_for Init c e.what) (list_all (λ (x : Entry). is_of_greeting_for Init c x.what) more) h in
    rw (startless c e.what t.0, no_starts c more t.1) refl

failless : (c : ℕ) (w : What) → is_of_greeting_for Init c w ≡ true → is_no_start w ≡ false
failless c (NoStart slot) h = absurd cc
failless c w h = refl

taskless : (w : What) → is_of_setup w ≡ true → is_of_task w ≡ false
taskless (Claim task child) h = absurd cc
taskless (Answered task answer) h = absurd cc
taskless (Noted task chunk count) h = absurd cc
taskless (Again task answer) h = absurd cc
taskless w h = refl

-- ---- what it comes to

abbrev from : Bool → Bool → Option Verdict → Option Why → Bool → Option Setup
from unstarted started verdict why mute = cond unstarted (Some (Stopped answer.StartFault)) (cond started (verdict_outcome verdict why mute) None)

done_outcome : (v : Option Verdict) (why : Option Why) (mute : Bool) → is_done v ≡ true → verdict_outcome v why mute ≡ Some Initialized
done_outcome (Some (DoneAt at)) why mute h = refl
done_outcome v why mute h = absurd cc

refused_outcome : (v : Verdict) (at : ℕ) (why : Option Why) (mute : Bool) → (v ≡ FailedAt at) ⊎ (v ≡ UnsupportedAt at) → verdict_outcome (Some v) why mute ≡ Some (setup_for v)
refused_outcome v at why mute (inl e) = rw e refl
refused_outcome v at why mute (inr e) = rw e refl

-- where neither is said of it, it is the end or the mute
silent_outcome : (v : Option Verdict) (why : Option Why) (mute : Bool) → is_done v ≡ false → is_refusal v ≡ false → verdict_outcome v why mute ≡ gone_outcome why mute
silent_outcome (Some (DoneAt at)) why mute h k = absurd cc
silent_outcome (Some (FailedAt at)) why mute h k = absurd cc
silent_outcome (Some (UnsupportedAt at)) why mute h k = absurd cc
silent_outcome v why mute h k = refl

ended_outcome : (why : Why) (mute : Bool) → is_closed why ≡ false → gone_outcome (Some why) mute ≡ Some (Stopped (answer.Ended why))
ended_outcome Closed mute h = absurd cc
ended_outcome why mute h = refl

-- ---- after the greeting

module _ (old journal : List Entry) (c : ℕ) (none : old ≡ []) (greeted : GreetedFor Init old journal 0 false c) where
  g : GreetedFor Init [] journal 0 false c
  g = subst (λ (j : List Entry). GreetedFor Init j journal 0 false c) none greeted

  one : c ≡ 1
  one = g.next

  begun : is_started journal c ≡ true
  begun = ap (λ (j : List Entry). is_started j c) g.grown ∙ ap (λ (b : Bool). b || is_started g.more c) (same c)

  unfailed : any is_no_start journal ≡ false
  unfailed = ap (any is_no_start) g.grown ∙ any_none (is_of_greeting_for Init c) is_no_start (failless c) g.more g.own

  started_once : starts_in journal ≡ Start 1 0 false ∷ []
  started_once =
      ap starts_in g.grown ∙ ap (λ (ws : List What). Start c 0 false ∷ ws) (no_starts c g.more g.own) ∙ ap (λ (k : ℕ). Start k 0 false ∷ []) one

  own_entries : list_all (λ (e : Entry). is_of_setup e.what) journal ≡ true
  own_entries =
      let rest : list_all (λ (e : Entry). is_of_setup e.what) g.more ≡ true =
      all_weaken (is_of_greeting_for Init 1) is_of_setup own_setup g.more (subst (λ (k : ℕ). list_all (λ (e : Entry). is_of_greeting_for Init k e.what) g.more ≡ true) one g.own) in
      ap (list_all (λ (e : Entry). is_of_setup e.what)) g.grown
      ∙ ap (λ (k : ℕ). is_of_setup (Start k 0 false) && list_all (λ (e : Entry). is_of_setup e.what) g.more) one ∙ rest

  talked_so : (setup : Setup) → verdict_outcome (verdict_of journal c 1) (why_of journal c) (is_mute journal c) ≡ Some setup → IsTalked journal c setup
  talked_so setup said =
      let first : verdict_outcome (verdict_of journal 1 1) (why_of journal 1) (is_mute journal 1) ≡ Some setup =
      subst (λ (k : ℕ). verdict_outcome (verdict_of journal k 1) (why_of journal k) (is_mute journal k) ≡ Some setup) one said in
      let there : is_started journal 1 ≡ true = subst (λ (k : ℕ). is_started journal k ≡ true) one begun in
      record {
        main = ap (are_by 0) g.grown ∙ g.main;
        first = one;
        started = begun;
        starts = started_once;
        own = own_entries;
        settled = g.idle;
        outcome = ap (λ (b : Bool). from b (is_started journal 1) (verdict_of journal 1 1) (why_of journal 1) (is_mute journal 1)) unfailed
            ∙ ap (λ (b : Bool). from false b (verdict_of journal 1 1) (why_of journal 1) (is_mute journal 1)) there ∙ first;
      }

  ready_talked : IsSetUp journal c → IsTalked journal c Initialized
  ready_talked h = talked_so Initialized (done_outcome (verdict_of journal c 1) (why_of journal c) (is_mute journal c) h.done)

  refused_talked : (v : Verdict) → IsRefused journal c v → IsTalked journal c (setup_for v)
  refused_talked v h =
      talked_so (setup_for v)
      (ap (λ (x : Option Verdict). verdict_outcome x (why_of journal c) (is_mute journal c)) h.settled
      ∙ refused_outcome v h.place (why_of journal c) (is_mute journal c) h.refusal)

  ended_talked : (why : Why) → HasEnded journal c why → IsTalked journal c (Stopped (answer.Ended why))
  ended_talked why h =
      talked_so (Stopped (answer.Ended why))
      (silent_outcome (verdict_of journal c 1) (why_of journal c) (is_mute journal c) h.undone h.unrefused
      ∙ ap (λ (w : Option Why). gone_outcome w (is_mute journal c)) h.ended ∙ ended_outcome why (is_mute journal c) h.kept)

  unsent_talked : IsUnsent journal c → IsTalked journal c (Stopped answer.Unsent)
  unsent_talked h =
      let live : why_of journal c ≡ None = none_why (why_of journal c) (why_is_end journal c ∙ h.live) in
      talked_so (Stopped answer.Unsent)
      (silent_outcome (verdict_of journal c 1) (why_of journal c) (is_mute journal c) h.undone h.unrefused
      ∙ ap (λ (w : Option Why). gone_outcome w (is_mute journal c)) live ∙ ap mute_outcome h.mute)

-- whatever the greeting came to
pub talked : {old journal : List Entry} {c : ℕ} → old ≡ [] → GreetedFor Init old journal 0 false c → (came : Came) → CameTo Init journal c came → IsTalked journal c (setup_of came)
talked {old} {journal} {c} none greeted (Ready tagged) h = ready_talked old journal c none greeted h.0
talked {old} {journal} {c} none greeted (Refused verdict) h = refused_talked old journal c none greeted verdict h
talked {old} {journal} {c} none greeted (Ended why) h = ended_talked old journal c none greeted why h
talked {old} {journal} {c} none greeted Unsent h = unsent_talked old journal c none greeted h

-- ---- the child is closed

pub may_close : (journal : List Entry) (c : ℕ) (setup : Setup) → IsTalked journal c setup → may_stop journal c Closed ≡ true
may_close journal c setup t = idle_may_stop journal c t.settled (any_none is_of_setup is_of_task taskless journal t.own)

option_or_none : {X : Type 0} (o : Option X) → option_or o None ≡ o
option_or_none None = refl
option_or_none (Some x) = refl

closed_verdict : (v : Option Verdict) (mute : Bool) → verdict_outcome v (Some Closed) mute ≡ verdict_outcome v None mute
closed_verdict (Some (DoneAt at)) mute = refl
closed_verdict (Some (FailedAt at)) mute = refl
closed_verdict (Some (UnsupportedAt at)) mute = refl
closed_verdict v mute = refl

abbrev closing : List Entry
closing = main_entry (End 1 Closed) ∷ []

-- the closing of a child that had not ended changes nothing of what came of it
outcome_still : (past : List Entry) → is_ended past 1 ≡ false → outcome_of (past ++ closing) ≡ outcome_of past
outcome_still past live =
    let new : List Entry = past ++ closing in
    let before : why_of past 1 ≡ None = none_why (why_of past 1) (why_is_end past 1 ∙ live) in
    let failed : any is_no_start new ≡ any is_no_start past = any-append is_no_start past closing ∙ or_none (any is_no_start past) in
    let begun : is_started new 1 ≡ is_started past 1 = any-append (starts 1) past closing ∙ or_none (is_started past 1) in
    let verdict : verdict_of new 1 1 ≡ verdict_of past 1 1 = verdict_of-append 1 1 past closing ∙ option_or_none (verdict_of past 1 1) in
    let why : why_of new 1 ≡ Some Closed = why_of-append past closing 1 ∙ ap (λ (w : Option Why). option_or w (why_of closing 1)) before in
    let mute : is_mute new 1 ≡ is_mute past 1 = any-append (mutes 1) past closing ∙ or_none (is_mute past 1) in
    ap (λ (b : Bool). from b (is_started new 1) (verdict_of new 1 1) (why_of new 1) (is_mute new 1)) failed
    ∙ ap (λ (b : Bool). from (any is_no_start past) b (verdict_of new 1 1) (why_of new 1) (is_mute new 1)) begun
    ∙ ap (λ (v : Option Verdict). from (any is_no_start past) (is_started past 1) v (why_of new 1) (is_mute new 1)) verdict
    ∙ ap (λ (w : Option Why). from (any is_no_start past) (is_started past 1) (verdict_of past 1 1) w (is_mute new 1)) why
    ∙ ap (λ (b : Bool). from (any is_no_start past) (is_started past 1) (verdict_of past 1 1) (Some Closed) b) mute
    ∙ ap (λ (o : Option Setup). cond (any is_no_start past) (Some (Stopped answer.StartFault)) (cond (is_started past 1) o None)) (closed_verdict (verdict_of past 1 1) (is_mute past 1))
    ∙ ap (λ (w : Option Why). from (any is_no_start past) (is_started past 1) (verdict_of past 1 1) w (is_mute past 1)) (sym before)

module _ (past journal : List Entry) (c : ℕ) (setup : Setup) (t : IsTalked past c setup) (closes : Closes 0 c past journal) where
  still : IsStill (closing_of (is_ended past 1) 1)
  still = closing_still (is_ended past 1)

  grown : journal ≡ past ++ closing_of (is_ended past 1) 1
  grown = closed_so 1 past journal (subst (λ (x : ℕ). Closes 0 x past journal) t.first closes)

  own_closing : (b : Bool) → list_all (λ (e : Entry). is_of_setup e.what) (closing_of b 1) ≡ true
  own_closing true = refl
  own_closing false = refl

  pub closed_starts : starts_in journal ≡ Start 1 0 false ∷ []
  closed_starts = ap starts_in grown ∙ each_of-append start_in past (closing_of (is_ended past 1) 1) ∙ (rw (t.starts, still.starts) refl)

  pub closed_setup : IsSetup journal
  closed_setup =
      let over : is_ended (past ++ closing_of (is_ended past 1) 1) 1 ≡ true = any-append (ends 1) past (closing_of (is_ended past 1) 1) ∙ over_or (is_ended past 1) in
      let idle : open_jobs past 1 ≡ [] = subst (λ (x : ℕ). open_jobs past x ≡ []) t.first t.settled in
      let own : list_all (λ (e : Entry). is_of_setup e.what) (past ++ closing_of (is_ended past 1) 1) ≡ true =
      list_all-append (λ (e : Entry). is_of_setup e.what) past (closing_of (is_ended past 1) 1) ∙ (rw (t.own, own_closing (is_ended past 1)) refl) in
      record {
        main = ap (are_by 0) grown ∙ main_both 0 past (closing_of (is_ended past 1) 1) t.main still.main;
        once = inr (inl closed_starts);
        own = ap (list_all (λ (e : Entry). is_of_setup e.what)) grown ∙ own;
        settled = ap (λ (j : List Entry). open_jobs j 1) grown ∙ idle_on past (closing_of (is_ended past 1) 1) 1 still.jobs idle;
        ended = ap (λ (j : List Entry). is_started j 1 && not (is_ended j 1)) grown ∙ (rw over (off (is_started (past ++ closing_of (is_ended past 1) 1) 1)));
      }

  pub closed_outcome : outcome_of journal ≡ Some setup
  closed_outcome = ap outcome_of grown ∙ go (is_ended past 1) refl
    where
      go : (b : Bool) → is_ended past 1 ≡ b → outcome_of (past ++ closing_of b 1) ≡ Some setup
      go true e = ap outcome_of (append-nil past) ∙ t.outcome
      go false e = outcome_still past e ∙ t.outcome

-- ---- no child

pub unstarted_setup : (journal : List Entry) → journal ≡ main_entry (NoStart 0) ∷ [] → IsSetup journal
unstarted_setup journal e = subst IsSetup (sym e) record { main = refl; once = inr (inr refl); own = refl; settled = refl; ended = refl }

pub unstarted_outcome : (journal : List Entry) → journal ≡ main_entry (NoStart 0) ∷ [] → outcome_of journal ≡ Some (Stopped answer.StartFault)
unstarted_outcome journal e = ap outcome_of e

pub nothing_setup : (journal : List Entry) → journal ≡ [] → IsSetup journal
nothing_setup journal e = subst IsSetup (sym e) record { main = refl; once = inl refl; own = refl; settled = refl; ended = refl }
