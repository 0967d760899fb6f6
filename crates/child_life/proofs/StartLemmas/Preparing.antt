-- From a child's version over its extensions to its being prepared, or to its end.
use Rattle.std.proofs.Common.{◌≡◌, ℕ, ◌≤◌, List, [], ◌∷◌, ◌++◌, refl, sym, ap, subst, ◌∙◌, length, arith, Bool, true, false, not, cond, ◌==◌, Some, None, Option, ◌⊎◌, inl, inr}
use Rattle.std.specs.Prelude.{◌&&◌, ◌||◌, filter, find, option_and_then, is_some}
use Rattle.std.specs.List.{list_all, list_any, cons_option}
use Rattle.journal_model.specs.declared.verdict.Why.{Why}
use Rattle.journal_model.specs.declared.verdict.Verdict.{Verdict}
use Rattle.journal_model.specs.declared.verdict.Verdict.TheVariants.{Failed as FailedAt, Unsupported as UnsupportedAt}
use Rattle.annex_model.specs.Messages.{HostMessage, is_askable}
use Rattle.journal_model.specs.declared.entry.What.{What}
use Rattle.journal_model.specs.declared.entry.What.TheVariants.{Ask, End}
use Rattle.journal_model.specs.declared.entry.Entry.{Entry}
use Rattle.journal_model.specs.declared.opening.Opening.{Opening}
use Rattle.journal_model.specs.Journal.{any, asks, starts, ends, end_why, is_started, is_ended, is_mute, is_settled, is_tagged, asked_jobs, open_jobs, verdict_of, why_of}
use Rattle.journal_model.specs.Legality.{Legal, asks_prepare, prepares, is_done, is_empty, is_greeted, is_in_turn, may_ask, may_work, said_version, offered_names}
use Rattle.journal_model.proofs.Looks.{any-append, each_of-append}
use Rattle.journal_model.proofs.Linking.{why_alone, why_is_end}
use Rattle.host_core.specs.Steps.{next_job, may_request}
use Rattle.journal_model.specs.Shares.{is_closed}
use Rattle.child_link.specs.Alone.{GoesOn}
use Rattle.child_life.specs.declared.start.starting.RequestOutcome.{RequestOutcome}
use Rattle.child_life.specs.declared.start.starting.RequestOutcome.TheVariants.{Done, Refused, Gone}
use Rattle.child_life.specs.declared.start.greeting.Mode.{Mode}
use Rattle.child_life.specs.declared.start.greeting.Mode.TheVariants.{Serve, Init}
use Rattle.child_life.specs.Start.Greetings.{is_greeting_line, is_of_greeting, is_of_greeting_for, is_refusal, loses, IsReadyFor, HasEnded, IsUnsent}
use Rattle.child_life.specs.Start.Stages.{is_greeting, is_asked_for, last_request, HasBegun, IsMain, MayAsk, GreetsOn, IsGoneNext, AsksNext, IsGoneUnready, Prepares}
use Rattle.child_life.proofs.StartLemmas.Jobs.{goes_jobs, goes_names}
use Rattle.child_life.proofs.StartLemmas.Losing.{links_unlost, unlost_more, unlost_on}
use Rattle.child_life.proofs.StartLemmas.Requests.{none_later, greets_goes, greets_both}
use Rattle.std.proofs.lemmas.Bool.{and_from as two_true, and_parts as both, eqb-true as same_number}
use Rattle.ann_key.proofs.Booleans.{or_true}
use Rattle.journal_model.proofs.Across.{verdict_settles as verdict_settled}

all_three : (a b c : Bool) → a ≡ true → b ≡ true → c ≡ true → (a && b && c) ≡ true
all_three a b c h k l = rw (h, k, l) refl

-- what such a child is asked last is a request of its greeting
pub asked_for : (q : HostMessage) (mode : Mode) → q ≡ last_request mode → is_asked_for q mode ≡ true
asked_for q mode e = subst (λ (x : HostMessage). is_asked_for x mode ≡ true) (sym e) (by_mode mode)
  where
    by_mode : (mode : Mode) → is_asked_for (last_request mode) mode ≡ true
    by_mode Serve = refl
    by_mode Init = refl

pub kind_of : (q : HostMessage) (mode : Mode) → q ≡ last_request mode → is_greeting q ≡ true
kind_of q mode e = subst (λ (x : HostMessage). is_greeting x ≡ true) (sym e) (by_mode mode)
  where
    by_mode : (mode : Mode) → is_greeting (last_request mode) ≡ true
    by_mode Serve = refl
    by_mode Init = refl

pub greets_started : {mode : Mode} (old new : List Entry) (c d : ℕ) → d ≡ c → GreetsOn mode old new c → is_started old c ≡ true → is_started new d ≡ true
greets_started old new c d e g a =
    ap (is_started new) e ∙ ap (λ (x : List Entry). is_started x c) g.is ∙ any-append (starts c) old g.more ∙ ap (λ (b : Bool). b || is_started g.more c) a

-- the main thread's way stays so
pub main_on : {n m : ℕ} {a b : Bool} → m ≡ n → b ≡ a → IsMain n a → IsMain m b
main_on e f h = record { first = e ∙ h.first; lone = f ∙ h.lone }

pub started_after : {n : ℕ} (old new : List Entry) (c d : ℕ) → d ≡ c → GoesOn n c old new → is_started old c ≡ true → is_started new d ≡ true
started_after old new c d e g a =
    ap (is_started new) e ∙ ap (λ (x : List Entry). is_started x c) g.is ∙ any-append (starts c) old g.more ∙ ap (λ (b : Bool). b || is_started g.more c) a

-- a child that was asked nothing has no open job
pub unasked_idle : (journal : List Entry) (c : ℕ) → asked_jobs journal c ≡ [] → open_jobs journal c ≡ []
unasked_idle journal c none = ap (filter (λ (k : ℕ). not (is_settled journal c k))) none

done_settled : (journal : List Entry) (c k : ℕ) → is_done (verdict_of journal c k) ≡ true → is_settled journal c k ≡ true
done_settled journal c k h = go (verdict_of journal c k) refl h
  where
    go : (v : Option Verdict) → verdict_of journal c k ≡ v → is_done v ≡ true → is_settled journal c k ≡ true
    go None e h = absurd cc
    go (Some v) e h = verdict_settled journal c k v e

refused_undone : (v : Verdict) (at : ℕ) → (v ≡ FailedAt at) ⊎ (v ≡ UnsupportedAt at) → is_done (Some v) ≡ false
refused_undone v at (inl e) = ap (λ (x : Verdict). is_done (Some x)) e
refused_undone v at (inr e) = ap (λ (x : Verdict). is_done (Some x)) e

-- a request of the greeting that is job 1 is to get ready
second_prepares : (c : ℕ) (more : List Entry) → list_all (λ (e : Entry). is_of_greeting c e.what) more ≡ true
    → list_any (λ k. k == 1) (asked_jobs more c) ≡ true → any (prepares c) more ≡ true
second_prepares c [] own second = absurd cc
second_prepares c (e ∷ more) own second =
    let t = both (is_of_greeting c e.what) (list_all (λ (x : Entry). is_of_greeting c x.what) more) own in
    go e.what t.0 second (second_prepares c more t.1)
  where
    here : (a t z p o : Bool) → (a && (t && (z || (o && p)))) ≡ true → o ≡ true → z ≡ false → (a && o && p) ≡ true
    here true true false true true h e f = refl
    here true true z p false h e f = absurd cc
    here true true true p true h e f = absurd cc
    here true true false false true h e f = absurd cc
    here true false z p o h e f = absurd cc
    here false t z p o h e f = absurd cc

    go : (w : What) → is_of_greeting c w ≡ true → list_any (λ k. k == 1) (cons_option (asks c w) (asked_jobs more c)) ≡ true
        → (list_any (λ k. k == 1) (asked_jobs more c) ≡ true → any (prepares c) more ≡ true) → (prepares c w || any (prepares c) more) ≡ true
    go (Ask child job task line) o s r = by_child (child == c) refl s
      where
        by_job : (b : Bool) → (job == 1) ≡ b → (b || list_any (λ k. k == 1) (asked_jobs more c)) ≡ true → (prepares c (Ask child job task line) || any (prepares c) more) ≡ true
        by_job true e h =
            let zero : (job == 0) ≡ false = ap (λ (k : ℕ). k == 0) (same_number job 1 e) in
            let p : prepares c (Ask child job task line) ≡ true = here (child == c) (task == 0) (job == 0) (asks_prepare line) (job == 1) o e zero in
            ap (λ (b : Bool). b || any (prepares c) more) p
        by_job false e h = ap (λ (b : Bool). prepares c (Ask child job task line) || b) (r h) ∙ or_true (prepares c (Ask child job task line))

        by_child : (b : Bool) → (child == c) ≡ b → list_any (λ k. k == 1) (cons_option (cond {A = Option ℕ} b (Some job) None) (asked_jobs more c)) ≡ true
            → (prepares c (Ask child job task line) || any (prepares c) more) ≡ true
        by_child true e h = by_job (job == 1) refl h
        by_child false e h = absurd (let bad : false ≡ true = ap (λ (b : Bool). b && (task == 0 && is_greeting_line job line)) (sym e) ∙ o in cc)
    go w o s r = r s

-- ---- after EXTENSIONS

module _ (old mid : List Entry) (c : ℕ) (none : asked_jobs old c ≡ []) where
  first_job : next_job old c ≡ 0
  first_job = ap length none

  -- the child is gone, so PREPARE was not asked
  pub unprepared_first : (o : Opening) → Legal o mid → IsGoneNext old mid c → IsGoneUnready mid c
  unprepared_first o legal n =
      let none : verdict_of mid c 1 ≡ None = none_later o mid c 1 legal (few n.jobs) in
      record { gone = n.gone; undone = ap is_done none; unrefused = ap is_refusal none }
    where
      few : (asked_jobs mid c ≡ asked_jobs old c) ⊎ (asked_jobs mid c ≡ asked_jobs old c ++ next_job old c ∷ []) → length (asked_jobs mid c) ≤ 1
      few (inl e) = let n : length (asked_jobs mid c) ≡ 0 = ap length (e ∙ none) in omega (arith, n)
      few (inr e) = let n : length (asked_jobs mid c) ≡ 1 = ap length (e ∙ ap (λ (ks : List ℕ). ks ++ length ks ∷ []) none) in omega (arith, n)

  module _ (a : RequestOutcome) (here : a ≡ Gone → ⊥) (n : AsksNext old mid c a) where
    one_job : asked_jobs mid c ≡ 0 ∷ []
    one_job = go a here n ∙ ap (λ (ks : List ℕ). ks ++ length ks ∷ []) none
      where
        go : (a : RequestOutcome) → (a ≡ Gone → ⊥) → AsksNext old mid c a → asked_jobs mid c ≡ asked_jobs old c ++ next_job old c ∷ []
        go Done here n = n.jobs
        go (Refused verdict) here n = n.jobs
        go Gone here n = absurd (here refl)

    -- no request was lost
    pub unlost_first : any (loses c) mid ≡ any (loses c) old
    unlost_first = go a here n
      where
        go : (a : RequestOutcome) → (a ≡ Gone → ⊥) → AsksNext old mid c a → any (loses c) mid ≡ any (loses c) old
        go Done here n = n.unlost
        go (Refused verdict) here n = n.unlost
        go Gone here n = absurd (here refl)

    settled : is_settled mid c 0 ≡ true
    settled = go a here n
      where
        go : (a : RequestOutcome) → (a ≡ Gone → ⊥) → AsksNext old mid c a → is_settled mid c 0 ≡ true
        go Done here n = done_settled mid c 0 (ap (λ (k : ℕ). is_done (verdict_of mid c k)) (sym first_job) ∙ n.done)
        go (Refused verdict) here n = verdict_settled mid c 0 verdict (ap (verdict_of mid c) (sym first_job) ∙ n.settled)
        go Gone here n = absurd (here refl)

    askable : (mode : Mode) → is_askable (last_request mode) ≡ true
    askable Serve = refl
    askable Init = refl

    in_turn : (mode : Mode) → is_in_turn mid c (next_job mid c) (last_request mode) ≡ true
    in_turn Serve = ap (λ (ks : List ℕ). length ks == 1 && true) one_job
    in_turn Init = ap (λ (ks : List ℕ). length ks == 1 && true) one_job

    -- PREPARE or INITREMOTE may be asked
    pub may_prepare : (mode : Mode) (by d : ℕ) → d ≡ c → by ≡ 0 → is_started old c ≡ true → GreetsOn mode old mid c → may_request mid by 0 d (last_request mode) ≡ true
    may_prepare mode by d e main started g =
        let q : HostMessage = last_request mode in
        let greeted : is_greeted mid c (next_job mid c) ≡ true = ap (λ (ks : List ℕ). is_greeted mid c (length ks)) one_job ∙ settled in
        let work : may_work mid by 0 c ≡ true = ap (λ (k : ℕ). may_work mid k 0 c) main in
        let free : (is_tagged mid c || is_empty (open_jobs mid c)) ≡ true = ap (λ (ks : List ℕ). is_tagged mid c || is_empty ks) g.idle ∙ or_true (is_tagged mid c) in
        let may : may_ask mid by 0 c ≡ true = all_three (is_greeted mid c (next_job mid c)) (may_work mid by 0 c) (is_tagged mid c || is_empty (open_jobs mid c)) greeted work free in
        let turn : is_in_turn mid c (next_job mid c) q ≡ true = in_turn mode in
        let three : (is_started mid c && may_ask mid by 0 c && is_in_turn mid c (next_job mid c) q) ≡ true =
        all_three (is_started mid c) (may_ask mid by 0 c) (is_in_turn mid c (next_job mid c) q) (greets_started old mid c c refl g started) may turn in
        ap (λ (k : ℕ). may_request mid by 0 k q) e ∙ two_true _ (is_askable q) three (askable mode)

    -- PREPARE was asked
    pub prepared_second : (mode : Mode) (new : List Entry) (b : RequestOutcome) → any (loses c) old ≡ false → GreetsOn mode mid new c → AsksNext mid new c b → Prepares mode new c b
    prepared_second mode new Done clean g a =
        let done : is_done (verdict_of new c 1) ≡ true = ap (λ (ks : List ℕ). is_done (verdict_of new c (length ks))) (sym one_job) ∙ a.done in
        let jobs : asked_jobs new c ≡ 0 ∷ 1 ∷ [] = a.jobs ∙ ap (λ (ks : List ℕ). ks ++ length ks ∷ []) one_job in
        ready mode done jobs (a.unlost ∙ unlost_first ∙ clean) g
      where
        ready : (mode : Mode) → is_done (verdict_of new c 1) ≡ true → asked_jobs new c ≡ 0 ∷ 1 ∷ [] → any (loses c) new ≡ false → GreetsOn mode mid new c → IsReadyFor mode new c
        ready Init done jobs unlost g = record { done = done; jobs = jobs; unlost = unlost }
        ready Serve done jobs unlost g =
            let later : (0 ∷ []) ++ asked_jobs g.more c ≡ 0 ∷ 1 ∷ [] =
            sym (ap (λ (x : List Entry). asked_jobs x c) g.is ∙ each_of-append (asks c) mid g.more ∙ ap (λ (ks : List ℕ). ks ++ asked_jobs g.more c) one_job) ∙ jobs in
            let second : list_any (λ k. k == 1) (asked_jobs g.more c) ≡ true = ap (list_any (λ k. k == 1)) later in
            let asked : any (prepares c) new ≡ true =
            ap (any (prepares c)) g.is ∙ any-append (prepares c) mid g.more ∙ ap (λ (b : Bool). any (prepares c) mid || b) (second_prepares c g.more g.own second) ∙ or_true (any (prepares c) mid) in
            record { prepared = rw (done, asked) refl; jobs = jobs; unlost = unlost }
    prepared_second mode new (Refused verdict) clean g a =
        let told : verdict_of new c 1 ≡ Some verdict = ap (λ (ks : List ℕ). verdict_of new c (length ks)) (sym one_job) ∙ a.settled in
        record {
          undone = ap is_done told ∙ refused_undone verdict a.place a.refusal;
          settled = told;
          place = a.place;
          refusal = a.refusal;
          jobs = a.jobs ∙ ap (λ (ks : List ℕ). ks ++ length ks ∷ []) one_job;
        }
    prepared_second mode new Gone clean g a = record {
      gone = a.gone;
      undone = ap (λ (ks : List ℕ). is_done (verdict_of new c (length ks))) (sym one_job) ∙ a.undone;
      unrefused = ap (λ (ks : List ℕ). is_refusal (verdict_of new c (length ks))) (sym one_job) ∙ a.unrefused;
    }

-- ---- before and after both

-- the child has said its version
pub may_ask_first : {n : ℕ} (old mid : List Entry) (c d : ℕ) (offer : Bool) → d ≡ c → HasBegun old c offer → GoesOn n c old mid → said_version mid c ≡ true → MayAsk mid d offer
may_ask_first old mid c d offer e h g said = record {
  started = started_after old mid c d e g h.started;
  version = ap (said_version mid) e ∙ said;
  jobs = ap (asked_jobs mid) e ∙ goes_jobs old mid c g ∙ h.jobs;
  unlost = ap (λ (k : ℕ). any (loses k) mid) e ∙ unlost_on c old mid g.more g.is (links_unlost c c g.more g.quiet) ∙ h.unlost;
  names = ap (offered_names mid) e ∙ goes_names old mid c g ∙ h.names;
}

-- ---- no greeting closes its child

greeting_keeps : (mode : Mode) (c : ℕ) (w : What) (why : Why) → is_of_greeting_for mode c w ≡ true → end_why c w ≡ Some why → is_closed why ≡ false
greeting_keeps mode c (End child x) why own is = go (child == c) is
  where
    open_end : (b : Bool) → not b ≡ true → b ≡ false
    open_end true h = absurd cc
    open_end false h = refl

    go : (b : Bool) → cond b (Some x) None ≡ Some why → is_closed why ≡ false
    go true e = let same_why : x ≡ why = cc in ap is_closed (sym same_why) ∙ open_end (is_closed x) (both (child == c) (not (is_closed x)) own).1
    go false e = absurd cc
greeting_keeps mode c w why own is = absurd cc

greetings_keep : (mode : Mode) (c : ℕ) (more : List Entry) (why : Why) → list_all (λ (e : Entry). is_of_greeting_for mode c e.what) more ≡ true → why_of more c ≡ Some why → is_closed why ≡ false
greetings_keep mode c [] why own is = absurd cc
greetings_keep mode c (e ∷ more) why own is =
    let t : (is_of_greeting_for mode c e.what ≡ true) × (list_all (λ (x : Entry). is_of_greeting_for mode c x.what) more ≡ true) =
    both (is_of_greeting_for mode c e.what) (list_all (λ (x : Entry). is_of_greeting_for mode c x.what) more) own in
    go t.0 (ends c e.what) is (greetings_keep mode c more why t.1)
  where
    go : is_of_greeting_for mode c e.what ≡ true → (b : Bool)
        → option_and_then (λ (x : Entry). end_why c x.what) (cond b (Some e) (find (λ (x : Entry). ends c x.what) more)) ≡ Some why → (why_of more c ≡ Some why → is_closed why ≡ false)
        → is_closed why ≡ false
    go first true k later = greeting_keeps mode c e.what why first k
    go first false k later = later k

-- a child that had begun was ended in its greeting
pub greeted_kept : {mode : Mode} (old new : List Entry) (c : ℕ) (offer : Bool) (why : Why) → HasBegun old c offer → GreetsOn mode old new c → why_of new c ≡ Some why → is_closed why ≡ false
greeted_kept {mode} old new c offer why h g is =
    greetings_keep mode c g.more why g.own (sym (ap (λ (j : List Entry). why_of j c) g.is ∙ why_alone old g.more c h.live) ∙ is)

-- the child ended before it was asked
pub ended_first : {n : ℕ} (o : Opening) (old new : List Entry) (c : ℕ) (offer : Bool) (why : Why) → n ≡ 0 → Legal o new → HasBegun old c offer → GoesOn n c old new → Some why ≡ why_of new c
    → HasEnded new c why
ended_first o old new c offer why first legal h g is =
    let none : length (asked_jobs new c) ≡ 0 = ap length (goes_jobs old new c g ∙ h.jobs) in
    let later : verdict_of new c 1 ≡ None = none_later o new c 1 legal (omega (arith, none)) in
    record {
      undone = ap is_done later;
      unrefused = ap is_refusal later;
      ended = sym is;
      kept = greeted_kept {mode = Serve} old new c offer why h (greets_goes old new c first g (unasked_idle old c h.jobs)) (sym is);
    }

-- the child ended, by its number and the journal under other names
pub ended_told : {mode : Mode} (old journal last : List Entry) (c k : ℕ) (offer : Bool) (why : Why) → last ≡ journal → k ≡ c → HasBegun old c offer → GreetsOn mode old last c → IsGoneUnready journal c
    → Some why ≡ why_of journal k → HasEnded last c why
ended_told old journal last c k offer why l e h g p is =
    let ended : why_of last c ≡ Some why = ap (λ (x : List Entry). why_of x c) l ∙ ap (why_of journal) (sym e) ∙ sym is in
    record {
      undone = ap (λ (x : List Entry). is_done (verdict_of x c 1)) l ∙ p.undone;
      unrefused = ap (λ (x : List Entry). is_refusal (verdict_of x c 1)) l ∙ p.unrefused;
      ended = ended;
      kept = greeted_kept old last c offer why h g ended;
    }

-- a child that is gone and has not ended is mute
pub unsent_told : (journal last : List Entry) (c k : ℕ) → last ≡ journal → k ≡ c → IsGoneUnready journal c → None ≡ why_of journal k → IsUnsent last c
unsent_told journal last c k l e p is =
    let live : is_ended journal c ≡ false = sym (why_is_end journal c) ∙ ap is_some (sym (is ∙ ap (why_of journal) e)) in
    subst (λ (x : List Entry). IsUnsent x c) (sym l)
    (record { undone = p.undone; unrefused = p.unrefused; live = live; mute = sym (ap (λ (b : Bool). b || is_mute journal c) live) ∙ p.gone })

-- what was prepared or not, by the child's number under another name
pub prepares_as : (mode : Mode) (journal : List Entry) (c d : ℕ) (b r : RequestOutcome) → d ≡ c → r ≡ b → Prepares mode journal d r → Prepares mode journal c b
prepares_as mode journal c d b r e f p = subst (λ (x : RequestOutcome). Prepares mode journal c x) f (subst (λ (k : ℕ). Prepares mode journal k r) e p)

pub greets_as : {mode : Mode} (old new : List Entry) (c d : ℕ) → d ≡ c → GreetsOn mode old new d → GreetsOn mode old new c
greets_as {mode} old new c d e g = subst (λ (k : ℕ). GreetsOn mode old new k) e g

-- after the version stands the rest of the greeting
pub greets_heard : {mode : Mode} {n : ℕ} (old mid new last : List Entry) (c d : ℕ) (offer : Bool) → n ≡ 0 → d ≡ c → HasBegun old c offer → GoesOn n c old mid → GreetsOn mode mid new d → last ≡ new → GreetsOn mode old last c
greets_heard {mode} old mid new last c d offer first e h g more l =
    let heard : GreetsOn mode old mid c = greets_goes old mid c first g (unasked_idle old c h.jobs) in
    let unlost : any (loses c) heard.more ≡ false = unlost_more c old mid heard.more heard.is (unlost_on c old mid g.more g.is (links_unlost c c g.more g.quiet)) h.unlost in
    subst (λ (x : List Entry). GreetsOn mode old x c) (sym l) (greets_both old mid new c heard (greets_as mid new c d e more) unlost)
