-- A child that is asked stays one that may be asked.
use Rattle.std.proofs.Common.{◌≡◌, inl, inr, ◌∙◌, ℕ, ◌≤◌, ◌+◌, List, [], ◌∷◌, ◌++◌, refl, sym, ap, subst, Bool, true, false, ◌==◌, Option, Some, None, append_assoc, append-nil, length, length-append, arith}
use Rattle.std.specs.Prelude.{◌&&◌, ◌||◌, nat_lt, Result, Ok, Err, IfOk, OnErr}
use Rattle.ann_key.specs.declared.bytes.NoMemory.{NoMemory}
use Rattle.std.specs.List.{list_all}
use Rattle.std.specs.Option.{option_or}
use Rattle.std.proofs.lemmas.List.Folds.{list_all-append}
use Rattle.annex_model.specs.Messages.{HostMessage, Transfer, Checkpresent, Remove, Transferexport, Checkpresentexport, Removeexport, Renameexport, host_line, is_askable, is_sent_key}
use Rattle.annex_model.specs.Talks.{IsLead, has_lead}
use Rattle.journal_model.specs.declared.verdict.Verdict.{Verdict}
use Rattle.journal_model.specs.declared.entry.What.{What}
use Rattle.journal_model.specs.declared.entry.What.TheVariants.{Lead, Ask, Lost}
use Rattle.journal_model.specs.declared.entry.Entry.{Entry}
use Rattle.journal_model.specs.declared.opening.Opening.{Opening}
use Rattle.journal_model.specs.Journal.{any, asks, is_started, is_tagged, open_jobs, asked_jobs, on_wire, verdict_of}
use Rattle.journal_model.specs.Legality.{Legal, is_done, is_empty, is_greeted, is_in_turn, is_prepared, is_text, prepares}
use Rattle.journal_model.specs.Shares.{are_by, by_asker, by_link}
use Rattle.journal_model.proofs.Looks.{any-append, each_of-append, verdict_of-append}
use Rattle.host_talk.specs.declared.request.request.Request.{Request}
use Rattle.host_talk.specs.Request.Requests.{message_of, name_of}
use Rattle.host_talk.proofs.RequestLemmas.Reading.{unnamed}
use Rattle.host_core.specs.Steps.{group_of, is_named_well, may_request, next_job}
use Rattle.child_link.specs.Alone.{AskedAlone, KeepsLink}
use Rattle.child_life.proofs.StartLemmas.Jobs.{idle_asked}
use Rattle.mirror_children.specs.Children.{ChildValue, IsLinked, IsServing}
use Rattle.mirror_children.specs.Rule.{is_mirrored, IsAsked}
use Rattle.mirror_children.proofs.Told.{asked_told}
use Rattle.std.proofs.lemmas.Bool.{and_parts as both}
use Rattle.ann_key.proofs.Booleans.{or_true}
use Rattle.child_link.proofs.Roles.{by_append as main_both}

-- ---- it may be asked

in_turn : (past : List Entry) (job : ℕ) (q : HostMessage) → is_mirrored q ≡ true → nat_lt 1 job ≡ true → (is_in_turn past 1 job q ≡ true) × (is_askable q ≡ true)
in_turn past job (Transfer store key file) h late =
    let t : (is_text file ≡ true) × (is_sent_key key ≡ true) = both (is_text file) (is_sent_key key) h in
    (rw (late, t.0) refl, rw t.1 refl)
in_turn past job (Checkpresent key) h late = (rw late refl, h)
in_turn past job (Remove key) h late = (rw late refl, h)
in_turn past job q h late = absurd cc

greeted_late : (past : List Entry) (job : ℕ) → 2 ≤ job → is_prepared past 1 ≡ true → is_greeted past 1 job ≡ true
greeted_late past job late h =
    let zeroth : (job == 0) ≡ false = grind (arith, late) in
    let first : (job == 1) ≡ false = grind (arith, late) in
    rw (zeroth, first, h) refl

pub started : (c : ChildValue) → IsLinked c → is_started c.journal 1 ≡ true
started c l = ap (λ (x : List Entry). is_started x 1) l.first

pub may_ask : (c : ChildValue) (d : ℕ) (q : HostMessage) → d ≡ 1 → IsServing c → is_mirrored q ≡ true → may_request c.journal 0 0 d q ≡ true
may_ask c d q e s h =
    let job : ℕ = next_job c.journal 1 in
    let late : nat_lt 1 job ≡ true = grind (arith, s.greeted) in
    let turn = in_turn c.journal job q h late in
    let free : (is_tagged c.journal 1 || is_empty (open_jobs c.journal 1)) ≡ true = ap (λ (ks : List ℕ). is_tagged c.journal 1 || is_empty ks) s.linked.idle ∙ or_true (is_tagged c.journal 1) in
    ap (λ (k : ℕ). may_request c.journal 0 0 k q) e
    ∙ all_five (is_started c.journal 1) (is_greeted c.journal 1 job) (is_tagged c.journal 1 || is_empty (open_jobs c.journal 1)) (is_in_turn c.journal 1 job q) (is_askable q)
    (started c s.linked) (greeted_late c.journal job s.greeted s.prepared) free turn.0 turn.1
  where
    all_five : (a b l m n : Bool) → a ≡ true → b ≡ true → l ≡ true → m ≡ true → n ≡ true → (a && (b && true && l) && m && n) ≡ true
    all_five a b l m n u v x y z = rw (u, v, x, y, z) refl

-- ---- it was asked

all_both : (xs ys : List Entry) → list_all (λ (e : Entry). by_asker 1 e.what) xs ≡ true → list_all (λ (e : Entry). by_asker 1 e.what) ys ≡ true → list_all (λ (e : Entry). by_asker 1 e.what) (xs ++ ys) ≡ true
all_both xs ys h k = list_all-append (λ (e : Entry). by_asker 1 e.what) xs ys ∙ ap (λ (b : Bool). b && list_all (λ (e : Entry). by_asker 1 e.what) ys) h ∙ k

link_asks : (w : What) → by_link 1 w ≡ true → by_asker 1 w ≡ true
link_asks (Lead child job line) h = absurd cc
link_asks (Ask child job task line) h = absurd cc
link_asks (Lost child task) h = absurd cc
link_asks w h = h

links_ask : (es : List Entry) → list_all (λ (e : Entry). by_link 1 e.what) es ≡ true → list_all (λ (e : Entry). by_asker 1 e.what) es ≡ true
links_ask [] h = refl
links_ask (e ∷ es) h =
    let t = both (by_link 1 e.what) (list_all (λ (x : Entry). by_link 1 x.what) es) h in
    rw (link_asks e.what t.0, links_ask es t.1) refl

prepared_on : (past more : List Entry) → is_prepared past 1 ≡ true → is_prepared (past ++ more) 1 ≡ true
prepared_on past more h = rw (done, asked) refl
  where
    s : (is_done (verdict_of past 1 1) ≡ true) × (any (prepares 1) past ≡ true)
    s = both (is_done (verdict_of past 1 1)) (any (prepares 1) past) h

    go : (v : Option Verdict) → is_done v ≡ true → is_done (option_or v (verdict_of more 1 1)) ≡ true
    go None h = absurd cc
    go (Some v) h = h

    done : is_done (verdict_of (past ++ more) 1 1) ≡ true
    done = ap is_done (verdict_of-append 1 1 past more) ∙ go (verdict_of past 1 1) s.0

    asked : any (prepares 1) (past ++ more) ≡ true
    asked = any-append (prepares 1) past more ∙ ap (λ (b : Bool). b || any (prepares 1) more) s.1

-- what was appended
record Asked (old new : List Entry) : Type 0 where
  pub more : List Entry
  pub is : new ≡ old ++ more
  pub own : list_all (λ e. by_asker 1 e.what) more ≡ true
  pub main : are_by 0 more ≡ true

asked_more : (o : Opening) (old new : List Entry) (q : HostMessage) (v : Verdict) → AskedAlone o old new 0 1 0 None q v → Asked old new
asked_more o old new q v (inl s) =
    let request : List Entry = group_of o old 0 (Ask 1 (next_job old 1) 0 (on_wire old 1 (next_job old 1) (host_line q))) in
    record {
      more = request ++ s.goes.more;
      is = s.goes.is ∙ append_assoc old request s.goes.more;
      own = all_both request s.goes.more refl (links_ask s.goes.more s.goes.quiet);
      main = main_both 0 request s.goes.more refl s.goes.own;
    }
asked_more o old new q v (inr l) = record { more = group_of o old 0 (Lost 1 0); is = l.made; own = refl; main = refl }

-- the journal has grown so, and the child is idle, and so it serves on
serves_grown : (c c' : ChildValue) → IsServing c → Asked c.journal c'.journal → Legal c'.opening c'.journal → open_jobs c'.journal 1 ≡ []
    → KeepsLink c.journal c'.journal c.ear c'.ear c.mouth c'.mouth → IsServing c'
serves_grown c c' s a legal idle k = record {
  linked = record {
    legal = legal;
    more = s.linked.more ++ a.more;
    first = a.is ∙ ap (λ (x : List Entry). x ++ a.more) s.linked.first;
    own = all_both s.linked.more a.more s.linked.own a.own;
    main = main_both 0 s.linked.more a.more s.linked.main a.main;
    idle = idle;
    child = k.same_ear.0 ∙ s.linked.child;
    both = k.same_mouth.0 ∙ s.linked.both ∙ sym k.same_ear.0;
    wired = k.wired s.linked.wired;
  };
  prepared = ap (λ (x : List Entry). is_prepared x 1) a.is ∙ prepared_on c.journal a.more s.prepared;
  greeted =
      let grown : asked_jobs c'.journal 1 ≡ asked_jobs c.journal 1 ++ asked_jobs a.more 1 = ap (λ (x : List Entry). asked_jobs x 1) a.is ∙ each_of-append (asks 1) c.journal a.more in
      let longer : next_job c'.journal 1 ≡ next_job c.journal 1 + length (asked_jobs a.more 1) = ap (λ (x : List ℕ). length x) grown ∙ length-append (asked_jobs c.journal 1) (asked_jobs a.more 1) in
      omega (arith, s.greeted, longer);
}

pub serves_asked : (c c' : ChildValue) (q : HostMessage) (v : Verdict) → IsServing c → AskedAlone c.opening c.journal c'.journal 0 1 0 None q v → Legal c'.opening c'.journal
    → KeepsLink c.journal c'.journal c.ear c'.ear c.mouth c'.mouth → IsServing c'
serves_asked c c' q v s a legal k =
    serves_grown c c' s (asked_more c.opening c.journal c'.journal q v a) legal (idle_asked c.opening c.journal c'.journal 0 1 0 q v s.linked.idle a) k

-- nothing was asked
pub serves_same : (c c' : ChildValue) → IsServing c → c'.journal ≡ c.journal → Legal c'.opening c'.journal → KeepsLink c.journal c'.journal c.ear c'.ear c.mouth c'.mouth → IsServing c'
serves_same c c' s same legal k =
    serves_grown c c' s (record { more = []; is = same ∙ sym (append-nil c.journal); own = refl; main = refl }) legal (ap (λ (x : List Entry). open_jobs x 1) same ∙ s.linked.idle) k

-- ---- whatever came of asking

-- no such request has a lead, so no name was said before it
pub mirrored_leads : (q : HostMessage) → is_mirrored q ≡ true → has_lead q ≡ false
mirrored_leads (Transferexport store key file) h = absurd cc
mirrored_leads (Checkpresentexport key) h = absurd cc
mirrored_leads (Removeexport key) h = absurd cc
mirrored_leads (Renameexport key onto) h = absurd cc
mirrored_leads q h = refl

mirrored_plain : (q : HostMessage) → is_mirrored q ≡ true → IsLead q []
mirrored_plain (Transfer store key file) h = refl
mirrored_plain (Checkpresent key) h = refl
mirrored_plain (Remove key) h = refl
mirrored_plain q h = absurd cc

pub mirrored_named : (r : Request) → is_mirrored (message_of r) ≡ true → is_named_well (name_of r) ≡ true
mirrored_named r h = ap is_named_well (unnamed r (mirrored_leads (message_of r) h))

pub asked_plain : (o : Opening) (old new : List Entry) (k : ℕ) (r : Request) (x : Result Verdict NoMemory) → is_mirrored (message_of r) ≡ true → IfOk x (AskedAlone o old new 0 k 0 (name_of r) (message_of r))
    → IfOk x (AskedAlone o old new 0 k 0 None (message_of r))
asked_plain o old new k r x h a = subst (λ (n : Option (List ℕ)). IfOk x (AskedAlone o old new 0 k 0 n (message_of r))) (unnamed r (mirrored_leads (message_of r) h)) a

module _ (r : Result Verdict NoMemory) (q : HostMessage) (c c' : ChildValue) (k : ℕ) (first : k ≡ 1) (asked : IfOk r (AskedAlone c.opening c.journal c'.journal 0 k 0 None q)) where
  asked_one : IfOk r (AskedAlone c.opening c.journal c'.journal 0 1 0 None q)
  asked_one = subst (λ (n : ℕ). IfOk r (AskedAlone c.opening c.journal c'.journal 0 n 0 None q)) first asked

  pub asked_if : IsLinked c → is_mirrored q ≡ true → Legal c'.opening c'.journal → c'.opening ≡ c.opening → c'.number ≡ c.number → IfOk r (IsAsked q c c')
  asked_if linked mirrored legal opening number = go r asked_one
    where
      go : (x : Result Verdict NoMemory) → IfOk x (AskedAlone c.opening c.journal c'.journal 0 1 0 None q) → IfOk x (IsAsked q c c')
      go (Ok v) a = record { asked = a; told = asked_told c c' q v linked (in_turn c.journal 2 q mirrored refl).1 (mirrored_plain q mirrored) legal a; opening = opening; number = number }
      go (Err e) a = tt

  pub serving_if : IsServing c → OnErr r (c'.journal ≡ c.journal) → Legal c'.opening c'.journal → KeepsLink c.journal c'.journal c.ear c'.ear c.mouth c'.mouth → IsServing c'
  serving_if s same legal link = go r asked_one same
    where
      go : (x : Result Verdict NoMemory) → IfOk x (AskedAlone c.opening c.journal c'.journal 0 1 0 None q) → OnErr x (c'.journal ≡ c.journal) → IsServing c'
      go (Ok v) a e = serves_asked c c' q v s a legal link
      go (Err x) a e = serves_same c c' s e legal link
