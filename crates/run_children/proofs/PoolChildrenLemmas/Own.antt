-- What entries of one child alone leave, after a start.
use Rattle.std.proofs.Common.{◌≡◌, ℕ, ◌<◌, ◌≤◌, List, [], ◌∷◌, ◌++◌, refl, sym, ap, ◌∙◌, Bool, true, false, not, ◌==◌, cond, Some, None, Option, arith, nat_le, nat_lt}
use Rattle.std.specs.Prelude.{◌&&◌, ◌||◌, is_some}
use Rattle.std.specs.List.{list_all, list_any, cons_option}
use Rattle.std.proofs.lemmas.Bool.Decides.{nat_tests}
use Rattle.journal_model.specs.declared.verdict.Verdict.{Verdict}
use Rattle.journal_model.specs.declared.entry.What.{What}
use Rattle.journal_model.specs.declared.entry.What.TheVariants.{Claim, Start, NoStart, Lead, Ask, Put, Sent, Mute, Got, End, Verdict as Settled, Lost, Answer as Answered, Note, Again}
use Rattle.journal_model.specs.declared.entry.Entry.{Entry}
use Rattle.journal_model.specs.declared.opening.Opening.{Opening}
use Rattle.journal_model.specs.Journal.{any, asks, asked_jobs, each_of, ends, is_ended, is_open, is_started, open_jobs, starts, verdict_of, why_of, writes}
use Rattle.journal_model.specs.Legality.{Legal, asks_prepare, count, is_busy, is_done, is_prepared, is_start, holder, prepares}
use Rattle.journal_model.specs.Shares.{is_closed, is_of_child}
use Rattle.journal_model.proofs.Fresh.{fresh}
use Rattle.journal_model.proofs.Holding.{closed, claimed, holder_append, unturned}
use Rattle.journal_model.proofs.Linking.{why_is_end, why_of-append}
use Rattle.journal_model.proofs.Looks.{any-append, or_none, settled_none, verdict_of-append}
use Rattle.journal_model.proofs.Testing.{by_either}
use Rattle.journal_model.proofs.Turns.{without}
use Rattle.child_link.proofs.Linked.{any_narrower}
use Rattle.child_link.proofs.Writings.{lone_apart}
use Rattle.child_life.specs.Start.Greetings.{is_greeting_line, is_of_greeting}
use Rattle.child_life.proofs.StartLemmas.Begun.{later_unstarted}
use Rattle.crew_work.specs.Laws.Rounds.{IsAtRest, LinkValue}
use Rattle.run_starts.specs.Starting.{is_any_start}
use Rattle.run_starts.specs.Stints.{in_stint}
use Rattle.run_starts.proofs.Apart.{apart_in, no_start_in, prepares_of}
use Rattle.run_starts.proofs.Tests.{each_none, each_without}
use Rattle.crew_rounds.specs.Tagged.PoolChildren.{MayServe}
use Rattle.run_children.specs.PoolChildren.Pools.{changes_claim}
use Rattle.run_children.specs.PoolChildren.Slots.{in_pool, offers_tags}
use Rattle.ann_key.proofs.Booleans.{or_off as or_no, true_and_false as true_not_false, or_left}
use Rattle.std.proofs.lemmas.Bool.{le-leb as low, and_parts as both, eqb-true as same_number}
use Rattle.ann_key.proofs.Numbers.{same_number as same}
use Rattle.journal_model.proofs.Across.{no_why, none_so as any_none, idle_on}
use Rattle.task_model.proofs.Across.{prepared_on}

-- ---- one entry of the child

pub own_in : (c : ℕ) (w : What) → is_of_child c w ≡ true → in_stint c w ≡ true
own_in c (Lead child job line) h = h
own_in c (Ask child job task line) h = h
own_in c (Put child job line) h = h
own_in c (Sent child) h = h
own_in c (Mute child) h = h
own_in c (Got child line) h = h
own_in c (End child why) h = h
own_in c (Settled child job verdict) h = h
own_in c (Lost child task) h = h
own_in c (Claim task child) h = absurd cc
own_in c (Start child slot offer) h = absurd cc
own_in c (NoStart slot) h = absurd cc
own_in c (Answered task answer) h = absurd cc
own_in c (Again task answer) h = absurd cc
own_in c (Note task chunk number) h = absurd cc

own_unclaiming : (c : ℕ) (w : What) → is_of_child c w ≡ true → changes_claim w ≡ false
own_unclaiming c (Claim task child) h = absurd cc
own_unclaiming c (Again task answer) h = absurd cc
own_unclaiming c w h = refl

own_unclaimed : (c : ℕ) (w : What) → is_of_child c w ≡ true → claimed w ≡ None
own_unclaimed c (Claim task child) h = absurd cc
own_unclaimed c w h = refl

own_unclosed : (c : ℕ) (w : What) → is_of_child c w ≡ true → closed w ≡ None
own_unclosed c (Answered task answer) h = absurd cc
own_unclosed c (Again task answer) h = absurd cc
own_unclosed c w h = refl

own_untagged : (c : ℕ) (w : What) → is_of_child c w ≡ true → offers_tags w ≡ false
own_untagged c (Start child slot offer) h = absurd cc
own_untagged c w h = refl

pub own_pool : (first c : ℕ) → first ≤ c → (w : What) → is_of_child c w ≡ true → in_pool first w ≡ true
own_pool first c le w h = go w h
  where
    at : (child : ℕ) → (child == c) ≡ true → nat_le first child ≡ true
    at child e = low first child (let is = same_number child c e in omega (arith, is, le))

    go : (w : What) → is_of_child c w ≡ true → in_pool first w ≡ true
    go (Lead child job line) e = at child e
    go (Ask child job task line) e = at child e
    go (Put child job line) e = at child e
    go (Sent child) e = at child e
    go (Mute child) e = at child e
    go (Got child line) e = at child e
    go (End child why) e = at child e
    go (Settled child job verdict) e = at child e
    go (Lost child task) e = at child e
    go (Claim task child) e = refl
    go (Start child slot offer) e = absurd cc
    go (NoStart slot) e = absurd cc
    go (Answered task answer) e = refl
    go (Again task answer) e = refl
    go (Note task chunk number) e = refl

-- a greeting's entries are its child's
pub greeting_own : (c : ℕ) (w : What) → is_of_greeting c w ≡ true → is_of_child c w ≡ true
greeting_own c (Ask child job task line) h = (both (child == c) (task == 0 && is_greeting_line job line) h).0
greeting_own c (Lost child task) h = (both (child == c) (task == 0) h).0
greeting_own c (Put child job line) h = h
greeting_own c (Sent child) h = h
greeting_own c (Mute child) h = h
greeting_own c (Got child line) h = h
greeting_own c (End child why) h = (both (child == c) (not (is_closed why)) h).0
greeting_own c (Settled child job verdict) h = h
greeting_own c w h = absurd cc

-- ---- many

module _ (c : ℕ) (xs : List Entry) (within : list_all (λ (e : Entry). is_of_child c e.what) xs ≡ true) where
  pub own_starts : any is_any_start xs ≡ false
  own_starts = any_none (is_of_child c) is_any_start (λ w h. no_start_in c w (own_in c w h)) xs within

  pub own_claims : any changes_claim xs ≡ false
  own_claims = any_none (is_of_child c) changes_claim (own_unclaiming c) xs within

  pub own_tags : any offers_tags xs ≡ false
  own_tags = any_none (is_of_child c) offers_tags (own_untagged c) xs within

  pub own_apart : (d : ℕ) → (c == d) ≡ false → any (is_of_child d) xs ≡ false
  own_apart d other = any_none (is_of_child c) (is_of_child d) (λ w h. apart_in c d other w (own_in c w h)) xs within

  -- no task is taken, answered or freed
  pub own_rests : (past : List Entry) → ((t : ℕ) → is_busy past t ≡ false) → (t : ℕ) → is_busy (past ++ xs) t ≡ false
  own_rests past rest t =
      ap is_some (holder_append past xs t)
      ∙ ap is_some (unturned t (holder past t) xs (each_none claimed (is_of_child c) (own_unclaimed c) xs within) (each_none closed (is_of_child c) (own_unclosed c) xs within))
      ∙ rest t

-- ---- jobs

-- each child has none
abbrev pub AreShut : List Entry → Type 0
AreShut journal = (c : ℕ) → open_jobs journal c ≡ []

pub shut_open : (journal : List Entry) → AreShut journal → (c j : ℕ) → is_open journal c j ≡ false
shut_open journal shut c j = ap (list_any (λ (k : ℕ). k == j)) (shut c)

pub none_of : (js : List ℕ) → ((j : ℕ) → list_any (λ (k : ℕ). k == j) js ≡ false) → js ≡ []
none_of [] h = refl
none_of (k ∷ js) h = absurd (let bad : true ≡ false = sym (ap (λ (b : Bool). b || list_any (λ (i : ℕ). i == k) js) (same k)) ∙ h k in cc)

pub rest_shut : (journal : List Entry) → IsAtRest journal → AreShut journal
rest_shut journal h c = none_of (open_jobs journal c) (λ j. h.shut c j)

pub asks_of : (d : ℕ) (w : What) → is_of_child d w ≡ false → asks d w ≡ None
asks_of d (Ask child job task line) h = rw h refl
asks_of d w h = refl

pub unasked : (d : ℕ) (xs : List Entry) → any (is_of_child d) xs ≡ false → asked_jobs xs d ≡ []
unasked d xs h = each_without (asks d) (is_of_child d) (asks_of d) xs h

-- nothing was made of any child but c, which is idle
pub shut_on : (past xs : List Entry) (c : ℕ) → list_all (λ (e : Entry). is_of_child c e.what) xs ≡ true → open_jobs (past ++ xs) c ≡ [] → AreShut past → AreShut (past ++ xs)
shut_on past xs c within idle shut d = by_either (c == d)
    (λ it. ap (open_jobs (past ++ xs)) (sym (same_number c d it)) ∙ idle)
    (λ other. idle_on past xs d (unasked d xs (own_apart c xs within d other)) (shut d))

-- ---- a child that can serve

-- a child of which nothing is made gets no readier
pub prepared_apart : (past more : List Entry) (c : ℕ) → any (is_of_child c) more ≡ false → is_prepared (past ++ more) c ≡ is_prepared past c
prepared_apart past more c none =
    let v : verdict_of (past ++ more) c 1 ≡ verdict_of past c 1 = verdict_of-append c 1 past more ∙ or_none (verdict_of past c 1) (verdict_of more c 1) (settled_none more c 1 ((without c more none).settled 1)) in
    let a : any (prepares c) (past ++ more) ≡ any (prepares c) past =
    any-append (prepares c) past more ∙ or_no (any (prepares c) past) (any (prepares c) more) (any_narrower (prepares c) (is_of_child c) (prepares_of c) more none) in
    ap (λ (x : Option Verdict). is_done x && any (prepares c) (past ++ more)) v ∙ ap (λ (b : Bool). is_done (verdict_of past c 1) && b) a

pub undone_unready : (past : List Entry) (c : ℕ) → is_done (verdict_of past c 1) ≡ false → is_prepared past c ≡ false
undone_unready past c h = ap (λ (b : Bool). b && any (prepares c) past) h

ends_of : (c : ℕ) (w : What) → ends c w ≡ true → is_of_child c w ≡ true
ends_of c (End child why) h = h
ends_of c w h = absurd cc

pub why_apart : (past more : List Entry) (c : ℕ) → any (is_of_child c) more ≡ false → why_of (past ++ more) c ≡ why_of past c
why_apart past more c none =
    let live : is_ended more c ≡ false = any_narrower (ends c) (is_of_child c) (ends_of c) more none in
    why_of-append past more c ∙ or_none (why_of past c) (why_of more c) (no_why (why_of more c) (why_is_end more c ∙ live))

-- it can still where nothing was made of it
pub serve_on : (o : Opening) (past more : List Entry) (l : LinkValue) → Legal o (past ++ more) → l.mouth.child ≡ l.ear.child → any (is_of_child l.ear.child) more ≡ false → MayServe o past l → MayServe o (past ++ more) l
serve_on o past more l legal one none m = record {
  serves = record {
    legal = legal;
    number = m.serves.number;
    started = any-append (starts l.ear.child) past more ∙ or_left (is_started past l.ear.child) (is_started more l.ear.child) m.serves.started;
    prepared = prepared_on past more l.ear.child m.serves.prepared;
    book = m.serves.book;
  };
  unclosed = λ h. m.unclosed (sym (why_apart past more l.ear.child none) ∙ h);
  wired = lone_apart past more l.ear l.mouth one none m.wired;
}

-- ---- a child that got ready is one of the journal's

unwritten : (c : ℕ) (xs : List Entry) → each_of (writes c) xs ≡ [] → any (prepares c) xs ≡ false
unwritten c [] h = refl
unwritten c (e ∷ xs) h = go e.what h (unwritten c xs)
  where
    go : (w : What) → cons_option (writes c w) (each_of (writes c) xs) ≡ [] → (each_of (writes c) xs ≡ [] → any (prepares c) xs ≡ false) → (prepares c w || any (prepares c) xs) ≡ false
    go (Ask child job task line) k r = by (child == c) k
      where
        by : (b : Bool) → cons_option (cond b (Some (Some job, line)) None) (each_of (writes c) xs) ≡ [] → ((b && job == 1 && asks_prepare line) || any (prepares c) xs) ≡ false
        by true x = absurd cc
        by false x = r x
    go (Lead child job line) k r = by (child == c) k
      where
        by : (b : Bool) → cons_option (cond b (Some (None, line)) None) (each_of (writes c) xs) ≡ [] → any (prepares c) xs ≡ false
        by true x = absurd cc
        by false x = r x
    go (Put child job line) k r = by (child == c) k
      where
        by : (b : Bool) → cons_option (cond b (Some (None, line)) None) (each_of (writes c) xs) ≡ [] → any (prepares c) xs ≡ false
        by true x = absurd cc
        by false x = r x
    go w k r = r k

not_high : (m n : ℕ) → (n < m → ⊥) → m ≤ n
not_high m n h = by_either (nat_lt n m) (λ t. absurd (h (grind (arith, nat_tests)))) (λ f. grind (arith, nat_tests))

pub prepared_low : (o : Opening) (journal : List Entry) (c : ℕ) → Legal o journal → is_prepared journal c ≡ true → c ≤ count is_start journal
prepared_low o journal c legal h =
    not_high c (count is_start journal) (λ few. true_not_false (any (prepares c) journal) (both (is_done (verdict_of journal c 1)) (any (prepares c) journal) h).1
    (unwritten c journal (fresh o journal legal c (later_unstarted o journal legal c few)).written))
