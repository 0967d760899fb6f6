-- What asking and noting leave to a number that serves a task.
use Rattle.std.proofs.Common.{◌≡◌, ℕ, ◌<◌, ◌≤◌, List, [], ◌∷◌, ◌++◌, length, append-nil, refl, sym, ap, subst, ◌∙◌, Bool, true, false, not, ◌==◌, Some, None, Option, inl, inr, arith}
use Rattle.std.specs.Prelude.{◌&&◌, ◌||◌, nat_lt, filter, Result, Ok, Err}
use Rattle.ann_key.specs.declared.bytes.NoMemory.{NoMemory}
use Rattle.std.specs.List.{cons_option, list_all}
use Rattle.std.proofs.lemmas.Bool.Decides.{nat_tests}
use Rattle.std.proofs.lemmas.List.{append_cancel_left}
use Rattle.std.proofs.lemmas.List.Elements.{filter-append}
use Rattle.annex_model.specs.Messages.{HostMessage, AskExtensions, Transfer, Transferexport, Renameexport, is_askable}
use Rattle.annex_model.specs.Turns.{turn_of}
use Rattle.annex_model.specs.declared.turn.Turn.TheVariants.{Later}
use Rattle.journal_model.specs.declared.verdict.Verdict.{Verdict}
use Rattle.journal_model.specs.declared.entry.What.{What}
use Rattle.journal_model.specs.declared.entry.What.TheVariants.{Claim, Ask, Put, Sent, Mute, Got, End, Verdict as Settled, Lost, Note, Answer as Answered, Again}
use Rattle.journal_model.specs.declared.entry.Entry.{Entry}
use Rattle.journal_model.specs.declared.opening.Opening.{Opening}
use Rattle.journal_model.specs.Journal.{any, asks, asked_jobs, each_of, is_settled, is_tagged, open_jobs, verdict_of}
use Rattle.journal_model.specs.Legality.{Legal, claims, closes, has_open_job, holder, is_busy_with, is_claimed_by, is_done, is_empty, is_greeted, is_held_for, is_in_turn, is_prepared, may_ask, may_work, prepares, suits_child}
use Rattle.journal_model.specs.Shares.{Moved, are_by, are_own, is_of_child, makes_only, by_link}
use Rattle.journal_model.specs.Halves.{EarValue, MouthValue}
use Rattle.child_link.specs.Writings.{LoneWired}
use Rattle.journal_model.proofs.Holding.{claimed, closed, holder_append, unturned}
use Rattle.journal_model.proofs.Unbounded.{Within}
use Rattle.journal_model.proofs.Looks.{each_of-append, is_asked}
use Rattle.journal_model.proofs.Projecting.{invariant}
use Rattle.journal_model.proofs.Verdicts.{unasked_none}
use Rattle.host_core.specs.Steps.{asking, is_named_well, may_request, next_job}
use Rattle.journal_model.specs.Due.{made_by}
use Rattle.child_link.proofs.Asking.{asks_next}
use Rattle.task_model.specs.Askers.{is_said_in_line, names_in_line}
use Rattle.child_link.specs.Doors.{Passed}
use Rattle.child_link.specs.Asks.{Grows, HasAsked, never}
use Rattle.child_link.proofs.Writings.{lone_apart}
use Rattle.child_link.proofs.Roles.{moved_both, moved_by, moved_wider, none_made, started_on}
use Rattle.crew_work.specs.Worker.AtTasks.{AtTask, AskedFor, NotedFor}
use Rattle.crew_work.specs.Worker.Noting.{by_noting}
use Rattle.crew_work.specs.Worker.Servings.{HasTurn, Serves, ServesOn, by_server, is_said_in_text, names_text}
use Rattle.child_link.proofs.Solo.{still_alone as none_passed, link_asks_none as link_asks}
use Rattle.std.proofs.lemmas.Bool.{and_parts as both, ne_eqb as differ}
use Rattle.ann_key.proofs.Numbers.{same_number as same}
use Rattle.journal_model.proofs.Across.{none_left, idle_on, settled_on, verdict_settles as verdict_settled}
use Rattle.task_model.proofs.Across.{prepared_on}

-- ---- the kinds

pub link_serves : (c t : ℕ) (w : What) → by_link c w ≡ true → by_server c t w ≡ true
link_serves c t (Ask child job task line) h = absurd cc
link_serves c t (Lost child task) h = absurd cc
link_serves c t (Note task chunk count) h = absurd cc
link_serves c t (Put child job line) h = h
link_serves c t (Sent child) h = h
link_serves c t (Mute child) h = h
link_serves c t (Got child line) h = h
link_serves c t (End child why) h = h
link_serves c t (Settled child job verdict) h = h
link_serves c t w h = absurd cc

pub note_serves : (c t : ℕ) (w : What) → by_noting t w ≡ true → by_server c t w ≡ true
note_serves c t (Note task chunk count) h = h
note_serves c t w h = absurd cc

pub server_claims : (c t : ℕ) (w : What) → by_server c t w ≡ true → claimed w ≡ None
server_claims c t (Claim task child) h = absurd cc
server_claims c t w h = refl

pub server_closes : (c t : ℕ) (w : What) → by_server c t w ≡ true → closed w ≡ None
server_closes c t (Answered task answer) h = absurd cc
server_closes c t (Again task answer) h = absurd cc
server_closes c t w h = refl

-- who serves a task makes no claim of any, and closes no run of any
unclaiming : (c t u : ℕ) (w : What) → by_server c t w ≡ true → claims u w ≡ false
unclaiming c t u (Claim task child) h = absurd cc
unclaiming c t u w h = refl

unclosing : (c t u : ℕ) (w : What) → by_server c t w ≡ true → closes u w ≡ false
unclosing c t u (Answered task answer) h = absurd cc
unclosing c t u (Again task answer) h = absurd cc
unclosing c t u w h = refl

pub server_within : (c t : ℕ) → Within (by_server c t) t
server_within c t = record { unclaimed = unclaiming c t t; unclosed = unclosing c t t }

pub noting_within : (t : ℕ) → Within (by_noting t) t
noting_within t = record { unclaimed = λ w h. unclaiming 0 t t w (note_serves 0 t w h); unclosed = λ w h. unclosing 0 t t w (note_serves 0 t w h) }

pub never_within : (t : ℕ) → Within never t
never_within t = record { unclaimed = λ w h. absurd cc; unclosed = λ w h. absurd cc }

-- a role that is alone, and makes nothing that gives an X, gives none
pub gives_none : {X : Type 0} (makes : What → Bool) (f : What → Option X) → ((w : What) → makes w ≡ true → f w ≡ None)
    → (n : ℕ) (more : List Entry) → makes_only makes n more ≡ true → are_by n more ≡ true → each_of f more ≡ []
gives_none makes f none n [] own by = refl
gives_none {X} makes f none n (e ∷ more) own by =
    let s : ((not (e.by == n) || makes e.what) ≡ true) × (makes_only makes n more ≡ true) = both (not (e.by == n) || makes e.what) (makes_only makes n more) own in
    let b : ((e.by == n) ≡ true) × (are_by n more ≡ true) = both (e.by == n) (are_by n more) by in
    let made : makes e.what ≡ true = go (e.by == n) b.0 s.0 in
    ap (λ (o : Option X). cons_option o (each_of f more)) (none e.what made) ∙ gives_none makes f none n more s.1 b.1
  where
    go : (b : Bool) → b ≡ true → (not b || makes e.what) ≡ true → makes e.what ≡ true
    go true i h = h
    go false i h = absurd cc

-- ---- what was made

-- a request, and the name before it
server_asks : (past : List Entry) (c t : ℕ) (q : HostMessage) (name : Option (List ℕ)) → list_all (by_server c t) (asking past t c name q) ≡ true
server_asks past c t q None = rw (same c, same t) refl
server_asks past c t q (Some name) = rw (same c, same t) refl

module _ {n : ℕ} {a : Bool} {old new : List Entry} where
  -- a request, or a lost one
  pub asked_moved : {o : Opening} {Known : ℕ → Type 0} (c t : ℕ) (name : Option (List ℕ)) (q : HostMessage) (v : Verdict) → HasAsked o n a (by_link c) old new c t name q Known v
      → Moved n a (by_server c t) (is_of_child c) old new (Unit {0}) (Unit {0})
  asked_moved c t name q v (inl s) =
      moved_both refl refl (moved_by s.asked (server_asks s.asked.past c t q name) (λ none u. u)) (moved_wider (link_serves c t) (λ w h. h) s.on (λ own k u. u))
  asked_moved c t name q v (inr s) = moved_by s (rw (same c, same t) refl) (λ none u. u)

  -- what was made, beside what it keeps
  pub keeping : {makes makes' mine : What → Bool} {Before After : Type 0} → Moved n a makes mine old new (Unit {0}) (Unit {0}) → Moved n a makes' mine old new Before After
      → Moved n a makes mine old new Before After
  keeping {mine = mine} s t =
      let mores : s.more ≡ t.more = append_cancel_left old s.more t.more (sym s.is ∙ t.is) in
      record { more = s.more; is = s.is; own = s.own; lone = s.lone; kept = λ h. t.kept (subst (λ (l : List Entry). are_own mine n l ≡ true) mores h) }

-- ---- what stays

-- who holds the task stays, where it is neither claimed nor closed
pub held_on : (past more : List Entry) (t : ℕ) → each_of claimed more ≡ [] → each_of closed more ≡ [] → holder (past ++ more) t ≡ holder past t
held_on past more t c a = holder_append past more t ∙ unturned t (holder past t) more c a

-- and after one request that was settled
idle_settled : (old one more new : List Entry) (c job : ℕ) (v : Verdict) → new ≡ (old ++ one) ++ more → asked_jobs one c ≡ job ∷ []
    → asked_jobs more c ≡ [] → verdict_of new c job ≡ Some v → open_jobs old c ≡ [] → open_jobs new c ≡ []
idle_settled old one more new c job v is here_job none settled idle =
    ap (filter is_left) jobs ∙ filter-append is_left (asked_jobs old c) (job ∷ []) ∙ ap (λ (ks : List ℕ). ks ++ filter is_left (job ∷ [])) before ∙ last
  where
    is_left : ℕ → Bool
    is_left k = not (is_settled new c k)

    jobs : asked_jobs new c ≡ asked_jobs old c ++ job ∷ []
    jobs =
        ap (λ (x : List Entry). asked_jobs x c) is ∙ each_of-append (asks c) (old ++ one) more ∙ ap (λ (ks : List ℕ). asked_jobs (old ++ one) c ++ ks) none
        ∙ append-nil (asked_jobs (old ++ one) c) ∙ each_of-append (asks c) old one ∙ ap (λ (ks : List ℕ). asked_jobs old c ++ ks) here_job

    keep : (k : ℕ) → is_settled old c k ≡ true → is_settled new c k ≡ true
    keep k h = ap (λ (x : List Entry). is_settled x c k) is ∙ settled_on (old ++ one) more c k (settled_on old one c k h)

    before : filter is_left (asked_jobs old c) ≡ []
    before = none_left old new c (asked_jobs old c) keep idle

    last : filter is_left (job ∷ []) ≡ []
    last = rw (verdict_settled new c job v settled) refl

-- ---- the child's turn

note_asks : (c t : ℕ) (w : What) → by_noting t w ≡ true → asks c w ≡ None
note_asks c t (Note task chunk count) h = refl
note_asks c t w h = absurd cc

module _ {n : ℕ} {old new : List Entry} (c t : ℕ) where
  turn_on : {a : Bool} {mine : What → Bool} {P Q : Type 0} → a ≡ true → Moved n a (by_server c t) mine old new P Q → open_jobs new c ≡ [] → HasTurn old c t → HasTurn new c t
  turn_on lone s idle h =
      let by : are_by n s.more ≡ true = s.lone lone in
      let kept : holder (old ++ s.more) t ≡ holder old t =
      held_on old s.more t (gives_none (by_server c t) claimed (server_claims c t) n s.more s.own by) (gives_none (by_server c t) closed (server_closes c t) n s.more s.own by) in
      record {
        prepared = subst (λ (x : List Entry). is_prepared x c ≡ true) (sym s.is) (prepared_on old s.more c h.prepared);
        busy = ap (λ (x : List Entry). is_busy_with x c t) s.is ∙ ap (is_held_for c) kept ∙ h.busy;
        idle = idle;
      }

  pub turn_asked : {o : Opening} {a : Bool} {Known : ℕ → Type 0} (name : Option (List ℕ)) (q : HostMessage) (v : Verdict) → a ≡ true → HasAsked o n a (by_link c) old new c t name q Known v → HasTurn old c t → HasTurn new c t
  turn_asked {o} {a} {Known} name q v lone (inl s) h =
      let p : s.asked.past ≡ old = none_passed lone s.asked.passed in
      let group : List Entry = made_by n (asking old t c name q) in
      let mid_is : s.mid ≡ old ++ group = s.asked.is ∙ ap (λ (x : List Entry). x ++ made_by n (asking x t c name q)) p in
      let is : new ≡ (old ++ group) ++ s.on.more = s.on.is ∙ ap (λ (x : List Entry). x ++ s.on.more) mid_is in
      let none : asked_jobs s.on.more c ≡ [] = gives_none (by_link c) (asks c) (link_asks c) n s.on.more s.on.own (s.on.lone lone) in
      let job : next_job old c ≡ s.job = ap (λ (x : List Entry). next_job x c) (sym p) ∙ sym s.asked.found.next in
      let jobs : asked_jobs group c ≡ s.job ∷ [] = asks_next old n t c q name ∙ ap (λ (j : ℕ). j ∷ []) job in
      turn_on lone (asked_moved {o = o} {Known = Known} c t name q v (inl s)) (idle_settled old group s.on.more new c s.job v is jobs none s.settled h.idle) h
  turn_asked {o} {a} {Known} name q v lone (inr s) h =
      let p : s.past ≡ old = none_passed lone s.passed in
      let is : new ≡ old ++ record { by = n; what = Lost c t } ∷ [] = s.is ∙ ap (λ (x : List Entry). x ++ record { by = n; what = Lost c t } ∷ []) p in
      turn_on lone (asked_moved {o = o} {Known = Known} c t name q v (inr s)) (ap (λ (x : List Entry). open_jobs x c) is ∙ idle_on old (record { by = n; what = Lost c t } ∷ []) c refl h.idle) h

  pub turn_passed : {a : Bool} → a ≡ true → Passed n a old new → HasTurn old c t → HasTurn new c t
  turn_passed lone s h = subst (λ (x : List Entry). HasTurn x c t) (sym (none_passed lone s)) h

  pub turn_noted : {a : Bool} {mine : What → Bool} {P Q : Type 0} → a ≡ true → Moved n a (by_noting t) mine old new P Q → HasTurn old c t → HasTurn new c t
  turn_noted lone s h =
      turn_on lone (moved_wider (note_serves c t) (λ w k. k) s (λ own k. k))
      (ap (λ (x : List Entry). open_jobs x c) s.is ∙ idle_on old s.more c (gives_none (by_noting t) (asks c) (note_asks c t) n s.more s.own (s.lone lone)) h.idle) h

-- ---- a request may be asked

suits : (past : List Entry) (c : ℕ) (q : HostMessage) → turn_of q ≡ Later → names_in_line q ≡ true → names_text q ≡ true → suits_child past c q ≡ true
suits past c (AskExtensions names) e line text = absurd cc
suits past c (Transfer store key file) e line text = rw (text, line) refl
suits past c (Transferexport store key file) e line text = rw (text, line) refl
suits past c (Renameexport key onto) e line text = rw (text, line) refl
suits past c q e line text = refl

-- a prepared child was asked two jobs
two_jobs : (o : Opening) (seen : List Entry) (c : ℕ) → Legal o seen → is_prepared seen c ≡ true → nat_lt 1 (length (asked_jobs seen c)) ≡ true
two_jobs o seen c legal prepared = go (nat_lt 1 (length (asked_jobs seen c))) refl
  where
    none : is_asked seen c 1 ≡ false → true ≡ false
    none h = sym (both (is_done (verdict_of seen c 1)) (any (prepares c) seen) prepared).0 ∙ ap is_done (unasked_none o seen legal c 1 h)

    go : (b : Bool) → nat_lt 1 (length (asked_jobs seen c)) ≡ b → b ≡ true
    go true e = refl
    go false e =
        let few : length (asked_jobs seen c) ≤ 1 = grind (arith, nat_tests) in
        let bad : true ≡ false = none ((invariant o seen legal).fresh c 1 few) in
        absurd cc

pub may_later : (o : Opening) (n c t : ℕ) (a : Bool) (seen : List Entry) (q : HostMessage) → Serves o n a c t seen → turn_of q ≡ Later → is_askable q ≡ true → names_in_line q ≡ true
    → names_text q ≡ true → a ≡ true → may_request seen n t c q ≡ true
may_later o n c t a seen q s later askable line text lone = rw (s.started, asks_now, in_turn, askable) refl
  where
    h : HasTurn seen c t
    h = s.turn lone

    job : ℕ
    job = length (asked_jobs seen c)

    two : nat_lt 1 job ≡ true
    two = two_jobs o seen c s.at.legal h.prepared

    far : 1 < job
    far = let e : nat_lt 1 job ≡ true = two in grind (arith, nat_tests)

    greeted : is_greeted seen c job ≡ true
    greeted =
        let no : (job == 0) ≡ false = differ job 0 (λ e. absurd (omega (arith, e, far))) in
        let none : (job == 1) ≡ false = differ job 1 (λ e. absurd (omega (arith, e, far))) in
        rw (no, none) h.prepared

    works : may_work seen n t c ≡ true
    works = go (t == 0 && n == 0)
      where
        go : (b : Bool) → (b || (is_claimed_by seen n t && is_busy_with seen c t && not (has_open_job seen t))) ≡ true
        go true = refl
        go false = rw (s.at.held, h.busy, s.at.shut) refl

    shut : (is_tagged seen c || is_empty (open_jobs seen c)) ≡ true
    shut = go (is_tagged seen c)
      where
        go : (b : Bool) → (b || is_empty (open_jobs seen c)) ≡ true
        go true = refl
        go false = ap (λ (l : List ℕ). is_empty l) h.idle

    asks_now : may_ask seen n t c ≡ true
    asks_now = rw (greeted, works, shut) refl

    in_turn : is_in_turn seen c (next_job seen c) q ≡ true
    in_turn = rw (later, suits seen c q later line text) (ap (λ (b : Bool). b && true) two)

-- a name that is text, on one line
pub named_well : (name : Option (List ℕ)) → is_said_in_line name ≡ true → is_said_in_text name ≡ true → is_named_well name ≡ true
named_well None line text = refl
named_well (Some name) line text = rw (text, line) refl

-- ---- what asking and noting leave

-- after a request, or where none was asked, the number holds the task still
pub at_asked : (o : Opening) (n t : ℕ) (old new : List Entry) (name : Option (List ℕ)) (q : HostMessage) (result : Result Verdict NoMemory) → AskedFor o n t old new name q result → AtTask o n t new
at_asked o n t old new name q (Ok v) h = h.at
at_asked o n t old new name q (Err e) h = h.at

pub at_noted : (o : Opening) (n t : ℕ) (old new : List Entry) (chunk count : ℕ) (result : Result (Unit {0}) NoMemory) → NotedFor o n t old new chunk count result → AtTask o n t new
at_noted o n t old new chunk count (Ok v) h = h.at
at_noted o n t old new chunk count (Err e) h = h.at

note_apart : (c t : ℕ) (w : What) → by_noting t w ≡ true → is_of_child c w ≡ false
note_apart c t (Note task chunk count) h = refl
note_apart c t w h = absurd cc

-- who makes nothing notes nothing
pub never_notes : {n : ℕ} {a : Bool} {old new : List Entry} (t : ℕ) → Grows n a never old new → Grows n a (by_noting t) old new
never_notes t s = moved_wider (λ w h. absurd cc) (λ w k. k) s (λ own k. k)

-- what is of a kind is of a wider one
pub wider : (p q : What → Bool) → ((w : What) → p w ≡ true → q w ≡ true) → (n : ℕ) (xs : List Entry) → makes_only p n xs ≡ true → makes_only q n xs ≡ true
wider p q f n [] h = refl
wider p q f n (e ∷ xs) h =
    let s = both (not (e.by == n) || p e.what) (makes_only p n xs) h in
    rw (one (e.by == n) s.0, wider p q f n xs s.1) refl
  where
    one : (b : Bool) → (not b || p e.what) ≡ true → (not b || q e.what) ≡ true
    one true k = f e.what k
    one false k = refl

module _ (o : Opening) (n t u : ℕ) (a : Bool) (old new : List Entry) (is : t ≡ u) where
  pub serves_asked : (c : ℕ) (name : Option (List ℕ)) (q : HostMessage) (result : Result Verdict NoMemory) {P Q : Type 0} → Serves o n a c t old → AskedFor o n t old new name q result → (a ≡ true → HasTurn old c t → HasTurn new c t)
      → Moved n a (by_server c t) (is_of_child c) old new P Q → ServesOn o n a c u old new P Q
  serves_asked c name q result {P} {Q} s asked turn moved =
      subst (λ (k : ℕ). ServesOn o n a c k old new P Q) is record {
        serves = record { at = at_asked o n t old new name q result asked; started = started_on c moved s.started; book = s.book; turn = λ lone. turn lone (s.turn lone) };
        moved = moved;
      }

  -- notes of the task, or nothing
  pub serves_grown : (e : EarValue) (m : MouthValue) → m.child ≡ e.child → Serves o n a e.child t old → AtTask o n t new
      → Grows n a (by_noting t) old new → ServesOn o n a e.child u old new (LoneWired old e m) (LoneWired new e m)
  serves_grown e m one s at grows =
      subst (λ (k : ℕ). ServesOn o n a e.child k old new (LoneWired old e m) (LoneWired new e m)) is record {
        serves = record {
          at = at;
          started = started_on e.child grows s.started;
          book = s.book;
          turn = λ lone. turn_noted e.child t lone grows (s.turn lone);
        };
        moved = record {
          more = grows.more;
          is = grows.is;
          own = wider (by_noting t) (by_server e.child t) (note_serves e.child t) n grows.more grows.own;
          lone = grows.lone;
          kept = λ h w.
              (let none = none_made (by_noting t) (is_of_child e.child) (note_apart e.child t) n grows.more grows.own h in
              subst (λ (x : List Entry). LoneWired x e m) (sym grows.is)
              (lone_apart old grows.more e m one none w));
        };
      }
