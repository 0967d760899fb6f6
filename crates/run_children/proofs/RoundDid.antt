-- What a round over a tagged child leaves, as a run says it: what the desks did, that it made entries of its child alone, what its
-- jobs are, and that the child is spent where tasks are left.
use Rattle.ann_outside.specs.Told.{DeskTold}
use Rattle.std.proofs.Common.{◌≡◌, zero, suc, ℕ, ◌+◌, ◌-◌, ◌<◌, ◌≤◌, List, [], ◌∷◌, ◌++◌, refl, sym, ap, subst, ◌∙◌, Bool, true, false, not, ◌==◌, cond, Some, None, Option, ◌⊎◌, inl, inr, length, length-append, append_assoc, arith}
use Rattle.std.specs.Prelude.{◌&&◌, ◌||◌, nat_lt, filter, is_some}
use Rattle.std.specs.List.{list_all, list_any, cons_option, range_with_len}
use Rattle.std.proofs.lemmas.Bool.Decides.{nat_tests}
use Rattle.journal_model.specs.declared.verdict.Why.{Why}
use Rattle.journal_model.specs.declared.verdict.Why.TheVariants.{Closed}
use Rattle.journal_model.specs.declared.entry.What.{What}
use Rattle.journal_model.specs.declared.entry.What.TheVariants.{Claim, Lead, Ask, Put, Sent, Mute, Got, End, Verdict as Settled, Lost, Answer as Answered, Note as Noted, Again}
use Rattle.journal_model.specs.declared.entry.Entry.{Entry}
use Rattle.journal_model.specs.declared.opening.Opening.{Opening}
use Rattle.journal_model.specs.Journal.{any, asked_jobs, is_ended, is_mute, is_tagged, why_of}
use Rattle.journal_model.specs.Legality.{Legal, count, turn_of_task}
use Rattle.journal_model.specs.Shares.{by_ear, by_mouth, is_by_line, is_closed, is_memory}
use Rattle.journal_model.proofs.Idling.{are_mains, asks_none, mains_ask}
use Rattle.journal_model.proofs.Linking.{why_is_end}
use Rattle.journal_model.proofs.Testing.{all-each, all-split, by_either}
use Rattle.journal_model.proofs.Turns.{tagged_on}
use Rattle.host_core.specs.Steps.{are_all_claimed}
use Rattle.crew_work.specs.Laws.Posts.{Ear, Ender, Mouth, Post, Worker, gives_up, is_mains, makes, tagged_crew, works}
use Rattle.crew_work.specs.Laws.Rounds.{IsAmong, IsLostChild, LinkValue, Round, Rounded}
use Rattle.task_model.specs.declared.setup.Setup.{Setup}
use Rattle.task_model.specs.TaskRuns.{refusal_of}
use Rattle.crew_work.specs.Laws.Tasks.{claimed_turn, turns_by}
use Rattle.child_life.specs.Start.Greetings.{asks_for}
use Rattle.child_life.specs.declared.start.greeting.Mode.TheVariants.{Serve}
use Rattle.crew_work.specs.Worker.Works.{TaskDone}
use Rattle.run_starts.specs.Starting.{is_spent, is_unclosed}
use Rattle.run_starts.specs.Rounds.{is_of_run}
use Rattle.run_starts.specs.Stints.{in_stint}
use Rattle.run_starts.proofs.Apart.{is_unclosed_end}
use Rattle.run_starts.proofs.Later.{late, late_from}
use Rattle.crew_rounds.specs.Tagged.Crewing.{AllRun, DeskDid as CrewDid, DesksDid as CrewDesks}
use Rattle.crew_rounds.specs.Tagged.TaggedRounds.{TaggedLeaves}
use Rattle.run_children.specs.Desks.{AreDone, DeskDid, DesksDid, HasDesk, HaveDesks, claimed_for, claims_for, desk_of}
use Rattle.ann_key.proofs.Booleans.{same_test, left_false as either_left, right_false as either_right, or_right}
use Rattle.std.proofs.lemmas.Bool.{eq-eqb as equal_test, and_parts as both, ne_eqb as differ, eqb-true as same_number}
use Rattle.ann_key.proofs.Numbers.{same_number as same}

-- ---- what the posts of a tagged crew make

abbrev are_posted : ℕ → List Entry → Bool
are_posted c xs = list_all (λ e. makes (tagged_crew c e.by) e.what) xs

far : (n : ℕ) → nat_lt n 2 ≡ false → (n == 2) ≡ false → (n == 3) ≡ false → 3 < n
far n x y z = grind (arith, nat_tests)

-- claims and requests are the workers', for the child
claims_at : (c n task child : ℕ) → makes (tagged_crew c n) (Claim task child) ≡ true → (3 < n) × (child ≡ c)
claims_at c n task child h = go (nat_lt n 2) refl (n == 2) refl (n == 3) refl h
  where
    go : (a : Bool) → nat_lt n 2 ≡ a → (b : Bool) → (n == 2) ≡ b → (d : Bool) → (n == 3) ≡ d
        → makes (cond a (Ender c) (cond b (Ear c) (cond d (Mouth c) (Worker c)))) (Claim task child) ≡ true → (3 < n) × (child ≡ c)
    go true x b y d z k = absurd cc
    go false x true y d z k = absurd cc
    go false x false y true z k = absurd cc
    go false x false y false z k = (far n x y z, same_number child c k)

asks_at : (c n child job task : ℕ) (line : List ℕ) → makes (tagged_crew c n) (Ask child job task line) ≡ true → (3 < n) × (child ≡ c)
asks_at c n child job task line h = go (nat_lt n 2) refl (n == 2) refl (n == 3) refl h
  where
    go : (a : Bool) → nat_lt n 2 ≡ a → (b : Bool) → (n == 2) ≡ b → (d : Bool) → (n == 3) ≡ d
        → makes (cond a (Ender c) (cond b (Ear c) (cond d (Mouth c) (Worker c)))) (Ask child job task line) ≡ true → (3 < n) × (child ≡ c)
    go true x b y d z k = absurd cc
    go false x true y d z k = absurd cc
    go false x false y true z k = absurd cc
    go false x false y false z k = (far n x y z, same_number child c k)

ender_within : (c : ℕ) (w : What) → gives_up c w ≡ true → in_stint c w ≡ true
ender_within c (End child why) h = (both (child == c) (is_memory why) h).0
ender_within c (Settled child job verdict) h = h
ender_within c w h = absurd cc

ear_within : (c : ℕ) (w : What) → by_ear c w ≡ true → in_stint c w ≡ true
ear_within c (Put child job line) h = h
ear_within c (Got child line) h = h
ear_within c (End child why) h = (both (child == c) (not (is_closed why)) h).0
ear_within c (Settled child job verdict) h = h
ear_within c w h = absurd cc

mouth_within : (c : ℕ) (w : What) → by_mouth c w ≡ true → in_stint c w ≡ true
mouth_within c (Sent child) h = h
mouth_within c (Mute child) h = h
mouth_within c (End child why) h = (both (child == c) (is_memory why) h).0
mouth_within c (Settled child job verdict) h = (both (child == c) (not (is_by_line verdict)) h).0
mouth_within c w h = absurd cc

worker_within : (c : ℕ) (w : What) → works c w ≡ true → in_stint c w ≡ true
worker_within c (Claim task child) h = refl
worker_within c (Lead child job line) h = h
worker_within c (Ask child job task line) h = h
worker_within c (Lost child task) h = h
worker_within c (Answered task answer) h = refl
worker_within c (Again task answer) h = refl
worker_within c (Noted task chunk count) h = refl
worker_within c w h = absurd cc

post_within : (c n : ℕ) (w : What) → makes (tagged_crew c n) w ≡ true → in_stint c w ≡ true
post_within c n w h = go (nat_lt n 2) (n == 2) (n == 3) h
  where
    go : (a b d : Bool) → makes (cond a (Ender c) (cond b (Ear c) (cond d (Mouth c) (Worker c)))) w ≡ true → in_stint c w ≡ true
    go true b d k = ender_within c w k
    go false true d k = ear_within c w k
    go false false true k = mouth_within c w k
    go false false false k = worker_within c w k

-- no start, and nothing of another child
pub round_within : (o : Opening) (c : ℕ) (numbers : List ℕ) (start rest : List Entry) → Rounded o (tagged_crew c) numbers start rest → list_all (λ e. in_stint c e.what) rest ≡ true
round_within o c numbers start rest r = all-each (λ (e : Entry). makes (tagged_crew c e.by) e.what) (λ (e : Entry). in_stint c e.what) (λ e h. post_within c e.by e.what h) rest r.posts

-- ---- what is asked

post_asks : (c n : ℕ) (w : What) → makes (tagged_crew c n) w ≡ true → late c w ≡ true → (not (asks_none w) || n == 0) ≡ true → is_of_run w ≡ true
post_asks c n (Ask child job task line) h l m =
    let at = asks_at c n child job task line h in
    go (child == c) (job == 0) (job == 1) (task == 0) (asks_for Serve line) (n == 0) (subst (λ (x : ℕ). (child == x) ≡ true) at.1 (same child))
    (differ n 0 (λ z. absurd (let k = at.0 in let bad : ⊥ = omega (arith, z, k) in bad))) l m
  where
    go : (a b d z x y : Bool) → a ≡ true → y ≡ false → (not a || not (b || d)) ≡ true → (not z || y) ≡ true → cond (b || (d && x)) z (not (b || (d || z))) ≡ true
    go true false false false x y e f k i = refl
    go true false false true x true e f k i = absurd cc
    go true false false true x false e f k i = absurd cc
    go true true d z x y e f k i = absurd cc
    go true false true z x y e f k i = absurd cc
    go false b d z x y e f k i = absurd cc
post_asks c n w h l m = refl

-- after the child's first two jobs each request is a task's
pub round_asks : (o : Opening) (c : ℕ) (numbers : List ℕ) (start rest : List Entry) → Legal o start → 2 ≤ length (asked_jobs start c) → Rounded o (tagged_crew c) numbers start rest
    → list_all (λ e. is_of_run e.what) rest ≡ true
round_asks o c numbers start rest legal two r =
    all rest r.posts (late_from o c start rest legal r.legal two) (all-split (λ (e : Entry). not (asks_none e.what) || e.by == 0) start rest (mains_ask o (start ++ rest) r.legal)).1
  where
    all : (xs : List Entry) → are_posted c xs ≡ true → list_all (λ (e : Entry). late c e.what) xs ≡ true → are_mains xs ≡ true → list_all (λ (e : Entry). is_of_run e.what) xs ≡ true
    all [] h l m = refl
    all (e ∷ xs) h l m =
        let p = both (makes (tagged_crew c e.by) e.what) (are_posted c xs) h in
        let q = both (late c e.what) (list_all (λ (x : Entry). late c x.what) xs) l in
        let s = both (not (asks_none e.what) || e.by == 0) (are_mains xs) m in
        rw (post_asks c e.by e.what p.0 q.0 s.0, all xs p.1 q.1 s.1) refl

-- ---- each claim has a desk

pub in_range : (from len x : ℕ) → list_any (λ (n : ℕ). n == x) (range_with_len from len) ≡ true → (from ≤ x) × (x < from + len)
in_range from zero x h = absurd cc
in_range from (suc len) x h = by_either (from == x)
    (λ it. (let e = same_number from x it in (omega (arith, e), omega (arith, e))))
    (λ other. (let r = in_range (from + 1) len x (sym (ap (λ (b : Bool). b || list_any (λ (n : ℕ). n == x) (range_with_len (from + 1) len)) other) ∙ h) in let low = r.0 in let high = r.1 in (omega (arith, low), omega (arith, high))))

-- so many workers have the desks of a round's tasks
pub round_desks : (o : Opening) (c n : ℕ) (start rest : List Entry) → is_tagged start c ≡ true → Rounded o (tagged_crew c) (range_with_len 1 (3 + n)) start rest → HaveDesks n start rest
round_desks o c n start rest tag r = all start rest tag r.posts r.numbered
  where
    one : (past : List Entry) (by : ℕ) (w : What) → is_tagged past c ≡ true → makes (tagged_crew c by) w ≡ true → list_any (λ (m : ℕ). m == by) (range_with_len 1 (3 + n)) ≡ true → HasDesk n past by w
    one past by (Claim task child) t m k =
        let at = claims_at c by task child m in
        let few = (in_range 1 (3 + n) by k).1 in
        let far : nat_lt by 2 ≡ false = (let f = at.0 in grind (arith, nat_tests)) in
        let tagged : is_tagged past child ≡ true = ap (is_tagged past) at.1 ∙ t in
        let desk : desk_of past by child ≡ by - 3 = rw (far, tagged) refl in
        (let f = at.0 in omega (arith, desk, f), let f = at.0 in omega (arith, desk, f, few))
    one past by w t m k = tt

    all : (past xs : List Entry) → is_tagged past c ≡ true → are_posted c xs ≡ true → list_all (λ (e : Entry). list_any (λ (m : ℕ). m == e.by) (range_with_len 1 (3 + n))) xs ≡ true → HaveDesks n past xs
    all past [] t h k = tt
    all past (e ∷ xs) t h k =
        let p = both (makes (tagged_crew c e.by) e.what) (are_posted c xs) h in
        let q = both (list_any (λ (m : ℕ). m == e.by) (range_with_len 1 (3 + n))) (list_all (λ (x : Entry). list_any (λ (m : ℕ). m == x.by) (range_with_len 1 (3 + n))) xs) k in
        (one past e.by e.what t p.0 q.0, all (past ++ e ∷ []) xs (tagged_on past (e ∷ []) c t) p.1 q.1)

-- ---- what is left

pub lost_unclosed : (why : Option Why) → is_some why ≡ true → (why ≡ Some Closed → ⊥) → is_unclosed why ≡ true
lost_unclosed None h n = absurd cc
lost_unclosed (Some Closed) h n = absurd (n refl)
lost_unclosed (Some why) h n = refl

lost_spent : (past : List Entry) (c : ℕ) → IsLostChild past c → is_spent past c ≡ true
lost_spent past c lost = or_right (is_some (refusal_of past c)) (is_mute past c || is_unclosed (why_of past c)) (go (is_ended past c) refl (is_mute past c) lost.gone)
  where
    go : (a : Bool) → is_ended past c ≡ a → (b : Bool) → (a || b) ≡ true → (b || is_unclosed (why_of past c)) ≡ true
    go a e true h = refl
    go true e false h = lost_unclosed (why_of past c) (why_is_end past c ∙ e) lost.unclosed
    go false e false h = absurd cc

-- all tasks are claimed, or the child is spent
pub round_over : (o : Opening) (means : ℕ → ℕ → ℕ → List Entry → Type 0) (crew : ℕ → Post) (numbers : List ℕ) (start rest : List Entry) (l : LinkValue) → Round o means crew numbers start rest (l ∷ [])
    → (are_all_claimed o (start ++ rest) ≡ true) ⊎ (is_spent (start ++ rest) l.ear.child ≡ true)
round_over o means crew numbers start rest l r = go r.left
  where
    first : (b : Bool) → (b || false) ≡ true → b ≡ true
    first true h = refl
    first false h = absurd cc

    go : (are_all_claimed o (start ++ rest) ≡ true) ⊎ ((c : ℕ) × IsAmong c (l ∷ []) × IsLostChild (start ++ rest) c) → (are_all_claimed o (start ++ rest) ≡ true) ⊎ (is_spent (start ++ rest) l.ear.child ≡ true)
    go (inl all) = inl all
    go (inr lost) =
        let here : l.ear.child ≡ lost.0 = same_number l.ear.child lost.0 (first (l.ear.child == lost.0) lost.1) in
        inr (lost_spent (start ++ rest) l.ear.child (subst (λ (c : ℕ). IsLostChild (start ++ rest) c) (sym here) lost.2))

-- the host closes no child in it
pub round_unclosed : (o : Opening) (crew : ℕ → Post) (numbers : List ℕ) (start rest : List Entry) → Rounded o crew numbers start rest → list_all (λ e. is_unclosed_end e.what) rest ≡ true
round_unclosed o crew numbers start rest r = all rest r.mains
  where
    one : (w : What) → is_mains w ≡ false → is_unclosed_end w ≡ true
    one (End child why) h = ap not h
    one w h = refl

    all : (xs : List Entry) → any is_mains xs ≡ false → list_all (λ (e : Entry). is_unclosed_end e.what) xs ≡ true
    all [] h = refl
    all (e ∷ xs) h = rw (one e.what (either_left (is_mains e.what) (any is_mains xs) h), all xs (either_right (is_mains e.what) (any is_mains xs) h)) refl

-- ---- which desk

-- the kth desk is that of number k + 3
desk_is : (past : List Entry) (by c k : ℕ) → is_tagged past c ≡ true → 3 < by → (desk_of past by c == k) ≡ (by == k + 3)
desk_is past by c k tag high = rw (two, tag) (same_test (by - 3 == k) (by == k + 3)
    (λ h. equal_test by (k + 3) (let is = same_number (by - 3) k h in omega (arith, is, high)))
    (λ h. equal_test (by - 3) k (let is = same_number by (k + 3) h in omega (arith, is))))
  where
    two : nat_lt by 2 ≡ false
    two = grind (arith, nat_tests)

claims_same : (c k : ℕ) (past xs : List Entry) → is_tagged past c ≡ true → are_posted c xs ≡ true → claims_for k past xs ≡ turns_by (k + 3) past xs
claims_same c k past [] tag h = refl
claims_same c k past (e ∷ xs) tag h =
    let p = both (makes (tagged_crew c e.by) e.what) (are_posted c xs) h in
    step e.what p.0 (claims_same c k (past ++ e ∷ []) xs (tagged_on past (e ∷ []) c tag) p.1)
  where
    step : (w : What) → makes (tagged_crew c e.by) w ≡ true → claims_for k (past ++ e ∷ []) xs ≡ turns_by (k + 3) (past ++ e ∷ []) xs
        → cons_option (claimed_for k past e.by w) (claims_for k (past ++ e ∷ []) xs) ≡ cons_option (cond (e.by == k + 3) (claimed_turn past w) None) (turns_by (k + 3) (past ++ e ∷ []) xs)
    step (Claim task child) m r =
        let at = claims_at c e.by task child m in
        let desk : (desk_of past e.by child == k) ≡ (e.by == k + 3) =
        ap (λ (d : ℕ). desk_of past e.by d == k) at.1 ∙ desk_is past e.by c k tag at.0 in
        rw desk (ap (cons_option (cond (e.by == k + 3) (Some (task, turn_of_task past task)) None)) r)
    step w m r = go (e.by == k + 3)
      where
        go : (b : Bool) → cons_option (claimed_for k past e.by w) (claims_for k (past ++ e ∷ []) xs) ≡ cons_option (cond b (claimed_turn past w) None) (turns_by (k + 3) (past ++ e ∷ []) xs)
        go true = r
        go false = r

-- ---- the round

-- Of any round, where its workers have the numbers after `shift`: each turn that was claimed is done, by its desk.
module _ (o : Opening) (setup : Setup) (limit shift : ℕ) (start rest : List Entry) (claimed_so : (k : ℕ) → claims_for k start rest ≡ turns_by (k + shift) start rest) where
  abbrev journal : List Entry
  journal = start ++ rest

  all_done : (n : ℕ) (rs : List TaskDone) → AllRun o setup journal n rs → AreDone o setup limit journal rs
  all_done n [] h = tt
  all_done n (r ∷ rs) h = (inl (record { number = n; run = h.0.run; child = h.0.child; answer = h.0.answer }), all_done n rs h.1)

  desk_did : (k n : ℕ) → n ≡ k + shift → (done : List TaskDone) (d e : DeskTold) → CrewDid o setup start rest n done d e → DeskDid o setup limit journal start rest k d e
  desk_did k n is done d e did = record {
    done = done;
    claimed = sym did.claimed ∙ ap (λ (m : ℕ). turns_by m start rest) is ∙ sym (claimed_so k);
    ran = all_done n done did.ran;
    log_is = did.log_is;
    caused = did.caused;
  }

  each_did : (k n : ℕ) → n ≡ k + shift → (rests : List (List TaskDone)) (ds es : List DeskTold) → CrewDesks o setup start rest n rests ds es → DesksDid o setup limit journal start rest k ds es
  each_did k n is [] [] [] did = tt
  each_did k n is [] [] (e ∷ es) did = absurd did
  each_did k n is [] (d ∷ ds) es did = absurd did
  each_did k n is (done ∷ rests) [] es did = absurd did
  each_did k n is (done ∷ rests) (d ∷ ds) [] did = absurd did
  each_did k n is (done ∷ rests) (d ∷ ds) (e ∷ es) did = (
    desk_did k n is done d e did.0,
    each_did (k + 1) (n + 1) (omega (arith, is)) rests ds es did.1,
  )

  pub any_round_did : (dones : List (List TaskDone)) (desks desks' : List DeskTold) → CrewDesks o setup start rest (1 + shift) dones desks desks' → DesksDid o setup limit (start ++ rest) start rest 1 desks desks'
  any_round_did dones desks desks' did = each_did 1 (1 + shift) refl dones desks desks' did

-- Each turn that was claimed in a round over a tagged child is done, by its desk.
pub round_did : (o : Opening) (setup : Setup) (limit : ℕ) (numbers : List ℕ) (start rest : List Entry) (l : LinkValue) (desks desks' : List DeskTold) → is_tagged start l.ear.child ≡ true
    → TaggedLeaves o setup numbers start rest l desks desks' → DesksDid o setup limit (start ++ rest) start rest 1 desks desks'
round_did o setup limit numbers start rest l desks desks' tag leaves =
    any_round_did o setup limit 3 start rest (λ k. claims_same l.ear.child k start rest tag leaves.round.rounded.posts) leaves.dones desks desks' leaves.desks_did
