-- What the workers of a pool make, entry by entry: each has its child for itself.
use Rattle.std.proofs.Common.{◌≡◌, zero, suc, ℕ, ◌+◌, ◌-◌, ◌<◌, ◌≤◌, List, [], ◌∷◌, ◌++◌, refl, sym, ap, subst, ◌∙◌, Bool, true, false, not, ◌==◌, cond, Some, None, Option, arith}
use Rattle.std.specs.Prelude.{◌&&◌, ◌||◌, All, nat_le, nat_lt, slice_get}
use Rattle.std.specs.List.{list_all, list_any, cons_option, range_with_len}
use Rattle.std.proofs.lemmas.Bool.Decides.{nat_tests}
use Rattle.std.proofs.lemmas.List.Elements.{All-head, All-tail, All-weaker}
use Rattle.journal_model.specs.declared.entry.What.{What}
use Rattle.journal_model.specs.declared.entry.What.TheVariants.{Claim, Start, NoStart, Lead, Ask, Put, Sent, Mute, Got, End, Verdict as Settled, Lost, Answer as Answered, Note as Noted, Again}
use Rattle.journal_model.specs.declared.entry.Entry.{Entry}
use Rattle.journal_model.specs.Journal.{any, is_tagged}
use Rattle.journal_model.specs.Legality.{turn_of_task}
use Rattle.crew_work.specs.Laws.Tasks.{claimed_turn, turns_by}
use Rattle.journal_model.specs.Shares.{is_closed}
use Rattle.journal_model.proofs.Idling.{are_mains, asks_none}
use Rattle.journal_model.proofs.Looks.{entry}
use Rattle.crew_work.specs.Laws.Laws.{children_of}
use Rattle.crew_work.specs.Laws.Posts.{Idle, is_mains, lone_post, makes, pool_crew, serves}
use Rattle.crew_work.specs.Laws.Rounds.{LinkValue}
use Rattle.child_life.specs.Start.Greetings.{asks_for}
use Rattle.child_life.specs.declared.start.greeting.Mode.TheVariants.{Serve}
use Rattle.run_starts.specs.Starting.{is_any_start}
use Rattle.run_starts.specs.Rounds.{is_of_run}
use Rattle.run_starts.proofs.Later.{late}
use Rattle.run_children.specs.PoolChildren.Slots.{in_pool}
use Rattle.run_children.specs.Desks.{HasDesk, HaveDesks, claimed_for, claims_for, desk_of}
use Rattle.run_children.proofs.RoundDid.{in_range}
use Rattle.std.proofs.lemmas.Bool.{and_parts as both, ne_eqb as differ, eqb-true as same_number, eq-eqb as equal_test}
use Rattle.ann_key.proofs.Booleans.{left_false as either_left, right_false as either_right, same_test}

-- ---- the post of a number

-- the number is a worker's, and its child is one of these
pub record Posted (cs : List ℕ) (n : ℕ) (w : What) : Type 0 where
  pub child : ℕ
  pub place : slice_get cs (n - 2) ≡ Some child
  pub high : 1 < n
  pub serves_it : serves child w ≡ true

pub posted : (cs : List ℕ) (n : ℕ) (w : What) → makes (pool_crew cs n) w ≡ true → Posted cs n w
posted cs n w h = go (nat_lt n 2) refl (slice_get cs (n - 2)) refl h
  where
    go : (a : Bool) → nat_lt n 2 ≡ a → (x : Option ℕ) → slice_get cs (n - 2) ≡ x → makes (cond a Idle (lone_post x)) w ≡ true → Posted cs n w
    go true e x f k = absurd cc
    go false e None f k = absurd cc
    go false e (Some c) f k = record { child = c; place = f; high = grind (arith, nat_tests); serves_it = k }

abbrev pub are_posted : List ℕ → List Entry → Bool
are_posted cs xs = list_all (λ e. makes (pool_crew cs e.by) e.what) xs

-- what holds of each of the children holds of the one at a place
pub at_place : (P : ℕ → Type 0) (links : List LinkValue) (i c : ℕ) → All (λ (l : LinkValue). P l.ear.child) links → slice_get (children_of links) i ≡ Some c → P c
at_place P [] i c all h = absurd cc
at_place P (l ∷ links) zero c all h = subst P (let is : l.ear.child ≡ c = cc in is) (All-head (λ (x : LinkValue). P x.ear.child) l links all)
at_place P (l ∷ links) (suc i) c all h = at_place P links i c (All-tail (λ (x : LinkValue). P x.ear.child) l links all) h

-- ---- what is made for a child

or_first : (a b : Bool) → b ≡ false → (a || b) ≡ true → a ≡ true
or_first true b f h = refl
or_first false b f h = absurd (let bad : true ≡ false = sym h ∙ f in cc)

at_least : (first c child : ℕ) → first ≤ c → (child == c) ≡ true → nat_le first child ≡ true
at_least first c child le h = (let is = same_number child c h in grind (arith, nat_tests))

pub claims_its : (c task child : ℕ) → serves c (Claim task child) ≡ true → child ≡ c
claims_its c task child h = same_number child c h

pub serves_within : (first c : ℕ) (w : What) → first ≤ c → serves c w ≡ true → in_pool first w ≡ true
serves_within first c (Claim task child) le h = refl
serves_within first c (Lead child job line) le h = at_least first c child le h
serves_within first c (Ask child job task line) le h = at_least first c child le h
serves_within first c (Put child job line) le h = at_least first c child le (or_first (child == c) false refl h)
serves_within first c (Sent child) le h = at_least first c child le (or_first (child == c) false refl h)
serves_within first c (Mute child) le h = at_least first c child le (or_first (child == c) false refl h)
serves_within first c (Got child line) le h = at_least first c child le (or_first (child == c) false refl h)
serves_within first c (End child why) le h = at_least first c child le (both (child == c) (not (is_closed why)) (or_first (child == c && not (is_closed why)) false refl h)).0
serves_within first c (Settled child job verdict) le h = at_least first c child le (or_first (child == c) false refl h)
serves_within first c (Lost child task) le h = at_least first c child le h
serves_within first c (Answered task answer) le h = refl
serves_within first c (Again task answer) le h = refl
serves_within first c (Noted task chunk count) le h = refl
serves_within first c w le h = absurd cc

-- a request after the first two is a task's
pub serves_asks : (c n : ℕ) (w : What) → 0 < n → serves c w ≡ true → late c w ≡ true → (not (asks_none w) || n == 0) ≡ true → is_of_run w ≡ true
serves_asks c n (Ask child job task line) some h l m =
    go (child == c) (job == 0) (job == 1) (task == 0) (asks_for Serve line) (n == 0) h (differ n 0 (λ z. absurd (let bad : ⊥ = omega (arith, z, some) in bad))) l m
  where
    go : (a b d z x y : Bool) → a ≡ true → y ≡ false → (not a || not (b || d)) ≡ true → (not z || y) ≡ true → cond (b || (d && x)) z (not (b || (d || z))) ≡ true
    go true false false false x y e f k i = refl
    go true false false true x true e f k i = absurd cc
    go true false false true x false e f k i = absurd cc
    go true false true z x y e f k i = absurd cc
    go true true d z x y e f k i = absurd cc
    go false b d z x y e f k i = absurd cc
serves_asks c n w some h l m = refl

-- ---- starts

pub start_is_mains : (w : What) → is_any_start w ≡ true → is_mains w ≡ true
start_is_mains (Start child slot offer) h = refl
start_is_mains (NoStart slot) h = refl
start_is_mains w h = absurd cc

-- ---- which desk

-- the kth desk is that of number k + 1
pub pool_desk : (past : List Entry) (by c k : ℕ) → is_tagged past c ≡ false → 1 < by → (desk_of past by c == k) ≡ (by == k + 1)
pool_desk past by c k tag high = rw (two, tag) (same_test (by - 1 == k) (by == k + 1)
    (λ h. equal_test by (k + 1) (let is = same_number (by - 1) k h in omega (arith, is, high)))
    (λ h. equal_test (by - 1) k (let is = same_number by (k + 1) h in omega (arith, is))))
  where
    two : nat_lt by 2 ≡ false
    two = grind (arith, nat_tests)

-- ---- along the entries

module _ (links : List LinkValue) where
  abbrev cs : List ℕ
  cs = children_of links

  pub pool_within : (first : ℕ) → All (λ (l : LinkValue). first ≤ l.ear.child) links → (xs : List Entry) → are_posted cs xs ≡ true → list_all (λ (e : Entry). in_pool first e.what) xs ≡ true
  pool_within first low [] h = refl
  pool_within first low (e ∷ xs) h =
      let t = both (makes (pool_crew cs e.by) e.what) (are_posted cs xs) h in
      let p = posted cs e.by e.what t.0 in
      rw (serves_within first p.child e.what (at_place (λ (c : ℕ). first ≤ c) links (e.by - 2) p.child low p.place) p.serves_it, pool_within first low xs t.1) refl

  -- each request is a task's
  pub pool_asks : (xs : List Entry) → All (λ (l : LinkValue). list_all (λ (e : Entry). late l.ear.child e.what) xs ≡ true) links → are_posted cs xs ≡ true → are_mains xs ≡ true
      → list_all (λ (e : Entry). is_of_run e.what) xs ≡ true
  pool_asks [] later h m = refl
  pool_asks (e ∷ xs) later h m =
      let t = both (makes (pool_crew cs e.by) e.what) (are_posted cs xs) h in
      let s = both (not (asks_none e.what) || e.by == 0) (are_mains xs) m in
      let p = posted cs e.by e.what t.0 in
      let some : 0 < e.by = (let high = p.high in omega (arith, high)) in
      let here = at_place (λ (c : ℕ). list_all (λ (x : Entry). late c x.what) (e ∷ xs) ≡ true) links (e.by - 2) p.child later p.place in
      rw (serves_asks p.child e.by e.what some p.serves_it (both (late p.child e.what) (list_all (λ (x : Entry). late p.child x.what) xs) here).0 s.0, pool_asks xs (later_tail e xs links later) t.1 s.1) refl
    where
      later_tail : (x : Entry) (ys : List Entry) (ls : List LinkValue) → All (λ (l : LinkValue). list_all (λ (y : Entry). late l.ear.child y.what) (x ∷ ys) ≡ true) ls
          → All (λ (l : LinkValue). list_all (λ (y : Entry). late l.ear.child y.what) ys ≡ true) ls
      later_tail x ys ls all = All-weaker (λ (l : LinkValue). list_all (λ (y : Entry). late l.ear.child y.what) (x ∷ ys) ≡ true) (λ (l : LinkValue). list_all (λ (y : Entry). late l.ear.child y.what) ys ≡ true)
          (λ l k. (both (late l.ear.child x.what) (list_all (λ (y : Entry). late l.ear.child y.what) ys) k).1) ls all

  -- the links' children take no tags, and go on so
  module _ (Untagged : List Entry → Type 0) (on : (past : List Entry) (e : Entry) → is_any_start e.what ≡ false → Untagged past → Untagged (past ++ e ∷ []))
      (none_tagged : (past : List Entry) → Untagged past → All (λ (l : LinkValue). is_tagged past l.ear.child ≡ false) links) where
    untagged_at : (past : List Entry) (n : ℕ) (w : What) → Untagged past → (p : Posted cs n w) → is_tagged past p.child ≡ false
    untagged_at past n w u p = at_place (λ (c : ℕ). is_tagged past c ≡ false) links (n - 2) p.child (none_tagged past u) p.place

    pub pool_claims : (k : ℕ) (past xs : List Entry) → Untagged past → any is_any_start xs ≡ false → are_posted cs xs ≡ true → claims_for k past xs ≡ turns_by (k + 1) past xs
    pool_claims k past [] u z h = refl
    pool_claims k past (e ∷ xs) u z h =
        let t = both (makes (pool_crew cs e.by) e.what) (are_posted cs xs) h in
        step e.what (posted cs e.by e.what t.0) (pool_claims k (past ++ e ∷ []) xs (on past e (either_left (is_any_start e.what) (any is_any_start xs) z) u) (either_right (is_any_start e.what) (any is_any_start xs) z) t.1)
      where
        step : (w : What) → Posted cs e.by w → claims_for k (past ++ e ∷ []) xs ≡ turns_by (k + 1) (past ++ e ∷ []) xs
            → cons_option (claimed_for k past e.by w) (claims_for k (past ++ e ∷ []) xs) ≡ cons_option (cond (e.by == k + 1) (claimed_turn past w) None) (turns_by (k + 1) (past ++ e ∷ []) xs)
        step (Claim task child) p r =
            let tag : is_tagged past child ≡ false = ap (is_tagged past) (claims_its p.child task child p.serves_it) ∙ untagged_at past e.by (Claim task child) u p in
            let desk : (desk_of past e.by child == k) ≡ (e.by == k + 1) = pool_desk past e.by child k tag p.high in
            rw desk (ap (cons_option (cond (e.by == k + 1) (Some (task, turn_of_task past task)) None)) r)
        step w p r = go (e.by == k + 1)
          where
            go : (b : Bool) → cons_option (claimed_for k past e.by w) (claims_for k (past ++ e ∷ []) xs) ≡ cons_option (cond b (claimed_turn past w) None) (turns_by (k + 1) (past ++ e ∷ []) xs)
            go true = r
            go false = r

    -- so many workers have the desks of their tasks
    pub pool_desks : (n many : ℕ) (past xs : List Entry) → many ≤ n → Untagged past → any is_any_start xs ≡ false → are_posted cs xs ≡ true
        → list_all (λ (e : Entry). list_any (λ (m : ℕ). m == e.by) (range_with_len 1 (1 + many))) xs ≡ true → HaveDesks n past xs
    pool_desks n many past [] few u z h k = tt
    pool_desks n many past (e ∷ xs) few u z h k =
        let t = both (makes (pool_crew cs e.by) e.what) (are_posted cs xs) h in
        let q = both (list_any (λ (m : ℕ). m == e.by) (range_with_len 1 (1 + many))) (list_all (λ (x : Entry). list_any (λ (m : ℕ). m == x.by) (range_with_len 1 (1 + many))) xs) k in (
          one e.what (posted cs e.by e.what t.0) (in_range 1 (1 + many) e.by q.0).1,
          pool_desks n many (past ++ e ∷ []) xs few (on past e (either_left (is_any_start e.what) (any is_any_start xs) z) u) (either_right (is_any_start e.what) (any is_any_start xs) z) t.1 q.1,
        )
      where
        one : (w : What) → Posted cs e.by w → e.by < 1 + (1 + many) → HasDesk n past e.by w
        one (Claim task child) p below =
            let tag : is_tagged past child ≡ false = ap (is_tagged past) (claims_its p.child task child p.serves_it) ∙ untagged_at past e.by (Claim task child) u p in
            let high = p.high in
            let far : nat_lt e.by 2 ≡ false = grind (arith, nat_tests) in
            let desk : desk_of past e.by child ≡ e.by - 1 = rw (far, tag) refl in
            (omega (arith, desk, high), omega (arith, desk, high, below, few))
        one w p below = tt
