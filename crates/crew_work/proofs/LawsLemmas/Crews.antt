-- In each crew a child's entries of a kind are one number's, and no post makes what is the main thread's.
use Rattle.std.proofs.Common.{◌≡◌, ◌≢◌, zero, suc, ℕ, ◌-◌, ◌≤◌, List, [], ◌∷◌, refl, sym, ap, subst, ◌∙◌, Bool, true, false, not, ◌==◌, cond, Some, None, Option, arith, slice_get}
use Rattle.std.specs.Prelude.{◌&&◌, nat_lt}
use Rattle.std.specs.List.{list_any}
use Rattle.std.proofs.lemmas.Option.{same_Some}
use Rattle.std.proofs.lemmas.Bool.Decides.{nat_tests}
use Rattle.journal_model.specs.declared.verdict.Why.{Why}
use Rattle.journal_model.specs.declared.verdict.Why.TheVariants.{Closed}
use Rattle.journal_model.specs.declared.entry.What.{What}
use Rattle.journal_model.specs.declared.entry.What.TheVariants.{Start, NoStart, Lead, Ask, Put, Sent, Mute, Got, End, Verdict as Settled, Lost}
use Rattle.journal_model.specs.Shares.{is_heard, is_said, is_of_child, is_memory, is_closed, by_ear, by_mouth, by_link}
use Rattle.journal_model.proofs.Testing.{by_either}
use Rattle.crew_work.specs.Laws.Posts.{Post, Idle, Ender, gives_up, Ear, Mouth, Worker, Lone, makes, works, serves, is_mains, tagged_crew, pool_crew, alone_crew, lone_post, OnlyAt, Nowhere}
use Rattle.crew_work.specs.Laws.Laws.{Distinct}
use Rattle.ann_key.proofs.Numbers.{same_number as same}
use Rattle.std.proofs.lemmas.Bool.{eqb-true as same_number, ne_eqb as differ, and_parts as both}
use Rattle.ann_key.proofs.Booleans.{true_and_false as true_not_false, left_false as either_left, right_false as either_right, or_neither as neither}

-- ---- kinds of entries

heard_not_said : (c d : ℕ) (w : What) → is_heard c w ≡ true → by_mouth d w ≡ false
heard_not_said c d (Got child line) h = refl
heard_not_said c d (End child why) h = (let s = both (child == c) (not (is_memory why)) h in go (child == d) (is_memory why) s.1)
  where
    go : (a b : Bool) → not b ≡ true → (a && b) ≡ false
    go a true h = absurd cc
    go true false h = refl
    go false false h = refl
heard_not_said c d w h = absurd cc

heard_not_worked : (c d : ℕ) (w : What) → is_heard c w ≡ true → works d w ≡ false
heard_not_worked c d (Got child line) h = refl
heard_not_worked c d (End child why) h = refl
heard_not_worked c d w h = absurd cc

heard_not_ended : (c d : ℕ) (w : What) → is_heard c w ≡ true → gives_up d w ≡ false
heard_not_ended c d (Got child line) h = refl
heard_not_ended c d (End child why) h = heard_not_said c d (End child why) h
heard_not_ended c d w h = absurd cc

said_not_ended : (c d : ℕ) (w : What) → is_said c w ≡ true → gives_up d w ≡ false
said_not_ended c d (Sent child) h = refl
said_not_ended c d (Mute child) h = refl
said_not_ended c d w h = absurd cc

said_not_heard : (c d : ℕ) (w : What) → is_said c w ≡ true → by_ear d w ≡ false
said_not_heard c d (Sent child) h = refl
said_not_heard c d (Mute child) h = refl
said_not_heard c d w h = absurd cc

said_not_worked : (c d : ℕ) (w : What) → is_said c w ≡ true → works d w ≡ false
said_not_worked c d (Sent child) h = refl
said_not_worked c d (Mute child) h = refl
said_not_worked c d w h = absurd cc

closing : (why : Why) (a : Bool) → is_closed why ≡ true → (a && not (is_closed why)) ≡ false
closing Closed true h = refl
closing Closed false h = refl
closing why a h = absurd cc

closing_memory : (why : Why) (a : Bool) → is_closed why ≡ true → (a && is_memory why) ≡ false
closing_memory Closed true h = refl
closing_memory Closed false h = refl
closing_memory why a h = absurd cc

mains_heard : (c : ℕ) (w : What) → is_mains w ≡ true → by_ear c w ≡ false
mains_heard c (Start child slot offer) h = refl
mains_heard c (NoStart slot) h = refl
mains_heard c (End child why) h = closing why (child == c) h
mains_heard c w h = absurd cc

mains_said : (c : ℕ) (w : What) → is_mains w ≡ true → by_mouth c w ≡ false
mains_said c (Start child slot offer) h = refl
mains_said c (NoStart slot) h = refl
mains_said c (End child why) h = closing_memory why (child == c) h
mains_said c w h = absurd cc

mains_ended : (c : ℕ) (w : What) → is_mains w ≡ true → gives_up c w ≡ false
mains_ended c (Start child slot offer) h = refl
mains_ended c (NoStart slot) h = refl
mains_ended c (End child why) h = closing_memory why (child == c) h
mains_ended c w h = absurd cc

mains_worked : (c : ℕ) (w : What) → is_mains w ≡ true → works c w ≡ false
mains_worked c (Start child slot offer) h = refl
mains_worked c (NoStart slot) h = refl
mains_worked c (End child why) h = refl
mains_worked c w h = absurd cc

mains_linked : (c : ℕ) (w : What) → is_mains w ≡ true → by_link c w ≡ false
mains_linked c (Start child slot offer) h = refl
mains_linked c (NoStart slot) h = refl
mains_linked c (End child why) h = closing why (child == c) h
mains_linked c w h = absurd cc

mains_post : (p : Post) (w : What) → is_mains w ≡ true → makes p w ≡ false
mains_post Idle w h = refl
mains_post (Ender c) w h = mains_ended c w h
mains_post (Ear c) w h = mains_heard c w h
mains_post (Mouth c) w h = mains_said c w h
mains_post (Worker c) w h = mains_worked c w h
mains_post (Lone c) w h = neither (by_link c w) (works c w) (mains_linked c w h) (mains_worked c w h)

-- no post starts or closes a child
pub mains_nowhere : (crew : ℕ → Post) → Nowhere crew is_mains
mains_nowhere crew m w h = mains_post (crew m) w h

-- ---- over a tagged child

pub heard_at_ear : (c : ℕ) → OnlyAt (tagged_crew c) (is_heard c) 2
heard_at_ear c m w other h = go (nat_lt m 2) (m == 2) (m == 3) (differ m 2 other)
  where
    go : (a b d : Bool) → b ≡ false → makes (cond a (Ender c) (cond b (Ear c) (cond d (Mouth c) (Worker c)))) w ≡ false
    go true b d e = heard_not_ended c c w h
    go false true d e = absurd cc
    go false false true e = heard_not_said c c w h
    go false false false e = heard_not_worked c c w h

pub said_at_mouth : (c : ℕ) → OnlyAt (tagged_crew c) (is_said c) 3
said_at_mouth c m w other h = go (nat_lt m 2) (m == 2) (m == 3) (differ m 3 other)
  where
    go : (a b d : Bool) → d ≡ false → makes (cond a (Ender c) (cond b (Ear c) (cond d (Mouth c) (Worker c)))) w ≡ false
    go true b d e = said_not_ended c c w h
    go false true d e = said_not_heard c c w h
    go false false true e = absurd cc
    go false false false e = said_not_worked c c w h

-- ---- lone links

off : (child c d : ℕ) → c ≢ d → (child == c) ≡ true → (child == d) ≡ false
off child c d other e = differ child d (λ z. other (sym (same_number child c e) ∙ z))

-- what is of one child is not made by a role of another
apart_ear : (c d : ℕ) (w : What) → c ≢ d → is_of_child c w ≡ true → by_ear d w ≡ false
apart_ear c d (Put child job line) other h = off child c d other h
apart_ear c d (Got child line) other h = off child c d other h
apart_ear c d (End child why) other h = rw (off child c d other h) refl
apart_ear c d (Settled child job verdict) other h = off child c d other h
apart_ear c d w other h = refl

apart_mouth : (c d : ℕ) (w : What) → c ≢ d → is_of_child c w ≡ true → by_mouth d w ≡ false
apart_mouth c d (Sent child) other h = off child c d other h
apart_mouth c d (Mute child) other h = off child c d other h
apart_mouth c d (End child why) other h = rw (off child c d other h) refl
apart_mouth c d (Settled child job verdict) other h = rw (off child c d other h) refl
apart_mouth c d w other h = refl

apart_link : (c d : ℕ) (w : What) → c ≢ d → is_of_child c w ≡ true → by_link d w ≡ false
apart_link c d (Put child job line) other h = off child c d other h
apart_link c d (Got child line) other h = off child c d other h
apart_link c d (Sent child) other h = off child c d other h
apart_link c d (Mute child) other h = off child c d other h
apart_link c d (End child why) other h = rw (off child c d other h) refl
apart_link c d (Settled child job verdict) other h = off child c d other h
apart_link c d w other h = refl

apart_end : (c d : ℕ) (w : What) → c ≢ d → is_of_child c w ≡ true → gives_up d w ≡ false
apart_end c d (End child why) other h = rw (off child c d other h) refl
apart_end c d (Settled child job verdict) other h = off child c d other h
apart_end c d w other h = refl

apart_worker : (c d : ℕ) (w : What) → c ≢ d → is_of_child c w ≡ true → works d w ≡ false
apart_worker c d (Lead child job line) other h = off child c d other h
apart_worker c d (Ask child job task line) other h = off child c d other h
apart_worker c d (Lost child task) other h = off child c d other h
apart_worker c d (Put child job line) other h = refl
apart_worker c d (Sent child) other h = refl
apart_worker c d (Mute child) other h = refl
apart_worker c d (Got child line) other h = refl
apart_worker c d (End child why) other h = refl
apart_worker c d (Settled child job verdict) other h = refl
apart_worker c d w other h = absurd cc

apart : (c d : ℕ) (w : What) → c ≢ d → is_of_child c w ≡ true → serves d w ≡ false
apart c d w other h = neither (by_link d w) (works d w) (apart_link c d w other h) (apart_worker c d w other h)

-- nothing of another child is made over a tagged one
pub elsewhere_tagged : (c d : ℕ) → c ≢ d → Nowhere (tagged_crew d) (is_of_child c)
elsewhere_tagged c d other m w h = go (nat_lt m 2) (m == 2) (m == 3)
  where
    go : (a b e : Bool) → makes (cond a (Ender d) (cond b (Ear d) (cond e (Mouth d) (Worker d)))) w ≡ false
    go true b e = apart_end c d w other h
    go false true e = apart_ear c d w other h
    go false false true = apart_mouth c d w other h
    go false false false = apart_worker c d w other h

pub elsewhere_alone : (c d : ℕ) → c ≢ d → Nowhere (alone_crew d) (is_of_child c)
elsewhere_alone c d other m w h = go (m == 1)
  where
    go : (a : Bool) → makes (cond a (Lone d) Idle) w ≡ false
    go true = apart c d w other h
    go false = refl

not_among : (c : ℕ) (children : List ℕ) (i d : ℕ) → list_any (λ x. x == c) children ≡ false → slice_get children i ≡ Some d → (d == c) ≡ false
not_among c [] i d h there = absurd cc
not_among c (x ∷ xs) zero d h there = (let e : x ≡ d = same_Some x d there in subst (λ (z : ℕ). (z == c) ≡ false) e (either_left (x == c) (list_any (λ z. z == c) xs) h))
not_among c (x ∷ xs) (suc i) d h there = not_among c xs i d (either_right (x == c) (list_any (λ z. z == c) xs) h) there

pub elsewhere_pool : (c : ℕ) (children : List ℕ) → list_any (λ d. d == c) children ≡ false → Nowhere (pool_crew children) (is_of_child c)
elsewhere_pool c children off m w h = go (nat_lt m 2) (slice_get children (m - 2)) refl
  where
    go : (a : Bool) (o : Option ℕ) → slice_get children (m - 2) ≡ o → makes (cond a Idle (lone_post o)) w ≡ false
    go true o e = refl
    go false None e = refl
    go false (Some d) e = apart c d w (λ z. true_not_false (d == c) (subst (λ (x : ℕ). (d == x) ≡ true) (sym z) (same d)) (not_among c children (m - 2) d off e)) h

pub child_at_lone : (children : List ℕ) (n c : ℕ) → Distinct children → 2 ≤ n → slice_get children (n - 2) ≡ Some c → OnlyAt (pool_crew children) (is_of_child c) n
child_at_lone children n c distinct le here m w other h = by_either (nat_lt m 2) early late
  where
    early : nat_lt m 2 ≡ true → makes (pool_crew children m) w ≡ false
    early e = rw e refl

    late : nat_lt m 2 ≡ false → makes (pool_crew children m) w ≡ false
    late e = rw e (go (slice_get children (m - 2)) refl)
      where
        go : (o : Option ℕ) → slice_get children (m - 2) ≡ o → makes (lone_post o) w ≡ false
        go None is = refl
        go (Some d) is = apart c d w (λ z. other (let k : m - 2 ≡ n - 2 = distinct (m - 2) (n - 2) c (is ∙ ap Some (sym z)) here in let g : 2 ≤ m = grind (arith, nat_tests) in omega (arith, k, le, g))) h

pub child_at_main : (c : ℕ) → OnlyAt (alone_crew c) (is_of_child c) 1
child_at_main c m w other h = rw (differ m 1 other) refl
