-- The children of a pool are closed, one after the other: what that appends, and that each link stays held.
use Rattle.std.proofs.Common.{◌≡◌, ℕ, ◌≤◌, List, [], ◌∷◌, ◌++◌, refl, sym, ap, subst, ◌∙◌, append_assoc, append-nil, Bool, true, false, ◌==◌, None, arith}
use Rattle.std.specs.Prelude.{◌&&◌, ◌||◌, All, is_some, nat_le}
use Rattle.std.specs.List.{list_all, list_any}
use Rattle.std.proofs.lemmas.Bool.Decides.{nat_tests}
use Rattle.std.proofs.lemmas.List.Elements.{All-head, All-tail}
use Rattle.journal_model.specs.declared.entry.What.{What}
use Rattle.journal_model.specs.declared.entry.What.TheVariants.{Claim, Start, NoStart, Ask, End, Lost, Answer as Answered, Again}
use Rattle.journal_model.proofs.Holding.{claimed, closed}
use Rattle.journal_model.specs.declared.entry.Entry.{Entry}
use Rattle.journal_model.specs.Halves.{EarValue, MouthValue}
use Rattle.journal_model.specs.Journal.{any, asks, each_of, is_ended}
use Rattle.journal_model.specs.Makers.{is_of_task}
use Rattle.journal_model.specs.Shares.{are_by, is_closed, is_of_child}
use Rattle.journal_model.proofs.Testing.{all-each, all-join, by_either}
use Rattle.journal_model.proofs.Working.{holder_apart}
use Rattle.crew_work.specs.Laws.Laws.{children_of}
use Rattle.crew_work.specs.Laws.Rounds.{IsAtRest, LinkValue}
use Rattle.child_life.specs.End.Wires.{IsHeld}
use Rattle.child_life.proofs.EndLemmas.Held.{held_apart, held_closed}
use Rattle.run_starts.specs.Rounds.{is_of_run}
use Rattle.run_starts.specs.Starting.{is_any_start}
use Rattle.run_starts.proofs.Apart.{ended_on}
use Rattle.run_starts.proofs.Losing.{loses_task}
use Rattle.run_starts.proofs.Stinting.{Closing, closing, of_closing}
use Rattle.run_starts.proofs.Tests.{each_none}
use Rattle.run_children.specs.PoolChildren.Pools.{changes_claim}
use Rattle.run_children.specs.PoolChildren.Slots.{in_pool}
use Rattle.run_children.specs.PoolSteps.{ClosesAll}
use Rattle.std.proofs.lemmas.Bool.{and_parts as both, ne_eqb as differ, eqb-true as same_number, eq-eqb as equal_test}
use Rattle.ann_key.proofs.Numbers.{same_number as same}
use Rattle.ann_key.proofs.Booleans.{or_right}
use Rattle.run_children.proofs.PoolChildrenLemmas.Own.{rest_shut, shut_open}
use Rattle.journal_model.proofs.Across.{none_so as any_none, idle_on}

-- ---- what closings append

-- one of these children is closed
abbrev pub closes_one : List ℕ → What → Bool
closes_one cs (End child why) = list_any (λ c. c == child) cs && is_closed why
closes_one cs w = false

closes_more : (c : ℕ) (cs : List ℕ) (w : What) → closes_one cs w ≡ true → closes_one (c ∷ cs) w ≡ true
closes_more c cs (End child why) h =
    let t = both (list_any (λ d. d == child) cs) (is_closed why) h in
    rw (or_right (c == child) (list_any (λ d. d == child) cs) t.0, t.1) refl
closes_more c cs w h = absurd cc

pub record Closings (cs : List ℕ) (mid new : List Entry) : Type 0 where
  pub tail : List Entry
  pub is : new ≡ mid ++ tail
  pub all : list_all (λ e. closes_one cs e.what) tail ≡ true
  pub main : are_by 0 tail ≡ true
  pub ended : list_all (is_ended new) cs ≡ true

pub closings : (cs : List ℕ) (mid new : List Entry) → ClosesAll cs mid new → Closings cs mid new
closings [] mid new h = record { tail = []; is = h ∙ sym (append-nil mid); all = refl; main = refl; ended = refl }
closings (c ∷ cs) mid new h =
    let k : Closing c mid h.0 = closing c mid h.0 h.1 in
    let r : Closings cs h.0 new = closings cs h.0 new h.2 in
    let ended : is_ended new c ≡ true = ap (λ (j : List Entry). is_ended j c) r.is ∙ ended_on h.0 r.tail c k.ended in
    record {
      tail = k.tail ++ r.tail;
      is = r.is ∙ ap (λ (x : List Entry). x ++ r.tail) k.is ∙ append_assoc mid k.tail r.tail;
      all = all-join (λ (e : Entry). closes_one (c ∷ cs) e.what) k.tail r.tail
          (of_closing c k.tail k.one (λ (x : List Entry). list_all (λ (e : Entry). closes_one (c ∷ cs) e.what) x ≡ true) refl (rw (same c) refl))
          (all-each (λ (e : Entry). closes_one cs e.what) (λ (e : Entry). closes_one (c ∷ cs) e.what) (λ e. closes_more c cs e.what) r.tail r.all);
      main = all-join (λ (e : Entry). e.by == 0) k.tail r.tail (of_closing c k.tail k.one (λ (x : List Entry). are_by 0 x ≡ true) refl refl) r.main;
      ended = rw (ended, r.ended) refl;
    }

-- ---- what a closing isn't

closing_starts : (cs : List ℕ) (w : What) → closes_one cs w ≡ true → is_any_start w ≡ false
closing_starts cs (Start child slot offer) h = absurd cc
closing_starts cs (NoStart slot) h = absurd cc
closing_starts cs w h = refl

closing_takes : (cs : List ℕ) (w : What) → closes_one cs w ≡ true → claimed w ≡ None
closing_takes cs (Claim task child) h = absurd cc
closing_takes cs w h = refl

closing_unclaims : (cs : List ℕ) (w : What) → closes_one cs w ≡ true → changes_claim w ≡ false
closing_unclaims cs (Claim task child) h = absurd cc
closing_unclaims cs (Again task answer) h = absurd cc
closing_unclaims cs w h = refl

closing_keeps : (cs : List ℕ) (w : What) → closes_one cs w ≡ true → closed w ≡ None
closing_keeps cs (Answered task answer) h = absurd cc
closing_keeps cs (Again task answer) h = absurd cc
closing_keeps cs w h = refl

closing_asks : (cs : List ℕ) (d : ℕ) (w : What) → closes_one cs w ≡ true → asks d w ≡ None
closing_asks cs d (Ask child job task line) h = absurd cc
closing_asks cs d w h = refl

closing_untasked : (cs : List ℕ) (t : ℕ) (w : What) → closes_one cs w ≡ true → is_of_task t w ≡ false
closing_untasked cs t (End child why) h = refl
closing_untasked cs t w h = absurd cc

closing_loses : (cs : List ℕ) (w : What) → closes_one cs w ≡ true → loses_task w ≡ true
closing_loses cs (Lost child task) h = absurd cc
closing_loses cs w h = refl

closing_of_run : (cs : List ℕ) (w : What) → closes_one cs w ≡ true → is_of_run w ≡ true
closing_of_run cs (Ask child job task line) h = absurd cc
closing_of_run cs w h = refl

among_low : (first child : ℕ) (links : List LinkValue) → All (λ (l : LinkValue). first ≤ l.ear.child) links → list_any (λ (c : ℕ). c == child) (children_of links) ≡ true → nat_le first child ≡ true
among_low first child [] low h = absurd cc
among_low first child (l ∷ links) low h = by_either (l.ear.child == child)
    (λ it. (let is = same_number l.ear.child child it in let le = All-head (λ (x : LinkValue). first ≤ x.ear.child) l links low in grind (arith, nat_tests)))
    (λ other. among_low first child links (All-tail (λ (x : LinkValue). first ≤ x.ear.child) l links low) (sym (ap (λ (b : Bool). b || list_any (λ (c : ℕ). c == child) (children_of links)) other) ∙ h))

closing_within : (first : ℕ) (links : List LinkValue) → All (λ (l : LinkValue). first ≤ l.ear.child) links → (w : What) → closes_one (children_of links) w ≡ true → in_pool first w ≡ true
closing_within first links low (End child why) h = among_low first child links low (both (list_any (λ (c : ℕ). c == child) (children_of links)) (is_closed why) h).0
closing_within first links low w h = absurd cc

module _ {cs : List ℕ} {mid new : List Entry} (k : Closings cs mid new) where
  pub closings_start : any is_any_start k.tail ≡ false
  closings_start = any_none (closes_one cs) is_any_start (closing_starts cs) k.tail k.all

  pub closings_take : each_of claimed k.tail ≡ []
  closings_take = each_none claimed (closes_one cs) (closing_takes cs) k.tail k.all

  pub closings_close : each_of closed k.tail ≡ []
  closings_close = each_none closed (closes_one cs) (closing_keeps cs) k.tail k.all

  pub closings_claim : any changes_claim k.tail ≡ false
  closings_claim = any_none (closes_one cs) changes_claim (closing_unclaims cs) k.tail k.all

  pub closings_ask : list_all (λ e. is_of_run e.what) k.tail ≡ true
  closings_ask = all-each (λ (e : Entry). closes_one cs e.what) (λ (e : Entry). is_of_run e.what) (λ e. closing_of_run cs e.what) k.tail k.all

  pub closings_lose : list_all (λ e. loses_task e.what) k.tail ≡ true
  closings_lose = all-each (λ (e : Entry). closes_one cs e.what) (λ (e : Entry). loses_task e.what) (λ e. closing_loses cs e.what) k.tail k.all

  -- all is at rest still
  pub closings_calm : IsAtRest mid → IsAtRest new
  closings_calm calm = subst IsAtRest (sym k.is) record {
    idle = λ t. ap is_some (holder_apart mid k.tail t (any_none (closes_one cs) (is_of_task t) (closing_untasked cs t) k.tail k.all)) ∙ calm.idle t;
    shut = shut_open (mid ++ k.tail) (λ d. idle_on mid k.tail d (each_none (asks d) (closes_one cs) (closing_asks cs d) k.tail k.all) (rest_shut mid calm d));
  }

pub closings_within : (first : ℕ) (links : List LinkValue) → All (λ (l : LinkValue). first ≤ l.ear.child) links → (mid new : List Entry) → (k : Closings (children_of links) mid new) → list_all (λ e. in_pool first e.what) k.tail ≡ true
closings_within first links low mid new k = all-each (λ (e : Entry). closes_one (children_of links) e.what) (λ (e : Entry). in_pool first e.what) (λ e. closing_within first links low e.what) k.tail k.all

-- ---- links

-- a link that is held stays so, whichever of the children are closed
pub closes_held : (cs : List ℕ) (old new : List Entry) (e : EarValue) (m : MouthValue) → m.child ≡ e.child → ClosesAll cs old new → IsHeld old e m → IsHeld new e m
closes_held [] old new e m one h w = subst (λ (j : List Entry). IsHeld j e m) (sym h) w
closes_held (c ∷ cs) old new e m one h w = closes_held cs h.0 new e m one h.2 (by_either (e.child == c)
    (λ it. held_closed 0 c old h.0 e m (same_number e.child c it) h.1 w)
    (λ other.
    let k : Closing c old h.0 = closing c old h.0 h.1 in
    let apart : (c == e.child) ≡ false = differ c e.child (λ z. absurd (let bad : true ≡ false = sym (equal_test e.child c (sym z)) ∙ other in cc)) in
    subst (λ (j : List Entry). IsHeld j e m) (sym k.is) (held_apart old k.tail e m one (of_closing c k.tail k.one (λ (x : List Entry). any (is_of_child e.child) x ≡ false) refl (rw apart refl)) w)))
