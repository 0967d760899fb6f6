-- How a pool stands from one slot to the next.
use Rattle.ann_outside.specs.Told.{ProgramsTold}
use Rattle.std.proofs.Common.{◌≡◌, ℕ, zero, suc, ◌+◌, ◌<◌, ◌≤◌, List, [], ◌∷◌, ◌++◌, refl, sym, ap, subst, ◌∙◌, append_assoc, append-nil, length, length-append, Bool, true, false, not, ◌==◌, Some, None, Option, arith, inl, inr}
use Rattle.std.specs.Prelude.{◌||◌, All, is_some, unwrap_or}
use Rattle.std.specs.List.{cons_option, last_or, list_all}
use Rattle.std.proofs.lemmas.List.Elements.{All-append, All-cons, All-head, All-nil, All-tail}
use Rattle.ann_outside.specs.Starts.{Starts}
use Rattle.journal_model.specs.declared.entry.What.{What}
use Rattle.journal_model.specs.declared.entry.What.TheVariants.{Start, NoStart}
use Rattle.journal_model.specs.declared.entry.Entry.{Entry}
use Rattle.journal_model.specs.declared.opening.Opening.{Opening}
use Rattle.journal_model.specs.Journal.{any, asks, each_of, is_ended, is_tagged, offers, open_jobs}
use Rattle.journal_model.specs.Legality.{Legal, count, is_busy, is_prepared, is_start}
use Rattle.journal_model.specs.Shares.{is_of_child}
use Rattle.journal_model.proofs.Holding.{holder_append}
use Rattle.journal_model.proofs.Looks.{any-append, each_of-append}
use Rattle.journal_model.proofs.Testing.{all-each, all-join}
use Rattle.host_core.specs.Steps.{unclaimed}
use Rattle.child_life.specs.End.Programs.{AddsAll, HaveStarted, RoseBy, is_failed_start, told, told_in}
use Rattle.child_life.specs.End.Wires.{came, came_in}
use Rattle.crew_work.specs.Worker.KnownLayouts.{IsBook}
use Rattle.crew_work.specs.Laws.Laws.{Distinct, children_of}
use Rattle.crew_work.specs.Laws.Rounds.{IsAtRest, LinkValue}
use Rattle.run_starts.specs.Starting.{children, is_any_start, is_ready_untagged, started_in}
use Rattle.run_starts.specs.Rounds.{AllLostWell, IsLostIn, is_of_run}
use Rattle.run_starts.specs.Stints.{AreUpTo, main_entry, next_child}
use Rattle.run_starts.proofs.Apart.{ended_on, ready_same}
use Rattle.run_starts.proofs.Losing.{lost_both}
use Rattle.run_starts.proofs.Leaving.{none_told, rose_both, as_many}
use Rattle.run_starts.proofs.Tests.{UpTo, children_up_to, no_children, none_came, up_to_both, up_to_more}
use Rattle.crew_rounds.specs.Tagged.PoolChildren.{MayServe, PoolCan}
use Rattle.run_children.specs.PoolChildren.Pools.{AreSeated, Gathered, GathersBy, IsPool, OverBy, SeatValue, Serves, is_among, changes_claim}
use Rattle.run_children.specs.PoolChildren.Seats.{IsSlotStart, SeatsOne}
use Rattle.run_children.specs.PoolChildren.Slots.{AllInTurn, IsInSlot, IsNextSlot, StandsInTurn, begins_by_start, has_pool, in_pool, is_first_start, is_ready_pool, is_unclaimed_since, last_slot, offers_tags, slot_of}
use Rattle.run_children.proofs.PoolChildrenLemmas.Own.{AreShut, own_apart, own_claims, own_pool, own_rests, own_starts, own_tags, prepared_apart, prepared_low, rest_shut, serve_on, shut_on, shut_open}
use Rattle.run_children.proofs.PoolChildrenLemmas.Seating.{among_both, distinct_more, links_low, seated_behind, seated_both, seated_on, up_both, up_more}
use Rattle.run_children.proofs.PoolChildrenLemmas.SlotLaws.{first_same, last_first, left_same, none_first, pool_of, since_same, slot_same, turn_both, turn_quiet}
use Rattle.ann_key.proofs.Booleans.{false_is_true as not_yet, and_false as false_and, left_false as either_left, right_false as either_right, or_neither as neither, or_left, or_right}
use Rattle.std.proofs.lemmas.Bool.{and_parts as both, ne_eqb as differ, le-leb as low}
use Rattle.journal_model.proofs.Working.{count-append, count_none}
use Rattle.child_life.proofs.EndLemmas.Across.{adds_both}
use Rattle.journal_model.proofs.Across.{none_so as any_none, idle_on}
use Rattle.ann_key.proofs.Lists.{last_or-push}

-- ---- the start itself

-- what one start in the slot says
pub record SaysSlot (slot : ℕ) (past : List Entry) (first : What) : Type 0 where
  pub unclaiming : changes_claim first ≡ false
  pub untagged : offers_tags first ≡ false
  pub loses : (journal : List Entry) → IsLostIn journal first
  pub unoffering : (d : ℕ) → offers d first ≡ false
  pub asks_run : is_of_run first ≡ true
  pub asks_none : (d : ℕ) → asks d first ≡ None
  pub inside : (n : ℕ) → n ≤ next_child past → not (slot == 0) ≡ true → in_pool n first ≡ true
  pub of_none : (d : ℕ) → is_of_child d first ≡ false
  pub behind : not (slot == 0) ≡ true → is_first_start first ≡ false
  pub slotted : last_slot (past ++ main_entry first ∷ []) ≡ slot
  pub since : is_unclaimed_since (past ++ main_entry first ∷ []) ≡ true
  pub rests : ((t : ℕ) → is_busy past t ≡ false) → (t : ℕ) → is_busy (past ++ main_entry first ∷ []) t ≡ false
  pub one : count is_start (main_entry first ∷ []) ≤ 1
  pub up_to : AreUpTo (count is_start past + count is_start (main_entry first ∷ [])) (came (main_entry first ∷ []))
  pub many : length (came (main_entry first ∷ [])) ≡ 1
  pub stands : (o : Opening) (jobs : ℕ) → IsInSlot o jobs past slot → StandsInTurn o jobs past first

last_one : {X : Type 0} (f : What → Option X) (x : X) (past : List Entry) (w : What) → f w ≡ Some x → last_or None (each_of f (past ++ main_entry w ∷ [])) ≡ Some x
last_one f x past w e = ap (last_or None) (each_of-append f past (main_entry w ∷ []) ∙ ap (λ (o : Option _). each_of f past ++ cons_option o []) e) ∙ last_or-push None (each_of f past) x

pub says_slot : (slot : ℕ) (past : List Entry) (first : What) → IsSlotStart slot past first → SaysSlot slot past first
says_slot slot past first (inl e) = subst (SaysSlot slot past) (sym e) record {
  unclaiming = refl;
  untagged = refl;
  loses = λ journal. tt;
  unoffering = λ d. false_and (next_child past == d);
  asks_run = refl;
  asks_none = λ d. refl;
  inside = λ n le other. (let lower = low n (next_child past) le in rw (lower, other) refl);
  of_none = λ d. refl;
  behind = λ other. not_true (slot == 0) other;
  slotted = ap (λ (s : Option ℕ). unwrap_or s 0) (last_one slot_of slot past (Start (next_child past) slot false) refl);
  since = ap (λ (s : Option Bool). unwrap_or s false) (last_one begins_by_start true past (Start (next_child past) slot false) refl);
  rests = λ rest t. ap is_some (holder_append past (main_entry (Start (next_child past) slot false) ∷ []) t) ∙ rest t;
  one = omega arith;
  up_to = (omega arith, tt);
  many = refl;
  stands = λ o jobs h. h;
}
  where
    not_true : (b : Bool) → not b ≡ true → b ≡ false
    not_true true h = absurd cc
    not_true false h = refl
says_slot slot past first (inr e) = subst (SaysSlot slot past) (sym e) record {
  unclaiming = refl;
  untagged = refl;
  loses = λ journal. tt;
  unoffering = λ d. refl;
  asks_run = refl;
  asks_none = λ d. refl;
  inside = λ n le other. other;
  of_none = λ d. refl;
  behind = λ other. not_true (slot == 0) other;
  slotted = ap (λ (s : Option ℕ). unwrap_or s 0) (last_one slot_of slot past (NoStart slot) refl);
  since = ap (λ (s : Option Bool). unwrap_or s false) (last_one begins_by_start true past (NoStart slot) refl);
  rests = λ rest t. ap is_some (holder_append past (main_entry (NoStart slot) ∷ []) t) ∙ rest t;
  one = omega arith;
  up_to = tt;
  many = refl;
  stands = λ o jobs h. h;
}
  where
    not_true : (b : Bool) → not b ≡ true → b ≡ false
    not_true true h = absurd cc
    not_true false h = refl

in_slot : (o : Opening) (jobs : ℕ) (past : List Entry) (slot before : ℕ) → before + 1 ≡ slot → IsNextSlot o jobs past before → IsInSlot o jobs past slot
in_slot o jobs past zero before e h = absurd (let bad : ⊥ = omega (arith, e) in bad)
in_slot o jobs past (suc k) before e h = subst (IsNextSlot o jobs past) (let is : before ≡ k = omega (arith, e) in is) h

-- ---- standing

-- So far this pool was gathered: each slot before this one had its start. No more children than starts were seated.
pub record Standing (o : Opening) (jobs : ℕ) (program : List ℕ) (old new : List Entry) (first : LinkValue) (before after : ProgramsTold) (seats : List SeatValue) (links : List LinkValue) (slot : ℕ) : Type 0 where
  pub pool : IsPool ⊥ false o jobs program old new first before after seats links
  pub legal : Legal o new
  pub book : IsBook o.notes
  pub slotted : last_slot new + 1 ≡ slot
  pub pooled : has_pool new ≡ true
  pub since : is_unclaimed_since new ≡ true
  pub few : count is_start new + 1 ≤ count is_start old + slot
  pub least : count is_start old ≤ count is_start new
  pub up_to : AreUpTo (count is_start new) (came pool.gathered.later)
  pub many : length (came pool.gathered.later) + 1 ≡ slot
  pub low_links : UpTo (count is_start new) (children_of links)
  pub one_child : All (λ l. l.mouth.child ≡ l.ear.child) links

-- each link can still serve
serve_all : (o : Opening) (past more : List Entry) (most : ℕ) → Legal o (past ++ more) → ((d : ℕ) → d ≤ most → any (is_of_child d) more ≡ false) → (links : List LinkValue) → UpTo most (children_of links)
    → All (λ l. l.mouth.child ≡ l.ear.child) links → All (MayServe o past) links → All (MayServe o (past ++ more)) links
serve_all o past more most legal apart [] u ones all = All-nil (MayServe o (past ++ more))
serve_all o past more most legal apart (l ∷ links) u ones all =
    All-cons (MayServe o (past ++ more)) l links
    (serve_on o past more l legal (All-head (λ (x : LinkValue). x.mouth.child ≡ x.ear.child) l links ones) (apart l.ear.child u.0) (All-head (MayServe o past) l links all))
    (serve_all o past more most legal apart links u.1 (All-tail (λ (x : LinkValue). x.mouth.child ≡ x.ear.child) l links ones) (All-tail (MayServe o past) l links all))

-- what holds of each child up to a number
all_low : (n : ℕ) (p q : ℕ → Bool) → ((d : ℕ) → d ≤ n → p d ≡ true → q d ≡ true) → (ds : List ℕ) → UpTo n ds → list_all p ds ≡ true → list_all q ds ≡ true
all_low n p q f [] u h = refl
all_low n p q f (d ∷ ds) u h =
    let t = both (p d) (list_all p ds) h in
    rw (f d u.0 t.0, all_low n p q f ds u.1 t.1) refl

-- the pool that one start more leaves
module _ {o : Opening} {jobs : ℕ} {program : List ℕ} {old mid new : List Entry} {first : LinkValue} {before between after : ProgramsTold} {seats seats' : List SeatValue} {links links' : List LinkValue} {slot : ℕ}
    (t : Standing o jobs program old mid first before between seats links slot) (s : SeatsOne o program slot mid new between after seats seats' links links')
    (legal : Legal o new) (there : slot < jobs) (needed : slot < length (unclaimed o old)) where
  abbrev g : Gathered o jobs old mid first t.pool.more false
  g = t.pool.gathered

  abbrev begun : Entry
  begun = main_entry s.first

  abbrev tail : List Entry
  tail = begun ∷ s.later

  abbrev later : List Entry
  later = g.later ++ tail

  n : ℕ
  n = next_child mid

  says : SaysSlot slot mid s.first
  says = says_slot slot mid s.first s.start

  other : not (slot == 0) ≡ true
  other = ap not (differ slot 0 (λ e. absurd (let p = t.slotted in let bad : ⊥ = omega (arith, e, p) in bad)))

  starts_none : any is_any_start s.later ≡ false
  starts_none = own_starts (next_child mid) s.later s.within

  claims_none : any changes_claim s.later ≡ false
  claims_none = own_claims (next_child mid) s.later s.within

  apart : (d : ℕ) → d ≤ count is_start mid → any (is_of_child d) tail ≡ false
  apart d le = neither (is_of_child d s.first) (any (is_of_child d) s.later) (says.of_none d) (own_apart (next_child mid) s.later s.within d (differ (next_child mid) d (λ e. absurd (let bad : ⊥ = omega (arith, e, le) in bad))))

  is_now : new ≡ old ++ later
  is_now = s.is ∙ ap (λ (j : List Entry). j ++ tail) g.is ∙ append_assoc old g.later tail

  in_two : new ≡ (mid ++ begun ∷ []) ++ s.later
  in_two = s.is ∙ sym (append_assoc mid (begun ∷ []) s.later)

  legal_now : Legal o (mid ++ tail)
  legal_now = subst (Legal o) s.is legal

  -- ---- counts

  one_more : count is_start new ≡ count is_start mid + count is_start (begun ∷ [])
  one_more =
      ap (count is_start) in_two ∙ count-append is_start (mid ++ begun ∷ []) s.later
      ∙ (let a = count-append is_start mid (begun ∷ []) in let none = count_none is_start s.later (no_start s.later starts_none) in omega (arith, a, none))
    where
      not_start : (w : What) → is_any_start w ≡ false → is_start w ≡ false
      not_start (Start child slot offer) h = absurd cc
      not_start w h = refl

      no_start : (xs : List Entry) → any is_any_start xs ≡ false → any is_start xs ≡ false
      no_start [] h = refl
      no_start (e ∷ xs) h = neither (is_start e.what) (any is_start xs) (not_start e.what (either_left (is_any_start e.what) (any is_any_start xs) h)) (no_start xs (either_right (is_any_start e.what) (any is_any_start xs) h))

  came_first : came tail ≡ came (begun ∷ [])
  came_first = ap (λ (cs : List (Option ℕ)). cons_option (came_in s.first) cs) (none_came s.later starts_none)

  came_now : came later ≡ came g.later ++ came (begun ∷ [])
  came_now = each_of-append came_in g.later tail ∙ ap (λ (cs : List (Option ℕ)). came g.later ++ cs) came_first

  told_first : told program tail ≡ told program (begun ∷ [])
  told_first = ap (λ (ts : Starts). cons_option (told_in program s.first) ts) (none_told program s.later starts_none)

  told_now : told program later ≡ told program g.later ++ told program (begun ∷ [])
  told_now = each_of-append (told_in program) g.later tail ∙ ap (λ (ts : Starts). told program g.later ++ ts) told_first

  children_now : children later ≡ children g.later ++ children (begun ∷ [])
  children_now = each_of-append started_in g.later tail ∙ ap (λ (ds : List ℕ). children g.later ++ ds) (ap (λ (ds : List ℕ). cons_option (started_in s.first) ds) (no_children s.later starts_none))

  abbrev most : ℕ
  most = count is_start new

  up_now : AreUpTo most (came later)
  up_now = subst (AreUpTo most) (sym came_now) (subst (λ (m : ℕ). AreUpTo m (came g.later ++ came (begun ∷ []))) (sym one_more)
      (up_to_both (count is_start mid + count is_start (begun ∷ [])) (came g.later) (came (begun ∷ []))
      (up_to_more (count is_start mid) (count is_start mid + count is_start (begun ∷ [])) (omega arith) (came g.later) t.up_to) says.up_to))

  -- ---- the links

  abbrev more : List LinkValue
  more = t.pool.more ++ s.link

  links_now : links' ≡ first ∷ more
  links_now = s.links_are ∙ ap (λ (ls : List LinkValue). ls ++ s.link) t.pool.links_are

  link_low : UpTo most (children_of s.link)
  link_low = links_low between.starts new 0 most (came (begun ∷ [])) s.seat s.link (subst (λ (m : ℕ). AreUpTo m (came (begun ∷ []))) (sym one_more) says.up_to) s.seated

  children_both : (xs ys : List LinkValue) → children_of (xs ++ ys) ≡ children_of xs ++ children_of ys
  children_both [] ys = refl
  children_both (l ∷ xs) ys = ap (λ (ds : List ℕ). l.ear.child ∷ ds) (children_both xs ys)

  low_now : UpTo most (children_of links')
  low_now = subst (λ (ls : List LinkValue). UpTo most (children_of ls)) (sym s.links_are) (subst (UpTo most) (sym (children_both links s.link))
      (up_both most (children_of links) (children_of s.link) (up_more (count is_start mid) most (let o = one_more in omega (arith, o)) (children_of links) t.low_links) link_low))

  -- the new link, if there is one, is of the next child
  distinct_now : Distinct (children_of links')
  distinct_now = subst (λ (ls : List LinkValue). Distinct (children_of ls)) (sym s.links_are) (subst Distinct (sym (children_both links s.link))
      (by_start s.start s.seat s.link s.seated))
    where
      differ_mid : Distinct (children_of links)
      differ_mid = subst (λ (ls : List LinkValue). Distinct (children_of ls)) (sym t.pool.links_are) g.can.differ

      nothing : Distinct (children_of links ++ [])
      nothing = subst Distinct (sym (append-nil (children_of links))) differ_mid

      of_child : (c : ℕ) → c ≡ next_child mid → (seat : List SeatValue) (link : List LinkValue) → AreSeated between.starts new 0 (Some c ∷ []) seat link → Distinct (children_of links ++ children_of link)
      of_child c is seat [] h = nothing
      of_child c is [] (l ∷ link) h = absurd h
      of_child c is (Serves ∷ []) (l ∷ []) h = distinct_more (count is_start mid) (children_of links) l.ear.child t.low_links (let e = h.0 in omega (arith, e, is)) differ_mid
      of_child c is (Serves ∷ []) (l ∷ m ∷ link) h = absurd h.3
      of_child c is (Serves ∷ x ∷ seat) (l ∷ link) h = absurd h.3
      of_child c is (OverBy wire ∷ []) (l ∷ link) h = absurd h.2
      of_child c is (OverBy wire ∷ x ∷ seat) (l ∷ link) h = absurd h.2

      of_none : (seat : List SeatValue) (link : List LinkValue) → AreSeated between.starts new 0 (None ∷ []) seat link → Distinct (children_of links ++ children_of link)
      of_none seat [] h = nothing
      of_none [] (l ∷ link) h = absurd h
      of_none (x ∷ seat) (l ∷ link) h = absurd h

      by_start : IsSlotStart slot mid s.first → (seat : List SeatValue) (link : List LinkValue) → AreSeated between.starts new 0 (came (begun ∷ [])) seat link → Distinct (children_of links ++ children_of link)
      by_start (inl e) seat link h = of_child (next_child mid) refl seat link (subst (λ (w : What). AreSeated between.starts new 0 (came (main_entry w ∷ [])) seat link) e h)
      by_start (inr e) seat link h = of_none seat link (subst (λ (w : What). AreSeated between.starts new 0 (came (main_entry w ∷ [])) seat link) e h)

  ones_now : All (λ l. l.mouth.child ≡ l.ear.child) links'
  ones_now = subst (All (λ (l : LinkValue). l.mouth.child ≡ l.ear.child)) (sym s.links_are) (All-append (λ (l : LinkValue). l.mouth.child ≡ l.ear.child) links s.link t.one_child s.one_child)

  each_now : All (MayServe o new) links'
  each_now = subst (All (MayServe o new)) (sym s.links_are) (All-append (MayServe o new) links s.link earlier s.serve)
    where
      can_mid : All (MayServe o mid) links
      can_mid = subst (All (MayServe o mid)) (sym t.pool.links_are) g.can.each

      earlier : All (MayServe o new) links
      earlier = subst (λ (j : List Entry). All (MayServe o j) links) (sym s.is) (serve_all o mid tail (count is_start mid) legal_now apart links t.low_links t.one_child can_mid)

  -- ---- rest

  shut_now : AreShut new
  shut_now = subst AreShut (sym in_two) (shut_on (mid ++ begun ∷ []) s.later (next_child mid) s.within (ap (λ (j : List Entry). open_jobs j (next_child mid)) (sym in_two) ∙ s.idle)
      (λ d. idle_on mid (begun ∷ []) d (ap (λ (x : Option ℕ). cons_option x []) (says.asks_none d)) (rest_shut mid g.can.calm d)))

  calm_now : IsAtRest new
  calm_now = record {
    idle = λ u. ap (λ (j : List Entry). is_busy j u) in_two ∙ own_rests (next_child mid) s.later s.within (mid ++ begun ∷ []) (says.rests g.can.calm.idle) u;
    shut = shut_open new shut_now;
  }

  can_now : PoolCan o new (first ∷ more)
  can_now = subst (PoolCan o new) links_now record { calm = calm_now; differ = distinct_now; each = each_now }

  -- ---- the entries

  first_none : any is_first_start tail ≡ false
  first_none = neither (is_first_start s.first) (any is_first_start s.later) (says.behind other) (none_first s.later starts_none)

  unclaiming : any changes_claim tail ≡ false
  unclaiming = neither (changes_claim s.first) (any changes_claim s.later) says.unclaiming claims_none

  unoffered : (d : ℕ) → any (offers d) tail ≡ false
  unoffered d = neither (offers d s.first) (any (offers d) s.later) (says.unoffering d) (any_none (is_of_child (next_child mid)) (offers d) (λ w h. offers_none w h) s.later s.within)
    where
      offers_none : (w : What) → is_of_child (next_child mid) w ≡ true → offers d w ≡ false
      offers_none (Start child slot offer) h = absurd cc
      offers_none w h = refl

  stands_first : StandsInTurn o jobs mid s.first
  stands_first = says.stands o jobs (in_slot o jobs mid slot (last_slot mid) t.slotted record {
    pool = t.pooled;
    next = refl;
    unclaimed_since = t.since;
    there = (let p = t.slotted in omega (arith, p, there));
    needed = (let p = t.slotted in let same = ap (λ (us : List ℕ). length us) (ap (unclaimed o) g.is ∙ left_same o old g.later g.unclaimed_yet) in omega (arith, p, same, needed));
  })

  turn_now : AllInTurn o jobs old later
  turn_now = turn_both o jobs old g.later tail g.turn (subst (λ (j : List Entry). AllInTurn o jobs j tail) g.is (stands_first, turn_quiet o jobs (mid ++ begun ∷ []) s.later starts_none claims_none))

  ended_now : list_all (λ (c : ℕ). is_ended new c || is_among more c) (children later) ≡ true
  ended_now = ap (list_all (λ (c : ℕ). is_ended new c || is_among more c)) children_now
      ∙ all-join (λ (c : ℕ). is_ended new c || is_among more c) (children g.later) (children (begun ∷ []))
      (all-each (λ (c : ℕ). is_ended mid c || is_among t.pool.more c) (λ (c : ℕ). is_ended new c || is_among more c) (λ c h. older c h) (children g.later) g.ended)
      (all-each (λ (c : ℕ). is_ended new c || is_among s.link c) (λ (c : ℕ). is_ended new c || is_among more c) (λ c h. newer c h) (children (begun ∷ [])) s.ended)
    where
      either : (a b x y : Bool) → (a ≡ true → x ≡ true) → (b ≡ true → y ≡ true) → (a || b) ≡ true → (x || y) ≡ true
      either true b x y f h k = or_left x y (f refl)
      either false true x y f h k = or_right x y (h refl)
      either false false x y f h k = absurd cc

      older : (c : ℕ) → (is_ended mid c || is_among t.pool.more c) ≡ true → (is_ended new c || is_among more c) ≡ true
      older c h = either (is_ended mid c) (is_among t.pool.more c) (is_ended new c) (is_among more c)
          (λ e. ap (λ (j : List Entry). is_ended j c) s.is ∙ ended_on mid tail c e)
          (λ e. among_both t.pool.more s.link c ∙ or_left (is_among t.pool.more c) (is_among s.link c) e) h

      newer : (c : ℕ) → (is_ended new c || is_among s.link c) ≡ true → (is_ended new c || is_among more c) ≡ true
      newer c h = either (is_ended new c) (is_among s.link c) (is_ended new c) (is_among more c) (λ e. e) (λ e. among_both t.pool.more s.link c ∙ or_right (is_among t.pool.more c) (is_among s.link c) e) h

  ready_now : list_all (λ (c : ℕ). not (is_prepared new c) || is_among more c) (children later) ≡ true
  ready_now = ap (list_all (λ (c : ℕ). not (is_prepared new c) || is_among more c)) children_now
      ∙ all-join (λ (c : ℕ). not (is_prepared new c) || is_among more c) (children g.later) (children (begun ∷ []))
      (all_low (count is_start mid) (λ (c : ℕ). not (is_prepared mid c) || is_among t.pool.more c) (λ (c : ℕ). not (is_prepared new c) || is_among more c) (λ c le h. older c le h) (children g.later) (children_up_to (count is_start mid) g.later t.up_to) g.ready)
      (all-each (λ (c : ℕ). not (is_prepared new c) || is_among s.link c) (λ (c : ℕ). not (is_prepared new c) || is_among more c) (λ c h. newer c h) (children (begun ∷ [])) s.ready)
    where
      either : (a b x y : Bool) → (a ≡ true → x ≡ true) → (b ≡ true → y ≡ true) → (a || b) ≡ true → (x || y) ≡ true
      either true b x y f h k = or_left x y (f refl)
      either false true x y f h k = or_right x y (h refl)
      either false false x y f h k = absurd cc

      older : (c : ℕ) → c ≤ count is_start mid → (not (is_prepared mid c) || is_among t.pool.more c) ≡ true → (not (is_prepared new c) || is_among more c) ≡ true
      older c le h = either (not (is_prepared mid c)) (is_among t.pool.more c) (not (is_prepared new c)) (is_among more c)
          (λ e. ap not (ap (λ (j : List Entry). is_prepared j c) s.is ∙ prepared_apart mid tail c (apart c le)) ∙ e)
          (λ e. among_both t.pool.more s.link c ∙ or_left (is_among t.pool.more c) (is_among s.link c) e) h

      newer : (c : ℕ) → (not (is_prepared new c) || is_among s.link c) ≡ true → (not (is_prepared new c) || is_among more c) ≡ true
      newer c h = either (not (is_prepared new c)) (is_among s.link c) (not (is_prepared new c)) (is_among more c) (λ e. e) (λ e. among_both t.pool.more s.link c ∙ or_right (is_among t.pool.more c) (is_among s.link c) e) h

  abbrev base : ℕ
  base = count is_start old + 1

  abbrev gathered_now : Gathered o jobs old new first more false
  gathered_now = record {
    later = later;
    is = is_now;
    main = all-join (λ (e : Entry). e.by == 0) g.later tail g.main s.main;
    within = all-join (λ (e : Entry). in_pool base e.what) g.later tail g.within
        (let its = says.inside base (let l = t.least in omega (arith, l)) other in
        let rest : list_all (λ (e : Entry). in_pool base e.what) s.later ≡ true =
        all-each (λ (e : Entry). is_of_child (next_child mid) e.what) (λ (e : Entry). in_pool base e.what) (λ e h. own_pool base (next_child mid) (let l = t.least in omega (arith, l)) e.what h) s.later s.within in
        rw (its, rest) refl);
    unclaimed_yet = any-append changes_claim g.later tail ∙ neither (any changes_claim g.later) (any changes_claim tail) g.unclaimed_yet unclaiming;
    untagged = any-append offers_tags g.later tail
        ∙ neither (any offers_tags g.later) (any offers_tags tail) g.untagged (neither (offers_tags s.first) (any offers_tags s.later) says.untagged (own_tags (next_child mid) s.later s.within));
    asks = all-join (λ (e : Entry). is_of_run e.what) g.later tail g.asks (let its = says.asks_run in let rest = s.asks in rw (its, rest) refl);
    lost = lost_both old g.later tail g.lost (subst (λ (j : List Entry). AllLostWell j tail) g.is (λ mains. says.loses mid, s.lost));
    turn = turn_now;
    ended = ended_now;
    ready = ready_now;
    can = can_now;
    manned = λ whole. not_yet whole;
  }

  -- ---- the objects

  adds_mid : AddsAll before.starts between.starts (told program g.later)
  adds_mid = go t.pool.by.started
    where
      go : HaveStarted ⊥ program g.later before.starts between.starts → AddsAll before.starts between.starts (told program g.later)
      go (inl a) = a
      go (inr a) = absurd a.0

  seated_now : AreSeated before.starts new 0 (came later) (t.pool.others ++ s.seat) more
  seated_now = subst (λ (cs : List (Option ℕ)). AreSeated before.starts new 0 cs (t.pool.others ++ s.seat) more) (sym came_now)
      (seated_both before.starts new 0 (came g.later) (came (begun ∷ [])) t.pool.others s.seat t.pool.more s.link
      (subst (λ (j : List Entry). AreSeated before.starts j 0 (came g.later) t.pool.others t.pool.more) (sym s.is) (seated_on before.starts mid tail (count is_start mid) apart 0 (came g.later) t.pool.others t.pool.more t.up_to t.pool.by.seated))
      (seated_behind before.starts between.starts (told program g.later) (length (came g.later)) new 0 (came (begun ∷ [])) s.seat s.link adds_mid (as_many program g.later) s.seated))

  by_now : GathersBy ⊥ program new later before after (t.pool.others ++ s.seat) more
  by_now = record {
    seated = seated_now;
    started = inl (subst (AddsAll before.starts after.starts) (sym told_now) (adds_both before.starts between.starts after.starts (told program g.later) (told program (begun ∷ [])) adds_mid s.adds));
    faults = subst (λ (n : ℕ). RoseBy n before.faults after.faults) (sym failed_now) (rose_both (count is_failed_start g.later) (count is_failed_start (begun ∷ [])) before.faults between.faults after.faults t.pool.by.faults s.faults);
    later_faults = (let a = t.pool.by.later_faults in let b = s.later_faults in omega (arith, a, b));
  }
    where
      later_fails : (w : What) → is_any_start w ≡ false → is_failed_start w ≡ false
      later_fails (NoStart slot) h = absurd cc
      later_fails w h = refl

      none_fails : (xs : List Entry) → any is_any_start xs ≡ false → any is_failed_start xs ≡ false
      none_fails [] h = refl
      none_fails (e ∷ xs) h = neither (is_failed_start e.what) (any is_failed_start xs) (later_fails e.what (either_left (is_any_start e.what) (any is_any_start xs) h)) (none_fails xs (either_right (is_any_start e.what) (any is_any_start xs) h))

      failed_now : count is_failed_start later ≡ count is_failed_start g.later + count is_failed_start (begun ∷ [])
      failed_now =
          count-append is_failed_start g.later tail
          ∙ ap (λ (n : ℕ). count is_failed_start g.later + n) (count-append is_failed_start (begun ∷ []) s.later ∙ (let none_failed = count_none is_failed_start s.later (none_fails s.later starts_none) in omega (arith, none_failed)))

  -- ---- the pool serves still

  pooled_now : has_pool new ≡ true
  pooled_now = go (last_first mid) refl t.pooled
    where
      go : (c : Option ℕ) → last_first mid ≡ c → has_pool mid ≡ true → has_pool new ≡ true
      go None e h = absurd (let bad : false ≡ true = sym (ap (is_ready_pool mid) e) ∙ h in cc)
      go (Some c) e h =
          let ready : is_ready_untagged mid c ≡ true = sym (pool_of mid c e) ∙ h in
          let le : c ≤ count is_start mid = prepared_low o mid c t.legal (both (is_prepared mid c) (not (is_tagged mid c)) ready).0 in
          pool_of new c (ap last_first s.is ∙ first_same mid tail first_none ∙ e)
          ∙ ap (λ (j : List Entry). is_ready_untagged j c) s.is ∙ ready_same mid tail c (apart c le) o t.legal (unoffered c) ∙ ready

  pub standing_next : Standing o jobs program old new first before after seats' links' (slot + 1)
  standing_next = record {
    pool = record {
      more = more;
      others = t.pool.others ++ s.seat;
      links_are = links_now;
      seats_are = s.seats_are ∙ ap (λ (xs : List SeatValue). xs ++ s.seat) t.pool.seats_are;
      gathered = gathered_now;
      by = by_now;
    };
    legal = legal;
    book = t.book;
    slotted = ap (λ (k : ℕ). k + 1) (ap last_slot in_two ∙ slot_same (mid ++ begun ∷ []) s.later starts_none ∙ says.slotted);
    pooled = pooled_now;
    since = ap is_unclaimed_since in_two ∙ since_same (mid ++ begun ∷ []) s.later starts_none claims_none ∙ says.since;
    few = (let a = one_more in let b = t.few in let c = says.one in omega (arith, a, b, c));
    least = (let a = one_more in let b = t.least in omega (arith, a, b));
    up_to = up_now;
    many = (let a = t.many in let b = ap (λ (cs : List (Option ℕ)). length cs) came_now ∙ length-append (came g.later) (came (begun ∷ [])) in let c = says.many in omega (arith, a, b, c));
    low_links = low_now;
    one_child = ones_now;
  }
