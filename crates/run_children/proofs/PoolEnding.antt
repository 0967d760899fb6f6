-- What a pool comes to, by what came of gathering it.
use Rattle.ann_outside.specs.Told.{DeskTold, ProgramsTold}
use Rattle.std.proofs.Common.{◌≡◌, ◌⊎◌, ℕ, ◌+◌, ◌≤◌, List, [], ◌∷◌, refl, sym, ap, subst, ◌∙◌, append-nil, length, Bool, true, false, arith, inl, inr, Ok, Err, Result}
use Rattle.std.specs.Prelude.{All, IfOk, IsErr, MatchResult, is_ok}
use Rattle.ann_key.specs.declared.bytes.NoMemory.{NoMemory}
use Rattle.std.proofs.lemmas.List.Elements.{All-cons, All-head, All-nil, All-tail, All-weaker}
use Rattle.ann_outside.specs.Causes.{Stays}
use Rattle.journal_model.specs.declared.entry.Entry.{Entry}
use Rattle.journal_model.specs.declared.opening.Opening.{Opening}
use Rattle.journal_model.specs.declared.verdict.Why.TheVariants.{Closed}
use Rattle.journal_model.specs.Journal.{any, is_started, is_tagged}
use Rattle.journal_model.specs.Legality.{Legal, count, is_start, may_stop}
use Rattle.journal_model.specs.Shares.{are_by, is_of_child}
use Rattle.child_link.specs.Alone.{Closes}
use Rattle.child_link.specs.Wires.{WireValue}
use Rattle.child_life.specs.End.Wires.{IsHeld, IsLaid, came}
use Rattle.child_life.proofs.EndLemmas.Held.{lone_held}
use Rattle.crew_work.specs.Laws.Laws.{children_of}
use Rattle.crew_work.specs.Laws.Rounds.{LinkValue}
use Rattle.task_model.specs.declared.setup.Setup.{Setup}
use Rattle.run_starts.proofs.Leaving.{rose_still, stays_none}
use Rattle.run_starts.proofs.Stinting.{may_close}
use Rattle.crew_rounds.specs.Tagged.PoolChildren.{MayServe}
use Rattle.crew_rounds.specs.Pool.Pool.{AreSameLinks}
use Rattle.run_children.specs.PoolChildren.Pools.{IsPool, IsUngathered, SeatValue, Serves}
use Rattle.run_children.specs.Pools.{PoolServed}
use Rattle.run_children.specs.PoolSteps.{AreLaid, ClosesAll, RoundsPool, ServesFirst, ServesLinks, StarvedLinks, serving}
use Rattle.run_children.specs.Posts.{since_start}
use Rattle.run_children.specs.Servings.{CanBeServed}
use Rattle.run_children.proofs.PoolClosings.{closes_held}
use Rattle.run_children.proofs.PoolMiddle.{Middle, middle_alone, middle_none, middle_round}
use Rattle.run_children.proofs.PoolTags.{later_ascend, seated_serving}
use Rattle.run_children.proofs.PoolWhole.{pool_can, pool_low, pool_mains, pool_served, pool_untagged}
use Rattle.run_children.proofs.PoolWires.{Settled, leaves_pool, wire_stays}
use Rattle.crew_rounds.proofs.PoolLemmas.Backs.{links_still as link_same}

-- a link for each seat that serves
pub pool_serving : {wanted : Type 0} {whole : Bool} {o : Opening} {jobs : ℕ} {program : List ℕ} {old g : List Entry} {first : LinkValue} {before after : ProgramsTold} {seats : List SeatValue} {links : List LinkValue}
    → IsPool wanted whole o jobs program old g first before after seats links → serving seats ≡ length links
pool_serving {wanted} {whole} {o} {jobs} {program} {old} {g} {first} {before} p =
    ap serving p.seats_are ∙ (let so = seated_serving before.starts g 0 (came p.gathered.later) p.others p.more p.by.seated in let e : serving p.others + 1 ≡ length (first ∷ p.more) = omega (arith, so) in e)
    ∙ sym (ap (λ (ls : List LinkValue). length ls) p.links_are)

module _ {wanted : Type 0} (o : Opening) (setup : Setup) (limit : ℕ) (program : List ℕ) (old g new : List Entry) (first : LinkValue) (before told after : ProgramsTold) (seats : List SeatValue) (links links' : List LinkValue) (desks desks' : List DeskTold) (whole : Bool)
    (wires wires' : List WireValue) (p : IsPool wanted whole o (length desks) program old g first before told seats links) (legal : Legal o old) (its : first.ear.child ≡ count is_start old) where
  abbrev c : ℕ
  c = first.ear.child

  legal_g : Legal o g
  legal_g = (All-head (MayServe o g) first p.more p.gathered.can.each).serves.legal

  module _ (mid : List Entry) (m : Middle o setup limit c (first ∷ p.more) g mid desks desks' whole) (closed : ClosesAll (children_of links) mid new) (legal' : Legal o new) (same : AreSameLinks links links')
      (held : All (λ (l : LinkValue). IsHeld new l.ear l.mouth) links') (one : All (λ (l : LinkValue). l.mouth.child ≡ l.ear.child) links') (laid : AreLaid seats links' wires wires') (stays : Stays told.starts after.starts) (later : told.faults ≤ after.faults) where
    closed_so : ClosesAll (children_of (first ∷ p.more)) mid new
    closed_so = subst (λ (ls : List LinkValue). ClosesAll (children_of ls) mid new) p.links_are closed

    settled : Settled new first p.more links' p.others wires wires'
    settled = record {
      laid = subst (λ (ss : List SeatValue). AreLaid ss links' wires wires') p.seats_are laid;
      same = subst (λ (ls : List LinkValue). AreSameLinks ls links') p.links_are same;
      held = held;
      one = one;
    }

    pub pool_ends : {wanted' : Type 0} → (wanted → wanted') → PoolServed wanted' o setup limit program old new desks desks' whole first.ear first.mouth before after wires wires'
    pool_ends f = pool_served o setup limit old g mid new first p.more desks desks' whole before.starts p.others its legal p.gathered p.by.seated m closed_so legal'
        (λ more is none. leaves_pool program g new p.gathered.later more first p.more links' p.others (count is_start old) before told after wires wires' f none (omega (arith, its))
        (later_ascend o old p.gathered.later (subst (Legal o) p.gathered.is legal_g)) p.by.seated p.by.started p.by.faults p.by.later_faults stays later settled
        (λ d k wire at apart l. wire_stays before.starts g m.rest mid new (children_of (first ∷ p.more)) m.is closed_so k wire (subst (λ (e : ℕ). any (is_of_child e) m.rest ≡ false) (sym at) (m.others d apart)) l))

-- ---- the pool is whole: it did tasks

pub whole_ends : {wanted wanted' : Type 0} (o : Opening) (setup : Setup) (limit jobs : ℕ) (program : List ℕ) (old g new : List Entry) (first : LinkValue) (before told after : ProgramsTold) (seats : List SeatValue) (links links' : List LinkValue) (desks desks' : List DeskTold)
    (wires wires' : List WireValue) → jobs ≡ length desks → (wanted → wanted') → IsPool wanted true o jobs program old g first before told seats links → CanBeServed o old first.ear first.mouth false → first.ear.child ≡ count is_start old
    → ServesLinks o setup g new links links' desks desks' → Legal o new → AreSameLinks links links' → All (λ (l : LinkValue). IsHeld new l.ear l.mouth) links' → All (λ (l : LinkValue). l.mouth.child ≡ l.ear.child) links'
    → AreLaid seats links' wires wires' → Stays told.starts after.starts → told.faults ≤ after.faults → PoolServed wanted' o setup limit program old new desks desks' true first.ear first.mouth before after wires wires'
whole_ends {wanted} {wanted'} o setup limit jobs program old g new first before told after seats links links' desks desks' wires wires' many f given can its s legal' same held one laid stays later =
    pool_ends o setup limit program old g new first before told after seats links links' desks desks' true wires wires' p can.can.serves.legal its s'.mid (middle s'.done) closed legal' same held one laid stays later f
  where
    p : IsPool wanted true o (length desks) program old g first before told seats links
    p = subst (λ (n : ℕ). IsPool wanted true o n program old g first before told seats links) many given

    s' : ServesLinks o setup g new (first ∷ p.more) links' desks desks'
    s' = subst (λ (ls : List LinkValue). ServesLinks o setup g new ls links' desks desks') p.links_are s

    legal_g : Legal o g
    legal_g = (All-head (MayServe o g) first p.more p.gathered.can.each).serves.legal

    closed : ClosesAll (children_of links) s'.mid new
    closed = subst (λ (ls : List LinkValue). ClosesAll (children_of ls) s'.mid new) (sym p.links_are) s'.closes

    low : All (λ (l : LinkValue). first.ear.child ≤ l.ear.child) (first ∷ p.more)
    low = pool_low o setup limit old g g g first p.more desks desks true before.starts p.others its can.can.serves.legal p.gathered p.by.seated

    untagged : All (λ (l : LinkValue). is_tagged g l.ear.child ≡ false) (first ∷ p.more)
    untagged = pool_untagged o setup limit old g g g first p.more desks desks true before.starts p.others its can.can.serves.legal p.gathered p.by.seated can.can.serves.prepared (sym can.tag)

    mains : All (λ (l : LinkValue). are_by 0 (since_start l.ear.child g) ≡ true) (first ∷ p.more)
    mains = pool_mains o setup limit old g g g first p.more desks desks true before.starts p.others its can.can.serves.legal p.gathered p.by.seated can.can.serves.started can.mains

    middle : RoundsPool o setup g s'.mid (first ∷ p.more) links' desks desks' ⊎ ServesFirst o setup (first ∷ p.more) g s'.mid desks desks' → Middle o setup limit first.ear.child (first ∷ p.more) g s'.mid desks desks' true
    middle (inl r) = middle_round o setup limit first.ear.child g s'.mid (first ∷ p.more) links' desks desks' legal_g p.gathered.can low untagged mains (subst (λ (ls : List LinkValue). AreSameLinks ls links') p.links_are same) r
    middle (inr a) = middle_alone o setup limit first.ear.child g s'.mid first p.more desks desks' legal_g p.gathered.can low (s'.legal legal_g) a

-- ---- no memory was found to start a child: all are closed

pub starved_ends : {wanted wanted' : Type 0} {tagged : Bool} (o : Opening) (setup : Setup) (limit jobs : ℕ) (program : List ℕ) (old g new : List Entry) (first : LinkValue) (before told after : ProgramsTold) (seats : List SeatValue) (links : List LinkValue) (desks : List DeskTold)
    (wires wires' : List WireValue) → jobs ≡ length desks → (wanted → wanted') → IsPool wanted false o jobs program old g first before told seats links → CanBeServed o old first.ear first.mouth tagged → first.ear.child ≡ count is_start old
    → ClosesAll (children_of links) g new → Legal o new → All (λ (l : LinkValue). l.mouth.child ≡ l.ear.child) links
    → AreLaid seats links wires wires' → Stays told.starts after.starts → told.faults ≤ after.faults → PoolServed wanted' o setup limit program old new desks desks false first.ear first.mouth before after wires wires'
starved_ends {wanted} {wanted'} {tagged} o setup limit jobs program old g new first before told after seats links desks wires wires' many f given can its closed legal' one laid stays later =
    pool_ends o setup limit program old g new first before told after seats links links desks desks false wires wires' p can.can.serves.legal its g
    (middle_none o setup limit first.ear.child (first ∷ p.more) g desks (All-head (MayServe o g) first p.more p.gathered.can.each).serves.legal p.gathered.can.calm) closed legal' (link_same links) held one laid stays later f
  where
    p : IsPool wanted false o (length desks) program old g first before told seats links
    p = subst (λ (n : ℕ). IsPool wanted false o n program old g first before told seats links) many given

    each : All (MayServe o g) links
    each = subst (λ (ls : List LinkValue). All (MayServe o g) ls) (sym p.links_are) p.gathered.can.each

    go : (ls : List LinkValue) → All (MayServe o g) ls → All (λ (l : LinkValue). l.mouth.child ≡ l.ear.child) ls → All (λ (l : LinkValue). IsHeld new l.ear l.mouth) ls
    go [] a b = All-nil (λ (l : LinkValue). IsHeld new l.ear l.mouth)
    go (l ∷ ls) a b =
        All-cons (λ (x : LinkValue). IsHeld new x.ear x.mouth) l ls
        (closes_held (children_of links) g new l.ear l.mouth (All-head (λ (x : LinkValue). x.mouth.child ≡ x.ear.child) l ls b) closed (lone_held g l.ear l.mouth (All-head (MayServe o g) l ls a).wired))
        (go ls (All-tail (MayServe o g) l ls a) (All-tail (λ (x : LinkValue). x.mouth.child ≡ x.ear.child) l ls b))

    held : All (λ (l : LinkValue). IsHeld new l.ear l.mouth) links
    held = go links each one

-- it may be one that wasn't whole
pub some_pool : {wanted : Type 0} {o : Opening} {jobs : ℕ} {program : List ℕ} {old g : List Entry} {first : LinkValue} {before after : ProgramsTold} {seats : List SeatValue} {links : List LinkValue}
    → IsPool wanted true o jobs program old g first before after seats links → IsPool wanted false o jobs program old g first before after seats links
some_pool p = record {
  more = p.more;
  others = p.others;
  links_are = p.links_are;
  seats_are = p.seats_are;
  gathered = record {
    later = p.gathered.later;
    is = p.gathered.is;
    main = p.gathered.main;
    within = p.gathered.within;
    unclaimed_yet = p.gathered.unclaimed_yet;
    untagged = p.gathered.untagged;
    asks = p.gathered.asks;
    lost = p.gathered.lost;
    turn = p.gathered.turn;
    ended = p.gathered.ended;
    ready = p.gathered.ready;
    can = p.gathered.can;
    manned = λ w. absurd cc;
  };
  by = p.by;
}

pub if_ok : {A E P Q : Type 0} (r : Result A E) → (P → Q) → IfOk r (λ _. P) → IfOk r (λ _. Q)
if_ok (Ok a) f h = f h
if_ok (Err e) f h = tt

-- of a whole pool, which did tasks, or found no memory for its round
pub links_end : (o : Opening) (setup : Setup) (limit jobs : ℕ) (program : List ℕ) (old g new : List Entry) (first : LinkValue) (before told after : ProgramsTold) (seats : List SeatValue) (links links' : List LinkValue) (desks desks' : List DeskTold)
    (wires wires' : List WireValue) → jobs ≡ length desks → (r : Result (Unit {0}) NoMemory) → IsPool ⊥ true o jobs program old g first before told seats links → CanBeServed o old first.ear first.mouth false → first.ear.child ≡ count is_start old
    → MatchResult r (λ _. ServesLinks o setup g new links links' desks desks') (λ _. StarvedLinks g new links links' desks desks') → Legal o new → AreSameLinks links links' → IfOk r (λ _. All (λ (l : LinkValue). IsHeld new l.ear l.mouth) links')
    → All (λ (l : LinkValue). l.mouth.child ≡ l.ear.child) links' → AreLaid seats links' wires wires' → Stays told.starts after.starts → told.faults ≤ after.faults
    → PoolServed (IsErr r) o setup limit program old new desks desks' (is_ok r) first.ear first.mouth before after wires wires'
links_end o setup limit jobs program old g new first before told after seats links links' desks desks' wires wires' many (Ok u) given can its s legal' same held one laid stays later =
    whole_ends o setup limit jobs program old g new first before told after seats links links' desks desks' wires wires' many (λ w. absurd w) given can its s legal' same held one laid stays later
links_end o setup limit jobs program old g new first before told after seats links links' desks desks' wires wires' many (Err e) given can its s legal' same held one laid stays later =
    subst (λ (ds : List DeskTold). PoolServed (true ≡ true) o setup limit program old new desks ds false first.ear first.mouth before after wires wires') (sym s.desks_are)
    (starved_ends o setup limit jobs program old g new first before told after seats links desks wires wires' many (λ w. absurd w) (some_pool given) can its
    (subst (λ (ls : List LinkValue). ClosesAll (children_of ls) g new) s.links_are s.closes) legal' (subst (λ (ls : List LinkValue). All (λ (l : LinkValue). l.mouth.child ≡ l.ear.child) ls) s.links_are one)
    (subst (λ (ls : List LinkValue). AreLaid seats ls wires wires') s.links_are laid) stays later)

-- where there was none for a pool, it is as if it had the child of slot 0 alone
pub roomless_pool : {tagged : Bool} (o : Opening) (jobs : ℕ) (program : List ℕ) (old g : List Entry) (first link : LinkValue) (before after : ProgramsTold) → CanBeServed o old first.ear first.mouth tagged → IsUngathered old g first link before after
    → IsPool ⊥ false o jobs program old g first before after (Serves ∷ []) (link ∷ [])
roomless_pool {tagged} o jobs program old g first link before after can u = subst (λ (j : List Entry). IsPool ⊥ false o jobs program old j first before after (Serves ∷ []) (link ∷ [])) (sym u.journal) record {
  more = [];
  others = [];
  links_are = ap (λ (l : LinkValue). l ∷ []) u.link_is;
  seats_are = refl;
  gathered = record {
    later = [];
    is = sym (append-nil old);
    main = refl;
    within = refl;
    unclaimed_yet = refl;
    untagged = refl;
    asks = refl;
    lost = tt;
    turn = tt;
    ended = refl;
    ready = refl;
    can = pool_can o old first tagged can;
    manned = λ w. absurd cc;
  };
  by = record {
    seated = tt;
    started = inl (stays_none before.starts after.starts u.starts);
    faults = rose_still 0 before.faults before.faults after.faults (omega arith) u.later_faults;
    later_faults = u.later_faults;
  };
}

pub laid_alone : (link : LinkValue) (wires wires' : List WireValue) → IsLaid link.ear link.mouth wires wires' → AreLaid (Serves ∷ []) (link ∷ []) wires wires'
laid_alone link wires wires' h = (h.0 ∷ [], h.1, (h.2, tt))

pub closes_alone : (link : LinkValue) (g new : List Entry) → Closes 0 link.ear.child g new → ClosesAll (children_of (link ∷ [])) g new
closes_alone link g new h = (new, h, refl)

-- ---- what the calls ask for

pub pool_started : {wanted : Type 0} {whole : Bool} {o : Opening} {jobs : ℕ} {program : List ℕ} {old g : List Entry} {first : LinkValue} {before after : ProgramsTold} {seats : List SeatValue} {links : List LinkValue}
    → IsPool wanted whole o jobs program old g first before after seats links → All (λ (l : LinkValue). is_started g l.ear.child ≡ true) links
pool_started {wanted} {whole} {o} {jobs} {program} {old} {g} {first} p = subst (λ (ls : List LinkValue). All (λ (l : LinkValue). is_started g l.ear.child ≡ true) ls) (sym p.links_are)
    (All-weaker (MayServe o g) (λ (l : LinkValue). is_started g l.ear.child ≡ true) (λ l h. h.serves.started) (first ∷ p.more) p.gathered.can.each)

same_length : (ls ms : List LinkValue) → AreSameLinks ls ms → length ls ≡ length ms
same_length [] [] s = refl
same_length [] (m ∷ ms) s = absurd s
same_length (l ∷ ls) [] s = absurd s
same_length (l ∷ ls) (m ∷ ms) s = (let rest = same_length ls ms s.1 in omega (arith, rest))

-- so many links come back
pub serving_back : {wanted : Type 0} {whole : Bool} {o : Opening} {jobs : ℕ} {program : List ℕ} {old g : List Entry} {first : LinkValue} {before after : ProgramsTold} {seats : List SeatValue} {links : List LinkValue} (links' : List LinkValue)
    → IsPool wanted whole o jobs program old g first before after seats links → AreSameLinks links links' → serving seats ≡ length links'
serving_back {wanted} {whole} {o} {jobs} {program} {old} {g} {first} {before} {after} {seats} {links} links' p same = pool_serving p ∙ same_length links links' same

-- the child of slot 0 may be closed, where nothing was done
pub roomless_may : {tagged : Bool} (o : Opening) (old g : List Entry) (first link : LinkValue) (before after : ProgramsTold) → CanBeServed o old first.ear first.mouth tagged → IsUngathered old g first link before after
    → (is_started g link.ear.child ≡ true) × (may_stop g link.ear.child Closed ≡ true)
roomless_may o old g first link before after can u =
    subst (λ (j : List Entry). (is_started j link.ear.child ≡ true) × (may_stop j link.ear.child Closed ≡ true)) (sym u.journal)
    (subst (λ (l : LinkValue). (is_started old l.ear.child ≡ true) × (may_stop old l.ear.child Closed ≡ true)) (sym u.link_is) (can.can.serves.started, may_close old first.ear.child can.can.rests.idle can.can.rests.rest))
