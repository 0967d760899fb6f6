-- A pool as its gathering begins, and as it ends.
use Rattle.ann_outside.specs.Told.{ProgramsTold}
use Rattle.std.proofs.Common.{◌≡◌, ◌⊎◌, ℕ, ◌+◌, ◌<◌, ◌≤◌, List, [], ◌∷◌, refl, sym, ap, subst, ◌∙◌, append-nil, length, Bool, true, false, arith, inl, inr}
use Rattle.std.specs.Prelude.{min}
use Rattle.std.proofs.lemmas.List.Elements.{All-cons, All-head, All-nil}
use Rattle.ann_outside.specs.Causes.{AddsOne, Stays}
use Rattle.journal_model.specs.declared.entry.Entry.{Entry}
use Rattle.journal_model.specs.declared.opening.Opening.{Opening}
use Rattle.journal_model.specs.Legality.{Legal, count, is_start}
use Rattle.host_core.specs.Steps.{unclaimed}
use Rattle.child_life.specs.End.Programs.{AddsAll, HaveStarted, is_failed_start, told}
use Rattle.child_life.specs.End.Wires.{came}
use Rattle.crew_work.specs.Laws.Rounds.{LinkValue}
use Rattle.run_starts.proofs.Leaving.{rose_still, stays_none}
use Rattle.crew_rounds.specs.Tagged.PoolChildren.{MayServe, PoolCan}
use Rattle.run_children.specs.PoolChildren.Pools.{Gathered, IsPool, IsWithin, SeatValue, Serves}
use Rattle.run_children.specs.PoolChildren.Seats.{SeatsNone, SeatsOne}
use Rattle.run_children.specs.PoolChildren.Slots.{has_pool, is_unclaimed_since, last_slot}
use Rattle.run_children.proofs.PoolChildrenLemmas.Seating.{seats_few}
use Rattle.run_children.proofs.PoolChildrenLemmas.SlotLaws.{left_same}
use Rattle.run_children.proofs.PoolChildrenLemmas.Standing.{Standing, standing_next}
use Rattle.child_life.proofs.EndLemmas.Across.{adds_both, adds_none, adds_one}

-- ---- the begin

module _ (o : Opening) (jobs : ℕ) (program : List ℕ) (old : List Entry) (first : LinkValue) (before : ProgramsTold) (can : PoolCan o old (first ∷ [])) where
  its : MayServe o old first
  its = All-head (MayServe o old) first [] can.each

  pub standing_begin : has_pool old ≡ true → last_slot old ≡ 0 → is_unclaimed_since old ≡ true → first.ear.child ≡ count is_start old → first.mouth.child ≡ first.ear.child → Standing o jobs program old old first before before (Serves ∷ []) (first ∷ []) 1
  standing_begin pool last since last_child one = record {
    pool = record {
      more = [];
      others = [];
      links_are = refl;
      seats_are = refl;
      gathered = record {
        later = [];
        is = sym (append-nil old);
        main = refl;
        within = refl;
        unclaimed_yet = refl;
        untagged = refl;
        asks = refl;
        lost = tt;
        turn = tt;
        ended = refl;
        ready = refl;
        can = can;
        manned = λ whole. absurd (let bad : false ≡ true = whole in cc);
      };
      by = record {
        seated = tt;
        started = inl (adds_none before.starts);
        faults = rose_still 0 before.faults before.faults before.faults (omega arith) (omega arith);
        later_faults = omega arith;
      };
    };
    legal = its.serves.legal;
    book = its.serves.book;
    slotted = ap (λ (n : ℕ). n + 1) last;
    pooled = pool;
    since = since;
    few = omega arith;
    least = omega arith;
    up_to = tt;
    many = refl;
    low_links = ((let e = last_child in omega (arith, e)), tt);
    one_child = All-cons (λ (l : LinkValue). l.mouth.child ≡ l.ear.child) first [] one (All-nil (λ (l : LinkValue). l.mouth.child ≡ l.ear.child));
  }

  pub begins_as : (seats : List SeatValue) (links : List LinkValue) → has_pool old ≡ true → last_slot old ≡ 0 → is_unclaimed_since old ≡ true → first.ear.child ≡ count is_start old → first.mouth.child ≡ first.ear.child
      → seats ≡ Serves ∷ [] → links ≡ first ∷ [] → Standing o jobs program old old first before before seats links 1
  begins_as seats links pool last since last_child one es el =
      subst (λ (xs : List SeatValue). Standing o jobs program old old first before before xs links 1) (sym es)
      (subst (λ (ls : List LinkValue). Standing o jobs program old old first before before (Serves ∷ []) ls 1) (sym el) (standing_begin pool last since last_child one))

-- one start more, of a core under another name
pub next_seat : (o p : Opening) (jobs : ℕ) (program : List ℕ) (old mid new : List Entry) (first : LinkValue) (before between after : ProgramsTold) (seats seats' : List SeatValue) (links links' : List LinkValue) (slot : ℕ) → p ≡ o
    → Standing o jobs program old mid first before between seats links slot → SeatsOne p program slot mid new between after seats seats' links links' → Legal o new → slot < jobs → slot < length (unclaimed o old)
    → Standing o jobs program old new first before after seats' links' (slot + 1)
next_seat o p jobs program old mid new first before between after seats seats' links links' slot same t s legal there needed =
    standing_next t (subst (λ (w : Opening). SeatsOne w program slot mid new between after seats seats' links links') same s) legal there needed

-- ---- the end

module _ {o : Opening} {jobs : ℕ} {program : List ℕ} {old mid : List Entry} {first : LinkValue} {before between : ProgramsTold} {seats : List SeatValue} {links : List LinkValue} {slot : ℕ} (t : Standing o jobs program old mid first before between seats links slot) where
  abbrev g : Gathered o jobs old mid first t.pool.more false
  g = t.pool.gathered

  -- each slot had its start
  pub whole_pool : min jobs (length (unclaimed o old)) ≤ slot → IsPool ⊥ true o jobs program old mid first before between seats links
  whole_pool all = record {
    more = t.pool.more;
    others = t.pool.others;
    links_are = t.pool.links_are;
    seats_are = t.pool.seats_are;
    gathered = record {
      later = g.later;
      is = g.is;
      main = g.main;
      within = g.within;
      unclaimed_yet = g.unclaimed_yet;
      untagged = g.untagged;
      asks = g.asks;
      lost = g.lost;
      turn = g.turn;
      ended = g.ended;
      ready = g.ready;
      can = g.can;
      manned = λ whole. subst (λ (n : ℕ). min jobs n ≤ last_slot mid + 1) (sym left) (subst (λ (n : ℕ). min jobs (length (unclaimed o old)) ≤ n) (sym t.slotted) all);
    };
    by = t.pool.by;
  }
    where
      left : length (unclaimed o mid) ≡ length (unclaimed o old)
      left = ap (λ (j : List Entry). length (unclaimed o j)) g.is ∙ ap (λ (us : List ℕ). length us) (left_same o old g.later g.unclaimed_yet)

  started_before : AddsAll before.starts between.starts (told program g.later)
  started_before = go t.pool.by.started
    where
      go : HaveStarted ⊥ program g.later before.starts between.starts → AddsAll before.starts between.starts (told program g.later)
      go (inl a) = a
      go (inr a) = absurd a.0

  -- no memory was found for one start more
  pub short_pool : {new : List Entry} {after : ProgramsTold} {seats' : List SeatValue} {links' : List LinkValue} → SeatsNone program mid new between after seats seats' links links' → IsPool (Unit {0}) false o jobs program old new first before after seats' links'
  short_pool {new} {after} {seats'} {links'} n =
      subst (λ (j : List Entry). IsPool (Unit {0}) false o jobs program old j first before after seats' links') (sym n.journal) record {
        more = t.pool.more;
        others = t.pool.others;
        links_are = n.links_are ∙ t.pool.links_are;
        seats_are = n.seats_are ∙ t.pool.seats_are;
        gathered = g;
        by = record {
          seated = t.pool.by.seated;
          started = asked n.asked.0;
          faults = rose_still (count is_failed_start g.later) before.faults between.faults after.faults t.pool.by.faults n.asked.1;
          later_faults = (let a = t.pool.by.later_faults in let b = n.asked.1 in omega (arith, a, b));
        };
      }
    where
      asked : (Stays between.starts after.starts ⊎ ((b : Bool) × AddsOne between.starts after.starts (program, b))) → HaveStarted (Unit {0}) program g.later before.starts after.starts
      asked (inl s) = inl (subst (AddsAll before.starts after.starts) (append-nil (told program g.later)) (adds_both before.starts between.starts after.starts (told program g.later) [] started_before (stays_none between.starts after.starts s)))
      asked (inr (b, a)) = inr (tt, (b, adds_both before.starts between.starts after.starts (told program g.later) ((program, b) ∷ []) started_before (adds_one between.starts after.starts (program, b) a)))

  counts : (length t.pool.more ≤ length t.pool.others) × (length t.pool.others ≤ length (came g.later))
  counts = seats_few before.starts mid 0 (came g.later) t.pool.others t.pool.more t.pool.by.seated

  -- how many links and seats there are
  pub below_slot : (some_links some_seats : ℕ) → some_links ≡ length links → some_seats ≡ length seats → (some_links ≤ slot) × (some_seats ≤ slot)
  below_slot some_links some_seats el es =
      let a = ap (λ (ls : List LinkValue). length ls) t.pool.links_are in
      let b = ap (λ (xs : List SeatValue). length xs) t.pool.seats_are in
      let c = counts in
      let m = t.many in
      (omega (arith, a, b, el, es, c.0, c.1, m), omega (arith, b, es, c.1, m))

  pub within_jobs : (some_links some_seats : ℕ) → some_links ≡ length links → some_seats ≡ length seats → (0 < jobs → slot ≤ jobs) → IsWithin jobs some_links some_seats
  within_jobs some_links some_seats el es le = record {
    some = (let a = ap (λ (ls : List LinkValue). length ls) t.pool.links_are in omega (arith, a, el));
    each = (let a = ap (λ (ls : List LinkValue). length ls) t.pool.links_are in let b = ap (λ (xs : List SeatValue). length xs) t.pool.seats_are in let f = counts.0 in omega (arith, a, b, el, es, f));
    most = λ pos. (let low = (below_slot some_links some_seats el es).1 in let l = le pos in omega (arith, low, l));
  }
