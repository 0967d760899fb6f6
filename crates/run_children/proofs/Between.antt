-- A run between two starts of slot 0, and what one start more makes of it.
use Rattle.ann_outside.specs.Told.{DeskTold}
use Rattle.std.proofs.Common.{◌≡◌, ◌⊎◌, ℕ, suc, ◌+◌, ◌≤◌, List, [], ◌∷◌, ◌++◌, refl, sym, ap, subst, ◌∙◌, append_assoc, length, Bool, true, false, not, ◌==◌, cond, arith, inl, inr, Ok, Err, Result}
use Rattle.std.specs.Prelude.{◌&&◌, ◌||◌, MatchResult, filter, nat_lt}
use Rattle.std.specs.List.{cons_option, list_all, list_any}
use Rattle.std.proofs.lemmas.Bool.Decides.{nat_tests}
use Rattle.std.proofs.lemmas.List.Folds.{list_any-append}
use Rattle.journal_model.specs.declared.entry.What.{What}
use Rattle.journal_model.specs.declared.entry.What.TheVariants.{Start, NoStart}
use Rattle.journal_model.specs.declared.entry.Entry.{Entry}
use Rattle.journal_model.specs.declared.opening.Opening.{Opening}
use Rattle.journal_model.specs.Journal.{any, is_ended, is_started, offers, starts}
use Rattle.journal_model.specs.Legality.{Legal, count, is_start}
use Rattle.journal_model.specs.Shares.{are_by, is_of_child}
use Rattle.journal_model.proofs.Looks.{any-append, each_of-append}
use Rattle.journal_model.proofs.Testing.{all-each, all-join, by_either}
use Rattle.host_core.specs.Steps.{are_all_claimed}
use Rattle.child_link.proofs.Linked.{any_narrower}
use Rattle.child_life.proofs.StartLemmas.Begun.{later_unstarted}
use Rattle.child_life.specs.End.Wires.{came, came_in}
use Rattle.task_model.specs.declared.setup.Setup.{Setup}
use Rattle.run_starts.specs.Starting.{AllOffer, children, is_offered, is_ready_untagged, started_in}
use Rattle.run_starts.specs.Rounds.{AllLostWell, AllStandNext, is_of_run}
use Rattle.run_starts.specs.Stints.{AreUpTo, IsOver, IsStart, main_entry, next_child}
use Rattle.run_starts.proofs.Apart.{ended_on, ready_same}
use Rattle.run_starts.proofs.Growing.{SaysStart, says_start}
use Rattle.run_starts.proofs.Losing.{lost_both}
use Rattle.run_starts.proofs.Nexts.{next_both, next_first}
use Rattle.run_starts.proofs.Tests.{any_same, children_up_to, neither_nor, offers_both}
use Rattle.run_starts.proofs.Unready.{and_true}
use Rattle.run_children.specs.PoolChildren.Slots.{AllInTurn, AreSpent, IsManned, StandsInTurn, are_spent, in_pool, is_first_start, offers_tags, spends}
use Rattle.crew_work.specs.Laws.Rounds.{IsAtRest}
use Rattle.run_children.specs.Desks.{DesksDid, HaveDesks}
use Rattle.run_children.specs.JobRuns.{RanJobs}
use Rattle.run_children.specs.Posts.{AllPosted}
use Rattle.run_children.specs.Starts.{JobStretch, JobsBetween}
use Rattle.run_children.proofs.Desks.{desks_as_many, desks_join, desks_nothing, desks_on, have_both, have_none}
use Rattle.run_children.proofs.Posting.{posted_both, posted_main}
use Rattle.run_children.proofs.Slots.{apart_pool, first_none, offers_of, pool_offers}
use Rattle.run_children.proofs.Spent.{all_spent_both, pool_spent}
use Rattle.run_children.proofs.Stretching.{start_takes}
use Rattle.std.proofs.lemmas.Bool.{ne_eqb as differ}
use Rattle.ann_key.proofs.Numbers.{same_number as same}
use Rattle.ann_key.proofs.Booleans.{or_neither as neither, or_left, or_right, and_assoc as and_behind}
use Rattle.journal_model.proofs.Working.{count-append, count_none}
use Rattle.run_children.proofs.PoolChildrenLemmas.Own.{shut_open}
use Rattle.run_children.proofs.PoolChildrenLemmas.SlotLaws.{turn_both}
use Rattle.journal_model.proofs.Across.{none_so as any_none}

-- ---- the numbers of the children

-- no child of a legal journal has a number greater than that of the starts
pub few_of : (o : Opening) (journal : List Entry) → Legal o journal → AreUpTo (count is_start journal) (came journal)
few_of o journal legal = go [] journal refl
  where
    known : (c : ℕ) → is_started journal c ≡ true → c ≤ count is_start journal
    known c h = by_either (nat_lt (count is_start journal) c)
        (λ above. absurd (let bad : true ≡ false = sym h ∙ later_unstarted o journal legal c (grind (arith, nat_tests)) in cc))
        (λ below. grind (arith, nat_tests))

    one : (front rest : List Entry) (e : Entry) (w : What) → w ≡ e.what → journal ≡ front ++ e ∷ rest → AreUpTo (count is_start journal) (came rest) → AreUpTo (count is_start journal) (cons_option (came_in w) (came rest))
    one front rest e (Start child slot offer) said is h =
        let here : starts child e.what ≡ true = ap (starts child) (sym said) ∙ same child in
        (known child (ap (any (starts child)) is ∙ any-append (starts child) front (e ∷ rest) ∙ or_right (any (starts child) front) (starts child e.what || any (starts child) rest) (or_left (starts child e.what) (any (starts child) rest) here)), h)
    one front rest e (NoStart slot) said is h = h
    one front rest e w said is h = h

    go : (front rest : List Entry) → journal ≡ front ++ rest → AreUpTo (count is_start journal) (came rest)
    go front [] is = tt
    go front (e ∷ rest) is = one front rest e e.what refl is (go (front ++ e ∷ []) rest (is ∙ sym (append_assoc front (e ∷ []) rest)))

-- ---- the begin

pub jobs_begin : (o : Opening) (setup : Setup) (may : Bool) (limit : ℕ) (journal : List Entry) (desks : List DeskTold) (whole : Bool) → journal ≡ [] → JobsBetween o setup may limit 0 may journal desks desks whole
jobs_begin o setup may limit journal desks whole none = subst (λ (j : List Entry). JobsBetween o setup may limit 0 may j desks desks whole) (sym none) record {
  legal = record { stands = tt; nothing_due = refl };
  turn = tt;
  order = tt;
  starts = refl;
  offers = tt;
  offered = and_true may;
  ended = refl;
  asks = refl;
  lost = tt;
  posts = tt;
  rest = λ t. refl;
  spent = λ w. inl refl;
  manned = λ w pool. absurd (let bad : false ≡ true = pool in cc);
  untaken = refl;
  placed = tt;
  did = desks_nothing o setup limit [] [] [] 1 desks refl;
  alone = λ one. refl;
  last = λ one claimed. record { past = []; closings = []; is = refl; answered = refl; closed = refl };
  shut = λ c. refl;
}

-- ---- what stands after a start

first_counts : (old : List Entry) (offer : Bool) (first : What) → IsStart old offer first → is_first_start first ≡ true
first_counts old offer first (inl e) = ap is_first_start e
first_counts old offer first (inr e) = ap is_first_start e

first_stands : (o : Opening) (jobs : ℕ) (past old : List Entry) (offer : Bool) (first : What) → IsStart old offer first → StandsInTurn o jobs past first
first_stands o jobs past old offer first (inl e) = subst (StandsInTurn o jobs past) (sym e) tt
first_stands o jobs past old offer first (inr e) = subst (StandsInTurn o jobs past) (sym e) tt

module _ {o : Opening} {setup : Setup} {limit : ℕ} {offer next : Bool} {first : What} {old new : List Entry} {desks desks' : List DeskTold} {whole : Bool}
    (s : JobStretch o setup limit offer next first old new desks desks' whole) where
  abbrev pub tail : List Entry
  tail = main_entry first ∷ s.later

  its : SaysStart old offer first
  its = says_start old offer first s.start

  -- nothing of an earlier child
  pub earlier_apart : (d : ℕ) → d ≤ count is_start old → any (is_of_child d) tail ≡ false
  earlier_apart d le = neither (is_of_child d first) (any (is_of_child d) s.later) (its.of_none d)
      (any_none (in_pool (next_child old)) (is_of_child d) (apart_pool (next_child old) d (omega (arith, le))) s.later s.within)

  unoffered : (d : ℕ) → d ≤ count is_start old → any (offers d) tail ≡ false
  unoffered d le = neither (offers d first) (any (offers d) s.later) (its.offers_next d (differ (next_child old) d (λ e. absurd (omega (arith, e, le)))))
      (any_narrower (offers d) offers_tags (offers_of d) s.later s.untagged)

  children_are : children new ≡ children old ++ children tail
  children_are = ap children s.is ∙ each_of-append started_in old tail

  one_start : count is_first_start new ≡ count is_first_start old + 1
  one_start =
      let none : count is_first_start s.later ≡ 0 = count_none is_first_start s.later (any_none (in_pool (next_child old)) is_first_start (first_none (next_child old)) s.later s.within) in
      ap (count is_first_start) s.is ∙ count-append is_first_start old tail ∙ ap (λ (n : ℕ). count is_first_start old + n) (count_one (is_first_start first) (first_counts old offer first s.start) none)
    where
      count_one : (b : Bool) → b ≡ true → count is_first_start s.later ≡ 0
          → length (cond b (main_entry first ∷ filter (λ (e : Entry). is_first_start e.what) s.later) (filter (λ (e : Entry). is_first_start e.what) s.later)) ≡ 1
      count_one true e none = ap (λ (n : ℕ). suc n) none
      count_one false e none = absurd cc

  -- ---- between two starts

  module _ {may : Bool} {made : ℕ} {desks0 : List DeskTold} (b : JobsBetween o setup may limit made offer old desks0 desks true) (legal : Legal o new) where
    as_many : length desks0 ≡ length desks
    as_many = desks_as_many o setup limit old [] old 1 desks0 desks b.did

    earlier_same : list_any (is_ready_untagged new) (children old) ≡ list_any (is_ready_untagged old) (children old)
    earlier_same =
        any_same (count is_start old) (is_ready_untagged new) (is_ready_untagged old)
        (λ d le. ap (λ (j : List Entry). is_ready_untagged j d) s.is ∙ ready_same old tail d (earlier_apart d le) o b.legal (unoffered d le))
        (children old) (children_up_to (count is_start old) old (few_of o old b.legal))

    offered_now : next ≡ (may && is_offered new)
    offered_now =
        let its_own : Bool = list_any (is_ready_untagged new) (children tail) in
        s.offers
        ∙ ap (λ (x : Bool). x && not its_own) (b.offered ∙ ap (λ (x : Bool). may && not x) (sym earlier_same))
        ∙ and_behind may (not (list_any (is_ready_untagged new) (children old))) (not its_own)
        ∙ ap (λ (x : Bool). may && x)
        (sym (neither_nor (list_any (is_ready_untagged new) (children old)) its_own)
        ∙ ap not (sym (list_any-append (is_ready_untagged new) (children old) (children tail)))
        ∙ ap (λ (ds : List ℕ). not (list_any (is_ready_untagged new) ds)) (sym children_are))

    all_ended : list_all (is_ended new) (children new) ≡ true
    all_ended =
        ap (list_all (is_ended new)) children_are
        ∙ all-join (is_ended new) (children old) (children tail)
        (all-each (is_ended old) (is_ended new) (λ d x. ap (λ (j : List Entry). is_ended j d) s.is ∙ ended_on old tail d x) (children old) b.ended) s.ended

    spent_now : AreSpent old ⊎ (are_all_claimed o old ≡ true) → (spends (old ++ main_entry first ∷ []) first s.later ≡ true) ⊎ (are_all_claimed o new ≡ true) → AreSpent new ⊎ (are_all_claimed o new ≡ true)
    spent_now h (inr all) = inr all
    spent_now (inr all) (inl k) = absurd (let bad : true ≡ false = sym all ∙ s.left in cc)
    spent_now (inl h) (inl k) = inl (subst AreSpent (sym s.is) (all_spent_both [] old tail h (here k)))
      where
        here : spends (old ++ main_entry first ∷ []) first s.later ≡ true → are_spent old tail ≡ true
        here x = (let more = pool_spent (old ++ main_entry first ∷ []) (next_child old) s.later s.within in rw (x, more) refl)

    turn_now : AllInTurn o (length desks0) old tail
    turn_now = subst (λ (n : ℕ). AllInTurn o n old tail) (sym as_many) (first_stands o (length desks) old old offer first s.start, s.turn)

    did_now : DesksDid o setup limit (old ++ tail) [] (old ++ tail) 1 desks0 desks'
    did_now = desks_join o setup limit (old ++ tail) [] old tail 1 desks0 desks desks' (desks_on o setup limit old tail [] old 1 desks0 desks b.did) (
        desks_join o setup limit (old ++ tail) old (main_entry first ∷ []) s.later 1 desks desks desks'
        (desks_nothing o setup limit (old ++ tail) old (main_entry first ∷ []) 1 desks (rw (start_takes old offer first s.start) refl))
        (subst (λ (j : List Entry). DesksDid o setup limit j (old ++ main_entry first ∷ []) s.later 1 desks desks') s.is s.did))

    pub jobs_next : JobsBetween o setup may limit (made + 1) next new desks0 desks' whole
    jobs_next = record {
      legal = legal;
      turn = subst (AllInTurn o (length desks0) []) (sym s.is) (turn_both o (length desks0) [] old tail b.turn turn_now);
      order = subst (AllStandNext o []) (sym s.is) (next_both o [] old tail b.order (next_first o old offer first s.start (record { left = s.left; ended = b.ended; taken = b.untaken }), s.order));
      starts = one_start ∙ ap (λ (n : ℕ). n + 1) b.starts;
      offers = subst (AllOffer may []) (sym s.is) (offers_both may [] old tail b.offers (its.offers_well may b.offered, pool_offers o may (length desks) (next_child old) (old ++ main_entry first ∷ []) s.later s.turn s.within s.untagged));
      offered = offered_now;
      ended = all_ended;
      asks = ap (list_all (λ (e : Entry). is_of_run e.what)) s.is ∙ all-join (λ (e : Entry). is_of_run e.what) old tail b.asks (rw (its.asks, s.asks) refl);
      lost = subst (AllLostWell []) (sym s.is) (lost_both [] old tail b.lost (λ mains. its.loses old, s.lost));
      posts = subst (AllPosted []) (sym s.is) (posted_both [] old tail b.posts (posted_both old (main_entry first ∷ []) s.later (posted_main old (main_entry first ∷ []) refl) s.posts));
      rest = s.rest;
      spent = λ w. spent_now (b.spent refl) (s.spent w);
      manned = λ w. subst (λ (n : ℕ). IsManned o n new) (sym as_many) (s.manned w);
      untaken = s.untaken;
      placed = subst (HaveDesks (length desks0) []) (sym s.is) (have_both (length desks0) [] old tail b.placed (
          have_both (length desks0) old (main_entry first ∷ []) s.later (have_none (length desks0) old (main_entry first ∷ []) (rw (start_takes old offer first s.start) refl))
          (subst (λ (n : ℕ). HaveDesks n (old ++ main_entry first ∷ []) s.later) (sym as_many) s.placed)));
      did = subst (λ (j : List Entry). DesksDid o setup limit j [] j 1 desks0 desks') (sym s.is) did_now;
      alone = λ one. ap (are_by 0) s.is ∙ all-join (λ (e : Entry). e.by == 0) old tail (b.alone one) (s.alone (sym as_many ∙ one));
      last = λ one. s.last (sym as_many ∙ one);
      shut = s.shut b.shut;
    }

-- ---- the end

pub ran_jobs : {o : Opening} {setup : Setup} {may : Bool} {limit made : ℕ} {offer : Bool} {journal : List Entry} {desks desks' : List DeskTold} {whole : Bool} → made ≤ limit → JobsBetween o setup may limit made offer journal desks desks' whole
    → RanJobs o setup may limit journal desks desks'
ran_jobs {o} {setup} {may} {limit} {made} {offer} {journal} le b = record {
  legal = b.legal;
  starts = record { turn = b.turn; next = b.order; few = (let n = b.starts in omega (arith, n, le)); offers = b.offers; taken = b.untaken };
  ended = b.ended;
  asks = b.asks;
  lost = b.lost;
  posts = b.posts;
  calm = record { idle = b.rest; shut = shut_open journal b.shut };
  placed = b.placed;
  did = b.did;
  alone = b.alone;
}

pub ran_many : {o : Opening} {setup : Setup} {may : Bool} {limit : ℕ} {journal : List Entry} {desks desks' : List DeskTold} → RanJobs o setup may limit journal desks desks' → length desks' ≡ length desks
ran_many {o} {setup} {may} {limit} {journal} {desks} {desks'} r = sym (desks_as_many o setup limit journal [] journal 1 desks desks' r.did)

pub at_rest : {o : Opening} {setup : Setup} {may : Bool} {limit made : ℕ} {offer : Bool} {journal : List Entry} {desks desks' : List DeskTold} {whole : Bool} → JobsBetween o setup may limit made offer journal desks desks' whole → IsAtRest journal
at_rest {o} {setup} {may} {limit} {made} {offer} {journal} b = record { idle = b.rest; shut = shut_open journal b.shut }

pub whole_of : {o : Opening} {setup : Setup} {may : Bool} {limit made : ℕ} {offer : Bool} {journal : List Entry} {desks desks' : List DeskTold} (whole : Bool) → JobsBetween o setup may limit made offer journal desks desks' whole → whole ≡ true
    → JobsBetween o setup may limit made offer journal desks desks' true
whole_of {o} {setup} {may} {limit} {made} {offer} {journal} {desks} {desks'} whole b e = subst (λ (w : Bool). JobsBetween o setup may limit made offer journal desks desks' w) e b

pub still_many : {o : Opening} {setup : Setup} {may : Bool} {limit made : ℕ} {offer : Bool} {journal : List Entry} {desks desks' : List DeskTold} {whole : Bool} → JobsBetween o setup may limit made offer journal desks desks' whole
    → length desks' ≡ length desks
still_many {o} {setup} {may} {limit} {made} {offer} {journal} {desks} {desks'} b = sym (desks_as_many o setup limit journal [] journal 1 desks desks' b.did)

-- where tasks are left after all starts, each of them is spent
pub all_over : {o : Opening} {setup : Setup} {may : Bool} {limit made : ℕ} {offer : Bool} {journal : List Entry} {desks desks' : List DeskTold} → JobsBetween o setup may limit made offer journal desks desks' true → IsOver o limit made journal
    → are_all_claimed o journal ≡ false → (made ≡ limit) × AreSpent journal
all_over {o} {setup} {may} {limit} {made} {offer} {journal} b over left = (first over, second (b.spent refl))
  where
    first : IsOver o limit made journal → made ≡ limit
    first (inl e) = e
    first (inr all) = absurd (let bad : true ≡ false = sym all ∙ left in cc)

    second : AreSpent journal ⊎ (are_all_claimed o journal ≡ true) → AreSpent journal
    second (inl h) = h
    second (inr all) = absurd (let bad : true ≡ false = sym all ∙ left in cc)

-- ---- by the outcome

pub at_ok : {A B : Type 0} (P : A → Type 0) (Q : B → Type 0) (r : Result A B) (a : A) → r ≡ Ok a → MatchResult r P Q → P a
at_ok P Q r a e h = subst (λ x. MatchResult x P Q) e h

pub at_err : {A B : Type 0} (P : A → Type 0) (Q : B → Type 0) (r : Result A B) (b : B) → r ≡ Err b → MatchResult r P Q → Q b
at_err P Q r b e h = subst (λ x. MatchResult x P Q) e h

-- no child was started: nothing has changed
pub between_kept : {o : Opening} {setup : Setup} {may : Bool} {limit made : ℕ} {offer : Bool} {old : List Entry} {desks0 desks : List DeskTold} {whole : Bool} (new : List Entry) (desks' : List DeskTold) → new ≡ old → desks' ≡ desks
    → JobsBetween o setup may limit made offer old desks0 desks whole → JobsBetween o setup may limit made offer new desks0 desks' whole
between_kept {o} {setup} {may} {limit} {made} {offer} {old} {desks0} {desks} {whole} new desks' ej ed b =
    subst (λ (j : List Entry). JobsBetween o setup may limit made offer j desks0 desks' whole) (sym ej) (subst (λ (ds : List DeskTold). JobsBetween o setup may limit made offer old desks0 ds whole) (sym ed) b)
