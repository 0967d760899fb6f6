-- What a pool leaves in the journal, from its gathering to its closing.
use Rattle.ann_outside.specs.Told.{DeskTold, ProgramsTold}
use Rattle.std.proofs.Common.{◌≡◌, ◌⊎◌, ℕ, zero, suc, ◌+◌, ◌<◌, ◌≤◌, List, [], ◌∷◌, ◌++◌, refl, sym, ap, subst, ◌∙◌, append_assoc, append-nil, length, Bool, true, false, not, ◌==◌, None, Option, arith, inl, inr}
use Rattle.std.specs.Prelude.{◌||◌, All, nat_le}
use Rattle.std.specs.List.{list_all, list_any}
use Rattle.std.proofs.lemmas.Bool.Decides.{nat_tests}
use Rattle.std.proofs.lemmas.List.Elements.{All-cons, All-head, All-nil, All-weaker}
use Rattle.ann_outside.specs.Starts.{Starts}
use Rattle.journal_model.specs.declared.entry.What.{What}
use Rattle.journal_model.specs.declared.entry.What.TheVariants.{Claim, Start, NoStart, Lead, Ask, Put, Sent, Mute, Got, End, Verdict as Settled, Lost, Answer as Answered, Note as Noted, Again}
use Rattle.journal_model.specs.declared.entry.Entry.{Entry}
use Rattle.journal_model.specs.declared.opening.Opening.{Opening}
use Rattle.journal_model.specs.Journal.{any, each_of, is_ended, is_started, is_tagged}
use Rattle.journal_model.specs.Legality.{Legal, count, is_prepared, is_start}
use Rattle.journal_model.specs.Shares.{are_by}
use Rattle.journal_model.proofs.Looks.{any-append, each_of-append}
use Rattle.journal_model.proofs.Testing.{all-each, all-join, any-more, by_either}
use Rattle.host_core.specs.Steps.{are_all_claimed}
use Rattle.child_link.proofs.Linked.{any_narrower}
use Rattle.child_link.specs.Wires.{WireValue}
use Rattle.child_life.specs.End.Wires.{came}
use Rattle.child_life.proofs.StartLemmas.Begun.{later_unstarted}
use Rattle.crew_work.specs.Laws.Laws.{Distinct, children_of}
use Rattle.crew_work.specs.Laws.Rounds.{LinkValue}
use Rattle.task_model.specs.declared.setup.Setup.{Setup}
use Rattle.journal_model.proofs.Holding.{claimed}
use Rattle.run_starts.specs.Rounds.{AllLostWell, is_of_run}
use Rattle.run_starts.specs.Starting.{children, is_any_start, started_in}
use Rattle.run_starts.proofs.Apart.{ended_on}
use Rattle.run_starts.proofs.Losing.{lost_both, lost_tasks}
use Rattle.run_starts.proofs.Tests.{claimed_same, each_without, no_children}
use Rattle.crew_rounds.specs.Tagged.PoolChildren.{MayServe, PoolCan}
use Rattle.run_children.specs.PoolChildren.Pools.{AreSeated, Gathered, SeatValue, is_among, changes_claim}
use Rattle.run_children.specs.PoolChildren.Slots.{AllInTurn, IsManned, in_pool, is_lost, offers_tags}
use Rattle.run_children.proofs.PoolChildrenLemmas.SlotLaws.{IsFilled, LeavesClaimed, filled_on, leaves_claimed, turn_both, turn_filled, turn_quiet, pool_untagged as later_untagged}
use Rattle.run_children.specs.Desks.{DesksDid, HaveDesks}
use Rattle.run_children.specs.Pools.{LeavesPool, PoolServed}
use Rattle.run_children.specs.PoolSteps.{ClosesAll}
use Rattle.run_children.specs.Posts.{AllPosted, since_start}
use Rattle.run_children.specs.Servings.{CanBeServed}
use Rattle.run_children.proofs.Desks.{desks_join, desks_nothing, desks_on, have_both, have_none}
use Rattle.run_children.proofs.PoolClosings.{Closings, closings, closings_calm, closings_ask, closings_claim, closings_close, closings_lose, closings_start, closings_take, closings_within}
use Rattle.run_children.proofs.PoolMiddle.{Middle, lost_on}
use Rattle.run_children.proofs.Posting.{posted_both, posted_main}
use Rattle.run_children.proofs.PoolTags.{later_ascend, seated_above, seated_any, tag_stays, tags_offer}
use Rattle.run_children.proofs.Since.{since_main, since_more, since_new}
use Rattle.std.proofs.lemmas.Bool.{and_parts as both, eqb-true as same_number}
use Rattle.ann_key.proofs.Booleans.{or_neither as neither, or_left, or_right}

-- ---- what is gathered

-- a start that offers ASYNC is a start
pub tags_start : (w : What) → offers_tags w ≡ true → is_any_start w ≡ true
tags_start (Start child slot offer) h = refl
tags_start w h = absurd cc

-- what is of later children is of these
pool_wider : (first n : ℕ) (w : What) → first ≤ n → in_pool n w ≡ true → in_pool first w ≡ true
pool_wider first n w le h = go w h
  where
    low : (child : ℕ) → nat_le n child ≡ true → nat_le first child ≡ true
    low child k = grind (arith, nat_tests)

    go : (v : What) → in_pool n v ≡ true → in_pool first v ≡ true
    go (Claim task child) k = refl
    go (Start child slot offer) k = (let t = both (nat_le n child) (not (slot == 0)) k in rw (low child t.0, t.1) refl)
    go (NoStart slot) k = k
    go (Lead child job line) k = low child k
    go (Ask child job task line) k = low child k
    go (Put child job line) k = low child k
    go (Sent child) k = low child k
    go (Mute child) k = low child k
    go (Got child line) k = low child k
    go (End child why) k = low child k
    go (Settled child job verdict) k = low child k
    go (Lost child task) k = low child k
    go (Answered task answer) k = refl
    go (Again task answer) k = refl
    go (Noted task chunk count) k = refl

claim_takes : (w : What) → changes_claim w ≡ false → claimed w ≡ None
claim_takes (Claim task child) h = absurd cc
claim_takes w h = refl

-- where the child can be served, a pool of it alone can
pub pool_can : (o : Opening) (journal : List Entry) (first : LinkValue) (tagged : Bool) → CanBeServed o journal first.ear first.mouth tagged → PoolCan o journal (first ∷ [])
pool_can o journal first tagged h = record {
  calm = h.calm;
  differ = alone;
  each = All-cons (MayServe o journal) first [] (record {
    serves = h.can.serves;
    unclosed = h.unclosed;
    wired = h.wired;
  }) (All-nil (MayServe o journal));
}
  where
    alone : Distinct (first.ear.child ∷ [])
    alone zero zero c x y = refl
    alone zero (suc j) c x y = absurd cc
    alone (suc i) j c x y = absurd cc

module _ (o : Opening) (setup : Setup) (limit : ℕ) (old g mid new : List Entry) (first : LinkValue) (links : List LinkValue) (desks desks' : List DeskTold) (whole : Bool)
    (starts : Option Starts) (seats : List SeatValue) (its : first.ear.child ≡ count is_start old) (legal : Legal o old) (at : Gathered o (length desks) old g first links whole)
    (seated : AreSeated starts g 0 (came at.later) seats links) where
  abbrev c : ℕ
  c = first.ear.child

  legal_then : Legal o g
  legal_then = (All-head (MayServe o g) first links at.can.each).serves.legal

  above : All (λ (l : LinkValue). count is_start old < l.ear.child) links
  above = seated_above starts g 0 (count is_start old) (came at.later) seats links seated (later_ascend o old at.later (subst (Legal o) at.is legal_then))

  pub pool_low : All (λ (l : LinkValue). c ≤ l.ear.child) (first ∷ links)
  pool_low = All-cons (λ (l : LinkValue). c ≤ l.ear.child) first links (omega arith)
      (All-weaker (λ (l : LinkValue). count is_start old < l.ear.child) (λ (l : LinkValue). c ≤ l.ear.child) (λ l h. omega (arith, h, its)) links above)

  -- no child of the pool takes tags
  pub pool_untagged : is_prepared old c ≡ true → is_tagged old c ≡ false → All (λ (l : LinkValue). is_tagged g l.ear.child ≡ false) (first ∷ links)
  pool_untagged ready tag = All-cons (λ (l : LinkValue). is_tagged g l.ear.child ≡ false) first links
      (ap (λ (j : List Entry). is_tagged j c) at.is ∙ tag_stays o old at.later c legal ready (tags_offer at.later c at.untagged) ∙ tag)
      (All-weaker (λ (l : LinkValue). count is_start old < l.ear.child) (λ (l : LinkValue). is_tagged g l.ear.child ≡ false)
      (λ l h. ap (λ (j : List Entry). is_tagged j l.ear.child) at.is ∙ later_untagged o old at.later l.ear.child legal h at.untagged) links above)

  -- since their starts the main thread alone made anything
  pub pool_mains : is_started old c ≡ true → are_by 0 (since_start c old) ≡ true → All (λ (l : LinkValue). are_by 0 (since_start l.ear.child g) ≡ true) (first ∷ links)
  pool_mains begun mains = All-cons (λ (l : LinkValue). are_by 0 (since_start l.ear.child g) ≡ true) first links
      (ap (λ (j : List Entry). are_by 0 (since_start c j)) at.is ∙ ap (are_by 0) (since_more c old at.later begun) ∙ all-join (λ (e : Entry). e.by == 0) (since_start c old) at.later mains at.main)
      (All-weaker (λ (l : LinkValue). count is_start old < l.ear.child) (λ (l : LinkValue). are_by 0 (since_start l.ear.child g) ≡ true)
      (λ l h. ap (λ (j : List Entry). are_by 0 (since_start l.ear.child j)) at.is ∙ ap (are_by 0) (since_new l.ear.child old at.later (later_unstarted o old legal l.ear.child h)) ∙ since_main l.ear.child at.later at.main) links above)

  module _ (m : Middle o setup limit c (first ∷ links) g mid desks desks' whole) (closed : ClosesAll (children_of (first ∷ links)) mid new) (legal' : Legal o new) where
    k : Closings (children_of (first ∷ links)) mid new
    k = closings (children_of (first ∷ links)) mid new closed

    abbrev then : List Entry
    then = m.rest ++ k.tail

    abbrev later : List Entry
    later = at.later ++ then

    behind : new ≡ g ++ then
    behind = k.is ∙ ap (λ (x : List Entry). x ++ k.tail) m.is ∙ append_assoc g m.rest k.tail

    whole_is : new ≡ old ++ later
    whole_is = behind ∙ ap (λ (x : List Entry). x ++ then) at.is ∙ append_assoc old at.later then

    no_starts : any is_any_start then ≡ false
    no_starts = any-append is_any_start m.rest k.tail ∙ neither (any is_any_start m.rest) (any is_any_start k.tail) m.none (closings_start k)

    within : list_all (λ (e : Entry). in_pool c e.what) later ≡ true
    within = all-join (λ (e : Entry). in_pool c e.what) at.later then
        (all-each (λ (e : Entry). in_pool (count is_start old + 1) e.what) (λ (e : Entry). in_pool c e.what) (λ e. pool_wider c (count is_start old + 1) e.what (omega (arith, its))) at.later at.within)
        (all-join (λ (e : Entry). in_pool c e.what) m.rest k.tail m.within (closings_within c (first ∷ links) pool_low mid new k))

    untagged : any offers_tags later ≡ false
    untagged = any-append offers_tags at.later then ∙ neither (any offers_tags at.later) (any offers_tags then) at.untagged (any_narrower offers_tags is_any_start tags_start then no_starts)

    asks : list_all (λ (e : Entry). is_of_run e.what) later ≡ true
    asks = all-join (λ (e : Entry). is_of_run e.what) at.later then at.asks (all-join (λ (e : Entry). is_of_run e.what) m.rest k.tail m.asks (closings_ask k))

    lost : AllLostWell old later
    lost = lost_both old at.later then at.lost (subst (λ (p : List Entry). AllLostWell p then) at.is (lost_both g m.rest k.tail m.lost (lost_tasks (g ++ m.rest) k.tail (closings_lose k))))

    posts : AllPosted old later
    posts = posted_both old at.later then (posted_main old at.later at.main) (subst (λ (p : List Entry). AllPosted p then) at.is (posted_both g m.rest k.tail m.posts (posted_main (g ++ m.rest) k.tail k.main)))

    leaves : LeavesClaimed g then
    leaves = leaves_claimed o g then legal_then (subst (Legal o) behind legal') at.can.calm.idle

    turn_then : (b : Bool) → whole ≡ b → AllInTurn o (length desks) g then
    turn_then true w = turn_filled o (length desks) g then no_starts leaves (at.manned w)
    turn_then false w = turn_quiet o (length desks) g then no_starts (any-append changes_claim m.rest k.tail ∙ neither (any changes_claim m.rest) (any changes_claim k.tail) (m.quiet w) (closings_claim k))

    turn : AllInTurn o (length desks) old later
    turn = turn_both o (length desks) old at.later then at.turn (subst (λ (p : List Entry). AllInTurn o (length desks) p then) at.is (turn_then whole refl))

    children_are : children later ≡ children at.later
    children_are = each_of-append started_in at.later then ∙ ap (λ (cs : List ℕ). children at.later ++ cs) (no_children then no_starts) ∙ append-nil (children at.later)

    -- a child that is none of the links' had ended, and the others are closed
    over : (d : ℕ) → (is_ended g d || is_among links d) ≡ true → is_ended new d ≡ true
    over d h = by_either (is_ended g d)
        (λ it. ap (λ (j : List Entry). is_ended j d) behind ∙ ended_on g then d it)
        (λ other. closed_among links (both (is_ended new c) (list_all (is_ended new) (children_of links)) k.ended).1 (sym (ap (λ (b : Bool). b || is_among links d) other) ∙ h))
      where
        closed_among : (ls : List LinkValue) → list_all (is_ended new) (children_of ls) ≡ true → is_among ls d ≡ true → is_ended new d ≡ true
        closed_among [] ends i = absurd cc
        closed_among (l ∷ ls) ends i = among_one l ls (both (is_ended new l.ear.child) (list_all (is_ended new) (children_of ls)) ends) i (closed_among ls)
          where
            among_one : (x : LinkValue) (xs : List LinkValue) → (is_ended new x.ear.child ≡ true) × (list_all (is_ended new) (children_of xs) ≡ true) → ((x.ear.child == d) || is_among xs d) ≡ true
                → (list_all (is_ended new) (children_of xs) ≡ true → is_among xs d ≡ true → is_ended new d ≡ true) → is_ended new d ≡ true
            among_one x xs t j rec = by_either (x.ear.child == d)
                (λ it. subst (λ (e : ℕ). is_ended new e ≡ true) (same_number x.ear.child d it) t.0)
                (λ other. rec t.1 (sym (ap (λ (b : Bool). b || is_among xs d) other) ∙ j))

    ended : list_all (is_ended new) (c ∷ children later) ≡ true
    ended =
        let mine : is_ended new c ≡ true = (both (is_ended new c) (list_all (is_ended new) (children_of links)) k.ended).0 in
        let theirs : list_all (is_ended new) (children later) ≡ true = ap (list_all (is_ended new)) children_are ∙ all-each (λ (d : ℕ). is_ended g d || is_among links d) (is_ended new) over (children at.later) at.ended in
        rw (mine, theirs) refl

    spent : whole ≡ true → (list_any (is_lost new) (c ∷ children later) ≡ true) ⊎ (are_all_claimed o new ≡ true)
    spent w = go (m.left w)
      where
        lost : (d : ℕ) → is_lost mid d ≡ true → is_lost new d ≡ true
        lost d h = ap (λ (j : List Entry). is_lost j d) k.is ∙ lost_on mid k.tail d h

        theirs : list_any (λ (l : LinkValue). is_lost mid l.ear.child) links ≡ true → list_any (is_lost new) (children later) ≡ true
        theirs h = ap (list_any (is_lost new)) children_are ∙ seated_any (is_lost new) starts g at.later seats links seated
            (any-more (λ (l : LinkValue). is_lost mid l.ear.child) (λ (l : LinkValue). is_lost new l.ear.child) (λ l. lost l.ear.child) links h)

        go : (list_any (λ (l : LinkValue). is_lost mid l.ear.child) (first ∷ links) ≡ true) ⊎ (are_all_claimed o mid ≡ true) → (list_any (is_lost new) (c ∷ children later) ≡ true) ⊎ (are_all_claimed o new ≡ true)
        go (inl h) = inl (by_either (is_lost mid c)
            (λ it. or_left (is_lost new c) (list_any (is_lost new) (children later)) (lost c it))
            (λ other. or_right (is_lost new c) (list_any (is_lost new) (children later)) (theirs (sym (ap (λ (b : Bool). b || list_any (λ (l : LinkValue). is_lost mid l.ear.child) links) other) ∙ h))))
        go (inr all) = inr (ap (are_all_claimed o) k.is ∙ claimed_same o mid k.tail (closings_take k) (closings_close k) ∙ all)

    manned : whole ≡ true → IsManned o (length desks) new
    manned w = λ pool. subst (IsFilled o (length desks)) (sym behind) (filled_on o (length desks) g then no_starts leaves (at.manned w))

    takes_none : each_of claimed at.later ≡ []
    takes_none = each_without claimed changes_claim claim_takes at.later at.unclaimed_yet

    placed : HaveDesks (length desks) old later
    placed = have_both (length desks) old at.later then (have_none (length desks) old at.later takes_none)
        (subst (λ (p : List Entry). HaveDesks (length desks) p then) at.is
        (have_both (length desks) g m.rest k.tail m.placed (have_none (length desks) (g ++ m.rest) k.tail (closings_take k))))

    did : DesksDid o setup limit new old later 1 desks desks'
    did = desks_join o setup limit new old at.later then 1 desks desks desks' (desks_nothing o setup limit new old at.later 1 desks takes_none)
        (subst (λ (p : List Entry). DesksDid o setup limit new p then 1 desks desks') at.is
        (desks_join o setup limit new g m.rest k.tail 1 desks desks' desks'
        (subst (λ (j : List Entry). DesksDid o setup limit j g m.rest 1 desks desks') (sym k.is) (desks_on o setup limit mid k.tail g m.rest 1 desks desks' m.did))
        (desks_nothing o setup limit new (g ++ m.rest) k.tail 1 desks' (closings_take k))))

    -- with what is left of the objects
    pub pool_served : {wanted : Type 0} {program : List ℕ} {before after : ProgramsTold} {wires wires' : List WireValue}
        → ((more : List Entry) → new ≡ g ++ more → any is_any_start more ≡ false → LeavesPool wanted program new (at.later ++ more) first.ear first.mouth before after wires wires')
        → PoolServed wanted o setup limit program old new desks desks' whole first.ear first.mouth before after wires wires'
    pool_served leaves = (
      record {
        later = later;
        is = whole_is;
        within = within;
        untagged = untagged;
        asks = asks;
        lost = lost;
        posts = posts;
        turn = turn;
        legal = legal';
        calm = closings_calm k m.calm;
        ended = ended;
        spent = spent;
        manned = manned;
        placed = placed;
        did = did;
      },
      leaves then behind no_starts,
    )
