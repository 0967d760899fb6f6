-- What a pool's links come to while they serve: the first link alone, or a round, and then their closing.
use Rattle.ann_outside.specs.Told.{DeskTold}
use Rattle.std.proofs.Common.{◌≡◌, ℕ, ◌+◌, ◌<◌, List, [], ◌∷◌, ◌++◌, refl, sym, ap, subst, ◌∙◌, length, map, true, inl, inr, slice_index_or, slice_set}
use Rattle.std.specs.Prelude.{All, Option, Some, None}
use Rattle.std.specs.List.{range_with_len}
use Rattle.std.proofs.lemmas.List.{length-map, map-append}
use Rattle.std.proofs.lemmas.List.Elements.{All-cons, All-head, All-nil, All-tail, All-weaker}
use Rattle.journal_model.specs.declared.entry.Entry.{Entry}
use Rattle.journal_model.specs.declared.opening.Opening.{Opening}
use Rattle.journal_model.specs.Journal.{is_started}
use Rattle.journal_model.specs.Legality.{Legal}
use Rattle.child_link.specs.Alone.{KeepsLink}
use Rattle.child_link.specs.Writings.{LoneWired}
use Rattle.crew_work.specs.Laws.Laws.{GoesOn, children_of}
use Rattle.crew_work.specs.Laws.Rounds.{IsAtRest, LinkValue}
use Rattle.child_life.specs.End.Wires.{IsHeld}
use Rattle.child_life.proofs.EndLemmas.Held.{lone_held}
use Rattle.task_model.specs.declared.setup.Setup.{Setup}
use Rattle.crew_work.specs.Worker.Works.{CanWork}
use Rattle.run_starts.specs.Stints.{HasServed}
use Rattle.threads.specs.declared.roles.slot.Refused.{Refused}
use Rattle.crew_rounds.specs.Tagged.PoolChildren.{MayServe, PoolCan}
use Rattle.crew_rounds.specs.Pool.Pool.{AreSameLinks, PoolLeaves}
use Rattle.run_children.specs.PoolSteps.{ClosesAll, RoundsPool, ServesFirst, ServesLinks, ServesLinksUnless, ServesOne, ServesThen}
use Rattle.run_children.proofs.PoolClosings.{closes_held}
use Rattle.run_children.proofs.PoolLinks.{all_mapped, all_unmapped, first_can, first_held, first_of_all}
use Rattle.run_children.proofs.PoolMiddle.{ServedPart, served_calm, served_part}
use Rattle.crew_work.proofs.LawsLemmas.Laboring.{started_lasts as started_then}
use Rattle.crew_rounds.proofs.PoolLemmas.Backs.{links_still as link_same}

-- ---- the first link

module _ {L : Type 0} (link : L → LinkValue) (o : Opening) (setup : Setup) (g mid : List Entry) (items : List L) (x y : L) (some : 0 < length items) (is : x ≡ slice_index_or items 0 x) (can : PoolCan o g (map link items)) where
  abbrev others : List L
  others = (first_of_all items x some is).0

  place : items ≡ x ∷ others
  place = (first_of_all items x some is).1

  its : PoolCan o g (link x ∷ map link others)
  its = subst (λ (ls : List L). PoolCan o g (map link ls)) place can

  pub first_works : CanWork o (link x).ear.child g
  first_works = first_can o g (link x) (map link others) its

  pub first_keeps : ((z : L) → (link z).mouth.child ≡ (link z).ear.child) → {desk desk' : DeskTold} → HasServed o setup (link x).ear.child g mid desk desk' → KeepsLink g mid (link x).ear (link y).ear (link x).mouth (link y).mouth
      → All (λ (z : L). IsHeld mid (link z).ear (link z).mouth) (slice_set items 0 y)
  first_keeps one {desk} {desk'} served keeps = subst (λ (ls : List L). All (λ (z : L). IsHeld mid (link z).ear (link z).mouth) (slice_set ls 0 y)) (sym place)
      (all_unmapped (λ (l : LinkValue). IsHeld mid l.ear l.mouth) link (y ∷ others)
      (first_held o setup g mid (link x) (link y) (map link others) desk desk' its (all_mapped (λ (l : LinkValue). l.mouth.child ≡ l.ear.child) link one others) served keeps))

  pub first_same : KeepsLink g mid (link x).ear (link y).ear (link x).mouth (link y).mouth → AreSameLinks (map link items) (map link (slice_set items 0 y))
  first_same keeps = subst (λ (ls : List L). AreSameLinks (map link ls) (map link (slice_set ls 0 y))) (sym place) ((keeps.same_ear, keeps.same_mouth), link_same (map link others))

-- ---- links of the same children

pub same_children : (ls ms : List LinkValue) → AreSameLinks ls ms → children_of ms ≡ children_of ls
same_children [] [] s = refl
same_children [] (m ∷ ms) s = absurd s
same_children (l ∷ ls) [] s = absurd s
same_children (l ∷ ls) (m ∷ ms) s = rw (s.0.0.0, same_children ls ms s.1) refl

pub same_links_both : (ls ms ns : List LinkValue) → AreSameLinks ls ms → AreSameLinks ms ns → AreSameLinks ls ns
same_links_both [] [] [] s t = tt
same_links_both [] [] (n ∷ ns) s t = absurd t
same_links_both [] (m ∷ ms) ns s t = absurd s
same_links_both (l ∷ ls) [] ns s t = absurd s
same_links_both (l ∷ ls) (m ∷ ms) [] s t = absurd t
same_links_both (l ∷ ls) (m ∷ ms) (n ∷ ns) s t =
    (((t.0.0.0 ∙ s.0.0.0, t.0.0.1 ∙ s.0.0.1), (t.0.1.0 ∙ s.0.1.0, t.0.1.1 ∙ s.0.1.1)), same_links_both ls ms ns s.1 t.1)

-- what holds of the children holds of those of the same links
same_each : (P : ℕ → Type 0) (ls ms : List LinkValue) → AreSameLinks ls ms → All (λ (l : LinkValue). P l.ear.child) ls → All (λ (l : LinkValue). P l.ear.child) ms
same_each P [] [] s h = All-nil (λ (l : LinkValue). P l.ear.child)
same_each P [] (m ∷ ms) s h = absurd s
same_each P (l ∷ ls) [] s h = absurd s
same_each P (l ∷ ls) (m ∷ ms) s h =
    All-cons (λ (x : LinkValue). P x.ear.child) m ms (subst P (sym s.0.0.0) (All-head (λ (x : LinkValue). P x.ear.child) l ls h)) (same_each P ls ms s.1 (All-tail (λ (x : LinkValue). P x.ear.child) l ls h))

-- the children are started still
pub still_started : (o : Opening) (g rest mid : List Entry) (ls ms : List LinkValue) → PoolCan o g ls → AreSameLinks ls ms → mid ≡ g ++ rest → All (λ (l : LinkValue). is_started mid l.ear.child ≡ true) ms
still_started o g rest mid ls ms can same is =
    same_each (λ (c : ℕ). is_started mid c ≡ true) ls ms same
    (All-weaker (MayServe o g) (λ (l : LinkValue). is_started mid l.ear.child ≡ true) (λ l h. ap (λ (j : List Entry). is_started j l.ear.child) is ∙ started_then g rest l.ear.child h.serves.started) ls can.each)

-- the links are held still, after closings
pub held_then : {L : Type 0} (link : L → LinkValue) → ((z : L) → (link z).mouth.child ≡ (link z).ear.child) → (cs : List ℕ) (old new : List Entry) → ClosesAll cs old new → (xs : List L)
    → All (λ (z : L). IsHeld old (link z).ear (link z).mouth) xs → All (λ (z : L). IsHeld new (link z).ear (link z).mouth) xs
held_then {L} link one cs old new closed xs h =
    All-weaker (λ (z : L). IsHeld old (link z).ear (link z).mouth) (λ (z : L). IsHeld new (link z).ear (link z).mouth) (λ z k. closes_held cs old new (link z).ear (link z).mouth (one z) closed k) xs h

-- ---- after the main thread's work

module _ (o : Opening) (setup : Setup) (g mid : List Entry) (desks desks' : List DeskTold) where
  served_behind : (ls : List LinkValue) → PoolCan o g ls → ServesFirst o setup ls g mid desks desks' → (rest : List Entry) × (mid ≡ g ++ rest)
  served_behind [] can s = absurd s
  served_behind (l ∷ ls) can s =
      let its = All-head (MayServe o g) l ls can.each in
      let p : ServedPart l.ear.child g mid = served_part its.serves.legal its.serves.prepared s.served in
      (p.rest, p.is)

  pub alone_calm : (ls : List LinkValue) → PoolCan o g ls → ServesFirst o setup ls g mid desks desks' → IsAtRest mid
  alone_calm [] can s = absurd s
  alone_calm (l ∷ ls) can s = (let its = All-head (MayServe o g) l ls can.each in served_calm its.serves.legal can.calm its.serves.prepared s.served)

  pub alone_started : (ls ms : List LinkValue) → PoolCan o g ls → ServesFirst o setup ls g mid desks desks' → AreSameLinks ls ms → All (λ (l : LinkValue). is_started mid l.ear.child ≡ true) ms
  alone_started ls ms can s same = (let b = served_behind ls can s in still_started o g b.0 mid ls ms can same b.1)

  pub alone_links : (new : List Entry) (ls ms : List LinkValue) → (Legal o g → Legal o mid) → ServesFirst o setup ls g mid desks desks' → AreSameLinks ls ms → ClosesAll (children_of ms) mid new → ServesOne o setup g new ls desks desks'
  alone_links new ls ms legal s same closed = record { mid = mid; legal = legal; done = s; closes = subst (λ (cs : List ℕ). ClosesAll cs mid new) (same_children ls ms same) closed }

-- ---- after a round

module _ (o : Opening) (setup : Setup) (g mid : List Entry) (ls ms : List LinkValue) (desks desks' : List DeskTold) (r : RoundsPool o setup g mid ls ms desks desks') where
  pub rounds_calm : IsAtRest mid
  rounds_calm = subst IsAtRest (sym r.round.1) r.round.2.round.rounded.at_rest

  pub rounds_legal : Legal o mid
  rounds_legal = subst (Legal o) (sym r.round.1) r.round.2.round.rounded.legal

  pub rounds_started : PoolCan o g ls → AreSameLinks ls ms → All (λ (l : LinkValue). is_started mid l.ear.child ≡ true) ms
  rounds_started can same = still_started o g r.round.0 mid ls ms can same r.round.1

  pub rounds_held : All (λ (l : LinkValue). IsHeld mid l.ear l.mouth) ms
  rounds_held = subst (λ (j : List Entry). All (λ (l : LinkValue). IsHeld j l.ear l.mouth) ms) (sym r.round.1)
      (All-weaker (λ (l : LinkValue). LoneWired (g ++ r.round.0) l.ear l.mouth) (λ (l : LinkValue). IsHeld (g ++ r.round.0) l.ear l.mouth) (λ l h. lone_held (g ++ r.round.0) l.ear l.mouth h) ms r.round.2.wired)

  pub rounds_links : (new : List Entry) → AreSameLinks ls ms → ClosesAll (children_of ms) mid new
      → ServesThen (λ (m : List Entry). RoundsPool o setup g m ls ms desks desks') o g new ls
  rounds_links new same closed = record { mid = mid; legal = λ h. rounds_legal; done = r; closes = subst (λ (cs : List ℕ). ClosesAll cs mid new) (same_children ls ms same) closed }

-- ---- the desks of a round

-- the first desks had the round, and the others stand after them again
pub round_beside : {K : Type 0} (tells : K → DeskTold) (o : Opening) (setup : Setup) (g mid : List Entry) (ls ms : List LinkValue) (all used used' back others : List K) (m : ℕ) → length used ≡ length ls → m ≡ length ls
    → all ≡ used ++ others → back ≡ used' ++ others → GoesOn g mid (λ rest. PoolLeaves o setup (range_with_len 1 (1 + m)) g rest ls ms (map tells used) (map tells used'))
    → RoundsPool o setup g mid ls ms (map tells all) (map tells back)
round_beside tells o setup g mid ls ms all used used' back others m many numbered before after goes = record {
  used = map tells used;
  used' = map tells used';
  others = map tells others;
  before = ap (map tells) before ∙ map-append tells used others;
  after = ap (map tells) after ∙ map-append tells used' others;
  many = length-map used tells ∙ many;
  round = subst (λ (k : ℕ). GoesOn g mid (λ rest. PoolLeaves o setup (range_with_len 1 (1 + k)) g rest ls ms (map tells used) (map tells used'))) numbered goes;
}

-- ---- where no round began: what was done then was done from before it

module _ {L K : Type 0} (link : L → LinkValue) (tells : K → DeskTold) (o p : Opening) (old mid : List Entry) (ls is : List L) (ks js : List K) (eo : p ≡ o) (ej : mid ≡ old) (el : is ≡ ls) (ek : js ≡ ks) where
  pub can_kept : PoolCan o old (map link ls) → PoolCan p mid (map link is)
  can_kept can = subst (λ (q : Opening). PoolCan q mid (map link is)) (sym eo) (subst (λ (j : List Entry). PoolCan o j (map link is)) (sym ej) (subst (λ (xs : List L). PoolCan o old (map link xs)) (sym el) can))

  pub starved_started : PoolCan o old (map link ls) → All (λ (l : LinkValue). is_started mid l.ear.child ≡ true) (map link is)
  starved_started can =
      subst (λ (j : List Entry). All (λ (l : LinkValue). is_started j l.ear.child ≡ true) (map link is)) (sym ej)
      (subst (λ (xs : List L). All (λ (l : LinkValue). is_started old l.ear.child ≡ true) (map link xs)) (sym el)
      (All-weaker (MayServe o old) (λ (l : LinkValue). is_started old l.ear.child ≡ true) (λ l h. h.serves.started) (map link ls) can.each))

  pub serves_kept : (setup : Setup) (new : List Entry) (desks' : List DeskTold) → ServesOne p setup mid new (map link is) (map tells js) desks' → ServesOne o setup old new (map link ls) (map tells ks) desks'
  serves_kept setup new desks' s =
      subst (λ (q : Opening). ServesOne q setup old new (map link ls) (map tells ks) desks') eo
      (subst (λ (j : List Entry). ServesOne p setup j new (map link ls) (map tells ks) desks') ej
      (subst (λ (xs : List L). ServesOne p setup mid new (map link xs) (map tells ks) desks') el
      (subst (λ (xs : List K). ServesOne p setup mid new (map link is) (map tells xs) desks') ek s)))

-- ---- whoever did the tasks

pub by_one : (o : Opening) (setup : Setup) (old new : List Entry) (ls ms : List LinkValue) (desks desks' : List DeskTold) → ServesOne o setup old new ls desks desks' → ServesLinks o setup old new ls ms desks desks'
by_one o setup old new ls ms desks desks' s = record { mid = s.mid; legal = s.legal; done = inr s.done; closes = s.closes }

pub by_either : (alone : Option Refused) (o : Opening) (setup : Setup) (old new : List Entry) (ls ms : List LinkValue) (desks desks' : List DeskTold)
    → ServesLinksUnless alone o setup old new ls ms desks desks' → ServesLinks o setup old new ls ms desks desks'
by_either None o setup old new ls ms desks desks' s = record { mid = s.mid; legal = s.legal; done = inl s.done; closes = s.closes }
by_either (Some refused) o setup old new ls ms desks desks' s = by_one o setup old new ls ms desks desks' s
