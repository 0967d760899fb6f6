-- The links, seats and desks of a pool, as vectors: the first link, the wires that are laid in order, and desks that are taken and put back.
use Rattle.ann_outside.specs.Told.{DeskTold}
use Rattle.std.proofs.Common.{◌≡◌, ℕ, ◌+◌, ◌<◌, List, [], ◌∷◌, ◌++◌, refl, sym, ap, subst, ◌∙◌, append_assoc, append-nil, length, length-append, map, true, false, ◌==◌, arith, slice_index_or, take, zero, suc, None, Option, Some}
use Rattle.std.specs.Prelude.{All, reverse, slice_get}
use Rattle.std.proofs.lemmas.List.{length-reverse, reverse-append, reverse-reverse}
use Rattle.std.proofs.lemmas.List.Elements.{All-cons, All-head, All-nil, All-tail}
use Rattle.ann_outside.specs.Causes.{Stays}
use Rattle.ann_outside.specs.Starts.{Starts}
use Rattle.journal_model.specs.declared.entry.Entry.{Entry}
use Rattle.journal_model.specs.declared.opening.Opening.{Opening}
use Rattle.journal_model.specs.declared.verdict.Why.TheVariants.{Closed}
use Rattle.journal_model.specs.Journal.{is_started}
use Rattle.journal_model.specs.Legality.{may_stop}
use Rattle.journal_model.specs.Shares.{is_of_child}
use Rattle.child_link.specs.Alone.{Closes, KeepsLink}
use Rattle.crew_work.specs.Laws.Laws.{Distinct, children_of}
use Rattle.crew_work.specs.Laws.Rounds.{IsAtRest, LinkValue}
use Rattle.child_link.specs.Wires.{WireValue}
use Rattle.child_life.specs.End.Wires.{IsHeld, IsLaid}
use Rattle.child_life.proofs.EndLemmas.Held.{held_apart, lone_held}
use Rattle.task_model.specs.declared.setup.Setup.{Setup}
use Rattle.crew_work.specs.Worker.Works.{CanWork}
use Rattle.run_starts.specs.Stints.{HasServed, in_stint}
use Rattle.run_starts.proofs.Apart.{apart_in}
use Rattle.run_starts.proofs.Stinting.{may_close}
use Rattle.crew_rounds.specs.Tagged.PoolChildren.{MayServe, PoolCan}
use Rattle.run_children.specs.PoolChildren.Pools.{OverBy, SeatValue, Serves}
use Rattle.run_children.specs.PoolSteps.{AreLaid, AreSettled, ClosesAll, serving}
use Rattle.run_children.proofs.PoolClosings.{Closings, closings, closings_calm}
use Rattle.run_children.proofs.PoolMiddle.{ServedPart, served_part}
use Rattle.ann_key.proofs.Lists.{no_items}
use Rattle.std.proofs.lemmas.Bool.{ne_eqb as differ}
use Rattle.crew_work.proofs.LawsLemmas.Laboring.{started_lasts as started_then}
use Rattle.run_children.proofs.PoolChildrenLemmas.Own.{rest_shut}
use Rattle.journal_model.proofs.Across.{none_so as any_none}

-- ---- lists that are mapped

pub all_unmapped : {X Y : Type 0} (P : Y → Type 0) (f : X → Y) (xs : List X) → All P (map f xs) → All (λ (x : X). P (f x)) xs
all_unmapped {X} P f [] h = All-nil (λ (x : X). P (f x))
all_unmapped {X} P f (x ∷ xs) h = All-cons (λ (y : X). P (f y)) x xs (All-head P (f x) (map f xs) h) (all_unmapped P f xs (All-tail P (f x) (map f xs) h))

pub all_mapped : {X Y : Type 0} (P : Y → Type 0) (f : X → Y) → ((x : X) → P (f x)) → (xs : List X) → All P (map f xs)
all_mapped P f h [] = All-nil P
all_mapped P f h (x ∷ xs) = All-cons P (f x) (map f xs) (h x) (all_mapped P f h xs)

-- the first of a list, by its place
pub first_of_all : {X : Type 0} (xs : List X) (x : X) → 0 < length xs → x ≡ slice_index_or xs 0 x → (rest : List X) × (xs ≡ x ∷ rest)
first_of_all [] x some is = absurd (let bad : ⊥ = omega (arith, some) in bad)
first_of_all {X} (y ∷ ys) x some is = (ys, ap (λ (z : X). z ∷ ys) (sym is))

-- ---- the main thread over the first link

pub first_can : (o : Opening) (g : List Entry) (l : LinkValue) (links : List LinkValue) → PoolCan o g (l ∷ links) → CanWork o l.ear.child g
first_can o g l links can =
    let its = All-head (MayServe o g) l links can.each in
    record { serves = its.serves; rests = record { idle = rest_shut g can.calm l.ear.child; rest = can.calm.idle } }

-- another link's child is not the first's
others_differ : (l : LinkValue) (links : List LinkValue) → Distinct (children_of (l ∷ links)) → All (λ (x : LinkValue). (l.ear.child == x.ear.child) ≡ false) links
others_differ l links distinct = go links (λ i c h. differ l.ear.child c (λ z. absurd (let bad : 0 ≡ suc i = distinct 0 (suc i) c (ap (λ (d : ℕ). Some d) z) h in cc)))
  where
    go : (xs : List LinkValue) → ((i c : ℕ) → slice_get (children_of xs) i ≡ Some c → (l.ear.child == c) ≡ false) → All (λ (x : LinkValue). (l.ear.child == x.ear.child) ≡ false) xs
    go [] f = All-nil (λ (x : LinkValue). (l.ear.child == x.ear.child) ≡ false)
    go (x ∷ xs) f = All-cons (λ (y : LinkValue). (l.ear.child == y.ear.child) ≡ false) x xs (f zero x.ear.child refl) (go xs (λ i c h. f (suc i) c h))

-- The first link is held after its child's closing, and the others still.
pub first_held : (o : Opening) (setup : Setup) (g mid : List Entry) (l l' : LinkValue) (links : List LinkValue) (desk desk' : DeskTold) → PoolCan o g (l ∷ links) → All (λ (x : LinkValue). x.mouth.child ≡ x.ear.child) links
    → HasServed o setup l.ear.child g mid desk desk' → KeepsLink g mid l.ear l'.ear l.mouth l'.mouth → All (λ (x : LinkValue). IsHeld mid x.ear x.mouth) (l' ∷ links)
first_held o setup g mid l l' links desk desk' can one s keeps =
    All-cons (λ (x : LinkValue). IsHeld mid x.ear x.mouth) l' links (lone_held mid l'.ear l'.mouth (keeps.wired its.wired)) (go links one (others_differ l links can.differ) (All-tail (MayServe o g) l links can.each))
  where
    its : MayServe o g l
    its = All-head (MayServe o g) l links can.each

    p : ServedPart l.ear.child g mid
    p = served_part its.serves.legal its.serves.prepared s

    go : (xs : List LinkValue) → All (λ (x : LinkValue). x.mouth.child ≡ x.ear.child) xs → All (λ (x : LinkValue). (l.ear.child == x.ear.child) ≡ false) xs → All (MayServe o g) xs → All (λ (x : LinkValue). IsHeld mid x.ear x.mouth) xs
    go [] a b d = All-nil (λ (x : LinkValue). IsHeld mid x.ear x.mouth)
    go (x ∷ xs) a b d =
        All-cons (λ (y : LinkValue). IsHeld mid y.ear y.mouth) x xs
        (subst (λ (j : List Entry). IsHeld j x.ear x.mouth) (sym p.is)
        (held_apart g p.rest x.ear x.mouth (All-head (λ (y : LinkValue). y.mouth.child ≡ y.ear.child) x xs a)
        (any_none (in_stint l.ear.child) (is_of_child x.ear.child) (apart_in l.ear.child x.ear.child (All-head (λ (y : LinkValue). (l.ear.child == y.ear.child) ≡ false) x xs b)) p.rest p.part.within)
        (lone_held g x.ear x.mouth (All-head (MayServe o g) x xs d).wired)))
        (go xs (All-tail (λ (y : LinkValue). y.mouth.child ≡ y.ear.child) x xs a) (All-tail (λ (y : LinkValue). (l.ear.child == y.ear.child) ≡ false) x xs b) (All-tail (MayServe o g) x xs d))

-- ---- wires that are laid in order

-- so many wires were laid for the seats that are gone, and those that are left stand turned round
pub record Laying {S L : Type 0} (seat : S → SeatValue) (link : L → LinkValue) (seats0 seats : List S) (links0 links : List L) (wires0 wires : List WireValue) : Type 0 where
  pub done : List WireValue
  pub are : wires ≡ wires0 ++ done
  pub then : (more : List WireValue) → AreSettled (map seat (reverse seats)) (map link (reverse links)) more → AreSettled (map seat (reverse seats0)) (map link (reverse links0)) (done ++ more)
  pub fits : serving (map seat (reverse seats)) ≡ length links

module _ {S L : Type 0} (seat : S → SeatValue) (link : L → LinkValue) where
  pub laying_begins : (seats seats0 : List S) (links links0 : List L) (wires : List WireValue) → seats0 ≡ reverse seats → links0 ≡ reverse links → serving (map seat seats) ≡ length links
      → Laying seat link seats0 seats0 links0 links0 wires wires
  laying_begins seats seats0 links links0 wires es el fits = record {
    done = [];
    are = sym (append-nil wires);
    then = λ more h. h;
    fits = ap (λ (x : List S). serving (map seat x)) (ap reverse es ∙ reverse-reverse seats) ∙ fits ∙ sym (length-reverse links) ∙ ap (λ (x : List L). length x) (sym el);
  }

  -- the last of them is next
  turned : {X Y : Type 0} (f : X → Y) (xs xs' : List X) (x : X) (y : Y) → xs ≡ xs' ++ x ∷ [] → f x ≡ y → map f (reverse xs) ≡ y ∷ map f (reverse xs')
  turned f xs xs' x y popped is = ap (λ l. map f (reverse l)) popped ∙ ap (map f) (reverse-append xs' (x ∷ [])) ∙ ap (λ z. z ∷ map f (reverse xs')) is

  module _ (seats0 seats seats' : List S) (links0 links : List L) (wires0 wires wires' : List WireValue) (s : S) (popped : seats ≡ seats' ++ s ∷ []) (l : Laying seat link seats0 seats links0 links wires0 wires) where
    pub laying_over : (w : WireValue) → seat s ≡ OverBy w → wires' ≡ wires ++ w ∷ [] → Laying seat link seats0 seats' links0 links wires0 wires'
    laying_over w is pushed = record {
      done = l.done ++ w ∷ [];
      are = pushed ∙ ap (λ (x : List WireValue). x ++ w ∷ []) l.are ∙ append_assoc wires0 l.done (w ∷ []);
      then = λ more h. subst (AreSettled (map seat (reverse seats0)) (map link (reverse links0))) (sym (append_assoc l.done (w ∷ []) more))
          (l.then (w ∷ more) (subst (λ (x : List SeatValue). AreSettled x (map link (reverse links)) (w ∷ more)) (sym next) (refl, h)));
      fits = sym (ap serving next) ∙ l.fits;
    }
      where
        next : map seat (reverse seats) ≡ OverBy w ∷ map seat (reverse seats')
        next = turned seat seats seats' s (OverBy w) popped is

    pub laying_some : seat s ≡ Serves → 0 < length links
    laying_some is = (let so = sym (ap serving (turned seat seats seats' s Serves popped is)) ∙ l.fits in omega (arith, so))

    pub laying_served : (links' : List L) (x : L) → seat s ≡ Serves → links ≡ links' ++ x ∷ [] → IsLaid (link x).ear (link x).mouth wires wires' → Laying seat link seats0 seats' links0 links' wires0 wires'
    laying_served links' x is taken laid = record {
      done = l.done ++ laid.0 ∷ [];
      are = laid.1 ∙ ap (λ (y : List WireValue). y ++ laid.0 ∷ []) l.are ∙ append_assoc wires0 l.done (laid.0 ∷ []);
      then = λ more h. subst (AreSettled (map seat (reverse seats0)) (map link (reverse links0))) (sym (append_assoc l.done (laid.0 ∷ []) more))
          (l.then (laid.0 ∷ more) (subst (λ (y : List SeatValue). AreSettled y (map link (reverse links)) (laid.0 ∷ more)) (sym next)
          (subst (λ (y : List LinkValue). AreSettled (Serves ∷ map seat (reverse seats')) y (laid.0 ∷ more)) (sym here) (laid.2, h))));
      fits = (let so = sym (ap serving next) ∙ l.fits in let all = ap (λ (y : List L). length y) taken ∙ length-append links' (x ∷ []) in omega (arith, so, all));
    }
      where
        next : map seat (reverse seats) ≡ Serves ∷ map seat (reverse seats')
        next = turned seat seats seats' s Serves popped is

        here : map link (reverse links) ≡ link x ∷ map link (reverse links')
        here = turned link links links' x (link x) taken refl

  pub laying_ends : (seats seats0 over : List S) (links links0 left : List L) (wires0 wires : List WireValue) → seats0 ≡ reverse seats → links0 ≡ reverse links → length over ≡ 0 → Laying seat link seats0 over links0 left wires0 wires
      → AreLaid (map seat seats) (map link links) wires0 wires
  laying_ends seats seats0 over links links0 left wires0 wires es el gone w = (l.done, l.are, whole)
    where
      l : Laying seat link seats0 [] links0 left wires0 wires
      l = subst (λ (x : List S). Laying seat link seats0 x links0 left wires0 wires) (no_items over gone) w

      none : (xs : List L) → 0 ≡ length xs → xs ≡ []
      none [] e = refl
      none (x ∷ xs) e = absurd (let bad : ⊥ = omega (arith, e) in bad)

      nothing : AreSettled [] (map link (reverse left)) []
      nothing = subst (λ (x : List L). AreSettled [] (map link (reverse x)) []) (sym (none left l.fits)) tt

      whole : AreSettled (map seat seats) (map link links) l.done
      whole = subst (λ (x : List S). AreSettled (map seat x) (map link links) l.done) (ap reverse es ∙ reverse-reverse seats) (subst (λ (x : List L). AreSettled (map seat (reverse seats0)) (map link x) l.done) (ap reverse el ∙ reverse-reverse links)
          (subst (AreSettled (map seat (reverse seats0)) (map link (reverse links0))) (append-nil l.done) (l.then [] nothing)))

-- ---- desks that are taken and put back

-- the last of the others was taken, after those before it
pub taken_more : {X : Type 0} (all old new used used' : List X) (x : X) → old ≡ new ++ x ∷ [] → used' ≡ used ++ x ∷ [] → all ≡ old ++ reverse used → all ≡ new ++ reverse used'
taken_more all old new used used' x popped pushed e =
    e ∙ ap (λ l. l ++ reverse used) popped ∙ append_assoc new (x ∷ []) (reverse used) ∙ ap (λ l. new ++ l) (sym (reverse-append used (x ∷ []))) ∙ ap (λ l. new ++ reverse l) (sym pushed)

-- all that were taken stand before the others, turned round
pub taken_all : {X : Type 0} (all turned others used : List X) → turned ≡ reverse all → turned ≡ others ++ reverse used → all ≡ used ++ reverse others
taken_all all turned others used e h =
    sym (reverse-reverse all) ∙ ap reverse (sym e ∙ h) ∙ reverse-append others (reverse used) ∙ ap (λ l. l ++ reverse others) (reverse-reverse used)

-- the last of those used was put back before the others
pub put_more : {X : Type 0} (all used used' old new : List X) (x : X) → used ≡ used' ++ x ∷ [] → new ≡ old ++ x ∷ [] → used ++ reverse old ≡ all → used' ++ reverse new ≡ all
put_more all used used' old new x popped pushed e =
    ap (λ l. used' ++ reverse l) pushed ∙ ap (λ l. used' ++ l) (reverse-append old (x ∷ [])) ∙ sym (append_assoc used' (x ∷ []) (reverse old)) ∙ ap (λ l. l ++ reverse old) (sym popped) ∙ e

-- ---- children that are closed in turn

-- after closings the next child may be closed
pub closing_may : (cs : List ℕ) (old cur : List Entry) (c : ℕ) → ClosesAll cs old cur → IsAtRest old → is_started old c ≡ true → (is_started cur c ≡ true) × (may_stop cur c Closed ≡ true)
closing_may cs old cur c closed calm started =
    let k : Closings cs old cur = closings cs old cur closed in
    let still : IsAtRest cur = closings_calm k calm in
    (ap (λ (j : List Entry). is_started j c) k.is ∙ started_then old k.tail c started, may_close cur c (rest_shut cur still c) still.idle)

-- one more
closes_next : {L : Type 0} (link : L → LinkValue) (ls : List L) (i : ℕ) (x : L) (old mid new : List Entry) → i < length ls → x ≡ slice_index_or ls i x → ClosesAll (take i (children_of (map link ls))) old mid
    → Closes 0 (link x).ear.child mid new → ClosesAll (take (suc i) (children_of (map link ls))) old new
closes_next link [] i x old mid new lt is closed next = absurd (let bad : ⊥ = omega (arith, lt) in bad)
closes_next link (y ∷ ys) zero x old mid new lt is closed next = (new, subst (λ (j : List Entry). Closes 0 (link y).ear.child j new) closed (subst (λ z. Closes 0 (link z).ear.child mid new) is next), refl)
closes_next link (y ∷ ys) (suc i) x old mid new lt is closed next = (closed.0, closed.1, closes_next link ys i x closed.0 mid new (omega (arith, lt)) is closed.2 next)

pub closes_one_more : {L : Type 0} (link : L → LinkValue) (ls : List L) (i : ℕ) (x : L) (old mid new : List Entry) → i < length ls → x ≡ slice_index_or ls i x → ClosesAll (take i (children_of (map link ls))) old mid
    → Closes 0 (link x).ear.child mid new → ClosesAll (take (i + 1) (children_of (map link ls))) old new
closes_one_more link ls i x old mid new lt is closed next =
    subst (λ (n : ℕ). ClosesAll (take n (children_of (map link ls))) old new) (let e : suc i ≡ i + 1 = omega arith in e) (closes_next link ls i x old mid new lt is closed next)

-- ---- starts that are told

pub stays_same : (a : Option Starts) → Stays a a
stays_same None = tt
stays_same (Some xs) = refl
