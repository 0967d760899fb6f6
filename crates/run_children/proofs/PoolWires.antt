-- What a pool leaves of its objects: a wire for each child, in the order of their starts, and the starts that were told.
use Rattle.ann_outside.specs.Told.{ProgramsTold}
use Rattle.std.proofs.Common.{◌≡◌, ◌⊎◌, ℕ, ◌+◌, ◌<◌, ◌≤◌, List, [], ◌∷◌, ◌++◌, refl, sym, ap, subst, ◌∙◌, append-nil, Bool, false, ◌==◌, Some, None, Option, arith, inl, inr}
use Rattle.std.specs.Prelude.{All}
use Rattle.std.specs.List.{list_any}
use Rattle.std.proofs.lemmas.List.Elements.{All-head, All-tail}
use Rattle.ann_outside.specs.Causes.{Stays}
use Rattle.ann_outside.specs.Starts.{Starts}
use Rattle.journal_model.specs.declared.entry.Entry.{Entry}
use Rattle.journal_model.specs.Halves.{EarValue, MouthValue}
use Rattle.journal_model.specs.Journal.{any}
use Rattle.journal_model.specs.Legality.{count}
use Rattle.journal_model.specs.Shares.{is_of_child}
use Rattle.journal_model.proofs.Looks.{each_of-append}
use Rattle.child_link.proofs.Linked.{any_narrower}
use Rattle.child_life.specs.End.Programs.{AddsAll, HaveStarted, RoseBy, is_failed_start, told, told_in}
use Rattle.child_link.specs.Wires.{IsLeft, WireValue}
use Rattle.child_life.specs.End.Wires.{IsHeld, IsOfStart, came, came_in}
use Rattle.child_life.proofs.EndLemmas.Held.{held_apart}
use Rattle.crew_work.specs.Laws.Rounds.{LinkValue}
use Rattle.run_starts.specs.Starting.{is_any_start}
use Rattle.run_starts.specs.Stints.{AreLinked, IsLinked, ear_of, mouth_of}
use Rattle.run_starts.proofs.Leaving.{none_told, rose_still, failed_start_is}
use Rattle.run_starts.proofs.Tests.{none_came}
use Rattle.crew_rounds.specs.Pool.Pool.{AreSameLinks}
use Rattle.run_children.specs.PoolChildren.Pools.{AreSeated, OverBy, SeatValue, Serves}
use Rattle.run_children.specs.Pools.{LeavesPool}
use Rattle.run_children.specs.PoolSteps.{AreLaid, AreSettled, ClosesAll}
use Rattle.run_children.proofs.PoolClosings.{closes_held}
use Rattle.run_children.proofs.PoolTags.{Ascends, seated_above}
use Rattle.std.proofs.lemmas.Bool.{ne_eqb as differ}
use Rattle.journal_model.proofs.Working.{count-append, count_none}
use Rattle.child_life.proofs.EndLemmas.Across.{adds_stay}

-- ---- the wire of a link

module _ (journal : List Entry) (ear : EarValue) (mouth : MouthValue) (wire : WireValue) (one : mouth.child ≡ ear.child) (is : IsLeft ear mouth wire) where
  ear_is : ear_of wire ≡ ear
  ear_is = rw (is.child, is.given_is, is.left_is, is.faults.1, is.numbers.1, is.rest) refl

  mouth_is : mouth_of wire ≡ mouth
  mouth_is = let same_child : wire.child ≡ mouth.child = is.child ∙ sym one in rw (same_child, is.taken_is, is.faults.0, is.numbers.0) refl

  left_held : IsHeld journal ear mouth → IsHeld journal (ear_of wire) (mouth_of wire)
  left_held h = subst (λ (x : EarValue). IsHeld journal x (mouth_of wire)) (sym ear_is) (subst (λ (x : MouthValue). IsHeld journal ear x) (sym mouth_is) h)

-- a wire of which nothing is made but that its child is closed stays linked
pub wire_stays : (starts : Option Starts) (g rest mid new : List Entry) (cs : List ℕ) → mid ≡ g ++ rest → ClosesAll cs mid new → (n : ℕ) (wire : WireValue) → any (is_of_child wire.child) rest ≡ false → IsLinked starts g n wire → IsLinked starts new n wire
wire_stays starts g rest mid new cs is closed n wire none l = record {
  linked = closes_held cs mid new (ear_of wire) (mouth_of wire) refl closed (subst (λ (j : List Entry). IsHeld j (ear_of wire) (mouth_of wire)) (sym is) (held_apart g rest (ear_of wire) (mouth_of wire) refl none l.linked));
  inlet = l.inlet;
  outlet = l.outlet;
  closed = l.closed;
}

above_none : (n c : ℕ) (links : List LinkValue) → c ≤ n → All (λ (l : LinkValue). n < l.ear.child) links → list_any (λ (l : LinkValue). l.ear.child == c) links ≡ false
above_none n c [] le h = refl
above_none n c (l ∷ links) le h =
    let high = All-head (λ (x : LinkValue). n < x.ear.child) l links h in
    let other : (l.ear.child == c) ≡ false = differ l.ear.child c (λ z. absurd (let bad : ⊥ = omega (arith, z, high, le) in bad)) in
    rw (other, above_none n c links le (All-tail (λ (x : LinkValue). n < x.ear.child) l links h)) refl

-- ---- the wires of seats

wires_linked : (starts : Option Starts) (g new : List Entry) (n m : ℕ) (cs : List (Option ℕ)) (seats : List SeatValue) (links links' : List LinkValue) (more : List WireValue)
    → AreSeated starts g n cs seats links → AreSettled seats links' more → AreSameLinks links links' → All (λ (l : LinkValue). IsHeld new l.ear l.mouth) links' → All (λ (l : LinkValue). l.mouth.child ≡ l.ear.child) links' → Ascends m cs
    → ((c k : ℕ) (wire : WireValue) → wire.child ≡ c → m < c → list_any (λ (l : LinkValue). l.ear.child == c) links ≡ false → IsLinked starts g k wire → IsLinked starts new k wire)
    → AreLinked starts new n cs more
wires_linked starts g new n m [] [] [] [] [] h t s held one a stays = tt
wires_linked starts g new n m [] [] [] [] (w ∷ more) h t s held one a stays = absurd t
wires_linked starts g new n m [] [] [] (x ∷ links') more h t s held one a stays = absurd s
wires_linked starts g new n m [] [] (l ∷ links) links' more h t s held one a stays = absurd h
wires_linked starts g new n m [] (e ∷ seats) links links' more h t s held one a stays = absurd h
wires_linked starts g new n m (None ∷ cs) seats links links' more h t s held one a stays = wires_linked starts g new (n + 1) m cs seats links links' more h t s held one a stays
wires_linked starts g new n m (Some c ∷ cs) [] links links' more h t s held one a stays = absurd h
wires_linked starts g new n m (Some c ∷ cs) (OverBy own ∷ seats) links links' [] h t s held one a stays = absurd t
wires_linked starts g new n m (Some c ∷ cs) (OverBy own ∷ seats) links links' (w ∷ more) h t s held one a stays =
    let next = a.0 in
    let none : list_any (λ (l : LinkValue). l.ear.child == c) links ≡ false = above_none (m + 1) c links (omega (arith, next)) (seated_above starts g (n + 1) (m + 1) cs seats links h.2 a.1) in (
      ap (λ (x : WireValue). x.child) t.0 ∙ h.0,
      subst (λ (x : WireValue). IsLinked starts new (n + 1) x) (sym t.0) (stays c (n + 1) own h.0 (omega (arith, next)) none h.1),
      wires_linked starts g new (n + 1) (m + 1) cs seats links links' more h.2 t.1 s held one a.1 (λ d k wire is far apart l. stays d k wire is (omega (arith, far)) apart l),
    )
wires_linked starts g new n m (Some c ∷ cs) (Serves ∷ seats) [] links' more h t s held one a stays = absurd h
wires_linked starts g new n m (Some c ∷ cs) (Serves ∷ seats) (l ∷ links) [] more h t s held one a stays = absurd s
wires_linked starts g new n m (Some c ∷ cs) (Serves ∷ seats) (l ∷ links) (x ∷ links') [] h t s held one a stays = absurd t
wires_linked starts g new n m (Some c ∷ cs) (Serves ∷ seats) (l ∷ links) (x ∷ links') (w ∷ more) h t s held one a stays =
    let next = a.0 in
    let its = h.0 in (
      t.0.child ∙ s.0.0.0 ∙ h.0,
      record {
        linked = left_held new x.ear x.mouth w (All-head (λ (y : LinkValue). y.mouth.child ≡ y.ear.child) x links' one) t.0 (All-head (λ (y : LinkValue). IsHeld new y.ear y.mouth) x links' held);
        inlet = subst (IsOfStart starts (n + 1)) (sym (t.0.numbers.0 ∙ s.0.1.1)) h.1;
        outlet = subst (IsOfStart starts (n + 1)) (sym (t.0.numbers.1 ∙ s.0.0.1)) h.2;
        closed = t.0.closed;
      },
      wires_linked starts g new (n + 1) (m + 1) cs seats links links' more h.3 t.1 s.1 (All-tail (λ (y : LinkValue). IsHeld new y.ear y.mouth) x links' held) (All-tail (λ (y : LinkValue). y.mouth.child ≡ y.ear.child) x links' one) a.1
          (λ d k wire is far apart j.
          let other : (l.ear.child == d) ≡ false = differ l.ear.child d (λ z. absurd (let bad : ⊥ = omega (arith, z, its, next, far) in bad)) in
          stays d k wire is (omega (arith, far)) (rw (other, apart) refl) j),
    )

-- ---- starts that were told

have_started : {wanted wanted' : Type 0} (program : List ℕ) (gl more : List Entry) (a b c : Option Starts) → (wanted → wanted') → any is_any_start more ≡ false → HaveStarted wanted program gl a b → Stays b c → HaveStarted wanted' program (gl ++ more) a c
have_started {wanted} {wanted'} program gl more a b c f none h k = subst (λ (xs : Starts). AddsAll a c xs ⊎ (wanted' × ((t : Bool) × AddsAll a c (xs ++ (program, t) ∷ [])))) (sym same) (go h)
  where
    same : told program (gl ++ more) ≡ told program gl
    same = each_of-append (told_in program) gl more ∙ ap (λ (xs : Starts). told program gl ++ xs) (none_told program more none) ∙ append-nil (told program gl)

    go : HaveStarted wanted program gl a b → AddsAll a c (told program gl) ⊎ (wanted' × ((t : Bool) × AddsAll a c (told program gl ++ (program, t) ∷ [])))
    go (inl x) = inl (adds_stay a b c (told program gl) x k)
    go (inr (w, (t, x))) = inr (f w, (t, adds_stay a b c (told program gl ++ (program, t) ∷ []) x k))

-- ---- all of it

-- what the wires were laid for: the first link's seat and the others'
pub record Settled (new : List Entry) (first : LinkValue) (links links' : List LinkValue) (others : List SeatValue) (wires wires' : List WireValue) : Type 0 where
  pub laid : AreLaid (Serves ∷ others) links' wires wires'
  pub same : AreSameLinks (first ∷ links) links'
  pub held : All (λ (l : LinkValue). IsHeld new l.ear l.mouth) links'
  pub one : All (λ (l : LinkValue). l.mouth.child ≡ l.ear.child) links'

pub leaves_pool : {wanted wanted' : Type 0} (program : List ℕ) (g new gl more : List Entry) (first : LinkValue) (links links' : List LinkValue) (others : List SeatValue) (m : ℕ) (before mid after : ProgramsTold) (wires wires' : List WireValue)
    → (wanted → wanted') → any is_any_start more ≡ false → first.ear.child ≤ m → Ascends m (came gl) → AreSeated before.starts g 0 (came gl) others links → HaveStarted wanted program gl before.starts mid.starts
    → RoseBy (count is_failed_start gl) before.faults mid.faults → before.faults ≤ mid.faults → Stays mid.starts after.starts → mid.faults ≤ after.faults → Settled new first links links' others wires wires'
    → ((c k : ℕ) (wire : WireValue) → wire.child ≡ c → list_any (λ (l : LinkValue). l.ear.child == c) (first ∷ links) ≡ false → IsLinked before.starts g k wire → IsLinked before.starts new k wire)
    → LeavesPool wanted' program new (gl ++ more) first.ear first.mouth before after wires wires'
leaves_pool {wanted} {wanted'} program g new gl more first links links' others m before mid after wires wires' f none low ascends seated started fault later stays later' s keeps = go links' s.laid.0 s.laid.1 s.laid.2 s.same s.held s.one
  where
    came_same : came (gl ++ more) ≡ came gl
    came_same = each_of-append came_in gl more ∙ ap (λ (cs : List (Option ℕ)). came gl ++ cs) (none_came more none) ∙ append-nil (came gl)

    failed_same : count is_failed_start (gl ++ more) ≡ count is_failed_start gl
    failed_same = let none_failed = count_none is_failed_start more (any_narrower is_failed_start is_any_start failed_start_is more none) in count-append is_failed_start gl more ∙ (omega (arith, none_failed))

    keeps_far : (c k : ℕ) (wire : WireValue) → wire.child ≡ c → m < c → list_any (λ (l : LinkValue). l.ear.child == c) links ≡ false → IsLinked before.starts g k wire → IsLinked before.starts new k wire
    keeps_far c k wire is far apart l =
        let other : (first.ear.child == c) ≡ false = differ first.ear.child c (λ z. absurd (let bad : ⊥ = omega (arith, z, low, far) in bad)) in
        keeps c k wire is (rw (other, apart) refl) l

    go : (ls : List LinkValue) (ws : List WireValue) → wires' ≡ wires ++ ws → AreSettled (Serves ∷ others) ls ws → AreSameLinks (first ∷ links) ls → All (λ (l : LinkValue). IsHeld new l.ear l.mouth) ls → All (λ (l : LinkValue). l.mouth.child ≡ l.ear.child) ls
        → LeavesPool wanted' program new (gl ++ more) first.ear first.mouth before after wires wires'
    go [] ws laid settled same held one = absurd same
    go (l ∷ ls) [] laid settled same held one = absurd settled
    go (l ∷ ls) (w ∷ ws) laid settled same held one = record {
      own = w;
      more = ws;
      laid = laid;
      left = record {
        child = settled.0.child ∙ same.0.0.0;
        held = left_held new l.ear l.mouth w (All-head (λ (y : LinkValue). y.mouth.child ≡ y.ear.child) l ls one) settled.0 (All-head (λ (y : LinkValue). IsHeld new y.ear y.mouth) l ls held);
        numbers = (settled.0.numbers.0 ∙ same.0.1.1, settled.0.numbers.1 ∙ same.0.0.1);
        closed = settled.0.closed;
      };
      linked = subst (λ (cs : List (Option ℕ)). AreLinked before.starts new 0 cs ws) (sym came_same)
          (wires_linked before.starts g new 0 m (came gl) others links ls ws seated settled.1 same.1 (All-tail (λ (y : LinkValue). IsHeld new y.ear y.mouth) l ls held) (All-tail (λ (y : LinkValue). y.mouth.child ≡ y.ear.child) l ls one) ascends keeps_far);
      started = have_started program gl more before.starts mid.starts after.starts f none started stays;
      faults = subst (λ (n : ℕ). RoseBy n before.faults after.faults) (sym failed_same) (rose_still (count is_failed_start gl) before.faults mid.faults after.faults fault later');
      later_faults = omega (arith, later, later');
    }
