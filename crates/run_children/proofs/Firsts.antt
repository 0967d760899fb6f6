-- What came of a child of slot 0 that is ready, in the journal and of the objects.
use Rattle.ann_outside.specs.Told.{DeskTold, ProgramsTold}
use Rattle.std.proofs.Common.{◌≡◌, ◌⊎◌, ℕ, ◌≤◌, List, [], ◌∷◌, refl, sym, ap, subst, ◌∙◌, append-nil, length, Bool, true, false, arith, inl, inr, Ok, Err, Result}
use Rattle.std.specs.Prelude.{◌&&◌, IsErr, MatchResult, Option, Some, None, is_ok}
use Rattle.std.proofs.lemmas.List.Elements.{All-cons, All-nil}
use Rattle.ann_key.specs.declared.bytes.NoMemory.{NoMemory}
use Rattle.ann_outside.specs.Causes.{AddsOne, Stays}
use Rattle.journal_model.specs.declared.entry.What.TheVariants.{Start}
use Rattle.journal_model.specs.declared.entry.Entry.{Entry}
use Rattle.journal_model.specs.declared.opening.Opening.{Opening}
use Rattle.journal_model.specs.Halves.{EarValue, MouthValue, IsSameEar, IsSameMouth}
use Rattle.journal_model.specs.Journal.{any, is_tagged}
use Rattle.journal_model.specs.Legality.{Legal, count, is_start}
use Rattle.child_link.specs.Alone.{Closes}
use Rattle.host_core.specs.Steps.{are_all_claimed}
use Rattle.threads.specs.declared.roles.slot.Refused.{Refused}
use Rattle.child_life.specs.Start.Greetings.{AreNumbered, Greeted, IsReady}
use Rattle.child_life.specs.End.Programs.{AddsAll, told}
use Rattle.child_link.specs.Wires.{IsLeft, WireValue}
use Rattle.child_life.specs.End.Wires.{IsHeld, IsLaid}
use Rattle.crew_work.specs.Laws.Rounds.{LinkValue}
use Rattle.task_model.specs.declared.setup.Setup.{Setup}
use Rattle.run_starts.specs.Starting.{is_any_start}
use Rattle.run_starts.specs.Stints.{ear_of, main_entry, mouth_of}
use Rattle.run_starts.proofs.Leaving.{rose_still, stays_none}
use Rattle.run_children.specs.PoolChildren.Pools.{IsUngathered, Serves as Seat}
use Rattle.run_children.specs.Pools.{IsLinkLeft, LeavesPool, PoolServed}
use Rattle.run_children.specs.Servings.{CanBeServed, FirstServed, Serves, ServesUnless, Starved, plainly}
use Rattle.run_children.specs.Starts.{RunLacksMemory, OneJobStart, StartsAll}
use Rattle.run_children.proofs.PoolEnding.{closes_alone, laid_alone, roomless_pool, starved_ends}
use Rattle.run_children.proofs.PoolStretch.{Asked, all_told, asked_so, its_objects, none_started, pool_next, pool_start, untagged_start}
use Rattle.run_children.proofs.Rounding.{served_start}
use Rattle.run_children.proofs.PoolLinks.{stays_same as stays_so}

-- ---- the wire of one child

module _ (journal : List Entry) (e ear : EarValue) (m mouth : MouthValue) (wire : WireValue) (one : mouth.child ≡ ear.child) (se : IsSameEar e ear) (sm : IsSameMouth m mouth) (is : IsLeft ear mouth wire) where
  ear_is : ear_of wire ≡ ear
  ear_is = rw (is.child, is.given_is, is.left_is, is.faults.1, is.numbers.1, is.rest) refl

  mouth_is : mouth_of wire ≡ mouth
  mouth_is = let same_child : wire.child ≡ mouth.child = is.child ∙ sym one in rw (same_child, is.taken_is, is.faults.0, is.numbers.0) refl

  wire_left : IsHeld journal ear mouth → IsLinkLeft journal e m wire
  wire_left h = record {
    child = is.child ∙ se.0;
    held = subst (λ (x : EarValue). IsHeld journal x (mouth_of wire)) (sym ear_is) (subst (λ (x : MouthValue). IsHeld journal ear x) (sym mouth_is) h);
    numbers = (is.numbers.0 ∙ sm.1, is.numbers.1 ∙ se.1);
    closed = is.closed;
  }

-- one child was served and finished
pub lone_leaves : (W : Type 0) (program : List ℕ) (journal : List Entry) (before after : ProgramsTold) (e ear : EarValue) (m mouth : MouthValue) (wires wires' : List WireValue) → Stays before.starts after.starts → before.faults ≤ after.faults
    → IsSameEar e ear → IsSameMouth m mouth → mouth.child ≡ ear.child → IsHeld journal ear mouth → IsLaid ear mouth wires wires' → LeavesPool W program journal [] e m before after wires wires'
lone_leaves W program journal before after e ear m mouth wires wires' stays le se sm one held (wire, laid, is) = record {
  own = wire;
  more = [];
  laid = laid;
  left = wire_left journal e ear m mouth wire one se sm is held;
  linked = tt;
  started = inl (stays_none before.starts after.starts stays);
  faults = rose_still 0 before.faults before.faults after.faults (omega arith) le;
  later_faults = le;
}

-- a round over it, or one worker, did tasks, or found no memory
pub first_by : {o : Opening} {setup : Setup} {limit : ℕ} {program : List ℕ} {old new : List Entry} {desks desks' : List DeskTold} {ear ear' : EarValue} {mouth mouth' : MouthValue} {before after : ProgramsTold} {wires wires' : List WireValue} {tagged : Bool}
    → (r : Result (Unit {0}) NoMemory) → MatchResult r (λ _. Serves o setup ear.child old new desks desks') (λ _. Starved old new ear ear' mouth mouth' desks desks')
    → (length desks ≡ 1) ⊎ (is_tagged old ear.child ≡ true) → CanBeServed o old ear mouth tagged → Legal o new → ear.child ≡ count is_start old → ((W : Type 0) → LeavesPool W program new [] ear mouth before after wires wires')
    → mouth'.child ≡ ear'.child → IsLaid ear' mouth' wires wires' → Stays before.starts after.starts → before.faults ≤ after.faults
    → FirstServed (IsErr r) o setup limit program old new desks desks' (is_ok r) ear mouth before after wires wires'
first_by (Ok u) s few can legal its leaves one laid stays le = inl (s, few, leaves (false ≡ true))
first_by {o} {setup} {limit} {program} {old} {new} {desks} {desks'} {ear} {ear'} {mouth} {mouth'} {before} {after} {wires} {wires'} (Err e) s few can legal its leaves one laid stays le =
    let first : LinkValue = record { ear = ear; mouth = mouth } in
    let link : LinkValue = record { ear = ear'; mouth = mouth' } in
    let same : link ≡ first = ap (λ (x : EarValue). record { ear = x; mouth = mouth' }) s.link.0 ∙ ap (λ (x : MouthValue). record { ear = ear; mouth = x }) s.link.1 in
    let alone : IsUngathered old old first link before before = record { journal = refl; link_is = same; starts = stays_so before.starts; later_faults = omega arith } in
    inr (
      s.many,
      inr refl,
      subst (λ (ds : List DeskTold). PoolServed (true ≡ true) o setup limit program old new desks ds false ear mouth before after wires wires') (sym s.desks_are)
          (starved_ends o setup limit (length desks) program old old new first before before after (Seat ∷ []) (link ∷ []) desks wires wires' refl (λ w. absurd w)
          (roomless_pool o (length desks) program old old first link before before can alone) can its
          (closes_alone link old new (subst (λ (x : EarValue). Closes 0 x.child old new) (sym s.link.0) s.closes)) legal
          (All-cons (λ (l : LinkValue). l.mouth.child ≡ l.ear.child) link [] one (All-nil (λ (l : LinkValue). l.mouth.child ≡ l.ear.child))) (laid_alone link wires wires' laid) stays le),
    )

-- ---- what came of it

module _ (o : Opening) (setup : Setup) (limit : ℕ) (offer tagged : Bool) (old g new : List Entry) (desks desks' : List DeskTold) (W : Type 0) (program : List ℕ) (ear : EarValue) (mouth : MouthValue) (before mid last : ProgramsTold) (wires wires' : List WireValue)
    (legal : Legal o old) (left : are_all_claimed o old ≡ false) (greeted : Greeted old g 0 offer ear.child) (legal' : Legal o g) (ready : IsReady g ear.child) (tag : tagged ≡ is_tagged g ear.child)
    (adds : AddsOne before.starts mid.starts (program, true)) (le : before.faults ≤ mid.faults) (numbered : AreNumbered mid.starts ear mouth) where
  lone_objects : (after : ProgramsTold) → LeavesPool W program new [] ear mouth mid last wires wires' → AddsAll mid.starts after.starts (told program []) → after.faults ≡ last.faults
      → (xs : List Entry) → any is_any_start xs ≡ false → StartsAll program new (main_entry (Start ear.child 0 offer) ∷ xs) before after wires wires'
  lone_objects after l all same xs none = subst (λ (ys : List Entry). StartsAll program new (main_entry (Start ear.child 0 offer) ∷ ys) before after wires wires') (append-nil xs)
      (its_objects program new xs [] ear.child offer before mid ear mouth adds le numbered refl none W last after wires wires' l all same)

  untagged : is_tagged g ear.child ≡ false → (offer && false) ≡ (offer && tagged)
  untagged h = ap (λ (b : Bool). offer && b) (sym (tag ∙ h))

  -- a pool that was whole is one after a child that takes no tags
  plain_of : (is_tagged g ear.child ≡ false) ⊎ (true ≡ false) → is_tagged g ear.child ≡ false
  plain_of (inl plain) = plain
  plain_of (inr bad) = absurd cc

  made : (W → ⊥) → FirstServed W o setup limit program g new desks desks' true ear mouth mid last wires wires' → OneJobStart o setup limit offer (offer && tagged) true program old new desks desks' before last wires wires'
  made none (inl (serves, few, l)) = served_start o setup limit offer tagged old g new ear.child desks desks' true legal left greeted legal' ready tag
      serves few
      (lone_objects last l (all_told W program [] mid last none l.started) refl)
  made none (inr (many, plain, (s, l))) = subst (λ (next : Bool). OneJobStart o setup limit offer next true program old new desks desks' before last wires wires') (untagged (plain_of plain))
      (untagged_start o setup limit offer old g new ear.child desks desks' true greeted legal' ready many left s (plain_of plain)
      (its_objects program new greeted.more s.later ear.child offer before mid ear mouth adds le numbered refl (none_started o old g offer ear.child greeted) W last last wires wires' l (all_told W program s.later mid last none l.started) refl))

  pub first_ok : (whole : Bool) → whole ≡ true → (W → ⊥) → FirstServed W o setup limit program g new desks desks' whole ear mouth mid last wires wires'
      → OneJobStart o setup limit offer (offer && tagged) true program old new desks desks' before last wires wires'
  first_ok whole e none f = made none (subst (λ (b : Bool). FirstServed W o setup limit program g new desks desks' b ear mouth mid last wires wires') e f)

  lacking : FirstServed W o setup limit program g new desks desks' false ear mouth mid last wires wires' → RunLacksMemory o setup limit offer program old new desks desks' before last wires wires'
  lacking (inl (serves, few, l)) =
      let a : Asked program [] mid last = asked_so W program [] mid last l.started in
      inr (
        offer && tagged,
        a.mid,
        served_start o setup limit offer tagged old g new ear.child desks desks' false legal left greeted legal' ready tag
            serves few
            (lone_objects a.mid l a.adds a.faults),
        a.asked,
      )
  lacking (inr (many, plain, (s, l))) =
      let a : Asked program s.later mid last = asked_so W program s.later mid last l.started in
      inr (
        pool_next o setup limit offer old g new ear.child desks desks' false greeted legal' ready many left s,
        a.mid,
        pool_start o setup limit offer old g new ear.child desks desks' false greeted legal' ready many left s
            (its_objects program new greeted.more s.later ear.child offer before mid ear mouth adds le numbered refl (none_started o old g offer ear.child greeted) W last a.mid wires wires' l a.adds a.faults),
        a.asked,
      )

  pub first_err : (whole : Bool) → whole ≡ false → FirstServed W o setup limit program g new desks desks' whole ear mouth mid last wires wires' → RunLacksMemory o setup limit offer program old new desks desks' before last wires wires'
  first_err whole e f = lacking (subst (λ (b : Bool). FirstServed W o setup limit program g new desks desks' b ear mouth mid last wires wires') e f)

-- ---- whoever did the tasks

pub served_plainly : (S : Type 0) (o : Opening) (setup : Setup) (c : ℕ) (old new : List Entry) (desks desks' : List DeskTold) (x : Result (Option Refused) NoMemory) (r : Result (Unit {0}) NoMemory)
    → r ≡ plainly x → MatchResult x (λ alone. ServesUnless alone o setup c old new desks desks') (λ _. S) → MatchResult r (λ _. Serves o setup c old new desks desks') (λ _. S)
served_plainly S o setup c old new desks desks' x r is s = subst (λ (y : Result (Unit {0}) NoMemory). MatchResult y (λ _. Serves o setup c old new desks desks') (λ _. S)) (sym is) (go x s)
  where
    go : (x : Result (Option Refused) NoMemory) → MatchResult x (λ alone. ServesUnless alone o setup c old new desks desks') (λ _. S)
        → MatchResult (plainly x) (λ _. Serves o setup c old new desks desks') (λ _. S)
    go (Ok None) s = inr s
    go (Ok (Some refused)) s = inl s
    go (Err e) s = s
