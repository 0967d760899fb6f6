-- How a call of the guard goes: stopped by a gate, or through to the call of the remote inside.
use Rattle.std.proofs.Common.{◌≡◌, ℕ, List, [], ◌∷◌, ◌++◌, append-nil, refl, sym, subst, inl, inr}
use Rattle.std.specs.Prelude.{Bool, Option, Some, None, Result, Ok, Err}
use Rattle.ann_key.specs.declared.bytes.NoMemory.{NoMemory as WithoutMemory}
use Rattle.kit_serve.specs.declared.kit.call.Said.{Said}
use Rattle.dir_remote.specs.Guard.Gates.{Admits, IsHeld, Passes, looks_of}
use Rattle.dir_remote.specs.Guard.Guards.{Enters, Founds, GuardTold, Guards, IsIdle, IsLook, ReadiesBy, Stands, SweptAs, YesAfter}
use Rattle.dir_remote.specs.Guard.Steps.{Adds, AddsSome}
use Rattle.dir_remote.specs.declared.guard.gates.Gate.{Gate}
use Rattle.dir_remote.specs.declared.guard.place.Step.{Step}
use Rattle.dir_remote.specs.declared.guard.place.Want.TheVariants.{Founded}
use Rattle.dir_remote.proofs.GuardLemmas.Adding.{adds_more, adds_none}

-- without memory it is all one which error it is
pub held_err : (gates : List Gate) (steps : List Step) (e f : WithoutMemory) → IsHeld gates steps (Err e) → IsHeld gates steps (Err f)
held_err gates steps e f (inl s) = inl (record { before = s.before; gate = s.gate; after = s.after; front = s.front; seen = s.seen; text = s.text; whole = s.whole; passed = s.passed; last = s.last; sentence = s.sentence; says = tt })
held_err gates steps e f (inr s) = inr (record { before = s.before; gate = s.gate; after = s.after; whole = s.whole; passed = s.passed; lacks = refl })

pub guards_stopped : (Are : List Gate → Type 0) (Inner : Result Said WithoutMemory → Type 0) (again : Result Said WithoutMemory → List Gate) (old new : GuardTold) (said : Said)
    → new.desk ≡ old.desk → Admits Are old.steps new.steps (Ok (Some said)) → Guards Are Inner again old new (Ok said)
guards_stopped Are Inner again old new said same a = record { gates = a.gates; are = a.are; steps = a.steps; added = a.added; course = inl (same, a.passed) }

pub guards_short : (Are : List Gate → Type 0) (Inner : Result Said WithoutMemory → Type 0) (again : Result Said WithoutMemory → List Gate) (old new : GuardTold) (e f : WithoutMemory)
    → new.desk ≡ old.desk → Admits Are old.steps new.steps (Err e) → Guards Are Inner again old new (Err f)
guards_short Are Inner again old new e f same a = record { gates = a.gates; are = a.are; steps = a.steps; added = a.added; course = inl (same, held_err a.gates a.steps e f a.passed) }

-- the call was made, and what was asked for after it
pub guards_again : (Are : List Gate → Type 0) (Inner : Result Said WithoutMemory → Type 0) (again : Result Said WithoutMemory → List Gate) (old new : GuardTold) (mid : Option (List Step)) (r result : Result Said WithoutMemory)
    → Admits Are old.steps mid (Ok None) → Inner r → AddsSome mid new.steps (λ steps. Stands (again r) steps r result) → Guards Are Inner again old new result
guards_again Are Inner again old new mid r result a inner s = record {
  gates = a.gates;
  are = a.are;
  steps = a.steps ++ s.0;
  added = adds_more old.steps mid new.steps a.steps s.0 a.added s.1;
  course = inr (record { first = a.steps; more = s.0; whole = refl; passed = a.passed; said = r; inner = inner; stands = s.2 });
}

-- nothing is asked for after it
pub guards_done : (Are : List Gate → Type 0) (Inner : Result Said WithoutMemory → Type 0) (again : Result Said WithoutMemory → List Gate) (old new : GuardTold) (r : Result Said WithoutMemory)
    → Admits Are old.steps new.steps (Ok None) → Inner r → again r ≡ [] → Guards Are Inner again old new r
guards_done Are Inner again old new r a inner none =
    guards_again Are Inner again old new new.steps r r a inner ([], adds_none new.steps, inl (subst (λ (gates : List Gate). Passes gates []) (sym none) refl, refl))

-- ---- looking again

pub confirm_passed : (d : Option (List ℕ)) (a b : Option (List Step)) (s : Result Said WithoutMemory) → Admits (IsLook d) a b (Ok None)
    → AddsSome a b (λ steps. Stands (looks_of d) steps s s)
confirm_passed d a b s h = (h.steps, h.added, inl (subst (λ (g : List Gate). Passes g h.steps) h.are h.passed, refl))

pub confirm_failed : (d : Option (List ℕ)) (a b : Option (List Step)) (s : Result Said WithoutMemory) (failure : Said) → Admits (IsLook d) a b (Ok (Some failure))
    → AddsSome a b (λ steps. Stands (looks_of d) steps s (Ok failure))
confirm_failed d a b s failure h = (h.steps, h.added, inr (subst (λ (g : List Gate). IsHeld g h.steps (Ok failure)) h.are h.passed))

pub confirm_short : (d : Option (List ℕ)) (a b : Option (List Step)) (s : Result Said WithoutMemory) (e f : WithoutMemory) → Admits (IsLook d) a b (Err e)
    → AddsSome a b (λ steps. Stands (looks_of d) steps s (Err f))
confirm_short d a b s e f h = (h.steps, h.added, inr (subst (λ (g : List Gate). IsHeld g h.steps (Err f)) h.are (held_err h.gates h.steps e f h.passed)))

-- ---- getting ready

pub ready_cleared : (sweeps : Bool) (d : Option (List ℕ)) (a b c : Option (List Step)) (done : Result (Unit {0}) WithoutMemory) (result : Result Said WithoutMemory)
    → Admits (IsLook d) a b (Ok None) → AddsSome b c (λ steps. SweptAs sweeps d steps done) → YesAfter done result → AddsSome a c (λ steps. Enters sweeps d steps result)
ready_cleared sweeps d a b c done result h s well = (
  h.steps ++ s.0,
  adds_more a b c h.steps s.0 h.added s.1,
  inr (record { first = h.steps; more = s.0; whole = refl; passed = subst (λ (g : List Gate). Passes g h.steps) h.are h.passed; done = done; swept = s.2; yes = well }),
)

-- ---- setting up

abbrev pub IsFounding : List ℕ → List Gate → Type 0
IsFounding value gates = gates ≡ record { want = Founded; path = value } ∷ []

pub founds_held : (sweeps : Bool) (value : List ℕ) (old new : GuardTold) (said : Said) → IsIdle old new → Admits (IsFounding value) old.steps new.steps (Ok (Some said))
    → Founds sweeps value old new (Ok said)
founds_held sweeps value old new said idle h = record {
  first = h.steps;
  more = [];
  added = subst (λ (l : List Step). Adds old.steps new.steps l) (sym (append-nil h.steps)) h.added;
  course = inl (idle, subst (λ (g : List Gate). IsHeld g h.steps (Ok said)) h.are h.passed, refl);
}

pub founds_short : (sweeps : Bool) (value : List ℕ) (old new : GuardTold) (e f : WithoutMemory) → IsIdle old new → Admits (IsFounding value) old.steps new.steps (Err e)
    → Founds sweeps value old new (Err f)
founds_short sweeps value old new e f idle h = record {
  first = h.steps;
  more = [];
  added = subst (λ (l : List Step). Adds old.steps new.steps l) (sym (append-nil h.steps)) h.added;
  course = inl (idle, subst (λ (g : List Gate). IsHeld g h.steps (Err f)) h.are (held_err h.gates h.steps e f h.passed), refl);
}

pub founds_ready : (sweeps : Bool) (value : List ℕ) (old new : GuardTold) (mid : Option (List Step)) (result : Result Said WithoutMemory) → Admits (IsFounding value) old.steps mid (Ok None)
    → ReadiesBy sweeps value (record { steps = mid; mark = old.mark; directory = old.directory; desk = old.desk }) new result → Founds sweeps value old new result
founds_ready sweeps value old new mid result h r = record {
  first = h.steps;
  more = r.0;
  added = adds_more old.steps mid new.steps h.steps r.0 h.added r.1;
  course = inr (
    subst (λ (g : List Gate). Passes g h.steps) h.are h.passed,
    record { desk = r.2.desk; mark = r.2.mark; said = r.2.said; prepares = r.2.prepares; ready = r.2.ready; unready = r.2.unready },
  );
}
