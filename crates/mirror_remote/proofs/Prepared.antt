-- What preparing says, by what became of the children.
use Rattle.std.proofs.Common.{◌≡◌, ◌⊎◌, inl, inr, ℕ, suc, ◌<◌, List, [], ◌∷◌, ◌++◌, refl, sym, subst, false, Option, Some, None, length, arith}
use Rattle.std.specs.Prelude.{codes, Result, Ok, Err, IfOk}
use Rattle.ann_key.specs.declared.bytes.NoMemory.{NoMemory}
use Rattle.ann_outside.specs.Causes.{Rose}
use Rattle.child_life.specs.End.Programs.{AddsAll}
use Rattle.kit_serve.specs.declared.kit.call.Said.{Said}
use Rattle.kit_serve.specs.declared.kit.call.Said.TheVariants.{Yes, No, Failure, Set}
use Rattle.kit_serve.specs.declared.kit.describe.Pair.{Pair}
use Rattle.mirror_children.specs.declared.plan.plan.Plan.{Plan}
use Rattle.mirror_children.specs.Plan.Settings.{first_bad, plans_in}
use Rattle.mirror_children.specs.Rule.{failure, mirror_failure}
use Rattle.mirror_remote.specs.declared.starts.starting.Standing.{Standing}
use Rattle.mirror_remote.specs.declared.starts.starting.Standing.TheVariants.{Ready, Unready, NoMemory as Lacking}
use Rattle.mirror_remote.specs.Starts.Readiness.{IsUnreadyAs, IsUnstartedAs, starts_of}
use Rattle.mirror_remote.specs.Starts.Outcomes.{AreAllReady, Empties, IsCutShort, IsStuck, MirrorValue, StartsAs}
use Rattle.mirror_remote.proofs.StartsLemmas.Begun.{rose_later, stays_adds}
use Rattle.mirror_remote.proofs.StartsLemmas.Preparing.{cut_none, nothing_done, stuck_cut}
use Rattle.mirror_remote.specs.Lasting.{ComesTo, IsStarted}
use Rattle.mirror_remote.specs.Mirrors.{Begins, BeginsTo, Prepares, PreparesTo, Says}
use Rattle.ann_outside.proofs.Across.{stays_both}

-- ---- what is said of it

-- there is no plan
pub none_begins : (plans : List Plan) (m : MirrorValue) (r : Result Said NoMemory) → length plans ≡ 0 → m.children ≡ [] → m.logs ≡ [] → IfOk r (λ said. said ≡ failure (codes "no mirrors")) → Begins plans m m r
none_begins [] m (Ok said) none children logs h = (nothing_done m m refl children logs, h)
none_begins [] m (Err e) none children logs h = cut_none [] m m (nothing_done m m refl children logs)
none_begins (p ∷ ps) m r none children logs h = absurd (let bad : suc (length ps) ≡ 0 = none in omega (arith, bad))

ready_begins : (plans : List Plan) (old new : MirrorValue) → 0 < length plans → AreAllReady plans old new → Begins plans old new (Ok Yes)
ready_begins [] old new some a = absurd (omega (arith, some))
ready_begins (p ∷ ps) old new some a = inl (a, refl)

stuck_begins : (plans : List Plan) (n : ℕ) (old new : MirrorValue) (r : Result Said NoMemory) → 0 < length plans → IsStuck plans n old new → IfOk r (λ said. said ≡ mirror_failure n (codes "not ready")) → Begins plans old new r
stuck_begins [] n old new r some s h = absurd (omega (arith, some))
stuck_begins (p ∷ ps) n old new (Ok said) some s h = inr (n, s, h)
stuck_begins (p ∷ ps) n old new (Err e) some s h = stuck_cut (p ∷ ps) n old new s

-- by how starting them ended
pub standing_begins : (plans : List Plan) (old new : MirrorValue) (standing : Standing) (r : Result Said NoMemory) → 0 < length plans → StartsAs plans old new standing → Says standing r → Begins plans old new r
standing_begins plans old new Ready r some a is = subst (Begins plans old new) (sym is) (ready_begins plans old new some a)
standing_begins plans old new (Unready n) r some s h = stuck_begins plans n old new r some s h
standing_begins plans old new Lacking (Ok said) some cut h = absurd cc
standing_begins plans old new Lacking (Err e) some cut h = cut

-- ---- after the children of before were stopped

module _ (plans : List Plan) (old mid new : MirrorValue) (e : Empties old mid) where
  empties_after : Empties mid new → Empties old new
  empties_after f = record {
    children = f.children;
    logs = f.logs;
    starts = stays_both old.programs.starts mid.programs.starts new.programs.starts e.starts f.starts;
    later = let a = e.later in let b = f.later in omega (arith, a, b);
  }

  ready_after : AreAllReady plans mid new → AreAllReady plans old new
  ready_after a = record { ready = a.ready; none = a.none; starts = stays_adds old.programs.starts mid.programs.starts new.programs.starts (starts_of plans) e.starts a.starts }

  stuck_after : (n : ℕ) → IsStuck plans n mid new → IsStuck plans n old new
  stuck_after n s = record {
    front = s.front;
    plan = s.plan;
    back = s.back;
    are = s.are;
    number = s.number;
    none = s.none;
    before = s.before;
    log = s.log;
    logs = s.logs;
    stopped = s.stopped;
    came = came s.came;
  }
    where
      came : (IsUnreadyAs s.plan s.log × AddsAll mid.programs.starts new.programs.starts (starts_of (s.front ++ s.plan ∷ [])))
          ⊎ (IsUnstartedAs s.plan s.log × Rose mid.programs.faults new.programs.faults × AddsAll mid.programs.starts new.programs.starts (starts_of s.front ++ (s.plan.program, false) ∷ []))
          → (IsUnreadyAs s.plan s.log × AddsAll old.programs.starts new.programs.starts (starts_of (s.front ++ s.plan ∷ [])))
          ⊎ (IsUnstartedAs s.plan s.log × Rose old.programs.faults new.programs.faults × AddsAll old.programs.starts new.programs.starts (starts_of s.front ++ (s.plan.program, false) ∷ []))
      came (inl (u, adds)) = inl (u, stays_adds old.programs.starts mid.programs.starts new.programs.starts (starts_of (s.front ++ s.plan ∷ [])) e.starts adds)
      came (inr (u, rose, adds)) = inr (
        u,
        rose_later old.programs.faults mid.programs.faults new.programs.faults e.later rose,
        stays_adds old.programs.starts mid.programs.starts new.programs.starts (starts_of s.front ++ (s.plan.program, false) ∷ []) e.starts adds,
      )

  cut_after : IsCutShort plans mid new → IsCutShort plans old new
  cut_after c = record {
    front = c.front;
    back = c.back;
    are = c.are;
    none = c.none;
    left = c.left;
    told = c.told;
    asked = c.asked;
    starts = stays_adds old.programs.starts mid.programs.starts new.programs.starts c.told e.starts c.starts;
  }

begins_after : (plans : List Plan) (old mid new : MirrorValue) (said : Said) → Empties old mid → BeginsTo plans mid new said → BeginsTo plans old new said
begins_after [] old mid new said e (f, is) = (empties_after [] old mid new e f, is)
begins_after (p ∷ ps) old mid new said e (inl (a, is)) = inl (ready_after (p ∷ ps) old mid new e a, is)
begins_after (p ∷ ps) old mid new said e (inr (n, s, is)) = inr (n, stuck_after (p ∷ ps) old mid new e n s, is)

-- no value is bad
pub prepares_good : (values : List (List ℕ)) (plans : List Plan) (old mid new : MirrorValue) (r : Result Said NoMemory) → Empties old mid → first_bad values ≡ None → plans ≡ plans_in values → Begins plans mid new r → Prepares values old new r
prepares_good values plans old mid new (Ok said) e good are b =
    subst (λ (o : Option ℕ). PreparesTo o (plans_in values) old new said) (sym good) (subst (λ (ps : List Plan). BeginsTo ps old new said) are (begins_after plans old mid new said e b))
prepares_good values plans old mid new (Err x) e good are b = subst (λ (ps : List Plan). IsCutShort ps old new) are (cut_after plans old mid new e b)

-- this value is the first bad one
pub prepares_bad : (values : List (List ℕ)) (n : ℕ) (old new : MirrorValue) (r : Result Said NoMemory) → Empties old new → first_bad values ≡ Some n → IfOk r (λ said. said ≡ mirror_failure n (codes "bad setting")) → Prepares values old new r
prepares_bad values n old new (Ok said) e bad h = subst (λ (o : Option ℕ). PreparesTo o (plans_in values) old new said) (sym bad) (e, h)
prepares_bad values n old new (Err x) e bad h = cut_none (plans_in values) old new e

-- no memory was found for the plans
pub prepares_cut : (values : List (List ℕ)) (old new : MirrorValue) (r : Result Said NoMemory) (e : NoMemory) → r ≡ Err e → Empties old new → Prepares values old new r
prepares_cut values old new (Err x) e is empty = cut_none (plans_in values) old new empty
prepares_cut values old new (Ok said) e is empty = absurd cc

-- ---- what comes after it

begins_unset : {A : Type 0} (plans : List Plan) (old new : MirrorValue) (pairs : List Pair) → BeginsTo plans old new (Set pairs) → A
begins_unset [] old new pairs (e, is) = absurd cc
begins_unset (p ∷ ps) old new pairs (inl (a, is)) = absurd cc
begins_unset (p ∷ ps) old new pairs (inr (n, s, is)) = absurd cc

-- a prepare sets nothing
prepares_unset : {A : Type 0} (bad : Option ℕ) (plans : List Plan) (old new : MirrorValue) (pairs : List Pair) → PreparesTo bad plans old new (Set pairs) → A
prepares_unset (Some n) plans old new pairs (e, is) = absurd cc
prepares_unset None plans old new pairs b = begins_unset plans old new pairs b

pub started : (values : List (List ℕ)) (old new : MirrorValue) (said : Result Said NoMemory) (start : Result (Option Said) NoMemory) → Prepares values old new said → ComesTo said start → IsStarted values old new start
started values old new (Ok Yes) start p is = subst (IsStarted values old new) (sym is) p
started values old new (Ok (Set pairs)) start p is = prepares_unset (first_bad values) (plans_in values) old new pairs p
started values old new (Ok No) start p is = subst (IsStarted values old new) (sym is) p
started values old new (Ok (Failure text)) start p is = subst (IsStarted values old new) (sym is) p
started values old new (Err e) start p is = subst (IsStarted values old new) (sym is) p
