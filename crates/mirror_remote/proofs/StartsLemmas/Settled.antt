-- What is left once the children that were begun are stopped, and what that comes to.
use Rattle.ann_outside.specs.Told.{ProgramsTold}
use Rattle.std.proofs.Common.{◌≡◌, inl, inr, ◌∙◌, ℕ, suc, ◌+◌, ◌≤◌, ◌<◌, List, [], ◌∷◌, ◌++◌, refl, sym, ap, subst, length, length-append, arith}
use Rattle.std.specs.Prelude.{Err}
use Rattle.ann_outside.specs.Causes.{Stays}
use Rattle.host_core.specs.CoreValue.{CoreValue}
use Rattle.mirror_children.specs.declared.plan.plan.Plan.{Plan}
use Rattle.mirror_children.specs.Children.{ChildValue, AreLinked}
use Rattle.mirror_remote.specs.declared.starts.beginning.Cause.{Cause}
use Rattle.mirror_remote.specs.declared.starts.beginning.Cause.TheVariants.{Unready, Unstarted, NoMemory}
use Rattle.mirror_remote.specs.declared.starts.starting.Standing.TheVariants.{NoMemory as Lacking}
use Rattle.mirror_remote.specs.Starts.Stops.{log_of, LogValue, StoppedValue, AreSoundLogs, StopsAll}
use Rattle.mirror_remote.specs.Starts.Readiness.{AreReadyAs}
use Rattle.mirror_remote.specs.Starts.Beginnings.{AreGreetedAs, BeginsAllAs, BegunAll, BegunSome, BegunTo, BegunUpTo, MayStop, StopsBegun}
use Rattle.mirror_remote.specs.Starts.Outcomes.{mirror_value, standing_of, AreAllReady, IsKept, StartsAs}
use Rattle.mirror_remote.proofs.StartsLemmas.Stopping.{sound_next, stops_sound}
use Rattle.mirror_remote.proofs.StartsLemmas.Begun.{greeted_next, linked_greeted_all, spare_left}
use Rattle.mirror_remote.proofs.StartsLemmas.Preparing.{cut_some, cut_none, nothing_done, stuck_to, stuck_up_to}

-- ---- stopping those that were begun

pub may_linked : (cs : List ChildValue) (s : StoppedValue) (cause : Cause) → MayStop cs s cause → AreLinked cs
may_linked cs s (Unready n) h = h.0
may_linked cs s (Unstarted n core) h = h.0
may_linked cs s NoMemory h = h.0

pub may_room : (cs : List ChildValue) (s : StoppedValue) (cause : Cause) → MayStop cs s cause → length cs ≤ s.spare
may_room cs s (Unready n) h = h.1
may_room cs s (Unstarted n core) h = let few : length cs < s.spare = h.1 in omega (arith, few)
may_room cs s NoMemory h = h.1

-- after them there is room for one that couldn't be started
pub room_left : (cs : List ChildValue) (s t : StoppedValue) → StopsAll cs s t → length cs < s.spare → 0 < t.spare
room_left cs s t stops few = let left = spare_left cs s t stops in omega (arith, few, left)

-- ---- room

-- nothing was stopped yet, and there is room for the child of each plan
pub record IsFreshFor (plans : List Plan) (s : StoppedValue) : Type 0 where
  pub logs : s.logs ≡ []
  pub spare : s.spare ≡ length plans

greeted_many : (ps : List Plan) (cs : List ChildValue) → AreGreetedAs ps cs → length cs ≡ length ps
greeted_many [] [] h = refl
greeted_many [] (c ∷ cs) h = absurd h
greeted_many (p ∷ ps) [] h = absurd h
greeted_many (p ∷ ps) (c ∷ cs) h = ap (λ (n : ℕ). suc n) (greeted_many ps cs h.1)

-- as many children as plans of the front
front_fits : (front back : List Plan) (plans : List Plan) (cs : List ChildValue) → plans ≡ front ++ back → AreGreetedAs front cs → length cs + length back ≡ length plans
front_fits front back plans cs are greeted =
    let many : length cs ≡ length front = greeted_many front cs greeted in
    let whole : length plans ≡ length front + length back = ap (λ (ps : List Plan). length ps) are ∙ length-append front back in
    omega (arith, many, whole)

module _ (plans : List Plan) (s : StoppedValue) (fresh : IsFreshFor plans s) (before after : ProgramsTold) (cs : List ChildValue) where
  -- the last one isn't ready
  module _ (n : ℕ) (b : BegunTo plans n before after cs) where
    to_linked : AreLinked cs
    to_linked =
        linked_greeted_all (b.front ++ b.plan ∷ []) cs
        (subst (AreGreetedAs (b.front ++ b.plan ∷ [])) (sym b.are) (greeted_next b.front b.first b.plan b.child b.stands.greeted b.greeted))

    to_room : length cs ≤ s.spare
    to_room =
        let fits : length b.first + length (b.plan ∷ b.stands.back) ≡ length plans = front_fits b.front (b.plan ∷ b.stands.back) plans b.first b.stands.are b.stands.greeted in
        let many : length cs ≡ length b.first + length (b.child ∷ []) = ap (λ (xs : List ChildValue). length xs) b.are ∙ length-append b.first (b.child ∷ []) in
        let spare = fresh.spare in
        omega (arith, fits, many, spare)

  -- the next one couldn't be started
  up_to_room : (n : ℕ) (core : CoreValue) → BegunUpTo plans n core before after cs → length cs < s.spare
  up_to_room n core b =
      let fits : length cs + length (b.plan ∷ b.stands.back) ≡ length plans = front_fits b.front (b.plan ∷ b.stands.back) plans cs b.stands.are b.stands.greeted in
      let spare = fresh.spare in
      omega (arith, fits, spare)

  -- no memory was found
  some_room : BegunSome plans before after cs → length cs ≤ s.spare
  some_room b =
      let fits : length cs + length b.back ≡ length plans = front_fits b.front b.back plans cs b.are b.greeted in
      let spare = fresh.spare in
      omega (arith, fits, spare)

  -- so they may be stopped
  pub begun_stop : (cause : Cause) → BeginsAllAs plans before after cs (Err cause) → MayStop cs s cause
  begun_stop (Unready n) b = (to_linked n b, to_room n b)
  begun_stop (Unstarted n core) b = (linked_greeted_all b.front cs b.stands.greeted, up_to_room n core b, b.none.unwired)
  begun_stop NoMemory b = (linked_greeted_all b.front cs b.greeted, some_room b)

-- ---- what is always true then

ready_many : (ps : List Plan) (cs : List ChildValue) → AreReadyAs ps cs → length cs ≡ length ps
ready_many [] [] h = refl
ready_many [] (c ∷ cs) h = absurd h
ready_many (p ∷ ps) [] h = absurd h
ready_many (p ∷ ps) (c ∷ cs) h = let e = ready_many ps cs h.1 in omega (arith, e)

fresh_sound : (plans : List Plan) (s : StoppedValue) → IsFreshFor plans s → AreSoundLogs s.logs
fresh_sound plans s f = subst AreSoundLogs (sym f.logs) tt

-- each is ready
pub ready_kept : (plans : List Plan) (s : StoppedValue) (before after : ProgramsTold) (cs : List ChildValue) → IsFreshFor plans s → BegunAll plans before after cs → IsKept cs s.spare s.logs
ready_kept plans s before after cs f b =
    (b.serving, (let many = ready_many plans cs b.ready in let spare = f.spare in omega (arith, many, spare)), inr f.logs, fresh_sound plans s f)

-- there is none
pub none_kept : (spare : ℕ) (logs : List LogValue) → AreSoundLogs logs → IsKept [] spare logs
none_kept spare logs sound = (tt, omega arith, inl refl, sound)

pub nothing_kept : (cs : List ChildValue) (spare : ℕ) (logs : List LogValue) → cs ≡ [] → logs ≡ [] → IsKept cs spare logs
nothing_kept cs spare logs none empty =
    subst (λ (xs : List ChildValue). IsKept xs spare logs) (sym none) (none_kept spare logs (subst AreSoundLogs (sym empty) tt))

-- all were stopped
pub begun_sound : (plans : List Plan) (s t : StoppedValue) (before after : ProgramsTold) (cs : List ChildValue) → IsFreshFor plans s → (cause : Cause) → BeginsAllAs plans before after cs (Err cause) → StopsBegun cs s t cause → AreSoundLogs t.logs
begun_sound plans s t before after cs f (Unready n) b stops = stops_sound cs s t stops (fresh_sound plans s f)
begun_sound plans s t before after cs f (Unstarted n core) b (mid, stops, are) =
    subst AreSoundLogs (sym are) (sound_next mid.logs (log_of core) (stops_sound cs s mid stops (fresh_sound plans s f)) b.none.unwired.0)
begun_sound plans s t before after cs f NoMemory b stops = stops_sound cs s t stops (fresh_sound plans s f)

-- ---- what it comes to

pub ready_settles : (plans : List Plan) (s : StoppedValue) (before after : ProgramsTold) (cs old : List ChildValue) (logs : List LogValue) → IsFreshFor plans s → BegunAll plans before after cs
    → AreAllReady plans (mirror_value before old logs) (mirror_value after cs s.logs)
ready_settles plans s before after cs old logs f b = record { ready = b.ready; none = f.logs; starts = b.starts }

-- no room was found, so nothing was done
pub roomless_settles : (plans : List Plan) (programs : ProgramsTold) (old cs : List ChildValue) (was logs : List LogValue) → cs ≡ [] → logs ≡ [] → StartsAs plans (mirror_value programs old was) (mirror_value programs cs logs) Lacking
roomless_settles plans programs old cs was logs none empty = cut_none plans (mirror_value programs old was) (mirror_value programs cs logs) (nothing_done (mirror_value programs old was) (mirror_value programs cs logs) refl none empty)

-- they were stopped
pub begun_settles : (plans : List Plan) (s t : StoppedValue) (before mid after : ProgramsTold) (cs old : List ChildValue) (logs : List LogValue) → IsFreshFor plans s → Stays mid.starts after.starts → mid.faults ≤ after.faults
    → (cause : Cause) → BeginsAllAs plans before mid cs (Err cause) → StopsBegun cs s t cause → StartsAs plans (mirror_value before old logs) (mirror_value after [] t.logs) (standing_of cause)
begun_settles plans s t before mid after cs old logs f stays later (Unready n) b stops =
    stuck_to plans (mirror_value before old logs) (mirror_value after [] t.logs) mid cs s t f.logs refl refl stops stays later n b
begun_settles plans s t before mid after cs old logs f stays later (Unstarted n core) b (last, stops, are) =
    stuck_up_to plans n core (mirror_value before old logs) (mirror_value after [] t.logs) mid cs s last f.logs refl stops are stays later b
begun_settles plans s t before mid after cs old logs f stays later NoMemory b stops =
    cut_some plans (mirror_value before old logs) (mirror_value after [] t.logs) mid cs s t f.logs refl refl stops stays later b
