-- One more of the plans, whose children are started in turn.
use Rattle.ann_outside.specs.Told.{ProgramsTold}
use Rattle.std.proofs.Common.{◌≡◌, ◌⊎◌, inl, inr, ◌∙◌, ℕ, suc, ◌+◌, ◌<◌, ◌≤◌, List, [], ◌∷◌, ◌++◌, sym, subst, Bool, false, append_assoc, length, length-append, ap, take, drop, get_or}
use Rattle.std.specs.Prelude.{Err}
use Rattle.std.proofs.lemmas.List.{take_all}
use Rattle.ann_outside.specs.Causes.{AddsOne, Rose}
use Rattle.host_core.specs.CoreValue.{CoreValue}
use Rattle.child_life.specs.End.Programs.{AddsAll}
use Rattle.mirror_children.specs.declared.plan.plan.Plan.{Plan}
use Rattle.mirror_children.specs.Children.{ChildValue, IsServing}
use Rattle.mirror_remote.specs.declared.starts.beginning.Cause.{Cause}
use Rattle.mirror_remote.specs.declared.starts.beginning.Cause.TheVariants.{Unready, Unstarted, NoMemory}
use Rattle.mirror_remote.specs.Starts.Readiness.{IsReadyAs, IsUnready, starts_of}
use Rattle.mirror_remote.specs.Starts.Beginnings.{AreGreetedAs, BeginsAllAs, BeginsAs, BegunAll, BegunSome, BegunTo, BegunUpTo, HasNotStarted, Joins, MayHaveStarted, Stands}
use Rattle.mirror_remote.proofs.StartsLemmas.Begun.{greeted_next, plan_at_place, ready_next, rose_later, serving_next, starts_next, take_next}
use Rattle.child_life.proofs.EndLemmas.Across.{adds_both, adds_none, adds_one, adds_stay as adds_stays}

-- no plan, and no child
pub none_begun : (before : ProgramsTold) (cs : List ChildValue) → cs ≡ [] → BegunAll [] before before cs
none_begun before cs none = subst (BegunAll [] before before) (sym none) record { ready = tt; greeted = tt; serving = tt; starts = adds_none before.starts }

-- the first plans' children are ready, and the next plan is this one
module _ (plans : List Plan) (i : ℕ) (p : Plan) (cs cs' : List ChildValue) (before mid after : ProgramsTold) (begun : BegunAll (take i plans) before mid cs) (within : i < length plans) (here : p ≡ get_or plans i p) where
  are : plans ≡ take i plans ++ p ∷ drop (suc i) plans
  are = plan_at_place plans i p within (sym here)

  stands : Stands plans (take i plans) p cs
  stands = record { back = drop (suc i) plans; are = are; ready = begun.ready; greeted = begun.greeted }

  asked : (b : Bool) → AddsOne mid.starts after.starts (p.program, b) → AddsAll before.starts after.starts (starts_of (take i plans) ++ (p.program, b) ∷ [])
  asked b one = adds_both before.starts mid.starts after.starts (starts_of (take i plans)) ((p.program, b) ∷ []) begun.starts (adds_one mid.starts after.starts (p.program, b) one)

  -- its program was started
  module _ (j : Joins p mid after cs cs') where
    started : AddsAll before.starts after.starts (starts_of (take i plans ++ p ∷ []))
    started = starts_next before.starts mid.starts after.starts (take i plans) p begun.starts j.starts

    greeted : AreGreetedAs (take i plans ++ p ∷ []) cs'
    greeted = subst (AreGreetedAs (take i plans ++ p ∷ [])) (sym j.are) (greeted_next (take i plans) cs p j.child begun.greeted j.greeted)

    -- its child is ready
    pub one_begun : IsReadyAs p j.child → IsServing j.child → BegunAll (take (i + 1) plans) before after cs'
    one_begun r s =
        subst (λ (ps : List Plan). BegunAll ps before after cs') (sym (take_next plans i p within (sym here)))
        (subst (BegunAll (take i plans ++ p ∷ []) before after) (sym j.are) record {
          ready = ready_next (take i plans) cs p j.child begun.ready r;
          greeted = greeted_next (take i plans) cs p j.child begun.greeted j.greeted;
          serving = serving_next cs j.child begun.serving s;
          starts = started;
        })

    -- it isn't ready
    unready_to : (n : ℕ) → n ≡ p.number → IsUnready j.child.journal → BegunTo plans n before after cs'
    unready_to n number cause = record {
      front = take i plans;
      plan = p;
      first = cs;
      child = j.child;
      are = j.are;
      stands = stands;
      number = number;
      greeted = j.greeted;
      cause = cause;
      starts = started;
    }

    -- it ended because memory ran out
    starved_some : BegunSome plans before after cs'
    starved_some = record {
      front = take i plans ++ p ∷ [];
      back = drop (suc i) plans;
      are = are ∙ sym (append_assoc (take i plans) (p ∷ []) (drop (suc i) plans));
      greeted = greeted;
      starts = inl started;
    }

  -- its program couldn't be started
  unstarted_to : (n : ℕ) (core : CoreValue) → n ≡ p.number → HasNotStarted p core → AddsOne mid.starts after.starts (p.program, false) → before.faults ≤ mid.faults → Rose mid.faults after.faults → BegunUpTo plans n core before after cs
  unstarted_to n core number none one later rose = record {
    front = take i plans;
    plan = p;
    stands = stands;
    number = number;
    none = none;
    rose = rose_later before.faults mid.faults after.faults later rose;
    starts = asked false one;
  }

  maybe_asked : MayHaveStarted mid after p.program
      → AddsAll before.starts after.starts (starts_of (take i plans)) ⊎ ((program : List ℕ) × (b : Bool) × AddsAll before.starts after.starts (starts_of (take i plans) ++ (program, b) ∷ []))
  maybe_asked (inl stays) = inl (adds_stays before.starts mid.starts after.starts (starts_of (take i plans)) begun.starts stays)
  maybe_asked (inr (b, one)) = inr (p.program, b, asked b one)

  -- no memory was found to start it
  lacking_some : MayHaveStarted mid after p.program → BegunSome plans before after cs
  lacking_some h = record { front = take i plans; back = p ∷ drop (suc i) plans; are = are; greeted = begun.greeted; starts = maybe_asked h }

  -- it isn't ready, for any cause
  pub begun_until : (cause : Cause) → before.faults ≤ mid.faults → BeginsAs p mid after cs cs' (Err cause) → BeginsAllAs plans before after cs' (Err cause)
  begun_until (Unready n) later (number, (j, cause)) = unready_to j n number cause
  begun_until (Unstarted n core) later (number, same, none, one, rose) = subst (BegunUpTo plans n core before after) (sym same) (unstarted_to n core number none one later rose)
  begun_until NoMemory later (inl j) = starved_some j
  begun_until NoMemory later (inr (same, h)) = subst (BegunSome plans before after) (sym same) (lacking_some h)

pub joined_length : (cs cs' : List ChildValue) (c : ChildValue) → cs' ≡ cs ++ c ∷ [] → length cs' ≡ length cs + 1
joined_length cs cs' c e = ap (λ (xs : List ChildValue). length xs) e ∙ length-append cs (c ∷ [])

-- each child is ready
pub all_begun : (plans : List Plan) (i : ℕ) (cs : List ChildValue) (before after : ProgramsTold) → length plans ≤ i → BegunAll (take i plans) before after cs → BegunAll plans before after cs
all_begun plans i cs before after past begun = subst (λ (ps : List Plan). BegunAll ps before after cs) (take_all i plans past) begun
