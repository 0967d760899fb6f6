-- What preparing comes to, once the children that are to be stopped were.
use Rattle.ann_outside.specs.Told.{ProgramsTold}
use Rattle.std.proofs.Common.{◌≡◌, ◌⊎◌, inl, inr, ◌∙◌, ℕ, ◌≤◌, List, [], ◌∷◌, ◌++◌, refl, sym, ap, subst, Bool, false, Option, Some, None, append_assoc, append-nil, arith}
use Rattle.ann_outside.specs.Causes.{Rose, Stays}
use Rattle.ann_outside.specs.Starts.{Starts}
use Rattle.host_core.specs.CoreValue.{CoreValue}
use Rattle.child_life.specs.End.Programs.{AddsAll}
use Rattle.mirror_children.specs.declared.plan.plan.Plan.{Plan}
use Rattle.mirror_children.specs.Children.{ChildValue}
use Rattle.mirror_remote.specs.Starts.Stops.{log_of, LogValue, StoppedValue, StopsAll}
use Rattle.mirror_remote.specs.Starts.Readiness.{AreAskedFor, AreLeftAs, IsUnreadyAs, IsUnstartedAs, starts_of}
use Rattle.mirror_remote.specs.Starts.Beginnings.{BegunSome, BegunTo, BegunUpTo}
use Rattle.mirror_remote.specs.Starts.Outcomes.{Empties, IsCutShort, IsStuck, MirrorValue}
use Rattle.mirror_remote.proofs.StartsLemmas.Begun.{asked_for, asked_more, asked_next, left_next, left_stopped, stopped_as, stopped_one, stops_split}
use Rattle.ann_outside.proofs.Across.{rose_on}
use Rattle.child_life.proofs.EndLemmas.Across.{adds_stay as adds_stays}

-- these plans' programs were started, and maybe one more
abbrev HaveAsked : Option Starts → Option Starts → List Plan → Type 0
HaveAsked before after front = AddsAll before after (starts_of front) ⊎ ((program : List ℕ) × (b : Bool) × AddsAll before after (starts_of front ++ (program, b) ∷ []))

told : (before after : Option Starts) (front : List Plan) → HaveAsked before after front → Starts
told before after front (inl h) = starts_of front
told before after front (inr (program, b, h)) = starts_of front ++ (program, b) ∷ []

asked : (before after : Option Starts) (front : List Plan) (a : HaveAsked before after front) → AreAskedFor front (told before after front a)
unfolding told
asked before after front (inl h) = asked_for front
asked before after front (inr (program, b, h)) = asked_more front (program, b)

adds : (before after : Option Starts) (front : List Plan) (a : HaveAsked before after front) → AddsAll before after (told before after front a)
unfolding told
adds before after front (inl h) = h
adds before after front (inr (program, b, h)) = h

module _ (plans : List Plan) (old new : MirrorValue) (mid : ProgramsTold) (cs : List ChildValue) (before after : StoppedValue) (fresh : before.logs ≡ []) (left : new.logs ≡ after.logs) (none : new.children ≡ [])
    (stops : StopsAll cs before after) (stays : Stays mid.starts new.programs.starts) (later : mid.faults ≤ new.programs.faults) where
  -- the child of some plan isn't ready, and all were stopped
  pub stuck_to : (n : ℕ) → BegunTo plans n old.programs mid cs → IsStuck plans n old new
  unfolding stopped_one
  stuck_to n b =
      let s = stops_split b.first b.child before after (subst (λ (xs : List ChildValue). StopsAll xs before after) b.are stops) in
      let front = stopped_as b.front b.first before s.0 b.stands.greeted s.1 in
      record {
        front = b.front;
        plan = b.plan;
        back = b.stands.back;
        are = b.stands.are;
        number = b.number;
        none = none;
        before = front.0;
        log = s.2.log;
        logs = left ∙ s.2.logs ∙ ap (λ (l : List LogValue). l ++ s.2.log ∷ []) (front.1 ∙ ap (λ (l : List LogValue). l ++ front.0) fresh);
        stopped = front.2;
        came = inl (record { stopped = stopped_one b.plan b.child s.0 after b.greeted s.2; cause = b.cause }, adds_stays old.programs.starts mid.starts new.programs.starts (starts_of (b.front ++ b.plan ∷ [])) b.starts stays);
      }

  -- no memory was found, and all were stopped
  pub cut_some : BegunSome plans old.programs mid cs → IsCutShort plans old new
  cut_some b =
      let all = stopped_as b.front cs before after b.greeted stops in
      record {
        front = b.front;
        back = b.back;
        are = b.are;
        none = none;
        left = subst (AreLeftAs b.front) (sym (left ∙ all.1 ∙ ap (λ (l : List LogValue). l ++ all.0) fresh)) (left_stopped b.front all.0 all.2);
        told = told old.programs.starts mid.starts b.front b.starts;
        asked = asked old.programs.starts mid.starts b.front b.starts;
        starts = adds_stays old.programs.starts mid.starts new.programs.starts (told old.programs.starts mid.starts b.front b.starts) (adds old.programs.starts mid.starts b.front b.starts) stays;
      }

stays_refl : {A : Type 0} (a : Option A) → Stays a a
stays_refl None = tt
stays_refl (Some x) = refl

-- the program of some plan couldn't be started, and all others were stopped
pub stuck_up_to : (plans : List Plan) (n : ℕ) (core : CoreValue) (old new : MirrorValue) (mid : ProgramsTold) (cs : List ChildValue) (before after : StoppedValue) → before.logs ≡ [] → new.children ≡ []
    → StopsAll cs before after → new.logs ≡ after.logs ++ log_of core ∷ [] → Stays mid.starts new.programs.starts → mid.faults ≤ new.programs.faults
    → BegunUpTo plans n core old.programs mid cs → IsStuck plans n old new
stuck_up_to plans n core old new mid cs before after fresh none stops logs stays later b =
    let front = stopped_as b.front cs before after b.stands.greeted stops in
    record {
      front = b.front;
      plan = b.plan;
      back = b.stands.back;
      are = b.stands.are;
      number = b.number;
      none = none;
      before = front.0;
      log = log_of core;
      logs = logs ∙ ap (λ (l : List LogValue). l ++ log_of core ∷ []) (front.1 ∙ ap (λ (l : List LogValue). l ++ front.0) fresh);
      stopped = front.2;
      came = inr (
        record { opening = b.none.opening; only = b.none.only },
        rose_on old.programs.faults mid.faults new.programs.faults b.rose later,
        adds_stays old.programs.starts mid.starts new.programs.starts (starts_of b.front ++ (b.plan.program, false) ∷ []) b.starts stays,
      );
    }

-- nothing was begun
pub cut_none : (plans : List Plan) (old new : MirrorValue) → Empties old new → IsCutShort plans old new
cut_none plans old new e = record {
  front = [];
  back = plans;
  are = refl;
  none = e.children;
  left = subst (λ (ls : List LogValue). AreLeftAs [] ls) (sym e.logs) tt;
  told = [];
  asked = tt;
  starts = adds old.programs.starts new.programs.starts e.starts;
}
  where
    adds : (a b : Option Starts) → Stays a b → AddsAll a b []
    adds None None h = tt
    adds None (Some ys) h = absurd h
    adds (Some xs) None h = absurd h
    adds (Some xs) (Some ys) h = h ∙ sym (append-nil xs)

-- nothing was done
pub nothing_done : (old new : MirrorValue) → old.programs ≡ new.programs → new.children ≡ [] → new.logs ≡ [] → Empties old new
nothing_done old new same none empty = record {
  children = none;
  logs = empty;
  starts = subst (λ (p : ProgramsTold). Stays old.programs.starts p.starts) same (stays_refl old.programs.starts);
  later = subst (λ (p : ProgramsTold). old.programs.faults ≤ p.faults) same (omega arith);
}

-- a mirror that is stuck and finds no memory to say so is cut short
pub stuck_cut : (plans : List Plan) (n : ℕ) (old new : MirrorValue) → IsStuck plans n old new → IsCutShort plans old new
stuck_cut plans n old new s = go s.came
  where
    shorter : plans ≡ (s.front ++ s.plan ∷ []) ++ s.back
    shorter = s.are ∙ sym (append_assoc s.front (s.plan ∷ []) s.back)

    go : (IsUnreadyAs s.plan s.log × AddsAll old.programs.starts new.programs.starts (starts_of (s.front ++ s.plan ∷ [])))
        ⊎ (IsUnstartedAs s.plan s.log × Rose old.programs.faults new.programs.faults × AddsAll old.programs.starts new.programs.starts (starts_of s.front ++ (s.plan.program, false) ∷ []))
        → IsCutShort plans old new
    go (inl (u, adds)) = record {
      front = s.front ++ s.plan ∷ [];
      back = s.back;
      are = shorter;
      none = s.none;
      left = subst (AreLeftAs (s.front ++ s.plan ∷ [])) (sym s.logs) (left_next s.front s.before s.plan s.log (left_stopped s.front s.before s.stopped) (inl u.stopped));
      told = starts_of (s.front ++ s.plan ∷ []);
      asked = asked_for (s.front ++ s.plan ∷ []);
      starts = adds;
    }
    go (inr (u, rose, adds)) = record {
      front = s.front ++ s.plan ∷ [];
      back = s.back;
      are = shorter;
      none = s.none;
      left = subst (AreLeftAs (s.front ++ s.plan ∷ [])) (sym s.logs) (left_next s.front s.before s.plan s.log (left_stopped s.front s.before s.stopped) (inr u));
      told = starts_of s.front ++ (s.plan.program, false) ∷ [];
      asked = asked_next s.front s.plan false;
      starts = adds;
    }
