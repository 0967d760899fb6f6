-- What starting the children comes to, before any of them is stopped.
use Rattle.ann_outside.specs.Told.{ProgramsTold}
use Rattle.std.specs.Prelude.{ℕ, ◌≡◌, ◌⊎◌, ◌<◌, ◌≤◌, Bool, true, false, List, [], ◌∷◌, ◌++◌, length, Result, Ok, Err, IsOk}
use Rattle.ann_outside.specs.Causes.{AddsOne, Rose, Stays}
use Rattle.journal_model.specs.declared.verdict.Why.{Why}
use Rattle.journal_model.specs.declared.verdict.Why.TheVariants.{Memory}
use Rattle.journal_model.specs.declared.entry.What.TheVariants.{NoStart}
use Rattle.host_core.specs.CoreValue.{CoreValue}
use Rattle.child_life.specs.declared.start.greeting.Came.{Came}
use Rattle.child_life.specs.declared.start.greeting.Came.TheVariants.{Ready as CameReady, Refused as CameRefused, Ended as CameEnded, Unsent as CameUnsent}
use Rattle.child_life.specs.Start.Greetings.{Greeted}
use Rattle.child_life.specs.End.Programs.{AddsAll}
use Rattle.mirror_children.specs.declared.plan.plan.Plan.{Plan}
use Rattle.mirror_children.specs.Children.{ChildValue, AreLinked, AreServing, IsLinked, IsServing}
use Rattle.mirror_remote.specs.declared.starts.beginning.Cause.{Cause}
use Rattle.mirror_remote.specs.declared.starts.beginning.Cause.TheVariants.{Unready, Unstarted, NoMemory}
use Rattle.mirror_remote.specs.Starts.Openings.{mirror_opening}
use Rattle.mirror_remote.specs.Starts.Stops.{IsUnwired, StoppedValue, StopsAll, log_of}
use Rattle.mirror_remote.specs.Starts.Readiness.{IsReadyAs, AreReadyAs, IsUnready, starts_of}

-- ---- one of them

-- the child of this plan was started and greeted, and nothing else was done
pub record IsGreetedAs (p : Plan) (c : ChildValue) : Type 0 where
  pub number : c.number ≡ p.number
  pub opening : c.opening ≡ mirror_opening p.registers
  pub greeted : Greeted [] c.journal 0 false 1
  pub linked : IsLinked c

abbrev pub AreGreetedAs : List Plan → List ChildValue → Type 0
AreGreetedAs [] [] = Unit {0}
AreGreetedAs (p ∷ ps) (c ∷ cs) = IsGreetedAs p c × AreGreetedAs ps cs
AreGreetedAs _ _ = ⊥

-- the plan's program was started, and its child was greeted and comes after the others
pub record Joins (p : Plan) (before after : ProgramsTold) (old new : List ChildValue) : Type 0 where
  pub child : ChildValue
  pub are : new ≡ old ++ child ∷ []
  pub greeted : IsGreetedAs p child
  pub starts : AddsOne before.starts after.starts (p.program, true)

-- the plan's program couldn't be started
pub record HasNotStarted (p : Plan) (core : CoreValue) : Type 0 where
  pub opening : core.opening ≡ mirror_opening p.registers
  pub only : core.journal ≡ record { by = 0; what = NoStart 0 } ∷ []
  pub unwired : IsUnwired (log_of core)

-- one more start may have been made for nothing
abbrev pub MayHaveStarted : ProgramsTold → ProgramsTold → List ℕ → Type 0
MayHaveStarted before after program = Stays before.starts after.starts ⊎ ((b : Bool) × AddsOne before.starts after.starts (program, b))

-- how a child that was greeted stands, by why it ended
abbrev pub EndedAs : Why → ChildValue → Type 0
EndedAs Memory c = Unit {0}
EndedAs why c = IsUnready c.journal

-- and by what it came to
abbrev pub StandsAs : Plan → Came → ChildValue → Type 0
StandsAs p (CameReady tagged) c = IsReadyAs p c × IsServing c
StandsAs p (CameRefused verdict) c = IsUnready c.journal
StandsAs p (CameEnded why) c = EndedAs why c
StandsAs p CameUnsent c = IsUnready c.journal

-- what starting ends with, by what the child came to: where it ended because memory ran out, so does starting
abbrev pub StoodAs : Came → ℕ → Result (Unit {0}) Cause → Type 0
StoodAs (CameReady tagged) n result = IsOk result
StoodAs (CameEnded Memory) n result = result ≡ Err NoMemory
StoodAs came n result = result ≡ Err (Unready n)

-- the plan's child is ready, or it isn't, for this cause
abbrev pub BeginsAs : Plan → ProgramsTold → ProgramsTold → List ChildValue → List ChildValue → Result (Unit {0}) Cause → Type 0
BeginsAs p before after old new (Ok u) = (j : Joins p before after old new) × IsReadyAs p j.child × IsServing j.child
BeginsAs p before after old new (Err (Unready n)) = (n ≡ p.number) × ((j : Joins p before after old new) × IsUnready j.child.journal)
BeginsAs p before after old new (Err (Unstarted n core)) = (n ≡ p.number) × (new ≡ old) × HasNotStarted p core × AddsOne before.starts after.starts (p.program, false) × Rose before.faults after.faults
BeginsAs p before after old new (Err NoMemory) = Joins p before after old new ⊎ ((new ≡ old) × MayHaveStarted before after p.program)

-- ---- all of them

-- the first plans, each of whose children is ready, then this one, and those that are left
pub record Stands (plans front : List Plan) (p : Plan) (cs : List ChildValue) : Type 0 where
  pub back : List Plan
  pub are : plans ≡ front ++ p ∷ back
  pub ready : AreReadyAs front cs
  pub greeted : AreGreetedAs front cs

pub record BegunAll (plans : List Plan) (before after : ProgramsTold) (cs : List ChildValue) : Type 0 where
  pub ready : AreReadyAs plans cs
  pub greeted : AreGreetedAs plans cs
  pub serving : AreServing cs
  pub starts : AddsAll before.starts after.starts (starts_of plans)

pub record BegunTo (plans : List Plan) (n : ℕ) (before after : ProgramsTold) (cs : List ChildValue) : Type 0 where
  pub front : List Plan
  pub plan : Plan
  pub first : List ChildValue
  pub child : ChildValue
  pub are : cs ≡ first ++ child ∷ []
  pub stands : Stands plans front plan first
  pub number : n ≡ plan.number
  pub greeted : IsGreetedAs plan child
  pub cause : IsUnready child.journal
  pub starts : AddsAll before.starts after.starts (starts_of (front ++ plan ∷ []))

pub record BegunUpTo (plans : List Plan) (n : ℕ) (core : CoreValue) (before after : ProgramsTold) (cs : List ChildValue) : Type 0 where
  pub front : List Plan
  pub plan : Plan
  pub stands : Stands plans front plan cs
  pub number : n ≡ plan.number
  pub none : HasNotStarted plan core
  pub rose : Rose before.faults after.faults
  pub starts : AddsAll before.starts after.starts (starts_of front ++ (plan.program, false) ∷ [])

pub record BegunSome (plans : List Plan) (before after : ProgramsTold) (cs : List ChildValue) : Type 0 where
  pub front : List Plan
  pub back : List Plan
  pub are : plans ≡ front ++ back
  pub greeted : AreGreetedAs front cs
  pub starts : AddsAll before.starts after.starts (starts_of front)
      ⊎ ((program : List ℕ) × (b : Bool) × AddsAll before.starts after.starts (starts_of front ++ (program, b) ∷ []))

abbrev pub BeginsAllAs : List Plan → ProgramsTold → ProgramsTold → List ChildValue → Result (Unit {0}) Cause → Type 0
BeginsAllAs plans before after cs (Ok u) = BegunAll plans before after cs
BeginsAllAs plans before after cs (Err (Unready n)) = BegunTo plans n before after cs
BeginsAllAs plans before after cs (Err (Unstarted n core)) = BegunUpTo plans n core before after cs
BeginsAllAs plans before after cs (Err NoMemory) = BegunSome plans before after cs

-- ---- they are stopped

-- Those that were begun may be stopped: there is room for each, and for one more where one couldn't be started.
abbrev pub MayStop : List ChildValue → StoppedValue → Cause → Type 0
MayStop cs s (Unready n) = AreLinked cs × (length cs ≤ s.spare)
MayStop cs s (Unstarted n core) = AreLinked cs × (length cs < s.spare) × IsUnwired (log_of core)
MayStop cs s NoMemory = AreLinked cs × (length cs ≤ s.spare)

-- They were stopped. The core of one that couldn't be started comes after them.
abbrev pub StopsBegun : List ChildValue → StoppedValue → StoppedValue → Cause → Type 0
StopsBegun cs old new (Unready n) = StopsAll cs old new
StopsBegun cs old new (Unstarted n core) = (mid : StoppedValue) × StopsAll cs old mid × (new.logs ≡ mid.logs ++ log_of core ∷ [])
StopsBegun cs old new NoMemory = StopsAll cs old new
