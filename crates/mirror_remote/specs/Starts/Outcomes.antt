-- What starting the children of all plans comes to.
use Rattle.ann_outside.specs.Told.{ProgramsTold}
use Rattle.std.specs.Prelude.{ℕ, ◌≡◌, ◌⊎◌, ◌≤◌, false, List, [], ◌∷◌, ◌++◌, length}
use Rattle.ann_outside.specs.Causes.{Rose, Stays}
use Rattle.ann_outside.specs.Starts.{Starts}
use Rattle.child_life.specs.End.Programs.{AddsAll}
use Rattle.mirror_children.specs.declared.plan.plan.Plan.{Plan}
use Rattle.mirror_children.specs.Children.{ChildValue, AreServing}
use Rattle.mirror_remote.specs.declared.starts.starting.Standing.{Standing}
use Rattle.mirror_remote.specs.declared.starts.starting.Standing.TheVariants.{Ready, Unready, NoMemory}
use Rattle.mirror_remote.specs.declared.starts.beginning.Cause.{Cause}
use Rattle.mirror_remote.specs.declared.starts.beginning.Cause.TheVariants.{Unready as WasUnready, Unstarted as WasUnstarted, NoMemory as Lacking}
use Rattle.mirror_remote.specs.Starts.Stops.{LogValue, AreSoundLogs}
use Rattle.mirror_remote.specs.Starts.Readiness.{AreReadyAs, AreStoppedAs, AreLeftAs, AreAskedFor, IsUnreadyAs, IsUnstartedAs, starts_of}

-- The programs; the children of the last prepare, where it said Yes; and what it left of its children, where it didn't.
pub record MirrorValue : Type 0 where
  pub programs : ProgramsTold
  pub children : List ChildValue
  pub logs : List LogValue

abbrev pub mirror_value : ProgramsTold → List ChildValue → List LogValue → MirrorValue
mirror_value programs children logs = record { programs = programs; children = children; logs = logs }

-- Its children serve, there is room to stop them, they are not there together with logs, and the logs are sound.
abbrev pub IsKept : List ChildValue → ℕ → List LogValue → Type 0
IsKept cs spare logs = AreServing cs × (length cs ≤ spare) × ((cs ≡ []) ⊎ (logs ≡ [])) × AreSoundLogs logs

-- the children of before were stopped, and nothing is left of them
pub record Empties (old new : MirrorValue) : Type 0 where
  pub children : new.children ≡ []
  pub logs : new.logs ≡ []
  pub starts : Stays old.programs.starts new.programs.starts
  pub later : old.programs.faults ≤ new.programs.faults

-- Each plan's child is ready. Where programs tell, these children were started by the plans' programs, in order.
pub record AreAllReady (plans : List Plan) (old new : MirrorValue) : Type 0 where
  pub ready : AreReadyAs plans new.children
  pub none : new.logs ≡ []
  pub starts : AddsAll old.programs.starts new.programs.starts (starts_of plans)

-- The children of the first plans were ready, that of the next one isn't, and those after it weren't started. All were stopped.
pub record IsStuck (plans : List Plan) (n : ℕ) (old new : MirrorValue) : Type 0 where
  pub front : List Plan
  pub plan : Plan
  pub back : List Plan
  pub are : plans ≡ front ++ plan ∷ back
  pub number : n ≡ plan.number
  pub none : new.children ≡ []
  pub before : List LogValue
  pub log : LogValue
  pub logs : new.logs ≡ before ++ log ∷ []
  pub stopped : AreStoppedAs front before
  pub came : (IsUnreadyAs plan log × AddsAll old.programs.starts new.programs.starts (starts_of (front ++ plan ∷ [])))
      ⊎ (IsUnstartedAs plan log × Rose old.programs.faults new.programs.faults × AddsAll old.programs.starts new.programs.starts (starts_of front ++ (plan.program, false) ∷ []))

-- No memory was found, after these children were started, or couldn't be. All were stopped.
pub record IsCutShort (plans : List Plan) (old new : MirrorValue) : Type 0 where
  pub front : List Plan
  pub back : List Plan
  pub are : plans ≡ front ++ back
  pub none : new.children ≡ []
  pub left : AreLeftAs front new.logs
  pub told : Starts
  pub asked : AreAskedFor front told
  pub starts : AddsAll old.programs.starts new.programs.starts told

abbrev pub StartsAs : List Plan → MirrorValue → MirrorValue → Standing → Type 0
StartsAs plans old new Ready = AreAllReady plans old new
StartsAs plans old new (Unready n) = IsStuck plans n old new
StartsAs plans old new NoMemory = IsCutShort plans old new

-- how starting ends where a child isn't ready
abbrev pub standing_of : Cause → Standing
standing_of (WasUnready n) = Unready n
standing_of (WasUnstarted n core) = Unready n
standing_of Lacking = NoMemory
