-- What prepare and finish of a mirror leave.
use Rattle.ann_outside.specs.Told.{ProgramsTold}
use Rattle.std.specs.Prelude.{ℕ, ◌≡◌, ◌⊎◌, ◌≤◌, List, [], ◌∷◌, ◌++◌, map, Option, Some, None, Result, Ok, Err, IfOk, IsErr, codes}
use Rattle.ann_key.specs.declared.bytes.NoMemory.{NoMemory}
use Rattle.ann_outside.specs.Causes.{Stays}
use Rattle.journal_model.specs.declared.entry.Entry.{Entry}
use Rattle.child_link.specs.Wires.{WireValue}
use Rattle.kit_serve.specs.declared.kit.call.Said.{Said}
use Rattle.kit_serve.specs.declared.kit.call.Said.TheVariants.{Yes}
use Rattle.mirror_children.specs.declared.plan.plan.Plan.{Plan}
use Rattle.mirror_children.specs.Plan.Settings.{first_bad, plans_in}
use Rattle.mirror_children.specs.Rule.{failure, mirror_failure}
use Rattle.mirror_remote.specs.declared.starts.starting.Standing.{Standing}
use Rattle.mirror_remote.specs.declared.starts.starting.Standing.TheVariants.{Ready, Unready, NoMemory as Lacking}
use Rattle.mirror_remote.specs.Starts.Stops.{LogValue, AreClosed, AreSoundChildren, AreSoundLogs, AreWired}
use Rattle.mirror_remote.specs.Starts.Outcomes.{AreAllReady, Empties, IsCutShort, IsStuck, MirrorValue}

-- each journal is legal, and each job's part in it fits
pub record IsSoundMirror (m : MirrorValue) : Type 0 where
  pub children : AreSoundChildren m.children
  pub logs : AreSoundLogs m.logs

-- ---- prepare

-- what is said of a start that ended so
abbrev pub Says : Standing → Result Said NoMemory → Type 0
Says Ready r = r ≡ Ok Yes
Says (Unready n) r = IfOk r (λ said. said ≡ mirror_failure n (codes "not ready"))
Says Lacking r = IsErr r

-- There is no plan; or each plan's child is ready; or the first that isn't is told.
abbrev pub BeginsTo : List Plan → MirrorValue → MirrorValue → Said → Type 0
BeginsTo [] old new said = Empties old new × (said ≡ failure (codes "no mirrors"))
BeginsTo (p ∷ ps) old new said =
    (AreAllReady (p ∷ ps) old new × (said ≡ Yes))
    ⊎ ((n : ℕ) × IsStuck (p ∷ ps) n old new × (said ≡ mirror_failure n (codes "not ready")))

abbrev pub Begins : List Plan → MirrorValue → MirrorValue → Result Said NoMemory → Type 0
Begins plans old new (Ok said) = BeginsTo plans old new said
Begins plans old new (Err e) = IsCutShort plans old new

-- The first bad setting is told; else that there is no mirror; else the first that isn't ready. Where none of that holds, it says Yes.
abbrev pub PreparesTo : Option ℕ → List Plan → MirrorValue → MirrorValue → Said → Type 0
PreparesTo (Some n) plans old new said = Empties old new × (said ≡ mirror_failure n (codes "bad setting"))
PreparesTo None plans old new said = BeginsTo plans old new said

-- Whatever the mirror had before is gone.
abbrev pub Prepares : List (List ℕ) → MirrorValue → MirrorValue → Result Said NoMemory → Type 0
Prepares values old new (Ok said) = PreparesTo (first_bad values) (plans_in values) old new said
Prepares values old new (Err e) = IsCutShort (plans_in values) old new

-- ---- finish

-- the programs, the journals of the last prepare, and a wire for each start in them
pub record EndedValue : Type 0 where
  pub programs : ProgramsTold
  pub journals : List (List Entry)
  pub wires : List WireValue

-- the journals of the last prepare's children, in order. Children and logs are never there both
abbrev pub journals_of : MirrorValue → List (List Entry)
journals_of m = map (λ c. c.journal) m.children ++ map (λ l. l.journal) m.logs

-- Each child that is left was closed. The journals are sound, and their wires are closed and hold their lines.
pub record Finishes (m : MirrorValue) (e : EndedValue) : Type 0 where
  pub closed : List LogValue
  pub are_closed : AreClosed m.children closed
  pub journals : e.journals ≡ map (λ l. l.journal) (m.logs ++ closed)
  pub sound : AreSoundLogs (m.logs ++ closed)
  pub wired : AreWired (m.logs ++ closed) e.wires
  pub starts : Stays m.programs.starts e.programs.starts
  pub later : m.programs.faults ≤ e.programs.faults
