-- What one start of slot 0 comes to, up to where its child is ready.
use Rattle.ann_outside.specs.Told.{DeskTold, ProgramsTold}
use Rattle.std.specs.Prelude.{ℕ, ◌≡◌, ◌<◌, ◌≤◌, Bool, true, List, length}
use Rattle.ann_outside.specs.declared.Sink.{Ghosts as SinkGhosts}
use Rattle.ann_outside.specs.declared.Source.{Ghosts as SourceGhosts}
use Rattle.ann_outside.specs.Causes.{AddsOne}
use Rattle.journal_model.specs.declared.entry.Entry.{Entry}
use Rattle.journal_model.specs.declared.opening.Opening.{Opening}
use Rattle.journal_model.specs.Halves.{EarValue, MouthValue}
use Rattle.journal_model.specs.Journal.{is_tagged}
use Rattle.journal_model.specs.Legality.{Legal}
use Rattle.child_link.specs.Wires.{WireValue}
use Rattle.child_life.specs.Start.Greetings.{AreNumbered, Greeted, IsReady}
use Rattle.task_model.specs.declared.setup.Setup.{Setup}
use Rattle.run_children.specs.declared.ready.Begun.{Begun}
use Rattle.run_children.specs.declared.ready.Begun.TheVariants.{Ready, Turned, NoMemory}
use Rattle.run_children.specs.Servings.{StandsReady}
use Rattle.run_children.specs.Starts.{NotStarted, OneJobStart}

-- The child was started and greeted, and is ready: it may be served. The programs were asked once.
pub record GetsReady (o : Opening) (offer : Bool) (program : List ℕ) (old new : List Entry) (ear : EarValue) (mouth : MouthValue) (tagged : Bool) (before after : ProgramsTold) : Type 0 where
  pub stands : StandsReady o new ear mouth tagged
  pub greeted : Greeted old new 0 offer ear.child
  pub legal : Legal o new
  pub ready : IsReady new ear.child
  pub tag : tagged ≡ is_tagged new ear.child
  pub adds : AddsOne before.starts after.starts (program, true)
  pub later : before.faults ≤ after.faults
  pub numbered : AreNumbered after.starts ear mouth

-- By what it came to: a child that is ready; or one start and what followed it, by no desk; or nothing, for lack of memory.
abbrev pub BeginsOne : {I O S : Type 0} {sinks : SinkGhosts I} {sources : SourceGhosts O} → Opening → Setup → ℕ → Bool → List ℕ → List Entry → List Entry → ProgramsTold → ProgramsTold → List WireValue → List WireValue
    → Begun I O S sinks sources → Type 0
BeginsOne o setup limit offer program old new before after wires wires' (Ready child) = GetsReady o offer program old new child.link.ear child.link.mouth child.tagged before after × (wires' ≡ wires)
BeginsOne o setup limit offer program old new before after wires wires' Turned =
    (desks : List DeskTold) → 0 < length desks → OneJobStart o setup limit offer offer true program old new desks desks before after wires wires'
BeginsOne o setup limit offer program old new before after wires wires' NoMemory = (desks : List DeskTold) → NotStarted program old new desks desks before after wires wires'
