-- What is done after a child of slot 0 that is ready and takes no tags, where a run has several desks: a pool is gathered, serves and is
-- closed.
use Rattle.ann_outside.specs.Told.{DeskTold, ProgramsTold}
use Rattle.std.specs.Prelude.{ℕ, ◌≡◌, ◌⊎◌, ◌≤◌, Bool, true, false, List, ◌∷◌, ◌++◌, length}
use Rattle.std.specs.List.{list_all, list_any}
use Rattle.journal_model.specs.declared.entry.Entry.{Entry}
use Rattle.journal_model.specs.declared.opening.Opening.{Opening}
use Rattle.journal_model.specs.Halves.{EarValue, MouthValue}
use Rattle.journal_model.specs.Journal.{any, is_ended}
use Rattle.journal_model.specs.Legality.{Legal, count}
use Rattle.host_core.specs.Steps.{are_all_claimed}
use Rattle.child_life.specs.End.Programs.{HaveStarted, RoseBy, is_failed_start}
use Rattle.child_link.specs.Wires.{WireValue}
use Rattle.child_life.specs.End.Wires.{IsHeld, came}
use Rattle.crew_work.specs.Laws.Rounds.{IsAtRest}
use Rattle.task_model.specs.declared.setup.Setup.{Setup}
use Rattle.run_starts.specs.Starting.{children}
use Rattle.run_starts.specs.Rounds.{AllLostWell, is_of_run}
use Rattle.run_starts.specs.Stints.{AreLinked, ear_of, mouth_of}
use Rattle.run_children.specs.PoolChildren.Slots.{AllInTurn, IsManned, in_pool, is_lost, offers_tags}
use Rattle.run_children.specs.Desks.{DesksDid, HaveDesks}
use Rattle.run_children.specs.Posts.{AllPosted}

-- After old, where child c of slot 0 is ready, there stand only starts in other slots, in turn, none offering ASYNC, and what was made of
-- c and of their children. All is at rest, and each of these children has ended. Each task that was claimed has its desk's run. Where the
-- pool was whole, one of its ready children is lost, or all tasks are claimed, and each slot had its start as far as there are tasks.
pub record ServesPool (o : Opening) (setup : Setup) (limit c : ℕ) (old new : List Entry) (desks desks' : List DeskTold) (whole : Bool) : Type 0 where
  pub later : List Entry
  pub is : new ≡ old ++ later
  pub within : list_all (λ e. in_pool c e.what) later ≡ true
  pub untagged : any offers_tags later ≡ false
  pub asks : list_all (λ e. is_of_run e.what) later ≡ true
  pub lost : AllLostWell old later
  pub posts : AllPosted old later
  pub turn : AllInTurn o (length desks) old later
  pub legal : Legal o new
  pub calm : IsAtRest new
  pub ended : list_all (is_ended new) (c ∷ children later) ≡ true
  pub spent : whole ≡ true → (list_any (is_lost new) (c ∷ children later) ≡ true) ⊎ (are_all_claimed o new ≡ true)
  pub manned : whole ≡ true → IsManned o (length desks) new
  pub placed : HaveDesks (length desks) old later
  pub did : DesksDid o setup limit new old later 1 desks desks'

-- what is left of a link whose halves are closed: its wire, with the numbers that the link had
pub record IsLinkLeft (journal : List Entry) (ear : EarValue) (mouth : MouthValue) (wire : WireValue) : Type 0 where
  pub child : wire.child ≡ ear.child
  pub held : IsHeld journal (ear_of wire) (mouth_of wire)
  pub numbers : (wire.inlet_number ≡ mouth.number) × (wire.outlet_number ≡ ear.number)
  pub closed : (wire.is_inlet_open ≡ false) × (wire.is_outlet_open ≡ false)

-- Of the objects: after the wires there stand that of the child of slot 0 and, in the order of their starts, those of the pool's other
-- children; the programs were asked for what `later` says; a fault was counted for each start that failed.
pub record LeavesPool (wanted : Type 0) (program : List ℕ) (new later : List Entry) (ear : EarValue) (mouth : MouthValue) (before after : ProgramsTold) (wires wires' : List WireValue) : Type 0 where
  pub own : WireValue
  pub more : List WireValue
  pub laid : wires' ≡ wires ++ own ∷ more
  pub left : IsLinkLeft new ear mouth own
  pub linked : AreLinked before.starts new 0 (came later) more
  pub started : HaveStarted wanted program later before.starts after.starts
  pub faults : RoseBy (count is_failed_start later) before.faults after.faults
  pub later_faults : before.faults ≤ after.faults

-- both, of the same entries
abbrev pub PoolServed : Type 0 → Opening → Setup → ℕ → List ℕ → List Entry → List Entry → List DeskTold → List DeskTold → Bool → EarValue → MouthValue → ProgramsTold → ProgramsTold → List WireValue → List WireValue → Type 0
PoolServed wanted o setup limit program old new desks desks' whole ear mouth before after wires wires' =
    (s : ServesPool o setup limit ear.child old new desks desks' whole) × LeavesPool wanted program new s.later ear mouth before after wires wires'
