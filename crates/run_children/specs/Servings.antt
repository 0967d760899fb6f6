-- What is done over a child that is ready.
use Rattle.ann_outside.specs.Told.{DeskTold, ProgramsTold}
use Rattle.std.specs.Prelude.{ℕ, ◌≡◌, ◌⊎◌, ◌<◌, ◌+◌, Bool, true, false, List, [], ◌∷◌, Option, Some, None, Result, Ok, Err, length}
use Rattle.std.specs.List.{range_with_len}
use Rattle.ann_key.specs.declared.bytes.NoMemory.{NoMemory}
use Rattle.journal_model.specs.declared.verdict.Why.TheVariants.{Closed}
use Rattle.journal_model.specs.declared.entry.Entry.{Entry}
use Rattle.journal_model.specs.declared.opening.Opening.{Opening}
use Rattle.journal_model.specs.Halves.{EarValue, MouthValue}
use Rattle.journal_model.specs.Journal.{is_tagged, why_of}
use Rattle.journal_model.specs.Legality.{count, is_start}
use Rattle.journal_model.specs.Shares.{are_by}
use Rattle.child_link.specs.Alone.{Closes}
use Rattle.child_link.specs.Writings.{LoneWired}
use Rattle.crew_work.specs.Laws.Laws.{GoesOn}
use Rattle.crew_work.specs.Laws.Rounds.{IsAtRest, LinkValue}
use Rattle.task_model.specs.declared.setup.Setup.{Setup}
use Rattle.crew_work.specs.Worker.Works.{CanWork}
use Rattle.threads.specs.declared.roles.slot.Refused.{Refused}
use Rattle.crew_rounds.specs.Tagged.TaggedRounds.{TaggedLeaves}
use Rattle.child_link.specs.Wires.{WireValue}
use Rattle.run_starts.specs.Stints.{HasServed}
use Rattle.run_children.specs.PoolChildren.Slots.{has_pool, is_unclaimed_since, last_slot}
use Rattle.run_children.specs.Pools.{LeavesPool, PoolServed}
use Rattle.run_children.specs.Posts.{since_start}

-- The child is ready and idle, no task is busy and no job is open, and its link is wired; since its start the main thread alone made
-- anything. It takes tags or not.
pub record CanBeServed (o : Opening) (journal : List Entry) (ear : EarValue) (mouth : MouthValue) (tagged : Bool) : Type 0 where
  pub can : CanWork o ear.child journal
  pub calm : IsAtRest journal
  pub wired : LoneWired journal ear mouth
  pub unclosed : why_of journal ear.child ≡ Some Closed → ⊥
  pub mains : are_by 0 (since_start ear.child journal) ≡ true
  pub tag : tagged ≡ is_tagged journal ear.child

-- The child of the last start, which is one of slot 0, is ready, and no task was claimed since. Where it takes no tags, a pool may be
-- gathered after it.
pub record StandsReady (o : Opening) (journal : List Entry) (ear : EarValue) (mouth : MouthValue) (tagged : Bool) : Type 0 where
  pub can : CanBeServed o journal ear mouth tagged
  pub few : count is_start journal + 64 < 4294967295
  pub pool : tagged ≡ false → has_pool journal ≡ true
  pub last : last_slot journal ≡ 0
  pub since : is_unclaimed_since journal ≡ true
  pub last_child : ear.child ≡ count is_start journal

-- the main thread did tasks with the first desk until the child was gone or all were claimed, and closed it
pub record ServesAlone (o : Opening) (setup : Setup) (c : ℕ) (old new : List Entry) (desks desks' : List DeskTold) : Type 0 where
  pub desk : DeskTold
  pub desk' : DeskTold
  pub others : List DeskTold
  pub before : desks ≡ desk ∷ others
  pub after : desks' ≡ desk' ∷ others
  pub served : HasServed o setup c old new desk desk'

-- a round over the tagged child, with all desks, and then the main thread closed it
pub record ServesRound (o : Opening) (setup : Setup) (c : ℕ) (old new : List Entry) (desks desks' : List DeskTold) : Type 0 where
  pub many : (length desks ≡ 1) → ⊥
  pub tagged : is_tagged old c ≡ true
  pub link : LinkValue
  pub child : link.ear.child ≡ c
  pub mid : List Entry
  pub round : GoesOn old mid (λ rest. TaggedLeaves o setup (range_with_len 1 (3 + length desks)) old rest link desks desks')
  pub closes : Closes 0 c mid new

abbrev pub Serves : Opening → Setup → ℕ → List Entry → List Entry → List DeskTold → List DeskTold → Type 0
Serves o setup c old new desks desks' = ServesAlone o setup c old new desks desks' ⊎ ServesRound o setup c old new desks desks'

-- by whether a thread was refused: the main thread did tasks alone, or a round did
abbrev pub ServesUnless : Option Refused → Opening → Setup → ℕ → List Entry → List Entry → List DeskTold → List DeskTold → Type 0
ServesUnless None o setup c old new desks desks' = ServesRound o setup c old new desks desks'
ServesUnless (Some refused) o setup c old new desks desks' = ServesAlone o setup c old new desks desks'

-- the same without whether one was refused
abbrev pub plainly : Result (Option Refused) NoMemory → Result (Unit {0}) NoMemory
plainly (Ok alone) = Ok tt
plainly (Err e) = Err e

-- no memory was found for a round: no task was done, and the child was closed
pub record Starved (old new : List Entry) (ear ear' : EarValue) (mouth mouth' : MouthValue) (desks desks' : List DeskTold) : Type 0 where
  pub many : (length desks ≡ 1) → ⊥
  pub link : (ear' ≡ ear) × (mouth' ≡ mouth)
  pub desks_are : desks' ≡ desks
  pub closes : Closes 0 ear.child old new

-- Of the child of slot 0, and of the objects: with one desk, or where it takes tags, it was served so, and its wire was laid; else a pool
-- was gathered after it. Where no memory was found for a round over one that takes tags, it is as a pool of it alone that wasn't whole.
abbrev pub FirstServed : Type 0 → Opening → Setup → ℕ → List ℕ → List Entry → List Entry → List DeskTold → List DeskTold → Bool → EarValue → MouthValue → ProgramsTold → ProgramsTold → List WireValue → List WireValue → Type 0
FirstServed wanted o setup limit program old new desks desks' whole ear mouth before after wires wires' =
    (Serves o setup ear.child old new desks desks' × ((length desks ≡ 1) ⊎ (is_tagged old ear.child ≡ true)) × LeavesPool wanted program new [] ear mouth before after wires wires')
    ⊎ ((length desks ≡ 1 → ⊥) × ((is_tagged old ear.child ≡ false) ⊎ (whole ≡ false)) × PoolServed wanted o setup limit program old new desks desks' whole ear mouth before after wires wires')
