-- What is done with a pool that was gathered: a round or one worker, the closing of its children, and the wires.
use Rattle.ann_outside.specs.Told.{DeskTold}
use Rattle.std.specs.Prelude.{ℕ, ◌≡◌, ◌⊎◌, ◌+◌, List, [], ◌∷◌, ◌++◌, Option, Some, None, length}
use Rattle.std.specs.List.{range_with_len}
use Rattle.journal_model.specs.declared.entry.Entry.{Entry}
use Rattle.journal_model.specs.declared.opening.Opening.{Opening}
use Rattle.journal_model.specs.Legality.{Legal}
use Rattle.child_link.specs.Alone.{Closes}
use Rattle.child_link.specs.Wires.{IsLeft, WireValue}
use Rattle.crew_work.specs.Laws.Laws.{GoesOn, children_of}
use Rattle.crew_work.specs.Laws.Rounds.{LinkValue}
use Rattle.task_model.specs.declared.setup.Setup.{Setup}
use Rattle.threads.specs.declared.roles.slot.Refused.{Refused}
use Rattle.crew_rounds.specs.Pool.Pool.{PoolLeaves}
use Rattle.run_children.specs.PoolChildren.Pools.{OverBy, SeatValue, Serves}
use Rattle.run_children.specs.Servings.{ServesAlone}

-- the children are closed, one after the other
abbrev pub ClosesAll : List ℕ → List Entry → List Entry → Type 0
ClosesAll [] old new = new ≡ old
ClosesAll (c ∷ cs) old new = (mid : List Entry) × Closes 0 c old mid × ClosesAll cs mid new

-- a round over the links, with the first desks, one for each; the others did nothing
pub record RoundsPool (o : Opening) (setup : Setup) (old new : List Entry) (links links' : List LinkValue) (desks desks' : List DeskTold) : Type 0 where
  pub used : List DeskTold
  pub used' : List DeskTold
  pub others : List DeskTold
  pub before : desks ≡ used ++ others
  pub after : desks' ≡ used' ++ others
  pub many : length used ≡ length links
  pub round : GoesOn old new (λ rest. PoolLeaves o setup (range_with_len 1 (1 + length links)) old rest links links' used used')

-- tasks were done over the first of the links by the main thread
abbrev pub ServesFirst : Opening → Setup → List LinkValue → List Entry → List Entry → List DeskTold → List DeskTold → Type 0
ServesFirst o setup [] old new desks desks' = ⊥
ServesFirst o setup (l ∷ links) old new desks desks' = ServesAlone o setup l.ear.child old new desks desks'

-- Tasks were done so up to some entry, and a legal journal stays so; then the children were closed.
pub record ServesThen (Done : List Entry → Type 0) (o : Opening) (old new : List Entry) (links : List LinkValue) : Type 0 where
  pub mid : List Entry
  pub legal : Legal o old → Legal o mid
  pub done : Done mid
  pub closes : ClosesAll (children_of links) mid new

-- tasks were done over the links by a round, or by the main thread over the first
abbrev pub ServesLinks : Opening → Setup → List Entry → List Entry → List LinkValue → List LinkValue → List DeskTold → List DeskTold → Type 0
ServesLinks o setup old new links links' desks desks' =
    ServesThen (λ mid. RoundsPool o setup old mid links links' desks desks' ⊎ ServesFirst o setup links old mid desks desks') o old new links

-- tasks were done over the first of the links by the main thread
abbrev pub ServesOne : Opening → Setup → List Entry → List Entry → List LinkValue → List DeskTold → List DeskTold → Type 0
ServesOne o setup old new links desks desks' = ServesThen (λ mid. ServesFirst o setup links old mid desks desks') o old new links

-- by whether a thread was refused: tasks were done by the main thread over the first of the links, or by a round
abbrev pub ServesLinksUnless : Option Refused → Opening → Setup → List Entry → List Entry → List LinkValue → List LinkValue → List DeskTold → List DeskTold → Type 0
ServesLinksUnless None o setup old new links links' desks desks' = ServesThen (λ mid. RoundsPool o setup old mid links links' desks desks') o old new links
ServesLinksUnless (Some refused) o setup old new links links' desks desks' = ServesOne o setup old new links desks desks'

-- no memory was found for a round: no task was done, and the links' children were closed
pub record StarvedLinks (old new : List Entry) (links links' : List LinkValue) (desks desks' : List DeskTold) : Type 0 where
  pub links_are : links' ≡ links
  pub desks_are : desks' ≡ desks
  pub closes : ClosesAll (children_of links') old new

-- how many of the seats' children serve
abbrev pub serving : List SeatValue → ℕ
serving [] = 0
serving (OverBy own ∷ seats) = serving seats
serving (Serves ∷ seats) = serving seats + 1

-- the wires of seats, in order: a seat's own, or what the next link leaves
abbrev pub AreSettled : List SeatValue → List LinkValue → List WireValue → Type 0
AreSettled [] [] [] = Unit {0}
AreSettled (OverBy own ∷ seats) links (wire ∷ wires) = (wire ≡ own) × AreSettled seats links wires
AreSettled (Serves ∷ seats) (l ∷ links) (wire ∷ wires) = IsLeft l.ear l.mouth wire × AreSettled seats links wires
AreSettled _ _ _ = ⊥

-- such wires were laid after the others
abbrev pub AreLaid : List SeatValue → List LinkValue → List WireValue → List WireValue → Type 0
AreLaid seats links old new = (wires : List WireValue) × (new ≡ old ++ wires) × AreSettled seats links wires
