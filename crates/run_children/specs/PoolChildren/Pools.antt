-- What gathering a pool leaves: in the journal, of its children, and of the programs.
use Rattle.ann_outside.specs.Told.{ProgramsTold}
use Rattle.std.specs.Prelude.{ℕ, ◌≡◌, ◌<◌, ◌≤◌, ◌+◌, ◌==◌, ◌||◌, not, min, map, vec_len, Bool, true, false, List, [], ◌∷◌, ◌++◌, length, Option, Some, None}
use Rattle.std.specs.List.{list_all}
use Rattle.ann_outside.specs.declared.Sink.{Ghosts as SinkGhosts}
use Rattle.ann_outside.specs.declared.Source.{Ghosts as SourceGhosts}
use Rattle.ann_outside.specs.Starts.{Starts}
use Rattle.ann_outside.specs.Causes.{Stays}
use Rattle.journal_model.specs.declared.entry.What.{What}
use Rattle.journal_model.specs.declared.entry.What.TheVariants.{Claim, Again}
use Rattle.journal_model.specs.declared.entry.Entry.{Entry}
use Rattle.journal_model.specs.declared.opening.Opening.{Opening}
use Rattle.journal_model.specs.Journal.{any, is_ended}
use Rattle.journal_model.specs.Legality.{count, is_prepared, is_start}
use Rattle.journal_model.specs.Shares.{are_by}
use Rattle.host_core.specs.Steps.{unclaimed}
use Rattle.child_link.specs.declared.lone.Lone.{Lone}
use Rattle.child_link.specs.Wires.{WireValue}
use Rattle.child_life.specs.End.Wires.{IsOfStart, came}
use Rattle.child_life.specs.End.Programs.{HaveStarted, RoseBy, is_failed_start}
use Rattle.crew_work.specs.Laws.Rounds.{LinkValue}
use Rattle.crew_rounds.specs.Tagged.Tagged.{link_of}
use Rattle.run_starts.specs.Starting.{children}
use Rattle.run_starts.specs.Rounds.{AllLostWell, is_of_run}
use Rattle.run_starts.specs.Stints.{IsLinked}
use Rattle.crew_rounds.specs.Tagged.PoolChildren.{PoolCan}
use Rattle.run_children.specs.declared.pool_children.pool.Gathering.{Gathering}
use Rattle.run_children.specs.declared.pool_children.pool.Gathering.TheVariants.{Whole, NoMemory, NoRoom}
use Rattle.run_children.specs.declared.pool_children.pool.Pool.{Pool}
use Rattle.run_children.specs.declared.pool_children.pool.Seat.{Seat}
use Rattle.run_children.specs.declared.pool_children.pool.Seat.TheVariants.{Over, Serving}
use Rattle.run_children.specs.PoolChildren.Slots.{AllInTurn, in_pool, last_slot, offers_tags}

-- the entry claims a task, or frees one to be run again
abbrev pub changes_claim : What → Bool
changes_claim (Claim task child) = true
changes_claim (Again task answer) = true
changes_claim w = false

-- the child is that of one of the links
abbrev pub is_among : List LinkValue → ℕ → Bool
is_among [] c = false
is_among (l ∷ more) c = (l.ear.child == c) || is_among more c

-- After the ready child of slot 0 the main thread started and greeted children in other slots, in turn, without offering ASYNC. Each that
-- is ready is among these links, and each that is not has ended. No task was claimed. A round over all the links may begin. Where it is whole, each slot
-- of the run's had its start, as far as there are tasks.
pub record Gathered (o : Opening) (jobs : ℕ) (old new : List Entry) (first : LinkValue) (links : List LinkValue) (whole : Bool) : Type 0 where
  pub later : List Entry
  pub is : new ≡ old ++ later
  pub main : are_by 0 later ≡ true
  pub within : list_all (λ e. in_pool (count is_start old + 1) e.what) later ≡ true
  pub unclaimed_yet : any changes_claim later ≡ false
  pub untagged : any offers_tags later ≡ false
  pub asks : list_all (λ e. is_of_run e.what) later ≡ true
  pub lost : AllLostWell old later
  pub turn : AllInTurn o jobs old later
  pub ended : list_all (λ c. is_ended new c || is_among links c) (children later) ≡ true
  pub ready : list_all (λ c. not (is_prepared new c) || is_among links c) (children later) ≡ true
  pub can : PoolCan o new (first ∷ links)
  pub manned : whole ≡ true → min jobs (length (unclaimed o new)) ≤ last_slot new + 1

-- ---- seats

-- a seat: of a child that is over, by its wire, or of one that serves
pub data SeatValue : Type 0 where
  OverBy : WireValue → SeatValue
  Serves : SeatValue

-- A seat for each child that a start gave, in order, where n starts stand before these: a wire that is linked to the journal, or the
-- next link's.
abbrev pub AreSeated : Option Starts → List Entry → ℕ → List (Option ℕ) → List SeatValue → List LinkValue → Type 0
AreSeated starts journal n [] [] [] = Unit {0}
AreSeated starts journal n (None ∷ cs) seats links = AreSeated starts journal (n + 1) cs seats links
AreSeated starts journal n (Some c ∷ cs) (OverBy wire ∷ seats) links = (wire.child ≡ c) × IsLinked starts journal (n + 1) wire × AreSeated starts journal (n + 1) cs seats links
AreSeated starts journal n (Some c ∷ cs) (Serves ∷ seats) (l ∷ links) =
    (l.ear.child ≡ c) × IsOfStart starts (n + 1) l.mouth.number × IsOfStart starts (n + 1) l.ear.number × AreSeated starts journal (n + 1) cs seats links
AreSeated starts journal n _ _ _ = ⊥

-- of the objects: the children's seats, the starts that the entries have, and a fault for each that failed
pub record GathersBy (wanted : Type 0) (program : List ℕ) (new later : List Entry) (before after : ProgramsTold) (seats : List SeatValue) (links : List LinkValue) : Type 0 where
  pub seated : AreSeated before.starts new 0 (came later) seats links
  pub started : HaveStarted wanted program later before.starts after.starts
  pub faults : RoseBy (count is_failed_start later) before.faults after.faults
  pub later_faults : before.faults ≤ after.faults

-- ---- what gathering comes to

-- what links tell
abbrev pub links_of : {I O : Type 0} {sinks : SinkGhosts I} {sources : SourceGhosts O} → List (Lone I O sinks sources) → List LinkValue
links_of links = map (λ l. link_of l.ear l.mouth) links

-- what a seat tells
abbrev pub seat_value : {I O S : Type 0} → Seat I O S → SeatValue
seat_value (Over wire) = OverBy wire
seat_value (Serving stub) = Serves

-- A pool was gathered after the child of slot 0, whose link is its first, as it was, and whose seat is its first. No more were seated
-- than there are jobs.
pub record IsPool (wanted : Type 0) (whole : Bool) (o : Opening) (jobs : ℕ) (program : List ℕ) (old new : List Entry) (first : LinkValue) (before after : ProgramsTold) (seats : List SeatValue) (links : List LinkValue) : Type 0 where
  pub more : List LinkValue
  pub others : List SeatValue
  pub links_are : links ≡ first ∷ more
  pub seats_are : seats ≡ Serves ∷ others
  pub gathered : Gathered o jobs old new first more whole
  pub by : GathersBy wanted program new gathered.later before after others more

-- the pool's vectors: there is a link, no more links than seats, and no more seats than jobs, where there is a job
pub record IsWithin (jobs links seats : ℕ) : Type 0 where
  pub some : 0 < links
  pub each : links ≤ seats
  pub most : 0 < jobs → seats ≤ jobs

abbrev pub PoolIs : {I O S : Type 0} {sinks : SinkGhosts I} {sources : SourceGhosts O} → Type 0 → Bool → Opening → ℕ → List ℕ → List Entry → List Entry → LinkValue → ProgramsTold → ProgramsTold → Pool I O S sinks sources → Type 0
PoolIs wanted whole o jobs program old new first before after pool =
    IsPool wanted whole o jobs program old new first before after (map seat_value pool.seats.items) (links_of pool.links.items) × IsWithin jobs (vec_len pool.links) (vec_len pool.seats)

-- nothing was done, and the link is as it was
pub record IsUngathered (old new : List Entry) (first link : LinkValue) (before after : ProgramsTold) : Type 0 where
  pub journal : new ≡ old
  pub link_is : link ≡ first
  pub starts : Stays before.starts after.starts
  pub later_faults : before.faults ≤ after.faults

abbrev pub GathersAs : {I O S : Type 0} {sinks : SinkGhosts I} {sources : SourceGhosts O} → Opening → ℕ → List ℕ → List Entry → List Entry → LinkValue → ProgramsTold → ProgramsTold → Gathering I O S sinks sources → Type 0
GathersAs o jobs program old new first before after (Whole pool) = PoolIs ⊥ true o jobs program old new first before after pool
GathersAs o jobs program old new first before after (NoMemory pool) = PoolIs (Unit {0}) false o jobs program old new first before after pool
GathersAs o jobs program old new first before after (NoRoom link stub) = IsUngathered old new first (link_of link.ear link.mouth) before after
