-- What one more start of a pool leaves.
use Rattle.ann_outside.specs.Told.{ProgramsTold}
use Rattle.std.specs.Prelude.{ℕ, ◌≡◌, ◌⊎◌, ◌≤◌, ◌||◌, not, All, true, false, List, [], ◌∷◌, ◌++◌}
use Rattle.std.specs.List.{list_all}
use Rattle.ann_outside.specs.Causes.{Stays}
use Rattle.journal_model.specs.declared.entry.What.{What}
use Rattle.journal_model.specs.declared.entry.What.TheVariants.{Start, NoStart}
use Rattle.journal_model.specs.declared.entry.Entry.{Entry}
use Rattle.journal_model.specs.declared.opening.Opening.{Opening}
use Rattle.journal_model.specs.Halves.{EarValue, MouthValue}
use Rattle.journal_model.specs.Journal.{is_ended, open_jobs}
use Rattle.journal_model.specs.Legality.{count, is_prepared}
use Rattle.journal_model.specs.Shares.{are_by, is_of_child}
use Rattle.child_link.specs.Wires.{IsLeft, WireValue}
use Rattle.child_life.specs.End.Wires.{came}
use Rattle.child_life.specs.End.Programs.{AddsAll, RoseBy, is_failed_start, told}
use Rattle.crew_work.specs.Laws.Rounds.{LinkValue}
use Rattle.run_starts.specs.Rounds.{AllLostWell, is_of_run}
use Rattle.run_starts.specs.Starting.{children}
use Rattle.run_starts.specs.Stints.{MayHaveAsked, main_entry, next_child}
use Rattle.crew_rounds.specs.Tagged.PoolChildren.{MayServe}
use Rattle.run_children.specs.PoolChildren.Pools.{AreSeated, SeatValue, OverBy, is_among}

-- a start in the slot that doesn't offer ASYNC, which gave the next child or none
abbrev pub IsSlotStart : ℕ → List Entry → What → Type 0
IsSlotStart slot past first = (first ≡ Start (next_child past) slot false) ⊎ (first ≡ NoStart slot)

-- The main thread made one start in the slot, and what followed it of its child alone. The child has no open job. It can serve in a round,
-- and its link and seat were put after the others; or it isn't ready and has ended, and its wire was. The programs were asked once, and a fault was
-- counted if that failed.
pub record SeatsOne (o : Opening) (program : List ℕ) (slot : ℕ) (old new : List Entry) (before after : ProgramsTold) (seats seats' : List SeatValue) (links links' : List LinkValue) : Type 0 where
  pub first : What
  pub later : List Entry
  pub is : new ≡ old ++ main_entry first ∷ later
  pub start : IsSlotStart slot old first
  pub within : list_all (λ e. is_of_child (next_child old) e.what) later ≡ true
  pub main : are_by 0 later ≡ true
  pub asks : list_all (λ e. is_of_run e.what) later ≡ true
  pub lost : AllLostWell (old ++ main_entry first ∷ []) later
  pub idle : open_jobs new (next_child old) ≡ []
  pub seat : List SeatValue
  pub link : List LinkValue
  pub seats_are : seats' ≡ seats ++ seat
  pub links_are : links' ≡ links ++ link
  pub ended : list_all (λ c. is_ended new c || is_among link c) (children (main_entry first ∷ [])) ≡ true
  pub ready : list_all (λ c. not (is_prepared new c) || is_among link c) (children (main_entry first ∷ [])) ≡ true
  pub serve : All (MayServe o new) link
  pub one_child : All (λ l. l.mouth.child ≡ l.ear.child) link
  pub seated : AreSeated before.starts new 0 (came (main_entry first ∷ [])) seat link
  pub adds : AddsAll before.starts after.starts (told program (main_entry first ∷ []))
  pub faults : RoseBy (count is_failed_start (main_entry first ∷ [])) before.faults after.faults
  pub later_faults : before.faults ≤ after.faults

-- no memory was found for a start: nothing was noted or seated, though the programs may have been asked
pub record SeatsNone (program : List ℕ) (old new : List Entry) (before after : ProgramsTold) (seats seats' : List SeatValue) (links links' : List LinkValue) : Type 0 where
  pub journal : new ≡ old
  pub seats_are : seats' ≡ seats
  pub links_are : links' ≡ links
  pub asked : MayHaveAsked program before after

-- the link was closed, and its wire was put after the other seats
pub record SeatsOver (ear : EarValue) (mouth : MouthValue) (before after : ProgramsTold) (seats seats' : List SeatValue) (links links' : List LinkValue) : Type 0 where
  pub wire : WireValue
  pub left : IsLeft ear mouth wire
  pub seats_are : seats' ≡ seats ++ OverBy wire ∷ []
  pub links_are : links' ≡ links
  pub starts : Stays before.starts after.starts
  pub later_faults : before.faults ≤ after.faults
