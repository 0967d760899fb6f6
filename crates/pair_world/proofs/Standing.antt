-- Each move leaves the world standing.
use Rattle.std.proofs.Common.{◌≡◌, ◌<◌, ◌^◌, [], length}
use Rattle.std.specs.Prelude.{Result, Ok, Err, IfOk, OnOk}
use Rattle.registers.specs.Registers.{IsKept}
use Rattle.journal_model.specs.Beginnings.{MayBegin}
use Rattle.pair_world.specs.declared.step.Move.{Move}
use Rattle.pair_world.specs.declared.step.Moved.{Moved}
use Rattle.pair_kit.specs.Worlds.{WorldValue}
use Rattle.pair_world.specs.Moves.{Moves}
use Rattle.pair_world.specs.Standing.{Stands}
use Rattle.pair_world.proofs.Linking.{links_moved, links_empty}
use Rattle.pair_world.proofs.PaceMoves.{in_step_moved, in_step_empty, peace_moved, peace_empty}
use Rattle.pair_world.proofs.AnswerNotes.{noted_moved, noted_empty}
use Rattle.pair_world.proofs.AnswerMoves.{answered_moved, answered_empty}
use Rattle.pair_world.proofs.StoredMoves.{keeps_moved, keeps_empty}

pub stands_moved : (old : WorldValue) (step : Move) (moved : Moved) (new : WorldValue) → Moves old step moved new → length new.journal < 2 ^ 64 → Stands old → Stands new
stands_moved old step moved new is few h =
    let linked = links_moved old step moved new is h.linked few in
    let in_step = in_step_moved old step moved new is h.linked h.in_step few in
    record {
      linked = linked;
      in_step = in_step;
      peace = peace_moved old step moved new is h.linked linked h.in_step in_step h.peace;
      noted = noted_moved old step moved new is h.linked h.noted;
      answered = answered_moved old step moved new is h.linked h.in_step h.noted h.answered;
      keeps = keeps_moved old step moved new is h.keeps;
    }

pub stands_ok : {E : Type 0} (old new : WorldValue) (step : Move) (r : Result Moved E) → IfOk r (λ moved. Moves old step moved new) → OnOk r (length new.journal < 2 ^ 64)
    → Stands old → OnOk r (Stands new)
stands_ok old new step (Ok moved) is few h = stands_moved old step moved new is few h
stands_ok old new step (Err e) is few h = tt

-- a world with no child, in which no key is stored
pub stands_empty : (w : WorldValue) → MayBegin w.opening → IsKept w.opening.registers → w.journal ≡ [] → w.pairs ≡ [] → w.keys ≡ [] → w.answers ≡ [] → Stands w
stands_empty w begins kept journal pairs keys answers =
    let linked = links_empty w journal pairs in
    let in_step = in_step_empty w begins kept journal pairs in
    record {
      linked = linked;
      in_step = in_step;
      peace = peace_empty w journal pairs linked in_step;
      noted = noted_empty w pairs answers;
      answered = answered_empty w journal;
      keeps = keeps_empty w keys answers;
    }
