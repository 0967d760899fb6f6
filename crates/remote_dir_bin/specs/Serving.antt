-- What `annex-remote-dir` serves.
use Rattle.std.specs.Prelude.{ℕ, ◌==◌, ◌+◌, codes, List, [], ◌∷◌, ◌++◌, Some, None}
use Rattle.std.specs.Fmt.{decimal}
use Rattle.kit_async_model.specs.declared.about.Fact.{Fact}
use Rattle.kit_async_model.specs.declared.about.Fact.TheVariants.{Setting}
use Rattle.remote_dir_bin.specs.Following.{FollowedValue}
use Rattle.remote_dir_bin.specs.declared.serving.Moment.{Moment}
use Rattle.remote_dir_bin.specs.declared.serving.Seat.{Seat}

-- process, time and number, parted by dots
abbrev pub mark_of : Moment → ℕ → List ℕ
mark_of moment number = decimal moment.process ++ 46 ∷ (decimal moment.micros ++ 46 ∷ decimal number)

-- A remote over its seat, with a mark of its own, that wasn't called yet. It has no directory, and the first one sweeps.
abbrev pub remote_over : {P D : Type 0} → Moment → ℕ → Seat P D → FollowedValue P D
remote_over moment number seat = record {
  remote = record { place = seat.place; mark = Some (mark_of moment number); directory = None; desk = seat.desk; sweeps = number == 1 };
  calls = [];
}

-- one over each seat, counted from that number
abbrev pub remotes_over : {P D : Type 0} → Moment → ℕ → List (Seat P D) → List (FollowedValue P D)
remotes_over moment number [] = []
remotes_over moment number (seat ∷ seats) = remote_over moment number seat ∷ remotes_over moment (number + 1) seats

-- what is told of their one setting, besides what they say of themselves
abbrev pub facts : List Fact
facts = Setting (codes "directory") 0 ∷ []
