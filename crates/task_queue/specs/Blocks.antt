-- Marks in blocks.
use Rattle.std.specs.Prelude.{ℕ, ◌≡◌, ◌<◌, ◌≤◌, ◌*◌, ◌/◌, ◌^◌, Bool, true, false, List, length}
use Rattle.task_queue.specs.Groups.{is_set}

-- a block with a mark has its flag up
pub record AreInBlocks (flags blocks : List Bool) : Type 0 where
  pub few : length flags < 2 ^ 32
  pub long : length flags < 256 * length blocks
  pub each : (t : ℕ) → is_set flags t ≡ true → is_set blocks (t / 256) ≡ true

-- the number is marked, and none from that one on before it is
pub record IsNextMark (flags : List Bool) (from number : ℕ) : Type 0 where
  pub from_on : from ≤ number
  pub within : number < length flags
  pub marked : is_set flags number ≡ true
  pub first : (t : ℕ) → from ≤ t → t < number → is_set flags t ≡ false
