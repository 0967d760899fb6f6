-- A seat between two calls.
use Rattle.std.specs.Prelude.{◌≡◌, ℕ, ◌<◌, [], ◌∷◌}
use Rattle.atomic_table.specs.Table.{Me}
use Rattle.threads.specs.declared.view.Stage.TheVariants.{Out}
use Rattle.threads.specs.declared.view.View.{View}
use Rattle.threads.specs.Log.{part, seen}

-- it has no turn and no value, and knows what the pass of one number has seen
abbrev pub IsResting : {S E F : Type 0} → ℕ → Me S (View E F) → Type 0
IsResting number m = (m.0.stage ≡ Out) × (m.0.parts ≡ part number (seen m.0.parts) ∷ []) × (m.1 ≡ []) × (0 < number)
