-- What holds of the world between moves.
use Rattle.pair_kit.specs.Worlds.{WorldValue, AreLinked}
use Rattle.pair_kit.specs.Paces.{AreInStep}
use Rattle.pair_kit.specs.Peace.{AtPeace}
use Rattle.pair_kit.specs.Answered.{AreAnswered, AreNoted}
use Rattle.pair_kit.specs.Stored.{Keeps}

-- The pipes have what was said and not yet taken; host and kits keep step; none finds fault with the other; the answers are those that
-- the kits gave, and each verdict is one of them; and a key has what was stored last.
pub record Stands (w : WorldValue) : Type 0 where
  pub linked : AreLinked w
  pub in_step : AreInStep w
  pub peace : AtPeace w
  pub noted : AreNoted w
  pub answered : AreAnswered w
  pub keeps : Keeps w
