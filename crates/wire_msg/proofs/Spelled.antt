-- What was read is what the line spells.
use Rattle.std.proofs.Common.{◌≡◌, ℕ, List, Some, None, Option, sym, ◌∙◌}
use Rattle.std.specs.Prelude.{MatchOption, option_map}
use Rattle.annex_model.specs.Tags.{Tagged, untag}
use Rattle.annex_model.proofs.TagReadings.{read_of_tagged, tagged_of_read}
use Rattle.ann_key.proofs.Options.{none_some}

-- what a reading shows spells the line, and nothing does where it is None
module _ {A M : Type 0} (shown : A → M) (Spells : M → Type 0) where
  pub read_spells : (r : Option A) (reading : Option M) → ((m : M) → reading ≡ Some m → Spells m) → ((m : M) → Spells m → reading ≡ Some m)
      → option_map shown r ≡ reading → MatchOption r ((m : M) → Spells m → ⊥) (λ a. Spells (shown a))
  read_spells None reading back there h = λ m s. none_some (h ∙ there m s)
  read_spells (Some a) reading back there h = back (shown a) (sym h)

pub tag_read : {A : Type 0} (number : A → ℕ) (rest : A → List ℕ) (r : Option A) (line : List ℕ)
    → option_map (λ a. (number a, rest a)) r ≡ untag line
    → MatchOption r ((n : ℕ) (more : List ℕ) → Tagged line n more → ⊥) (λ a. Tagged line (number a) (rest a))
tag_read number rest None line h = λ n more t. none_some (h ∙ read_of_tagged line n more t)
tag_read number rest (Some a) line h = tagged_of_read line (number a) (rest a) (sym h)
