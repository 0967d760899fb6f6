-- What a wire tells: what is left of a link when it is over.
use Rattle.std.specs.Prelude.{ℕ, ◌≡◌, Bool, false, List, Option}
use Rattle.journal_model.specs.Halves.{EarValue, MouthValue}

-- a child's number, what its two halves tell, how often they failed, their start's number and whether they are open, and what
-- was read and not fed
pub record WireValue : Type 0 where
  pub child : ℕ
  pub taken : Option (List ℕ)
  pub write_faults : ℕ
  pub inlet_number : Option ℕ
  pub is_inlet_open : Bool
  pub given : Option (List ℕ)
  pub left : Option (List ℕ)
  pub read_faults : ℕ
  pub outlet_number : Option ℕ
  pub is_outlet_open : Bool
  pub rest : List ℕ

-- the wire that a link's halves leave
pub record IsLeft (ear : EarValue) (mouth : MouthValue) (wire : WireValue) : Type 0 where
  pub child : wire.child ≡ ear.child
  pub taken_is : wire.taken ≡ mouth.taken
  pub given_is : wire.given ≡ ear.given
  pub left_is : wire.left ≡ ear.left
  pub faults : (wire.write_faults ≡ mouth.faults) × (wire.read_faults ≡ ear.faults)
  pub numbers : (wire.inlet_number ≡ mouth.number) × (wire.outlet_number ≡ ear.number)
  pub closed : (wire.is_inlet_open ≡ false) × (wire.is_outlet_open ≡ false)
  pub rest : wire.rest ≡ ear.held
