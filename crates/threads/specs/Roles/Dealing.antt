-- What is dealt from lists whose room is needed again.
use Rattle.std.specs.Prelude.{ℕ, ◌≡◌, ◌≤◌, List, [], ◌++◌, vec_capacity}
use Rattle.std.specs.Global.{Vec}

-- room for so many, and nothing in it
pub record IsRoomFor {X : Type 0} (n : ℕ) (xs : Vec X) : Type 0 where
  pub none : xs.items ≡ []
  pub room : n ≤ vec_capacity xs

-- the last ones were dealt, and their room stays
pub record Deals {X : Type 0} (old new : Vec X) (dealt : List X) : Type 0 where
  pub items : old.items ≡ new.items ++ dealt
  pub room : vec_capacity new ≡ vec_capacity old

-- so were all of them
pub record DealsAll {X : Type 0} (old new : Vec X) (dealt : List X) : Type 0 where
  pub items : old.items ≡ dealt
  pub none : new.items ≡ []
  pub room : vec_capacity new ≡ vec_capacity old
