-- Values that may be missing.
use Rattle.std.proofs.Common.{◌≡◌, ℕ, refl, true, not, Some, None, Option}
use Rattle.std.specs.Prelude.{is_some, IsSome}

pub no_pair : (o : Option (ℕ × ℕ)) → not (is_some o) ≡ true → o ≡ None
no_pair None e = refl
no_pair (Some c) e = absurd cc

pub no_number : (o : Option ℕ) → not (is_some o) ≡ true → o ≡ None
no_number None e = refl
no_number (Some n) e = absurd cc

pub none_not : {X : Type 0} (o : Option X) → o ≡ None → IsSome o → ⊥
none_not (Some y) e s = absurd cc
none_not None e s = cc

pub none_some : {A : Type 0} {x : A} → None ≡ Some x → ⊥
none_some e = cc

pub some_is : {X : Type 0} (o : Option X) (x : X) → o ≡ Some x → IsSome o
some_is (Some y) x h = refl
some_is None x h = absurd cc

pub never_some : {X : Type 0} (o : Option X) → ((x : X) × (o ≡ Some x) → ⊥) → None ≡ o
never_some None h = refl
never_some (Some x) h = absurd (h (x, refl))
