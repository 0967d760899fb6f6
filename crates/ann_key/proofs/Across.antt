-- What several crates above this one use.
use Rattle.std.proofs.Common.{◌≡◌, ℕ, List, [], ◌∷◌, refl, arith, ◌==◌, true, not}
use Rattle.std.specs.Prelude.{false}
use Rattle.std.specs.List.{list_any}
use Rattle.std.proofs.lemmas.Grind.{common_steps}
use Rattle.ann_key.specs.Keys.{is_sendable}
use Rattle.std.proofs.lemmas.Bool.Decides.{nat_tests}
use Rattle.ann_key.specs.Numbers.{is_digit}

pub no_space : (key : List ℕ) → is_sendable key ≡ true → list_any (λ b. b == 32) key ≡ false
no_space [] e = refl
no_space (b ∷ key) e = grind (arith, common_steps, no_space key)

pub digit_fits : (b : ℕ) → is_digit b ≡ true → not (b == 10) ≡ true
digit_fits b h = grind (arith, nat_tests)

pub digit_no_space : (b : ℕ) → is_digit b ≡ true → not (b == 32) ≡ true
digit_no_space b h = grind (arith, nat_tests)
