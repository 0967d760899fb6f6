-- Numbers.
use Rattle.std.proofs.Common.{◌≡◌, Result, Ok, Err, IsErr, ℕ, true, false, ◌==◌, arith, ◌+◌, ◌*◌, add-one}
use Rattle.std.proofs.lemmas.Bool.Decides.{nat_tests}
use Rattle.std.proofs.Math.Nat.{suc-mul}

pub ok_no_err : {T E : Type 0} (result : Result T E) (x : T) → result ≡ Ok x → IsErr result → ⊥
ok_no_err (Ok y) x is f = cc
ok_no_err (Err e) x is f = cc

pub other_number : (a b n : ℕ) → (b == a) ≡ false → (b == n) ≡ true → (a == n) ≡ false
other_number a b n h k = grind (arith, nat_tests)

pub same_number : (n : ℕ) → (n == n) ≡ true
same_number n = grind (arith, nat_tests)

pub one_more : (i chunk : ℕ) → (i + 1) * chunk ≡ i * chunk + chunk
one_more i chunk = rw add-one (suc-mul i chunk)

pub differ_turned : (m n : ℕ) → (m == n) ≡ false → (n == m) ≡ false
differ_turned m n h = grind (arith, nat_tests)
