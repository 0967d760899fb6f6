-- What digits say, as more of them are read.
use Rattle.std.proofs.Common.{◌≡◌, ℕ, ◌+◌, ◌-◌, ◌*◌, ◌<◌, ◌≤◌, ◌^◌, false, get_or, lit≤, List, [], ◌∷◌, ◌++◌, length, take, drop, fold, refl, sym, ap, ◌∙◌, arith}
use Rattle.std.specs.Prelude.{nat_lt}
use Rattle.std.proofs.Math.Nat.{pow-le-pow_right}
use Rattle.std.proofs.lemmas.List.{take-append-drop, take_more}
use Rattle.ann_key.specs.Numbers.{value_of}
use Rattle.std.proofs.lemmas.Bool.{le-ltb as not_lt}

abbrev after : ℕ → List ℕ → ℕ
after n digits = fold (λ n d. 10 * n + (d - 48)) n digits

grows : (n : ℕ) (digits : List ℕ) → n ≤ after n digits
grows n [] = omega arith
grows n (d ∷ digits) = let more : 10 * n + (d - 48) ≤ after (10 * n + (d - 48)) digits = grows (10 * n + (d - 48)) digits in omega arith

after-append : (n : ℕ) (xs ys : List ℕ) → after n (xs ++ ys) ≡ after (after n xs) ys
after-append n [] ys = refl
after-append n (x ∷ xs) ys = after-append (10 * n + (x - 48)) xs ys

pub value_of-append : (xs ys : List ℕ) → value_of (xs ++ ys) ≡ after (value_of xs) ys
value_of-append xs ys = after-append 0 xs ys

-- what some first digits say is no more than what all say
pub value_of-take-le : (i : ℕ) (digits : List ℕ) → value_of (take i digits) ≤ value_of digits
value_of-take-le i digits =
    let whole : value_of digits ≡ after (value_of (take i digits)) (drop i digits) = ap value_of (sym (take-append-drop i digits)) ∙ value_of-append (take i digits) (drop i digits) in
    let more : value_of (take i digits) ≤ after (value_of (take i digits)) (drop i digits) = grows (value_of (take i digits)) (drop i digits) in
    omega arith

-- a number of at most eight digits
pub small : (n i : ℕ) → n < 10 ^ i → i < 9 → n < 100000000
small n i h few =
    let most : 10 ^ i ≤ 10 ^ 8 = pow-le-pow_right {n = 10} (lit≤ tt) {i = i} {j = 8} (omega arith) in
    let is : 10 ^ 8 ≡ 100000000 = refl in
    omega arith

-- what is past 2^64 in front is past it in whole
pub over : (i : ℕ) (digits : List ℕ) → i < length digits → 2 ^ 64 ≤ 10 * value_of (take i digits) + (get_or digits i 0 - 48) → nat_lt (value_of digits) (2 ^ 64) ≡ false
over i digits h past =
    let step : value_of (take (i + 1) digits) ≡ 10 * value_of (take i digits) + (get_or digits i 0 - 48) = ap value_of (take_more digits i 0 h) ∙ value_of-append (take i digits) (get_or digits i 0 ∷ []) in
    let most : value_of (take (i + 1) digits) ≤ value_of digits = value_of-take-le (i + 1) digits in
    not_lt (value_of digits) (2 ^ 64) (omega arith)
