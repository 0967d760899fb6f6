-- How many chunks are held.
use Rattle.std.proofs.Common.{◌≡◌, ℕ, zero, suc, ◌+◌, ◌-◌, ◌*◌, ◌/◌, ◌%◌, ◌<◌, ◌≤◌, ◌==◌, Bool, true, false, cond, refl, ◌∙◌, arith}
use Rattle.std.specs.Prelude.{count_by, nat_le, nat_lt}
use Rattle.std.specs.List.{range_with_len}
use Rattle.std.specs.Int.{div_ceil}
use Rattle.std.proofs.Math.Nat.{div-mul-le_self, mul-le-mul_right, suc-mul}
use Rattle.std.proofs.lemmas.Bool.Decides.{nat_tests}
use Rattle.std.proofs.lemmas.List.Sums.{sum_by-cons}
use Rattle.std.proofs.lemmas.Bool.{ne_eqb, lt-ltb as lt_true, le-leb as le_true}
use Rattle.std.proofs.lemmas.Grind.{div_ceil_times}
use Rattle.std.proofs.lemmas.Nat.{div-add-mod', div_below, mod_below}
use Rattle.task_text.specs.Layouts.Layouts.{count_of, from_of, held_of, is_held, to_of}

-- of a run of numbers, those that pass a test, where they stand before the others
counted : (p : ℕ → Bool) (a n q : ℕ) → q ≤ n → ((k : ℕ) → a ≤ k → k < a + q → p k ≡ true) → ((k : ℕ) → a + q ≤ k → k < a + n → p k ≡ false)
    → count_by p (range_with_len a n) ≡ q
counted p a zero q h passes fails = omega arith
counted p a (suc n) zero h passes fails =
    let first : p a ≡ false = fails a (omega arith) (omega arith) in
    let rest : count_by p (range_with_len (a + 1) n) ≡ 0 = counted p (a + 1) n 0 (omega arith) (λ k low high. absurd (omega arith)) (λ k low high. fails k (omega arith) (omega arith)) in
    sum_by-cons (λ (k : ℕ). cond (p k) 1 0) a (range_with_len (a + 1) n) ∙ rw (first, rest) refl
counted p a (suc n) (suc q) h passes fails =
    let first : p a ≡ true = passes a (omega arith) (omega arith) in
    let rest : count_by p (range_with_len (a + 1) n) ≡ q = counted p (a + 1) n q (omega arith) (λ k low high. passes k (omega arith) (omega arith)) (λ k low high. fails k (omega arith) (omega arith)) in
    sum_by-cons (λ (k : ℕ). cond (p k) 1 0) a (range_with_len (a + 1) n) ∙ rw (first, rest) (omega arith)

le_false : (a b : ℕ) → b < a → nat_le a b ≡ false
le_false a b h = grind (arith, nat_tests)

before : (k chunk : ℕ) → 0 < k → k * chunk ≡ (k - 1) * chunk + chunk
before zero chunk h = absurd (omega arith)
before (suc k) chunk h = let e : suc k - 1 ≡ k = omega arith in rw e (suc-mul k chunk)

count_full : (size chunk : ℕ) → 0 < size → count_of size chunk ≡ div_ceil size chunk
count_full size chunk h = let some : (size == 0) ≡ false = ne_eqb size 0 (λ e. omega arith) in rw some refl

-- a chunk of the content isn't empty, so it is held where its end is
held_as_its_end : (size chunk part k : ℕ) → 0 < chunk → 0 < size → 0 < k → k ≤ count_of size chunk → is_held size chunk part k ≡ nat_le (to_of size chunk k) part
held_as_its_end size chunk part k some full first last =
    let n : count_of size chunk ≡ div_ceil size chunk = count_full size chunk full in
    let most : k * chunk ≤ div_ceil size chunk * chunk = mul-le-mul_right chunk (omega arith) in
    let step : k * chunk ≡ (k - 1) * chunk + chunk = before k chunk first in
    let end : div_ceil size chunk * chunk < size + chunk = (div_ceil_times size chunk some).1 in
    let long : nat_lt (from_of chunk k) (to_of size chunk k) ≡ true = lt_true (from_of chunk k) (to_of size chunk k) (omega arith) in
    rw long refl

pub held_all : (size chunk part : ℕ) → 0 < chunk → 0 < size → size ≤ part → held_of size chunk part ≡ count_of size chunk
held_all size chunk part some full reach =
    counted (is_held size chunk part) 1 (count_of size chunk) (count_of size chunk) (omega arith)
    (λ k low high. held_as_its_end size chunk part k some full low (omega arith) ∙ le_true (to_of size chunk k) part (omega arith))
    (λ k low high. absurd (omega arith))

pub held_some : (size chunk part : ℕ) → 0 < chunk → part < size → held_of size chunk part ≡ part / chunk
held_some size chunk part some short =
    counted (is_held size chunk part) 1 (count_of size chunk) (part / chunk) fewer
    (λ k low high. held_as_its_end size chunk part k some full low (omega (arith, fewer)) ∙ le_true (to_of size chunk k) part (within k (omega arith)))
    (λ k low high. held_as_its_end size chunk part k some full (omega arith) (omega arith) ∙ le_false (to_of size chunk k) part (past k (omega arith)))
  where
    full : 0 < size
    full = omega arith

    fewer : part / chunk ≤ count_of size chunk
    fewer =
        let n : count_of size chunk ≡ div_ceil size chunk = count_full size chunk full in
        let all : size ≤ div_ceil size chunk * chunk = (div_ceil_times size chunk some).0 in
        let below : part / chunk < div_ceil size chunk = div_below part chunk (div_ceil size chunk) some (omega arith) in
        omega arith

    within : (k : ℕ) → k ≤ part / chunk → to_of size chunk k ≤ part
    within k h =
        let most : k * chunk ≤ part / chunk * chunk = mul-le-mul_right chunk h in
        let whole : part / chunk * chunk ≤ part = div-mul-le_self part chunk in
        omega arith

    past : (k : ℕ) → part / chunk < k → part < to_of size chunk k
    past k h =
        let least : (part / chunk + 1) * chunk ≤ k * chunk = mul-le-mul_right chunk (omega arith) in
        let next : suc (part / chunk) * chunk ≡ part / chunk * chunk + chunk = suc-mul (part / chunk) chunk in
        let whole : part / chunk * chunk + part % chunk ≡ part = div-add-mod' part chunk in
        let rest : part % chunk < chunk = mod_below part chunk some in
        let one : part / chunk + 1 ≡ suc (part / chunk) = omega arith in
        let reach : suc (part / chunk) * chunk ≤ k * chunk = rw one at least in
        omega arith
