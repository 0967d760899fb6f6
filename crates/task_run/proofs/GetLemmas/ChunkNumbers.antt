-- Where chunks begin and end.
use Rattle.std.proofs.Common.{◌≡◌, ℕ, ◌+◌, ◌-◌, ◌*◌, ◌/◌, ◌<◌, ◌≤◌, ◌==◌, ◌⊎◌, inl, inr, Bool, true, false, cond, refl, ap, arith}
use Rattle.std.specs.List.{range_with_len}
use Rattle.std.specs.Int.{div_ceil}
use Rattle.std.proofs.Math.Nat.{zero-mul, mul-le-mul_right, div-mul-le_self}
use Rattle.std.proofs.lemmas.Bool.{cases_lt}
use Rattle.std.proofs.lemmas.Grind.{div_ceil_times}
use Rattle.std.proofs.lemmas.List.Sums.{count_by-le-length}
use Rattle.std.proofs.lemmas.List.FromFn.{length-range_with_len}
use Rattle.task_text.specs.Layouts.Layouts.{count_of, from_of, to_of, held_of, is_held}
use Rattle.task_text.proofs.LayoutsLemmas.Counted.{held_some}
use Rattle.ann_key.proofs.Numbers.{one_more as times_next}

-- a chunk that there is begins within the content
pub begins_within : (size chunk i : ℕ) → 0 < chunk → i < count_of size chunk → i * chunk ≤ size
begins_within size chunk i some there = by_test (size == 0) refl there
  where
    by_test : (b : Bool) → (size == 0) ≡ b → i < cond b 1 (div_ceil size chunk) → i * chunk ≤ size
    by_test true e t = let z : i ≡ 0 = omega arith in rw (z, zero-mul) (omega arith)
    by_test false e t =
        let most : (i + 1) * chunk ≤ div_ceil size chunk * chunk = mul-le-mul_right chunk (omega arith) in
        let end : div_ceil size chunk * chunk < size + chunk = (div_ceil_times size chunk some).1 in
        let next : (i + 1) * chunk ≡ i * chunk + chunk = times_next i chunk in
        omega arith

pub from_is : (chunk i : ℕ) → from_of chunk (i + 1) ≡ i * chunk
from_is chunk i = let e : i + 1 - 1 ≡ i = omega arith in ap (λ k. k * chunk) e

pub in_order : (size chunk i : ℕ) → 0 < chunk → i < count_of size chunk → from_of chunk (i + 1) ≤ to_of size chunk (i + 1)
in_order size chunk i some there =
    let f = from_is chunk i in
    let n = times_next i chunk in
    let w = begins_within size chunk i some there in
    omega (arith, f, n, w)

-- what is taken in of the chunks before, and of one more, ends where the next one begins
pub room_next : (size chunk i before after : ℕ) → 0 < chunk → i < count_of size chunk → before ≤ from_of chunk (i + 1) → after ≤ before + (to_of size chunk (i + 1) - from_of chunk (i + 1)) → after ≤ from_of chunk (i + 2)
room_next size chunk i before after some there b a =
    let o = in_order size chunk i some there in
    let e : i + 2 - 1 ≡ i + 1 = omega arith in
    let f : from_of chunk (i + 2) ≡ (i + 1) * chunk = ap (λ k. k * chunk) e in
    omega (arith, o, f, b, a)

-- ---- what is held

pub held_most : (size chunk part : ℕ) → held_of size chunk part ≤ count_of size chunk
held_most size chunk part =
    let a = count_by-le-length (is_held size chunk part) (range_with_len 1 (count_of size chunk)) in
    let b = length-range_with_len 1 (count_of size chunk) in
    omega (arith, a, b)

-- the held chunks end within the part that is held
pub held_within : (size chunk part : ℕ) → 0 < chunk → to_of size chunk (held_of size chunk part) ≤ part
held_within size chunk part some = by_order (cases_lt part size)
  where
    by_order : (part < size) ⊎ (size ≤ part) → to_of size chunk (held_of size chunk part) ≤ part
    by_order (inr h) = omega (arith, h)
    by_order (inl h) =
        let e : held_of size chunk part ≡ part / chunk = held_some size chunk part some h in
        let m : part / chunk * chunk ≤ part = div-mul-le_self part chunk in
        rw e (omega (arith, m))
