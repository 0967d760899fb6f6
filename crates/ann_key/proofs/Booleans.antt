-- What tests say of each other.
use Rattle.std.proofs.Common.{◌≡◌, refl, Bool, true, false, not, ◌||◌, ◌&&◌, ℕ, suc, ◌+◌, cond, sym, arith}
use Rattle.std.proofs.lemmas.Bool.{false≢true}

pub and_assoc : (a b c : Bool) → ((a && b) && c) ≡ (a && (b && c))
and_assoc true b c = refl
and_assoc false b c = refl

pub and_last : (a b : Bool) → (a && b) ≡ true → b ≡ true
and_last true b h = h
and_last false b h = absurd cc

pub and_true : (b : Bool) → (b && true) ≡ b
and_true true = refl
and_true false = refl

pub neither_is : (a b : Bool) → not (a || b) ≡ true → (not a ≡ true) × (not b ≡ true)
neither_is true b h = absurd (false≢true h)
neither_is false b h = (refl, h)

pub or_neither : (a b : Bool) → a ≡ false → b ≡ false → (a || b) ≡ false
or_neither a b x y = rw (x, y) refl

pub or_right : (a b : Bool) → b ≡ true → (a || b) ≡ true
or_right true b h = refl
or_right false b h = h

pub left_false : (a b : Bool) → (a || b) ≡ false → a ≡ false
left_false false b h = refl
left_false true b h = h

pub first_of_five : (a b c d e : Bool) → (a && b && c && d && e) ≡ true → a ≡ true
first_of_five true b c d e h = refl
first_of_five false b c d e h = absurd cc

pub or_left : (a b : Bool) → a ≡ true → (a || b) ≡ true
or_left a b h = rw h refl

pub left_false_not_right : (a b : Bool) → not (a || b) ≡ true → (a ≡ false) × (not b ≡ true)
left_false_not_right true b h = absurd cc
left_false_not_right false b h = (refl, h)

pub one_of_two : (a b rest : Bool) → not a ≡ true → not b ≡ true → rest ≡ true → (not (a || b) && rest) ≡ true
one_of_two true b rest h k l = absurd (false≢true h)
one_of_two false true rest h k l = absurd (false≢true k)
one_of_two false false rest h k l = l

pub not_either : (a b : Bool) → not a ≡ true → not b ≡ true → not (a || b) ≡ true
not_either true b h k = absurd (false≢true h)
not_either false b h k = k

pub never_true : (b : Bool) → (b ≡ true → ⊥) → b ≡ false
never_true true h = absurd (h refl)
never_true false h = refl

pub false_is_true : {A : Type 0} → false ≡ true → A
false_is_true e = absurd cc

pub and_false : (b : Bool) → (b && false) ≡ false
and_false true = refl
and_false false = refl

pub one_more : (b c : Bool) (m n : ℕ) → (b || c) ≡ false → m ≡ n → cond (not b) (1 + m) 0 ≡ suc n
one_more true c m n h e = absurd (false≢true (sym h))
one_more false c m n h e = omega arith

pub or_off : (b d : Bool) → d ≡ false → (b || d) ≡ b
or_off true d h = refl
or_off false d h = h

pub both_false : (a b : Bool) → (a || b) ≡ false → (a ≡ false) × (b ≡ false)
both_false true b h = cc
both_false false b h = (refl, h)

pub or_false : (b : Bool) → (b || false) ≡ b
or_false true = refl
or_false false = refl

pub not_right : (a b : Bool) → not (a || b) ≡ true → not b ≡ true
not_right true b h = absurd cc
not_right false b h = h

pub or_true : (a : Bool) → (a || true) ≡ true
or_true true = refl
or_true false = refl

pub same_test : (a b : Bool) → (a ≡ true → b ≡ true) → (b ≡ true → a ≡ true) → a ≡ b
same_test true b f g = sym (f refl)
same_test false true f g = g refl
same_test false false f g = refl

pub right_false : (a b : Bool) → (a || b) ≡ false → b ≡ false
right_false true b e = cc
right_false false b e = e

pub not_and_so : (b : Bool) → b ≡ true → not b ≡ true → ⊥
not_and_so true e h = cc
not_and_so false e h = cc

pub true_and_false : {A : Type 0} (b : Bool) → b ≡ true → b ≡ false → A
true_and_false b t f = absurd cc
