-- The first field of some fields, and the numbers that are read from it.
use Rattle.std.proofs.Common.{◌≡◌, ℕ, ◌+◌, ◌<◌, ◌^◌, Bool, true, not, List, [], ◌∷◌, ◌++◌, Some, length, take, drop, refl, ap, ◌∙◌, arith}
use Rattle.std.specs.Prelude.{decimal, nat_lt}
use Rattle.std.specs.List.{list_all, position_or_len}
use Rattle.std.proofs.lemmas.Bool.{and_parts}
use Rattle.std.proofs.lemmas.Bool.Decides.{nat_tests}
use Rattle.std.proofs.lemmas.List.{append-nil, take_all, drop_all}
use Rattle.ann_key.specs.Numbers.{is_digit}
use Rattle.task_text.proofs.ChunkLogLemmas.Cuts.{before_first-at, after_first-at, list_all-weaken}
use Rattle.task_text.proofs.ChunkLogLemmas.StampBack.{decimal_reads, Decimal}
use Rattle.journal_text.specs.Entries.Fields.{followed, spaced, is_space, first_of, rest_of, number_at, small_at, smalls_at, numbers_at}
use Rattle.ann_key.proofs.Across.{digit_no_space}

abbrev pub is_field : List ℕ → Bool
is_field bytes = list_all (λ b. not (is_space b)) bytes

whole_len : (xs : List ℕ) → is_field xs ≡ true → position_or_len is_space xs ≡ length xs
whole_len [] h = refl
whole_len (x ∷ xs) h =
    let parts = and_parts (not (is_space x)) (is_field xs) h in
    let first : not (is_space x) ≡ true = parts.0 in
    let rest : position_or_len is_space xs ≡ length xs = whole_len xs parts.1 in
    rw (first, rest) (omega arith)

pub first_back : (field : List ℕ) (fields : List (List ℕ)) → is_field field ≡ true → first_of (spaced (field ∷ fields)) ≡ field
first_back field [] h = ap first_of (append-nil field) ∙ ap (λ (n : ℕ). take n field) (whole_len field h) ∙ take_all (length field) field (omega arith)
first_back field (next ∷ fields) h = before_first-at is_space field 32 (next ++ followed fields) h refl

pub rest_back : (field : List ℕ) (fields : List (List ℕ)) → is_field field ≡ true → rest_of (spaced (field ∷ fields)) ≡ spaced fields
rest_back field [] h = ap rest_of (append-nil field) ∙ ap (λ (n : ℕ). drop (n + 1) field) (whole_len field h) ∙ drop_all (length field + 1) field (omega arith)
rest_back field (next ∷ fields) h = after_first-at is_space field 32 (next ++ followed fields) h refl

pub decimal_field : (n : ℕ) → n < 2 ^ 64 → is_field (decimal n) ≡ true
decimal_field n h = let d : Decimal n = decimal_reads n h in list_all-weaken is_digit (λ x. not (is_space x)) digit_no_space (decimal n) d.all

pub number_back : (n : ℕ) (fields : List (List ℕ)) → n < 2 ^ 64 → number_at (spaced (decimal n ∷ fields)) ≡ Some n
number_back n fields h = let d : Decimal n = decimal_reads n h in rw (first_back (decimal n) fields (decimal_field n h), d.number, d.value) refl

pub wide : (n : ℕ) → n < 2 ^ 32 → n < 2 ^ 64
wide n h = omega arith

is_small : (n : ℕ) → n < 2 ^ 32 → nat_lt n (2 ^ 32) ≡ true
is_small n h = grind (arith, nat_tests)

pub small_back : (n : ℕ) (fields : List (List ℕ)) → n < 2 ^ 32 → small_at (spaced (decimal n ∷ fields)) ≡ Some n
small_back n fields h = rw (number_back n fields (wide n h), is_small n h) refl

pub number_rest : (n : ℕ) (fields : List (List ℕ)) → n < 2 ^ 64 → rest_of (spaced (decimal n ∷ fields)) ≡ spaced fields
number_rest n fields h = rest_back (decimal n) fields (decimal_field n h)

pub small_rest : (n : ℕ) (fields : List (List ℕ)) → n < 2 ^ 32 → rest_of (spaced (decimal n ∷ fields)) ≡ spaced fields
small_rest n fields h = number_rest n fields (wide n h)

pub smalls_back : (a b : ℕ) (fields : List (List ℕ)) → a < 2 ^ 32 → b < 2 ^ 32 → smalls_at (spaced (decimal a ∷ decimal b ∷ fields)) ≡ Some (a, b)
smalls_back a b fields h k = rw (small_back a (decimal b ∷ fields) h, small_rest a (decimal b ∷ fields) h, small_back b fields k) refl

pub numbers_back : (a b : ℕ) (fields : List (List ℕ)) → a < 2 ^ 32 → b < 2 ^ 64 → numbers_at (spaced (decimal a ∷ decimal b ∷ fields)) ≡ Some (a, b)
numbers_back a b fields h k = rw (small_back a (decimal b ∷ fields) h, small_rest a (decimal b ∷ fields) h, number_back b fields k) refl

-- what follows the two
pub numbers_rest : (a b : ℕ) (fields : List (List ℕ)) → a < 2 ^ 32 → b < 2 ^ 64 → rest_of (rest_of (spaced (decimal a ∷ decimal b ∷ fields))) ≡ spaced fields
numbers_rest a b fields h k = ap rest_of (small_rest a (decimal b ∷ fields) h) ∙ number_rest b fields k

pub smalls_rest : (a b : ℕ) (fields : List (List ℕ)) → a < 2 ^ 32 → b < 2 ^ 32 → rest_of (rest_of (spaced (decimal a ∷ decimal b ∷ fields))) ≡ spaced fields
smalls_rest a b fields h k = numbers_rest a b fields h (wide b k)
