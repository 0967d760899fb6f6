-- Texts of printed bytes.
use Rattle.std.proofs.Common.{◌≡◌, ℕ, zero, suc, ◌<◌, ◌^◌, List, [], ◌∷◌, ◌++◌, refl, Bool, true, false, arith}
use Rattle.std.specs.Prelude.{◌==◌, ◌&&◌, not, nat_lt, slice_index, decimal}
use Rattle.std.specs.List.{list_all, list_any}
use Rattle.std.specs.Str.{is_utf8}
use Rattle.std.proofs.lemmas.Bool.Decides.{nat_tests}
use Rattle.std.proofs.lemmas.Str.{IsUtf8-from_ascii, is_utf8-from_IsUtf8}
use Rattle.ann_key.specs.Keys.{is_sendable}
use Rattle.ann_key.specs.Numbers.{is_digit}
use Rattle.task_text.proofs.ChunkLogLemmas.Cuts.{list_all-append, list_all-weaken}
use Rattle.task_text.proofs.ChunkLogLemmas.StampBack.{decimal_reads, Decimal}
use Rattle.std.proofs.lemmas.Bool.{and_parts as both}

-- neither blank nor a control
abbrev pub is_plain : ℕ → Bool
is_plain b = nat_lt 32 b && nat_lt b 127

digit_plain : (b : ℕ) → is_digit b ≡ true → is_plain b ≡ true
digit_plain b h = grind (arith, nat_tests)

pub decimal_plain : (n : ℕ) → n < 2 ^ 64 → list_all is_plain (decimal n) ≡ true
decimal_plain n h = let d : Decimal n = decimal_reads n h in list_all-weaken is_digit is_plain digit_plain (decimal n) d.all

pub plain_both : (xs ys : List ℕ) → list_all is_plain xs ≡ true → list_all is_plain ys ≡ true → list_all is_plain (xs ++ ys) ≡ true
plain_both xs ys h k = list_all-append is_plain xs ys h k

plain_sent : (b : ℕ) → is_plain b ≡ true → (nat_lt 32 b && not (b == 127)) ≡ true
plain_sent b h = grind (arith, nat_tests)

pub plain_sendable : (bs : List ℕ) → list_all is_plain bs ≡ true → is_sendable bs ≡ true
plain_sendable bs h = list_all-weaken is_plain (λ b. nat_lt 32 b && not (b == 127)) plain_sent bs h

not_end : (b : ℕ) → is_plain b ≡ true → (b == 10) ≡ false
not_end b h = grind (arith, nat_tests)

pub plain_line : (bs : List ℕ) → list_all is_plain bs ≡ true → list_any (λ b. b == 10) bs ≡ false
plain_line [] h = refl
plain_line (b ∷ bs) h = let t = both (is_plain b) (list_all is_plain bs) h in rw (not_end b t.0, plain_line bs t.1) refl

small : (b : ℕ) → is_plain b ≡ true → b < 128
small b h = grind (arith, nat_tests)

ascii : (bs : List ℕ) → list_all is_plain bs ≡ true → (i : ℕ) → slice_index bs i < 128
ascii [] h i = omega arith
ascii (b ∷ bs) h zero = small b (both (is_plain b) (list_all is_plain bs) h).0
ascii (b ∷ bs) h (suc i) = ascii bs (both (is_plain b) (list_all is_plain bs) h).1 i

pub plain_text : (bs : List ℕ) → list_all is_plain bs ≡ true → is_utf8 bs ≡ true
plain_text bs h = is_utf8-from_IsUtf8 bs (IsUtf8-from_ascii bs (ascii bs h))
