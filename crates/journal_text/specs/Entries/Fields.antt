-- Fields of a line, with a space between each two.
use Rattle.std.specs.Prelude.{ℕ, ◌==◌, ◌^◌, Bool, if◌then◌else◌, List, [], ◌∷◌, ◌++◌, Option, Some, None, option_map, option_and_then, nat_lt, bytes_eq}
use Rattle.std.specs.List.{before_first, after_first}
use Rattle.ann_key.specs.Numbers.{number_of}

-- each after a space
abbrev pub followed : List (List ℕ) → List ℕ
followed [] = []
followed (field ∷ fields) = 32 ∷ field ++ followed fields

-- the first, and each other after a space
abbrev pub spaced : List (List ℕ) → List ℕ
spaced [] = []
spaced (field ∷ fields) = field ++ followed fields

-- ---- reading, as functions of the text. They may read more than is ever written

abbrev pub is_space : ℕ → Bool
is_space b = b == 32

abbrev pub first_of : List ℕ → List ℕ
first_of text = before_first is_space text

abbrev pub rest_of : List ℕ → List ℕ
rest_of text = after_first is_space text

-- the number that a text begins with
abbrev pub number_at : List ℕ → Option ℕ
number_at text = number_of (first_of text)

abbrev pub small : ℕ → Option ℕ
small n = if nat_lt n (2 ^ 32) then Some n else None

-- the same of 32 bits
abbrev pub small_at : List ℕ → Option ℕ
small_at text = option_and_then small (number_at text)

-- two numbers of 32 bits
abbrev pub smalls_at : List ℕ → Option (ℕ × ℕ)
smalls_at text = option_and_then (λ a. option_map (λ b. (a, b)) (small_at (rest_of text))) (small_at text)

-- a number of 32 bits, and one of 64
abbrev pub numbers_at : List ℕ → Option (ℕ × ℕ)
numbers_at text = option_and_then (λ a. option_map (λ b. (a, b)) (number_at (rest_of text))) (small_at text)

-- ---- a table of first fields, and how what follows each is read

pub record Row (M : Type 0) : Type 0 where
  pub word : List ℕ
  pub read : List ℕ → Option M

abbrev pub by_rows : {M : Type 0} → List (Row M) → List ℕ → List ℕ → Option M
by_rows [] word text = None
by_rows (r ∷ rs) word text = if bytes_eq word r.word then r.read text else by_rows rs word text

-- the word alone
abbrev pub word_row : {M : Type 0} → List ℕ → M → Row M
word_row word m = record { word = word; read = λ text. Some m }

-- a number of 64 bits after it
abbrev pub number_row : {M : Type 0} → List ℕ → (ℕ → M) → Row M
number_row word make = record { word = word; read = λ text. option_map make (number_at text) }
