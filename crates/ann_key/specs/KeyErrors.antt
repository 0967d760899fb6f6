-- Where bytes stop being a key, as found from the left.
use Rattle.std.specs.Prelude.{ℕ, ◌≡◌, ◌+◌, ◌==◌, ◌&&◌, ◌||◌, not, nat_lt, Bool, true, false, List, [], ◌∷◌, ◌++◌, take, drop, length, None, IsTrue, is_some, ◌⊎◌}
use Rattle.std.specs.List.{prefix_len}
use Rattle.ann_key.specs.Numbers.{is_digit, value_of, is_numeral, IsNumeral}
use Rattle.ann_key.specs.Keys.{Parts, is_backend_byte, is_name, IsKey}
use Rattle.ann_key.specs.declared.error.KeyError.{KeyError}
use Rattle.ann_key.specs.declared.error.KeyError.TheVariants.{Backend, Field, Number, Name}

-- the first byte, where there is one, passes the test
abbrev pub first_is : (ℕ → Bool) → List ℕ → Bool
first_is p [] = false
first_is p (b ∷ rest) = p b

-- what has been read: a backend and fields, or these with -S and a chunk size
pub data Begun : Type 0 where
  Fields : Parts → Begun
  ChunkSize : Parts → Begun

-- two dashes and a name after the text make a key
abbrev pub IsFront : List ℕ → Parts → Type 0
IsFront text key = IsKey (text ++ 45 ∷ 45 ∷ key.name) key

pub record IsSizedFront (text : List ℕ) (key : Parts) : Type 0 where
  pub front : List ℕ
  pub digits : List ℕ
  pub size : ℕ
  pub whole : text ≡ front ++ 45 ∷ 83 ∷ digits
  pub is_front : IsFront front key
  pub no_chunk : key.chunk ≡ None
  pub numeral : IsNumeral size digits
  pub positive : IsTrue (nat_lt 0 size)

abbrev pub IsBegun : List ℕ → Begun → Type 0
IsBegun text (Fields key) = IsFront text key
IsBegun text (ChunkSize key) = IsSizedFront text key

-- which byte may follow the next dash: a dash, or the letter of a field that comes later than those that stand
abbrev pub may_follow : Begun → ℕ → Bool
may_follow (ChunkSize key) b = b == 67
may_follow (Fields key) b =
    b == 45 || (b == 83 && not (is_some key.chunk))
    || (b == 109 && not (is_some key.chunk) && not (is_some key.mtime))
    || (b == 115 && not (is_some key.chunk) && not (is_some key.mtime) && not (is_some key.size))

-- whether a number has been read last
abbrev pub ends_in_number : Begun → Bool
ends_in_number (ChunkSize key) = true
ends_in_number (Fields key) = is_some key.size || is_some key.mtime || is_some key.chunk

-- the longest run of digits is a number that may follow the letter: those of a chunk are at least 1
abbrev pub is_number_of : ℕ → List ℕ → Bool
is_number_of letter rest =
    is_numeral (take (prefix_len is_digit rest) rest)
    && (letter == 115 || letter == 109 || nat_lt 0 (value_of (take (prefix_len is_digit rest) rest)))

-- `at` is the length of the longest run of backend bytes: it is empty, or no dash follows
abbrev pub IsBadBackend : List ℕ → ℕ → Type 0
IsBadBackend bytes at = (at ≡ prefix_len is_backend_byte bytes) × IsTrue (at == 0 || not (first_is (λ b. b == 45) (drop at bytes)))

-- a number ends at `at` and no dash follows, or a dash stands before `at` and nothing that may follow it stands there
pub record IsBadField (bytes : List ℕ) (at : ℕ) : Type 0 where
  pub front : List ℕ
  pub rest : List ℕ
  pub begun : Begun
  pub whole : bytes ≡ front ++ rest
  pub is_begun : IsBegun front begun
  pub stop :
      (IsTrue (ends_in_number begun) × (at ≡ length front) × IsTrue (not (first_is (λ b. b == 45 || is_digit b) rest)))
      ⊎ ((more : List ℕ) × (rest ≡ 45 ∷ more) × (at ≡ length front + 1) × IsTrue (not (first_is (may_follow begun) more)))

-- a letter that may stand there stands before `at`, and no number of it follows
pub record IsBadNumber (bytes : List ℕ) (at : ℕ) : Type 0 where
  pub front : List ℕ
  pub letter : ℕ
  pub rest : List ℕ
  pub begun : Begun
  pub whole : bytes ≡ front ++ 45 ∷ letter ∷ rest
  pub is_begun : IsBegun front begun
  pub is_letter : IsTrue (not (letter == 45) && may_follow begun letter)
  pub place : at ≡ length front + 2
  pub no_number : IsTrue (not (is_number_of letter rest))

-- after the two dashes stands nothing, or the first byte 10 stands at `at`
pub record IsBadName (bytes : List ℕ) (at : ℕ) : Type 0 where
  pub front : List ℕ
  pub name : List ℕ
  pub key : Parts
  pub whole : bytes ≡ front ++ 45 ∷ 45 ∷ name
  pub is_front : IsFront front key
  pub no_name : IsTrue (not (is_name name))
  pub place : at ≡ length front + 2 + prefix_len (λ b. not (b == 10)) name

abbrev pub IsError : List ℕ → KeyError → Type 0
IsError bytes (Backend at) = IsBadBackend bytes at
IsError bytes (Field at) = IsBadField bytes at
IsError bytes (Number at) = IsBadNumber bytes at
IsError bytes (Name at) = IsBadName bytes at
