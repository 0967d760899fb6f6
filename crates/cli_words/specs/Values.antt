-- The words of a command line, and what a word may be a value of.
use Rattle.std.specs.Prelude.{ℕ, ◌≤◌, ◌==◌, ◌&&◌, ◌||◌, not, nat_le, nat_lt, Bool, if◌then◌else◌, List, length, map, Option, Some, None, option_map, codes, bytes_eq, string_bytes, String}
use Rattle.std.specs.List.{list_any}
use Rattle.std.specs.declared.alloc.Global.{Global}
use Rattle.uuid.specs.Text.{parsed, hyphenated_text, lower}
use Rattle.ann_key.specs.Numbers.{is_number, is_numeral, value_of, IsNumeral}

-- the bytes of each word
abbrev pub texts_of : List (String Global) → List (List ℕ)
texts_of words = map string_bytes words

abbrev pub has_end : List ℕ → Bool
has_end text = list_any (λ b. b == 10) text

-- it isn't empty, and holds no line's end
abbrev pub is_text : List ℕ → Bool
is_text text = nat_lt 0 (length text) && not (has_end text)

-- it asks for a text of the program's own
abbrev pub is_request : List ℕ → Bool
is_request word = bytes_eq word (codes "--help") || bytes_eq word (codes "--version")

-- what a word after a command's name has to be
abbrev pub is_word_of_command : List ℕ → Bool
is_word_of_command word = is_text word && not (is_request word)

-- ---- numbers, from one to another

abbrev pub number_in : ℕ → ℕ → List ℕ → Option ℕ
number_in least most text =
    if is_numeral text && (nat_le least (value_of text) && nat_le (value_of text) most) then Some (value_of text) else None

-- the text is that number without leading zeros
pub record IsNumberIn (least most : ℕ) (text : List ℕ) (n : ℕ) : Type 0 where
  pub numeral : IsNumeral n text
  pub least_one : least ≤ n
  pub most_one : n ≤ most

-- leading zeros are read too
abbrev pub padded_number_in : ℕ → ℕ → List ℕ → Option ℕ
padded_number_in least most text =
    if is_number text && (nat_le least (value_of text) && nat_le (value_of text) most) then Some (value_of text) else None

-- ---- UUIDs

-- the UUID of the text, in lower case with hyphens
abbrev pub uuid_in : List ℕ → Option (List ℕ)
uuid_in text = option_map (hyphenated_text lower) (parsed text)
