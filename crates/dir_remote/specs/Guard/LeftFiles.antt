-- The names of files that stores leave behind where they are cut off: MARK-FILENAME, the mark of three numbers.
use Rattle.std.specs.Prelude.{ℕ, ◌==◌, ◌&&◌, nat_le, bytes_eq, Bool, true, false, if◌then◌else◌, List, [], ◌∷◌, ◌+◌, position, drop, take, Option, None, Some}
use Rattle.ann_key.specs.FileNames.{file_name_of}
use Rattle.ann_key.specs.Keys.{is_key}
use Rattle.ann_key.specs.Numbers.{is_numeral, value_of}

-- ---- a file name, read back as a key's text

-- the byte that an escape stands for; 0 is of none
abbrev pub escaped : ℕ → ℕ
escaped b = if b == 97 then 38 else if b == 115 then 37 else if b == 99 then 58 else 0

abbrev pub plain : ℕ → ℕ
plain b = if b == 37 then 47 else b

-- the text, where the last byte was an & or wasn't
abbrev pub read_on : Bool → List ℕ → List ℕ
read_on true [] = 38 ∷ []
read_on false [] = []
read_on true (b ∷ bytes) = escaped b ∷ read_on false bytes
read_on false (b ∷ bytes) = if b == 38 then read_on true bytes else plain b ∷ read_on false bytes

abbrev pub text_of_file : List ℕ → List ℕ
text_of_file name = read_on false name

-- it reads back as a key, whose file name it is
abbrev pub is_file_of_key : List ℕ → Bool
is_file_of_key name = is_key (text_of_file name) && bytes_eq (file_name_of (text_of_file name)) name

-- ---- the mark before it

-- what stands before that place, and what after it; without a place all and nothing
abbrev pub front_at : Option ℕ → List ℕ → List ℕ
front_at None text = text
front_at (Some at) text = take at text

abbrev pub rest_at : Option ℕ → List ℕ → List ℕ
rest_at None text = []
rest_at (Some at) text = drop (at + 1) text

-- what stands before the first of these bytes, and what after it
abbrev pub before : ℕ → List ℕ → List ℕ
before byte text = front_at (position (λ b. b == byte) text) text

abbrev pub after : ℕ → List ℕ → List ℕ
after byte text = rest_at (position (λ b. b == byte) text) text

-- a number of 1 to 4
abbrev pub is_seat : List ℕ → Bool
is_seat digits = is_numeral digits && nat_le 1 (value_of digits) && nat_le (value_of digits) 4

-- the number of a remote, and the file name of a key
abbrev pub is_seat_and_file : List ℕ → Bool
is_seat_and_file text = is_seat (before 45 text) && is_file_of_key (after 45 text)

abbrev pub is_time_and_more : List ℕ → Bool
is_time_and_more text = is_numeral (before 46 text) && is_seat_and_file (after 46 text)

-- process, time and number, parted by dots, a dash, and the file name of a key
abbrev pub is_left : List ℕ → Bool
is_left name = is_numeral (before 46 name) && is_time_and_more (after 46 name)
