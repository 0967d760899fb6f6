-- When a line was written, as text.
use Rattle.std.specs.Prelude.{ℕ, ◌+◌, ◌-◌, ◌/◌, ◌%◌, ◌^◌, ◌==◌, ◌&&◌, nat_le, nat_lt, Bool, if◌then◌else◌, List, [], ◌∷◌, ◌++◌, length, take, drop, replicate, slice_index, Option, Some, None, codes, decimal}
use Rattle.std.specs.List.{list_all, before_first, position_or_len}
use Rattle.ann_key.specs.Numbers.{is_digit, value_of}
use Rattle.task_text.specs.declared.chunk_log.stamp.Stamp.{Stamp}

abbrev pub is_dot : ℕ → Bool
is_dot b = b == 46

-- one or more digits: whole seconds
abbrev pub seconds_in : List ℕ → Option ℕ
seconds_in digits =
    if nat_le 1 (length digits) && list_all is_digit digits && nat_lt (value_of digits) (2 ^ 64) then Some (value_of digits) else None

-- nothing, or a dot and one to nine digits: billionths of a second
abbrev pub nanos_in : List ℕ → Option ℕ
nanos_in [] = Some 0
nanos_in (dot ∷ digits) =
    if is_dot dot && nat_le 1 (length digits) && nat_le (length digits) 9 && list_all is_digit digits
    then Some (value_of (digits ++ replicate (9 - length digits) 48)) else None

abbrev pub stamp_from : Option ℕ → Option ℕ → Option Stamp
stamp_from (Some seconds) (Some nanos) = Some (record { seconds = seconds; nanos = nanos })
stamp_from seconds nanos = None

-- the stamp without its last letter
abbrev pub stamp_in_body : List ℕ → Option Stamp
stamp_in_body body = stamp_from (seconds_in (before_first is_dot body)) (nanos_in (drop (position_or_len is_dot body) body))

-- the stamp that a text spells: seconds, their fraction and the letter s
abbrev pub stamp_in : List ℕ → Option Stamp
stamp_in text =
    if nat_le 1 (length text) && slice_index text (length text - 1) == 115 then stamp_in_body (take (length text - 1) text) else None

abbrev pub digit : ℕ → ℕ
digit n = 48 + n % 10

-- six digits: millionths of a second
abbrev pub micros_text : ℕ → List ℕ
micros_text micros =
    digit (micros / 100000) ∷ digit (micros / 10000) ∷ digit (micros / 1000) ∷ digit (micros / 100) ∷ digit (micros / 10) ∷ digit micros ∷ []

-- a stamp as it is written: what is less than a millionth of a second is cut off
abbrev pub stamp_text : Stamp → List ℕ
stamp_text stamp = decimal stamp.seconds ++ codes "." ++ micros_text (stamp.nanos / 1000) ++ codes "s"
