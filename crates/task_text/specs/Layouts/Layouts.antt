-- How content is cut into chunks.
use Rattle.std.specs.Prelude.{ℕ, ◌-◌, ◌*◌, ◌==◌, ◌&&◌, nat_le, nat_lt, min, Bool, if◌then◌else◌, List, [], ◌∷◌, map, count_by}
use Rattle.std.specs.List.{range_with_len}
use Rattle.std.specs.Int.{div_ceil}
use Rattle.ann_key.specs.Keys.{Parts, with_chunk}

-- how many chunks there are: one where the content is empty, else its size by that of a chunk, rounded up
abbrev pub count_of : ℕ → ℕ → ℕ
count_of size chunk = if size == 0 then 1 else div_ceil size chunk

-- the first byte of a chunk
abbrev pub from_of : ℕ → ℕ → ℕ
from_of chunk number = (number - 1) * chunk

-- the first byte after it
abbrev pub to_of : ℕ → ℕ → ℕ → ℕ
to_of size chunk number = min (number * chunk) size

-- the bytes of the content from one place to another, and the key that they lie under
pub record Part : Type 0 where
  pub key : Parts
  pub from : ℕ
  pub to : ℕ

abbrev pub chunk_part : Parts → ℕ → ℕ → ℕ → Part
chunk_part key size chunk number =
    record { key = with_chunk chunk number key; from = from_of chunk number; to = to_of size chunk number }

-- the parts that content of a size lies in: itself where there are no chunks, else chunk 1, chunk 2 and so on
abbrev pub layout : Parts → ℕ → ℕ → List Part
layout key size chunk =
    if chunk == 0 then record { key = key; from = 0; to = size } ∷ []
    else map (chunk_part key size chunk) (range_with_len 1 (count_of size chunk))

-- whether a chunk isn't empty and lies whole in the first bytes
abbrev pub is_held : ℕ → ℕ → ℕ → ℕ → Bool
is_held size chunk part number = nat_lt (from_of chunk number) (to_of size chunk number) && nat_le (to_of size chunk number) part

-- how many chunks do
abbrev pub held_of : ℕ → ℕ → ℕ → ℕ
held_of size chunk part = count_by (is_held size chunk part) (range_with_len 1 (count_of size chunk))
