-- What each step of a scan from the left answers, from the place where it begins.
use Rattle.std.specs.Prelude.{ℕ, ◌≡◌, ◌≤◌, ◌+◌, ◌==◌, not, nat_lt, true, false, List, drop, length, Option, Some, Result, Ok, Err, ◌⊎◌, if◌then◌else◌}
use Rattle.std.specs.List.{prefix_len}
use Rattle.ann_key.specs.Keys.{is_backend_byte, is_name, begins, number_at, field_at, chunk_at}
use Rattle.ann_key.specs.KeyErrors.{first_is, is_number_of, IsError}
use Rattle.ann_key.specs.declared.error.KeyError.{KeyError}
use Rattle.ann_key.specs.declared.error.KeyError.TheVariants.{Field, Number, Name}

abbrev pub BackendScan : List ℕ → Result ℕ KeyError → Type 0
BackendScan bytes (Ok end) =
    (end ≡ prefix_len is_backend_byte bytes) × (nat_lt 0 end ≡ true) × (end ≤ length bytes) × (first_is (λ b. b == 45) (drop end bytes) ≡ true)
BackendScan bytes (Err e) = IsError bytes e

abbrev pub NumberScan : List ℕ → ℕ → ℕ → Result (ℕ × ℕ) KeyError → Type 0
NumberScan bytes at letter (Ok p) =
    (number_at (drop at bytes) ≡ Some (p.0, drop p.1 bytes)) × (is_number_of letter (drop at bytes) ≡ true) × (p.1 ≤ length bytes)
NumberScan bytes at letter (Err e) = (is_number_of letter (drop at bytes) ≡ false) × (e ≡ Number at)

abbrev pub FieldScan : List ℕ → ℕ → ℕ → Result (Option ℕ × ℕ) KeyError → Type 0
FieldScan bytes at letter (Ok p) = (field_at letter (drop at bytes) ≡ Some (p.0, drop p.1 bytes)) × (p.1 ≤ length bytes)
FieldScan bytes at letter (Err e) =
    (begins 45 letter (drop at bytes) ≡ true) × (is_number_of letter (drop (at + 2) bytes) ≡ false) × (e ≡ Number (at + 2))

-- the place of the byte that isn't a dash, or isn't one that may follow it
abbrev pub stop_place : List ℕ → ℕ → ℕ
stop_place bytes at = if first_is (λ b. b == 45) (drop at bytes) then at + 1 else at

abbrev pub ChunkNumberScan : List ℕ → ℕ → Result (ℕ × ℕ) KeyError → Type 0
ChunkNumberScan bytes at (Ok p) =
    (begins 45 67 (drop at bytes) ≡ true) × (number_at (drop (at + 2) bytes) ≡ Some (p.0, drop p.1 bytes))
    × (is_number_of 67 (drop (at + 2) bytes) ≡ true) × (p.1 ≤ length bytes)
ChunkNumberScan bytes at (Err e) =
    ((begins 45 67 (drop at bytes) ≡ false) × (e ≡ Field (stop_place bytes at)))
    ⊎ ((begins 45 67 (drop at bytes) ≡ true) × (is_number_of 67 (drop (at + 2) bytes) ≡ false) × (e ≡ Number (at + 2)))

abbrev pub ChunkScan : List ℕ → ℕ → Result (Option (ℕ × ℕ) × ℕ) KeyError → Type 0
ChunkScan bytes at (Ok p) = (chunk_at (drop at bytes) ≡ Some (p.0, drop p.1 bytes)) × (p.1 ≤ length bytes)
ChunkScan bytes at (Err e) =
    (begins 45 83 (drop at bytes) ≡ true)
    × (((is_number_of 83 (drop (at + 2) bytes) ≡ false) × (e ≡ Number (at + 2)))
    ⊎ ((size : ℕ) × (end : ℕ) × NumberScan bytes (at + 2) 83 (Ok (size, end)) × ChunkNumberScan bytes end (Err e)))

abbrev pub NameStop : List ℕ → ℕ → KeyError → Type 0
NameStop bytes at e =
    ((begins 45 45 (drop at bytes) ≡ false) × (e ≡ Field (stop_place bytes at)))
    ⊎ ((begins 45 45 (drop at bytes) ≡ true) × (is_name (drop (at + 2) bytes) ≡ false)
    × (e ≡ Name (at + 2 + prefix_len (λ b. not (b == 10)) (drop (at + 2) bytes))))
