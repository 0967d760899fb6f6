-- What the calls read, wrote and found of a file, and what it holds after them.
use Rattle.std.specs.Prelude.{ℕ, ◌+◌, ◌-◌, ◌==◌, ◌&&◌, ◌||◌, nat_le, nat_lt, Bool, true, false, if◌then◌else◌, List, [], ◌∷◌, length, take, drop, map, filter, unwrap_or, option_map, ◌++◌, Option, Some, None, Result, Ok, Err, bytes_eq}
use Rattle.std.specs.List.{filter_map, concat}
use Rattle.ann_outside.specs.declared.file_desk.DeskError.{DeskError}
use Rattle.ann_outside.specs.declared.file_desk.DeskError.TheVariants.{Failed, Missing, NoMemory}
use Rattle.ann_outside.specs.declared.file_desk.Call.{Call}
use Rattle.ann_outside.specs.declared.file_desk.Call.TheVariants.{Size, ReadAt, Create, Append, Cut, Rename, Remove}

-- ---- lengths found

-- the length that the call found of the file; of one that may be missing, 0 where it is
abbrev pub length_found : List ℕ → Call → Option ℕ
length_found name (Size other answer) = if bytes_eq other name then of_answer answer else None
  where
    of_answer : Result ℕ DeskError → Option ℕ
    of_answer (Ok n) = Some n
    of_answer (Err e) = None
length_found name _ = None

abbrev pub length_or_none : List ℕ → Call → Option ℕ
length_or_none name (Size other answer) = if bytes_eq other name then of_answer answer else None
  where
    of_answer : Result ℕ DeskError → Option ℕ
    of_answer (Ok n) = Some n
    of_answer (Err Missing) = Some 0
    of_answer (Err Failed) = None
    of_answer (Err NoMemory) = None
length_or_none name _ = None

abbrev pub lengths_found : List ℕ → List Call → List ℕ
lengths_found name calls = filter_map (length_found name) calls

-- ---- bytes read

-- where the file was read from, and the bytes that came
abbrev pub read_of : List ℕ → Call → Option (ℕ × List ℕ)
read_of name (ReadAt other from answer) = if bytes_eq other name then of_answer answer else None
  where
    of_answer : Result (List ℕ) DeskError → Option (ℕ × List ℕ)
    of_answer (Ok bytes) = Some (from, bytes)
    of_answer (Err e) = None
read_of name _ = None

abbrev pub reads_of : List ℕ → List Call → List (ℕ × List ℕ)
reads_of name calls = filter_map (read_of name) calls

-- those from a place before `to`, and not before `from`
abbrev pub reads_between : List ℕ → ℕ → ℕ → List Call → List (ℕ × List ℕ)
reads_between name from to calls = filter (λ (r : ℕ × List ℕ). nat_le from r.0 && nat_lt r.0 to) (reads_of name calls)

abbrev pub bytes_of : List (ℕ × List ℕ) → List ℕ
bytes_of reads = concat (map (λ (r : ℕ × List ℕ). r.1) reads)

-- each read goes on where the one before it ended
abbrev pub is_run : ℕ → List (ℕ × List ℕ) → Bool
is_run at [] = true
is_run at (r ∷ more) = r.0 == at && is_run (at + length r.1) more

-- the last of them came to the file's end
abbrev pub is_at_end : List (ℕ × List ℕ) → Bool
is_at_end [] = false
is_at_end (r ∷ []) = length r.1 == 0
is_at_end (r ∷ next ∷ more) = is_at_end (next ∷ more)

-- they go on from one place, each from where the one before it ended, to another place or to the file's end
abbrev pub is_reading : ℕ → ℕ → List (ℕ × List ℕ) → Bool
is_reading from to reads = is_run from reads && (length (bytes_of reads) == to - from || is_at_end reads)

-- ---- bytes written

abbrev pub piece_of : List ℕ → Call → Option (List ℕ)
piece_of name (Append other piece answer) = if bytes_eq other name then of_answer answer else None
  where
    of_answer : Result (Unit {0}) DeskError → Option (List ℕ)
    of_answer (Ok done) = Some piece
    of_answer (Err e) = None
piece_of name _ = None

-- all that was appended to the file
abbrev pub appended : List ℕ → List Call → List ℕ
appended name calls = concat (filter_map (piece_of name) calls)

-- ---- what a file holds

-- What a file holds after the call, where it is known what it held before. A file that is made anew holds nothing; of one that another
-- is renamed to, it isn't known. One that is removed or renamed is told as it was.
abbrev pub held_after : List ℕ → Option (List ℕ) → Call → Option (List ℕ)
held_after name held (Create other (Ok done)) = if bytes_eq other name then Some [] else held
held_after name held (Append other piece (Ok done)) = if bytes_eq other name then option_map (λ (bytes : List ℕ). bytes ++ piece) held else held
held_after name held (Cut other size (Ok done)) = if bytes_eq other name then option_map (take size) held else held
held_after name held (Rename from to (Ok done)) = if bytes_eq to name then None else held
held_after name held call = held

abbrev pub holds : List ℕ → Option (List ℕ) → List Call → Option (List ℕ)
holds name held [] = held
holds name held (call ∷ more) = holds name (held_after name held call) more

-- the read brought bytes of this content from its place on, and none only at its end
abbrev pub is_read_of : List ℕ → ℕ × List ℕ → Bool
is_read_of content read = bytes_eq read.1 (take (length read.1) (drop read.0 content)) && (nat_lt 0 (length read.1) || nat_le (length content) read.0)

-- what the call found of the file is so, where the file held this
abbrev pub is_found_so : List ℕ → Option (List ℕ) → Call → Bool
is_found_so name None call = true
is_found_so name (Some held) call = unwrap_or (option_map (λ n. n == length held) (length_found name call)) true && unwrap_or (option_map (is_read_of held) (read_of name call)) true

-- so is all that the calls found of it, in turn
abbrev pub are_found_so : List ℕ → Option (List ℕ) → List Call → Bool
are_found_so name held [] = true
are_found_so name held (call ∷ more) = is_found_so name held call && are_found_so name (held_after name held call) more

-- ---- whether a file is there

-- a size or a create found or made the file; a removal or a renaming takes it away
abbrev pub known_by : List ℕ → Call → Option Bool
known_by name (Size other (Ok n)) = if bytes_eq other name then Some true else None
known_by name (Create other (Ok done)) = if bytes_eq other name then Some true else None
known_by name (Remove other (Ok done)) = if bytes_eq other name then Some false else None
known_by name (Rename from to (Ok done)) = if bytes_eq from name then Some false else None
known_by name _ = None

abbrev pub last_is_true : List Bool → Bool
last_is_true [] = false
last_is_true (b ∷ []) = b
last_is_true (b ∷ c ∷ more) = last_is_true (c ∷ more)

abbrev pub is_known : List ℕ → List Call → Bool
is_known name calls = last_is_true (filter_map (known_by name) calls)

-- the call took the file away, or found that it wasn't there
abbrev pub takes_away : List ℕ → Call → Bool
takes_away name (Remove other (Ok done)) = bytes_eq other name
takes_away name (Remove other (Err Missing)) = bytes_eq other name
takes_away name _ = false

-- the call is of that file
abbrev pub is_call_of : List ℕ → Call → Bool
is_call_of name (Size other answer) = bytes_eq other name
is_call_of name (ReadAt other from answer) = bytes_eq other name
is_call_of name (Create other answer) = bytes_eq other name
is_call_of name (Append other piece answer) = bytes_eq other name
is_call_of name (Cut other size answer) = bytes_eq other name
is_call_of name (Rename from to answer) = bytes_eq from name || bytes_eq to name
is_call_of name (Remove other answer) = bytes_eq other name

-- the call renames the file
abbrev pub is_renaming : List ℕ → List ℕ → Call → Bool
is_renaming name other (Rename from to (Ok done)) = bytes_eq from name && bytes_eq to other
is_renaming name other _ = false

-- the last of the calls is one of these
abbrev pub is_last : (Call → Bool) → List Call → Bool
is_last test [] = false
is_last test (call ∷ []) = test call
is_last test (call ∷ next ∷ more) = is_last test (next ∷ more)

abbrev pub is_last_call_of : List ℕ → (Call → Bool) → List Call → Bool
is_last_call_of name test calls = is_last test (filter (is_call_of name) calls)

-- the last call of that file removed it, or found that it wasn't there
abbrev pub is_removed : List ℕ → List Call → Bool
is_removed name calls = is_last_call_of name (takes_away name) calls
