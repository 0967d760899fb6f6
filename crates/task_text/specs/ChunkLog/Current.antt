-- Which layouts a remote has of a key.
use Rattle.std.specs.Prelude.{ℕ, ◌≡◌, ◌==◌, ◌&&◌, ◌||◌, not, nat_lt, bytes_eq, Bool, List, [], filter, fold, insert, map}
use Rattle.std.specs.List.{position_or_len}
use Rattle.std.specs.List.Sorted.{IsPermutation, IsSortedBy}
use Rattle.task_text.specs.declared.chunk_log.note.Note.{Note}
use Rattle.task_text.specs.declared.chunk_log.standing.Standing.{Standing}

-- whether a note is of a key at a remote
abbrev pub is_at : List ℕ → List ℕ → Note → Bool
is_at key uuid note = bytes_eq note.key key && bytes_eq note.line.uuid uuid

-- whether a note says that a remote has chunks of a key
abbrev pub is_current : List ℕ → List ℕ → Note → Bool
is_current key uuid note = is_at key uuid note && not (note.line.count == 0)

-- where the notes of a key at a remote begin: none of them stands before this place
abbrev pub first_place : List ℕ → List ℕ → Note
first_place key uuid = record { key = key; line = record { stamp = record { seconds = 0; nanos = 0 }; uuid = uuid; chunk = 0; count = 0 } }

abbrev pub standing_of : Note → Standing
standing_of note = record { stamp = note.line.stamp; chunk = note.line.chunk; count = note.line.count }

-- what stands of a key at a remote
abbrev pub standings_of : List Note → List ℕ → List ℕ → List Standing
standings_of notes key uuid = map standing_of (filter (is_current key uuid) notes)

-- the newer first, then the larger chunks first
abbrev pub stands_before : Standing → Standing → Bool
stands_before a b =
    nat_lt b.stamp.seconds a.stamp.seconds
    || (a.stamp.seconds == b.stamp.seconds && nat_lt b.stamp.nanos a.stamp.nanos)
    || (a.stamp.seconds == b.stamp.seconds && a.stamp.nanos == b.stamp.nanos && nat_lt b.chunk a.chunk)

-- one more, in front of the first that it stands before
abbrev pub ranked : Standing → List Standing → List Standing
ranked s others = insert others (position_or_len (stands_before s) others) s

-- more of them, each put in its place among those before it
abbrev pub ranked_all : List Standing → List Standing → List Standing
ranked_all standing others = fold (λ others s. ranked s others) others standing

abbrev pub in_rank : List Standing → List Standing
in_rank standing = ranked_all standing []

abbrev pub layout_of : Standing → ℕ × ℕ
layout_of s = (s.chunk, s.count)

-- the layouts of a key at a remote: the newest first, then the larger chunks first
unfoldable pub layouts_of : List Note → List ℕ → List ℕ → List (ℕ × ℕ)
layouts_of notes key uuid = map layout_of (in_rank (standings_of notes key uuid))

-- the layouts are those of the notes that say so, and of no others, in this order
pub record IsCurrent (notes : List Note) (key uuid : List ℕ) (layouts : List (ℕ × ℕ)) : Type 0 where
  pub standing : List Standing
  pub those : IsPermutation (standings_of notes key uuid) standing
  pub order : IsSortedBy stands_before standing
  pub pairs : layouts ≡ map layout_of standing
