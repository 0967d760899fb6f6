-- Which lines of a chunk log count.
use Rattle.std.specs.Prelude.{ℕ, ◌≡◌, ◌==◌, ◌&&◌, ◌||◌, not, nat_le, nat_lt, bytes_eq, Bool, true, false, if◌then◌else◌, List, [], ◌∷◌, filter, find, fold, Option, Some, None}
use Rattle.std.specs.List.{list_all, list_any}
use Rattle.std.specs.Ordering.{is_eq, is_lt, nat_cmp, on, then_cmp}
use Rattle.std.specs.declared.cmp.Ordering.{Ordering}
use Rattle.std.specs.declared.cmp.Ordering.TheVariants.{Less, Equal, Greater}
use Rattle.std.specs.Cmp.Lexicographic.{slice_cmp}
use Rattle.task_text.specs.ChunkLog.ChunkLines.{is_space, IsWritable}
use Rattle.task_text.specs.declared.chunk_log.line.ChunkLine.{ChunkLine}
use Rattle.task_text.specs.declared.chunk_log.note.Note.{Note}
use Rattle.task_text.specs.declared.chunk_log.stamp.Stamp.{Stamp}

-- whether a note is of that key, UUID and chunk size
abbrev pub is_of : List ℕ → List ℕ → ℕ → Note → Bool
is_of key uuid chunk note = bytes_eq note.key key && bytes_eq note.line.uuid uuid && note.line.chunk == chunk

-- whether a stamp is no later than another
abbrev pub is_no_later : Stamp → Stamp → Bool
is_no_later a b = nat_lt a.seconds b.seconds || (a.seconds == b.seconds && nat_le a.nanos b.nanos)

-- of a line and a later one of the same key, UUID and chunk size, the one that counts: the newer, at a tie the later one
abbrev pub newer : Option ChunkLine → Note → Option ChunkLine
newer None note = Some note.line
newer (Some line) note = if is_no_later line.stamp note.line.stamp then Some note.line else Some line

-- of all notes, in the order in which they came, the line that counts for a key, a UUID and a chunk size
abbrev pub counting : List Note → List ℕ → List ℕ → ℕ → Option ChunkLine
counting notes key uuid chunk = fold newer None (filter (is_of key uuid chunk) notes)

-- of each key, UUID and chunk size the same line counts in both
abbrev pub CountsAs : List Note → List Note → Type 0
CountsAs notes others = (key uuid : List ℕ) (chunk : ℕ) → counting notes key uuid chunk ≡ counting others key uuid chunk

-- by key text, then UUID, then chunk size
abbrev pub place_cmp : Note → Note → Ordering
place_cmp = then_cmp (then_cmp (on (λ n. n.key) (slice_cmp nat_cmp)) (on (λ n. n.line.uuid) (slice_cmp nat_cmp))) (on (λ n. n.line.chunk) nat_cmp)

abbrev pub is_before : Note → Note → Bool
is_before a b = is_lt (place_cmp a b)

-- each note stands before all that follow, so none has the place of another
abbrev pub in_order : List Note → Bool
in_order [] = true
in_order (note ∷ notes) = list_all (is_before note) notes && in_order notes

pub record IsNote (note : Note) : Type 0 where
  pub key : list_any is_space note.key ≡ true → ⊥
  pub line : IsWritable note.line

-- the notes with one more at its place, where it takes the place of one that doesn't count any more
abbrev pub placed : Note → Note → List Note → List Note → Ordering → List Note
placed note first rest behind Less = first ∷ behind
placed note first rest behind Equal = (if is_no_later first.line.stamp note.line.stamp then note else first) ∷ rest
placed note first rest behind Greater = note ∷ first ∷ rest

abbrev pub inserted : Note → List Note → List Note
inserted note [] = note ∷ []
inserted note (first ∷ rest) = placed note first rest (inserted note rest) (place_cmp first note)

-- whether the note that was found at the place of another is newer
abbrev pub is_newer : Note → Option Note → Bool
is_newer note None = false
is_newer note (Some there) = not (is_no_later there.line.stamp note.line.stamp)

abbrev pub is_outdated : Note → List Note → Bool
is_outdated note notes = is_newer note (find (λ there. is_eq (place_cmp note there)) notes)
