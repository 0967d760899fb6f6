-- What follows from the lines that count, and from the text of lines.
use Rattle.std.specs.Prelude.{ℕ, ◌≡◌, ◌-◌, ◌%◌, ◌^◌, ◌<◌, List, [], ◌∷◌, ◌++◌}
use Rattle.task_text.specs.ChunkLog.ChunkLines.{line_text, IsChunkLine, IsWritable}
use Rattle.task_text.specs.ChunkLog.Current.{layouts_of, IsCurrent}
use Rattle.task_text.specs.ChunkLog.NoteBooks.{counting}
use Rattle.task_text.specs.declared.chunk_log.line.ChunkLine.{ChunkLine}
use Rattle.task_text.specs.declared.chunk_log.note.Note.{Note}
use Rattle.task_text.specs.declared.chunk_log.stamp.Stamp.{Stamp}

-- where a book counts as a list of notes does, it still does with one note more on both sides
abbrev pub CountingGoesOn : Type 0
CountingGoesOn =
    (book all : List Note) (note : Note) (key uuid : List ℕ) (chunk : ℕ) → counting book key uuid chunk ≡ counting all key uuid chunk
    → counting (book ++ note ∷ []) key uuid chunk ≡ counting (all ++ note ∷ []) key uuid chunk

-- the layouts of a key at a remote are those of the notes that say so, in order
abbrev pub LayoutsAreCurrent : Type 0
LayoutsAreCurrent = (notes : List Note) (key uuid : List ℕ) → IsCurrent notes key uuid (layouts_of notes key uuid)

-- a stamp as it is read back: what is less than a millionth of a second is gone
abbrev pub cut : Stamp → Stamp
cut stamp = record { seconds = stamp.seconds; nanos = stamp.nanos - stamp.nanos % 1000 }

-- what was written is read as the same line, with its stamp cut
abbrev pub ReadsBack : Type 0
ReadsBack =
    (line : ChunkLine) → IsWritable line → line.stamp.seconds < 2 ^ 64 → line.chunk < 2 ^ 64 → line.count < 2 ^ 64
    → IsChunkLine (line_text line) (record { stamp = cut line.stamp; uuid = line.uuid; chunk = line.chunk; count = line.count })
