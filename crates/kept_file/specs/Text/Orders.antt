-- Lines as they are written, and their order.
use Rattle.std.specs.Prelude.{ℕ, ◌==◌, ◌&&◌, not, Bool, true, false, List, Option, Some, None, bytes_eq, length}
use Rattle.std.specs.Ordering.{nat_cmp, ordering_then, is_lt}
use Rattle.std.specs.declared.cmp.Ordering.{Ordering}
use Rattle.std.specs.declared.cmp.Ordering.TheVariants.{Equal}
use Rattle.registers.specs.Tables.{by_bytes}
use Rattle.task_text.specs.ChunkLog.ChunkLines.{line_text}
use Rattle.task_text.specs.declared.chunk_log.line.ChunkLine.{ChunkLine}
use Rattle.kept_file.specs.Text.KeptLines.{KeptLine, Setting, Expression, State, Url, Chunks, kept_reading, chunk_in, line_of}

-- ---- a line as it is written

-- the chunk log line is written so
abbrev pub is_log_of : List ℕ → Option ChunkLine → Bool
is_log_of log None = false
is_log_of log (Some line) = bytes_eq (line_text line) log

-- an expression and a state aren't empty, and a chunk log line is in its written form
abbrev pub is_written : KeptLine → Bool
is_written (Setting name value) = true
is_written (Expression expression) = not (length expression == 0)
is_written (State key value) = not (length value == 0)
is_written (Url key url) = true
is_written (Chunks key log) = is_log_of log (chunk_in log)

abbrev pub is_written_as : List ℕ → Option KeptLine → Bool
is_written_as line None = false
is_written_as line (Some k) = is_written k && bytes_eq (line_of k) line

-- the line is one that is written: no space is left out, nothing that is empty and has no line, and no other spelling of a number
abbrev pub is_written_line : List ℕ → Bool
is_written_line line = is_written_as line (kept_reading line)

-- ---- the order in which lines are written

-- config lines, the wanted line, states, URLs, chunk lines
abbrev pub rank : KeptLine → ℕ
rank (Setting name value) = 0
rank (Expression expression) = 1
rank (State key value) = 2
rank (Url key url) = 3
rank (Chunks key log) = 4

abbrev pub logs_cmp : Option ChunkLine → Option ChunkLine → Ordering
logs_cmp (Some a) (Some b) = ordering_then (by_bytes a.uuid b.uuid) (nat_cmp a.chunk b.chunk)
logs_cmp a b = Equal

-- within a kind: by name, by key, by key and URL, and by key, UUID and chunk size
abbrev pub fields_cmp : KeptLine → KeptLine → Ordering
fields_cmp (Setting name value) (Setting name' value') = by_bytes name name'
fields_cmp (State key value) (State key' value') = by_bytes key key'
fields_cmp (Url key url) (Url key' url') = ordering_then (by_bytes key key') (by_bytes url url')
fields_cmp (Chunks key log) (Chunks key' log') = ordering_then (by_bytes key key') (logs_cmp (chunk_in log) (chunk_in log'))
fields_cmp a b = Equal

abbrev pub kept_cmp : KeptLine → KeptLine → Ordering
kept_cmp a b = ordering_then (nat_cmp (rank a) (rank b)) (fields_cmp a b)

abbrev pub come_in_order : Option KeptLine → Option KeptLine → Bool
come_in_order (Some a) (Some b) = is_lt (kept_cmp a b)
come_in_order a b = false

-- the first line is written before the second
abbrev pub comes_before : List ℕ → List ℕ → Bool
comes_before a b = come_in_order (kept_reading a) (kept_reading b)
