-- The limits of a run.
use Rattle.std.specs.Prelude.{ℕ}

-- bytes of a child's line, without its end
abbrev pub longest_line : ℕ
longest_line = 65536

-- bytes that one read of a child's output takes
abbrev pub most_read : ℕ
most_read = 4096

-- tasks of a run
abbrev pub most_tasks : ℕ
most_tasks = 65536

-- how often a run may let a task be run again
abbrev pub most_again : ℕ
most_again = 8

-- a journal is full at so many entries
abbrev pub most_entries : ℕ
most_entries = 8000000

-- or at so many bytes in lines
abbrev pub most_line_bytes : ℕ
most_line_bytes = 1073741824
