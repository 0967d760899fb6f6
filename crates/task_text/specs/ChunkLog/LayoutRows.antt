-- Worked layouts.
use Rattle.std.specs.Prelude.{ℕ, List, codes}
use Rattle.task_text.specs.ChunkLog.Current.{layouts_of}
use Rattle.task_text.specs.declared.chunk_log.note.Note.{Note}

abbrev pub key_a : List ℕ
key_a = codes "WORM--a"

abbrev pub remote_r : List ℕ
remote_r = codes "r"

-- so many chunks of that size, noted in that second
abbrev pub noted_in : ℕ → ℕ → ℕ → Note
noted_in seconds chunk count = record {
  key = key_a;
  line = record { stamp = record { seconds = seconds; nanos = 0 }; uuid = remote_r; chunk = chunk; count = count };
}

abbrev pub layouts_here : List Note → List (ℕ × ℕ)
layouts_here notes = layouts_of notes key_a remote_r
