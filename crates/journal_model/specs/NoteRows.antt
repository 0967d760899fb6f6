-- Worked journals with notes of chunks.
use Rattle.std.specs.Prelude.{ℕ, List, [], ◌∷◌, ◌++◌, codes}
use Rattle.task_text.specs.declared.task.Work.{Work}
use Rattle.task_text.specs.declared.chunk_log.line.ChunkLine.{ChunkLine}
use Rattle.journal_model.specs.declared.verdict.Verdict.TheVariants.{Done}
use Rattle.journal_model.specs.declared.answer.Answer.TheVariants.{Stored}
use Rattle.journal_model.specs.declared.entry.What.TheVariants.{Claim, Ask, Sent, Got, Verdict as Settled, Answer as Answered, Note as Noted}
use Rattle.journal_model.specs.declared.entry.Entry.{Entry}
use Rattle.journal_model.specs.declared.opening.Opening.{Opening}
use Rattle.journal_model.specs.Notes.{stamp_of}
use Rattle.journal_model.specs.Rows.{by_main, greeting, opening_of}

abbrev pub content : List ℕ
content = codes "WORM-s150--a"

abbrev pub remote : List ℕ
remote = codes "00000000-0000-0000-0000-000000000000"

-- one task, of that work
abbrev pub to_do : Work → Opening
to_do work = opening_of (record { work = work; key = content; file = codes "f"; name = []; onto = [] } ∷ [])

abbrev pub line_of : ℕ → ℕ → ℕ → ChunkLine
line_of micros chunk count = record { stamp = stamp_of micros; uuid = remote; chunk = chunk; count = count }

-- the same, where the run began with a note of two chunks of 100 bytes
abbrev pub known_since : ℕ → Work → Opening
known_since micros work = record {
  tasks = (to_do work).tasks;
  registers = (to_do work).registers;
  notes = record { key = content; line = line_of micros 100 2 } ∷ [];
  identity = (to_do work).identity;
  stamp = (to_do work).stamp;
  again = (to_do work).again;
}

abbrev pub claimed : List Entry
claimed = greeting ++ by_main (Claim 1 1) ∷ []

-- a chunk is being stored, and was stored
abbrev pub storing : List Entry
storing = claimed ++ by_main (Ask 1 2 1 (codes "TRANSFER STORE WORM-s150-S100-C2--a f")) ∷ by_main (Sent 1) ∷ []

abbrev pub stored : List Entry
stored = storing ++ by_main (Got 1 (codes "TRANSFER-SUCCESS STORE WORM-s150-S100-C2--a")) ∷ by_main (Settled 1 2 (Done 13)) ∷ []

-- so many chunks of 100 bytes are noted
abbrev pub noting : ℕ → List Entry
noting count = stored ++ by_main (Noted 1 100 count) ∷ []

abbrev pub noted_and_answered : List Entry
noted_and_answered = noting 2 ++ by_main (Answered 1 Stored) ∷ []
