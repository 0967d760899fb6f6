-- What a reply says of a note, and what noting makes.
use Rattle.std.specs.Prelude.{ℕ, ◌==◌, Bool, true, false}
use Rattle.journal_model.specs.declared.entry.What.{What}
use Rattle.journal_model.specs.declared.entry.What.TheVariants.{Note}
use Rattle.host_core.specs.declared.event.Reply.{Reply}
use Rattle.host_core.specs.declared.event.Reply.TheVariants.{Done}

abbrev pub is_done : Reply → Bool
is_done Done = true
is_done reply = false

-- a note of the task
abbrev pub by_noting : ℕ → What → Bool
by_noting t (Note task chunk count) = task == t
by_noting t w = false
