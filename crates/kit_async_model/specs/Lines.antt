-- The lines of a journal.
use Rattle.std.specs.Prelude.{ℕ, ◌+◌, Bool, true, false, if◌then◌else◌, List, [], ◌∷◌, filter_map, Option, Some, None}
use Rattle.kit_async_model.specs.declared.entry.Entry.{Entry}
use Rattle.kit_async_model.specs.declared.entry.Entry.TheVariants.{Heard, Say, Wrote}
use Rattle.kit_async_model.specs.declared.event.Event.{Event}
use Rattle.kit_async_model.specs.declared.event.Event.TheVariants.{Hear}
use Rattle.kit_async_model.specs.declared.event.Reply.{Reply}
use Rattle.kit_async_model.specs.declared.event.Reply.TheVariants.{Done, Last}

-- ---- the host's lines

abbrev pub heard_line : Entry → Option (List ℕ)
heard_line (Heard line) = Some line
heard_line entry = None

-- the lines that were heard
abbrev pub heard_lines : List Entry → List (List ℕ)
heard_lines journal = filter_map heard_line journal

-- the line that an event tells and the core took, if it did
abbrev pub hears : Event → Reply → List (List ℕ)
hears (Hear line) Done = line ∷ []
hears (Hear line) Last = line ∷ []
hears event reply = []

-- ---- the kit's lines

abbrev pub said_line : Entry → Option (List ℕ)
said_line (Say job line) = Some line
said_line entry = None

-- the lines that were said, of which the first so many are written
abbrev pub said_lines : List Entry → List (List ℕ)
said_lines journal = filter_map said_line journal

abbrev pub is_wrote : Entry → Bool
is_wrote Wrote = true
is_wrote entry = false

abbrev pub count_wrotes : List Entry → ℕ
count_wrotes [] = 0
count_wrotes (entry ∷ rest) = if is_wrote entry then count_wrotes rest + 1 else count_wrotes rest
