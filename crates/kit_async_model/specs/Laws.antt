-- What holds of every legal journal.
use Rattle.std.specs.Prelude.{ℕ, ◌≡◌, ◌≤◌, All, drop, length, Bool, true, false, List, [], ◌++◌}
use Rattle.std.specs.List.{list_any}
use Rattle.kit_async_model.specs.declared.setup.Setup.{Setup}
use Rattle.kit_async_model.specs.declared.entry.Entry.{Entry}
use Rattle.kit_async_model.specs.declared.entry.Entry.TheVariants.{Heard, Say}
use Rattle.kit_async_model.specs.declared.event.Event.{Event}
use Rattle.kit_async_model.specs.Events.{IsMadeBy, step_of}
use Rattle.kit_async_model.specs.Legality.{is_legal, Legal, IsFinished}
use Rattle.kit_async_model.specs.Lines.{count_wrotes, said_lines}
use Rattle.kit_async_model.specs.Standings.{standing}

-- a line of the host or of the kit
abbrev pub is_spoken : Entry → Bool
is_spoken (Heard line) = true
is_spoken (Say job line) = true
is_spoken entry = false

-- the front of a legal journal is legal
abbrev pub FrontsAreLegal : Type 0
FrontsAreLegal = (setup : Setup) (past rest : List Entry) → is_legal setup (past ++ rest) ≡ true → is_legal setup past ≡ true

-- once a kit is over, and what is due is said, nothing more is heard or said
abbrev pub OverIsLast : Type 0
OverIsLast =
    (setup : Setup) (past rest : List Entry) → is_legal setup (past ++ rest) ≡ true
    → (standing setup past).over ≡ true → (standing setup past).due ≡ [] → list_any is_spoken rest ≡ false

-- once nothing more can come and all is written, it stays so, and nothing more is heard or said
abbrev pub FinishedStays : Type 0
FinishedStays =
    (setup : Setup) (past rest : List Entry) → is_legal setup (past ++ rest) ≡ true
    → IsFinished setup (standing setup past) → (standing setup past).due ≡ []
    → IsFinished setup (standing setup (past ++ rest)) × (list_any is_spoken rest ≡ false)

-- each step of a core leaves its journal legal
abbrev pub StepsAreLegal : Type 0
StepsAreLegal =
    (setup : Setup) (past : List Entry) (by : ℕ) (event : Event) → Legal setup past → Legal setup (past ++ (step_of setup past by event).group)

-- and makes what its number may make
abbrev pub StepsAreMade : Type 0
StepsAreMade = (setup : Setup) (past : List Entry) (by : ℕ) (event : Event) → All (IsMadeBy by) (step_of setup past by event).group

-- what is not written yet is what was said after the lines that are, and no more are written than were said
abbrev pub UnwrittenAre : Type 0
UnwrittenAre =
    (setup : Setup) (journal : List Entry) → is_legal setup journal ≡ true
    → ((standing setup journal).unwritten ≡ drop (count_wrotes journal) (said_lines journal)) × (count_wrotes journal ≤ length (said_lines journal))
