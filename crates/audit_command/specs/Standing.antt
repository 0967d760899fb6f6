-- How lines stand that are read one by one.
use Rattle.std.specs.Prelude.{ℕ, ◌≡◌, false, List, Option, Some, None}
use Rattle.journal_reader.specs.Readings.{Reading, start}
use Rattle.journal_reader.specs.Runs.{Reads}
use Rattle.audit_command.specs.Inputs.{IsRefused}
use Rattle.audit_command.specs.declared.lines.Lines.{Lines}

-- each line was taken, and the rest of the input is held; or one of the lines is refused
abbrev pub StandsBy : List (List ℕ) → List ℕ → Reading → List ℕ → Option ℕ → Type 0
StandsBy lines rest reader held None = Reads start lines reader × (held ≡ rest)
StandsBy lines rest reader held (Some number) = IsRefused lines false number

-- so they stand in what is kept of them
abbrev pub Stands : List (List ℕ) → List ℕ → Lines → Type 0
Stands lines rest k = StandsBy lines rest k.reader k.held.items k.bad
