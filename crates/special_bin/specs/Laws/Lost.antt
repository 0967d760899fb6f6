-- A recovery of a text that isn't there.
use Rattle.std.specs.Prelude.{ℕ, List, [], ◌∷◌, Some, None, codes}
use Rattle.ann_outside.specs.Desks.{Made}
use Rattle.ann_outside.specs.Told.{DeskTold}
use Rattle.audit_command.specs.Recoveries.{RecoverNames}
use Rattle.child_life.specs.End.Outsides.{OutsideValue}
use Rattle.run_and_check.specs.Run.Inputs.{InputFlow}
use Rattle.special_cli.specs.Calls.{IsRecoveryCalled}
use Rattle.special_cli.specs.Left.{Left}
use Rattle.special_cli.specs.Tells.{Flow}

abbrev pub lost_names : RecoverNames
lost_names = record { journal = codes "j"; keep = None }

abbrev pub nothing_read : InputFlow
nothing_read = record { given = Some []; given' = Some []; left = Some []; left' = Some []; faults = 0; faults' = 0 }

-- this was written to it
abbrev pub took : List ℕ → Flow
took text = record { faults = 0; faults' = 0; taken = Some []; taken' = Some text }

-- nothing was started, and these desks were made
abbrev pub having_made : List Made → OutsideValue
having_made made = record { programs = record { faults = 0; starts = Some [] }; made = Some made }

-- a desk without files, which missed so many
abbrev pub empty_desk : ℕ → DeskTold
empty_desk missing = record { counts = record { faults = 0; missing = missing }; files = Some []; log = None }

-- the second desk missed the text
abbrev pub lost_left : Left
lost_left = record {
  outside = having_made (record { number = 0; files = Some [] } ∷ record { number = 1; files = Some [] } ∷ []);
  journal = [];
  answers = [];
  wires = [];
  tables = empty_desk 0 ∷ empty_desk 1 ∷ [];
}

-- it ends with this status, and says this on standard error
abbrev pub IsLost : ℕ → List ℕ → Type 0
IsLost status said = IsRecoveryCalled lost_names (having_made []) nothing_read status (took []) (took said) lost_left
