-- How far the lines that were written to a child are counted, so that the next one needn't be looked for from the start.
use Rattle.std.specs.Prelude.{◌≡◌, ◌≤◌, List, filter, length, take}
use Rattle.std.specs.List.{All}
use Rattle.journal_model.specs.declared.entry.Entry.{Entry}
use Rattle.journal_scan.specs.Looks.{is_written}
use Rattle.journal_look.specs.declared.cursors.Cursor.{Cursor}

-- so many of the first entries write to the child
pub record IsAt (past : List Entry) (x : Cursor) : Type 0 where
  pub within : x.from ≤ length past
  pub count : length (filter (λ e. is_written x.child e.what) (take x.from past)) ≡ x.passed

abbrev pub AreAt : List Entry → List Cursor → Type 0
AreAt past cursors = All (IsAt past) cursors
