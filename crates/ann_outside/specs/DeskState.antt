-- What a desk in memory has, and what its calls count.
use Rattle.std.specs.Prelude.{◌≡◌, ◌⊎◌, Result, Ok, Err, true, false}
use Rattle.ann_outside.specs.DeskCauses.{Counts}
use Rattle.ann_outside.specs.Fails.{IsCall, fails_next}
use Rattle.ann_outside.specs.declared.file_desk.DeskError.{DeskError}
use Rattle.ann_outside.specs.declared.file_desk.DeskError.TheVariants.{Failed, Missing, NoMemory}
use Rattle.ann_outside.specs.declared.mem.fails.Fails.{Fails}
use Rattle.ann_outside.specs.declared.mem.state.DeskState.{DeskState}

abbrev pub state_counts : DeskState → Counts
state_counts d = record { faults = d.fails.faults; missing = d.missing }

-- a call fails exactly where it is listed; without memory no call was made
abbrev pub IsCounted : {T : Type 0} → Fails → Fails → Result T DeskError → Type 0
IsCounted old new (Ok x) = (fails_next old ≡ false) × IsCall old new false
IsCounted old new (Err Failed) = (fails_next old ≡ true) × IsCall old new true
IsCounted old new (Err Missing) = (fails_next old ≡ false) × IsCall old new false
IsCounted old new (Err NoMemory) = new ≡ old

-- A call fails where it is listed, or for this cause, and in no other case. Without memory no call was made.
abbrev pub IsCountedOr : {T : Type 0} → Type 0 → Fails → Fails → Result T DeskError → Type 0
IsCountedOr Cause old new (Ok x) = (fails_next old ≡ false) × ¬ Cause × IsCall old new false
IsCountedOr Cause old new (Err Failed) = ((fails_next old ≡ true) ⊎ Cause) × IsCall old new true
IsCountedOr Cause old new (Err Missing) = ⊥
IsCountedOr Cause old new (Err NoMemory) = new ≡ old

-- all but the log is as before
pub record SameButLog (old new : DeskState) : Type 0 where
  pub files : new.files ≡ old.files
  pub fails : new.fails ≡ old.fails
  pub missing : new.missing ≡ old.missing

-- all but the files is as before
pub record SameButFiles (old new : DeskState) : Type 0 where
  pub log : new.log ≡ old.log
  pub fails : new.fails ≡ old.fails
  pub missing : new.missing ≡ old.missing

-- all but the counts is as before
pub record SameButCounts (old new : DeskState) : Type 0 where
  pub files : new.files ≡ old.files
  pub log : new.log ≡ old.log

-- only the log's room may have changed
pub record SameButRoom (old new : DeskState) : Type 0 where
  pub files : new.files ≡ old.files
  pub log : new.log.items ≡ old.log.items
  pub fails : new.fails ≡ old.fails
  pub missing : new.missing ≡ old.missing
