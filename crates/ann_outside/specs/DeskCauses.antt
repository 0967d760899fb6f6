-- What a desk's counts say of an answer.
use Rattle.std.specs.Prelude.{ℕ, ◌≡◌, ◌≤◌, Result, Err, OnOk}
use Rattle.ann_outside.specs.Causes.{Rose}
use Rattle.ann_outside.specs.declared.file_desk.DeskError.{DeskError}
use Rattle.ann_outside.specs.declared.file_desk.DeskError.TheVariants.{Failed, Missing, NoMemory}

-- a desk's two counts
pub record Counts : Type 0 where
  pub faults : ℕ
  pub missing : ℕ

-- No count has fallen, and Failed and Missing come only where theirs rose. Any other answer leaves both as they were.
pub record HasCauses {T : Type 0} (old new : Counts) (result : Result T DeskError) : Type 0 where
  pub faults_later : old.faults ≤ new.faults
  pub missing_later : old.missing ≤ new.missing
  pub failed : result ≡ Err Failed → Rose old.faults new.faults
  pub missing : result ≡ Err Missing → Rose old.missing new.missing
  pub done : OnOk result (new ≡ old)
  pub no_memory : result ≡ Err NoMemory → new ≡ old

-- Only the count of the answer rose: a missing file leaves the faults as they were, and a fault the missing files.
pub record LeavesOther {T : Type 0} (old new : Counts) (result : Result T DeskError) : Type 0 where
  pub failed : result ≡ Err Failed → new.missing ≡ old.missing
  pub missing : result ≡ Err Missing → new.faults ≡ old.faults
