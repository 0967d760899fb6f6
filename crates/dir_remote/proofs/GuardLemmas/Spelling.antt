-- A relative directory that the place spelled.
use Rattle.std.proofs.Common.{◌≡◌, ℕ, List, Bool, true, subst, inr}
use Rattle.std.specs.Prelude.{Some, Result}
use Rattle.ann_key.specs.declared.bytes.NoMemory.{NoMemory as WithoutMemory}
use Rattle.kit_serve.specs.declared.kit.call.Said.{Said}
use Rattle.dir_remote.specs.Guard.Guards.{GuardTold, SetsUpKept, SetsUpRelative, is_kept, spelled_by}

pub spelled_kept : (sweeps : Bool) (value path : List ℕ) (old mid new : GuardTold) (result : Result Said WithoutMemory)
    → is_kept path ≡ true → mid ≡ spelled_by value (Some path) old → SetsUpKept sweeps path mid new result → SetsUpRelative sweeps value old new result
spelled_kept sweeps value path old mid new result kept is s = inr (Some path, rw kept (subst (λ (t : GuardTold). SetsUpKept sweeps path t new result) is s))
