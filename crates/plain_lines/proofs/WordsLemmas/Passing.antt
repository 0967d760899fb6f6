-- A line that isn't one of the named ones passes.
use Rattle.std.proofs.Common.{◌≡◌, ℕ, Bool, true, false, cond, ◌&&◌, List, Option, Some, None, refl}

pub remote_passes : (dropped version loose : Bool) (other shorter line : List ℕ) → dropped ≡ false → version ≡ false → loose ≡ false
    → cond dropped None (Some (cond version other (cond loose shorter line))) ≡ Some line
remote_passes dropped version loose other shorter line d v l = rw (d, v, l) refl

pub host_passes : (names offers folder value slash : Bool) (shorter longer line : List ℕ) → names ≡ false → value ≡ false
    → cond (names && offers) shorter (cond (folder && value && slash) longer line) ≡ line
host_passes names offers true value slash shorter longer line n v = rw (n, v) refl
host_passes names offers false value slash shorter longer line n v = rw n refl
