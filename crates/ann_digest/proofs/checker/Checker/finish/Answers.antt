use Rattle.std.proofs.Common.{List, ℕ, refl}
use Rattle.ann_key.specs.Keys.{Parts}
use Rattle.ann_key.specs.KeyRefs.{parts_of}
use Rattle.ann_digest.specs.Checkers.{Holds}
use Rattle.ann_digest.specs.Fits.{HasSize, IsSaidOf, IsTold}
use Rattle.ann_digest.proofs.Fitting.{said_of_hash, fits_exactly}
use Rattle.ann_digest.proofs.checker.Checker.finish.Goals as goal

pub returns-in-Some : goal.returns-in-Some
returns-in-Some c =
    let size : HasSize (parts_of c.args.self.key).size c.args.self.taken = rw c.size.ensures at (c.if-not-is_size.ensures.0 refl) in
    let told : IsTold c.args.self.extended (parts_of c.args.self.key).name c.finish.result c.fit_of.result = rw c.name.ensures at c.fit_of.ensures in
    let said : (key : Parts) (bytes : List ℕ) → Holds c.args.self key bytes → IsSaidOf key bytes c.fit_of.result =
    λ key bytes holds. said_of_hash c.args.self c.in-Some.hasher key bytes c.finish.result c.fit_of.result holds c.in-Some.is size c.finish.ensures told in
    record { said = said; fits = λ key bytes holds. fits_exactly key bytes c.fit_of.result (said key bytes holds) }
