-- The passes with which a kit begins, the numbers of its workers, and its roles as they begin.
use Rattle.std.specs.Prelude.{ℕ, ◌≡◌, ◌+◌, List, [], ◌∷◌, None, All, map, reverse}
use Rattle.kit_serve.specs.Limits.{longest_line}
use Rattle.kit_async_core.specs.Halls.{KitHall, KitPass}
use Rattle.kit_async.specs.Work.Passes.{Stands}
use Rattle.kit_async.specs.declared.roles.Reader.{Reader}
use Rattle.kit_async.specs.declared.roles.Worker.{Worker}
use Rattle.kit_async.specs.declared.roles.Writer.{Writer}

-- the numbers from this one on
abbrev pub AreNumbered : ℕ → List ℕ → Type 0
AreNumbered n [] = Unit {0}
AreNumbered n (k ∷ ks) = (k ≡ n) × AreNumbered (n + 1) ks

-- the passes stand by the numbers from this one on, and have seen the hall's begin alone
abbrev pub AreFresh : KitHall → ℕ → List KitPass → Type 0
AreFresh h n [] = Unit {0}
AreFresh h n (p ∷ ps) = (Stands h n p × (p.links ≡ [])) × AreFresh h (n + 1) ps

-- ---- the roles as they begin

-- It reads this source in the hall, and holds nothing of it yet.
pub record ReaderBegins {S R : Type 0} (h : KitHall) (source : S) (ear : Reader S R) : Type 0 where
  pub placed : ear.hall.now ≡ h
  pub reads : ear.source ≡ source
  pub empty : ear.splitter.bytes ≡ []
  pub limit : ear.splitter.limit ≡ longest_line
  pub going : ear.why ≡ None

-- It writes to this sink in the hall.
pub record WriterBegins {W R : Type 0} (h : KitHall) (sink : W) (mouth : Writer W R) : Type 0 where
  pub placed : mouth.hall.now ≡ h
  pub writes : mouth.sink ≡ sink
  pub going : mouth.why ≡ None

-- They work in the hall, by the numbers from 0 on; the first number stands last.
pub record WorkersBegin {K R : Type 0} (h : KitHall) (workers : List (Worker K R)) : Type 0 where
  pub numbers : AreNumbered 0 (map (λ (w : Worker K R). w.number) (reverse workers))
  pub placed : All (λ (w : Worker K R). w.hall.now ≡ h) workers
