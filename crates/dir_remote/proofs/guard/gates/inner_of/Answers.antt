use Rattle.std.proofs.Common.{ℕ, List, sym, subst}
use Rattle.std.specs.Str.{IsUtf8}
use Rattle.dir_remote.proofs.PlaceLaws.{lower_text}
use Rattle.dir_remote.proofs.guard.gates.inner_of.Goals as goal

pub unreachable-requires : goal.unreachable-requires
unreachable-requires c =
    let P : List ℕ → Type 0 = λ l. IsUtf8 l in
    c.in-Err.ensures.cases.0 (subst P (sym c.requires.whole) (lower_text c.requires.base))
