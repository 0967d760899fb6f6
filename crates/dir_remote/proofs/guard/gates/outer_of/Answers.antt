use Rattle.std.proofs.Common.{ℕ, List, sym, subst, take}
use Rattle.std.specs.Str.{IsUtf8}
use Rattle.dir_remote.proofs.PlaceLaws.{outer_text}
use Rattle.dir_remote.proofs.guard.gates.outer_of.Goals as goal

pub unreachable-requires : goal.unreachable-requires
unreachable-requires c =
    let P : List ℕ → Type 0 = λ l. IsUtf8 (take 3 l) in
    c.in-Err.ensures.cases.0 (subst P (sym c.requires.whole) (outer_text c.requires.base))
