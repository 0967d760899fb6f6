-- Loops that take a list's elements one after the other.
use Rattle.std.proofs.Common.{◌≡◌, ◌∙◌, ◌+◌, ◌≤◌, ◌<◌, List, [], ◌∷◌, ◌++◌, ap, subst, length, length-append, arith}
use Rattle.mirror_children.specs.Children.{ChildValue, AreLinked, IsLinked}
use Rattle.mirror_remote.specs.Starts.Stops.{StoppedValue, StopsAll}
use Rattle.mirror_remote.proofs.StartsLemmas.Begun.{spare_left}

linked_mid : (xs : List ChildValue) (c : ChildValue) (ys : List ChildValue) → AreLinked (xs ++ c ∷ ys) → IsLinked c
linked_mid [] c ys h = h.0
linked_mid (x ∷ xs) c ys h = linked_mid xs c ys h.1

-- the child that comes next is linked, and there is room for it
pub next_linked : (all passed rest next : List ChildValue) (c : ChildValue) → AreLinked all → all ≡ passed ++ rest → rest ≡ c ∷ next → IsLinked c
next_linked all passed rest next c h whole step = linked_mid passed c next (subst AreLinked (whole ∙ ap (λ (r : List ChildValue). passed ++ r) step) h)

pub next_room : (all passed rest next : List ChildValue) (c : ChildValue) (old now : StoppedValue) → length all ≤ old.spare → all ≡ passed ++ rest → rest ≡ c ∷ next → StopsAll passed old now → 0 < now.spare
next_room all passed rest next c old now room whole step stops =
    let left = spare_left passed old now stops in
    let many : length all ≡ length passed + length (c ∷ next) = ap (λ (r : List ChildValue). length r) (whole ∙ ap (λ (r : List ChildValue). passed ++ r) step) ∙ length-append passed (c ∷ next) in
    omega (arith, room, left, many)
