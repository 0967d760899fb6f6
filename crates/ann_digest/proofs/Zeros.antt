-- What follows the bytes of a digest.
use Rattle.std.proofs.Common.{◌≡◌, ℕ, ◌+◌, ◌-◌, ◌<◌, ◌≤◌, List, ◌++◌, length, drop, replicate, get_or, refl, ◌∙◌, arith}
use Rattle.std.proofs.lemmas.List.{get_or-append_right, get_or-drop, get_or-replicate}

pub get_or-zeros : (given : List ℕ) (k : ℕ) → length given ≤ k → k < 64 → get_or (given ++ drop (length given) (replicate 64 0)) k 0 ≡ 0
get_or-zeros given k low high =
    let sum : length given + (k - length given) < 64 = omega arith in
    get_or-append_right given (drop (length given) (replicate 64 0)) (length given) k 0 refl low
    ∙ get_or-drop (length given) (replicate 64 0) (k - length given) 0
    ∙ get_or-replicate 64 (length given + (k - length given)) 0 0 sum
