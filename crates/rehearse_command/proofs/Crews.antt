-- What the desks of the workers tell.
use Rattle.ann_outside.specs.Told.{DeskTold}
use Rattle.std.proofs.Common.{◌≡◌, ℕ, zero, suc, ◌+◌, List, [], ◌∷◌, ◌++◌, refl, sym, ap, ◌∙◌, map, replicate, None, arith}
use Rattle.std.proofs.lemmas.List.{map-append}
use Rattle.ann_outside.specs.DeskCauses.{Counts}
use Rattle.ann_outside.specs.Desks.{no_counts}
use Rattle.rehearse_command.specs.Rehearsals.{untold}

one_behind : (n : ℕ) → replicate n no_counts ++ no_counts ∷ [] ≡ replicate (suc n) no_counts
one_behind zero = refl
one_behind (suc n) = ap (λ (cs : List Counts). no_counts ∷ cs) (one_behind n)

one_more : (n : ℕ) → replicate n no_counts ++ no_counts ∷ [] ≡ replicate (n + 1) no_counts
one_more n = let same : suc n ≡ n + 1 = omega arith in one_behind n ∙ ap (λ (k : ℕ). replicate k no_counts) same

-- and one that was asked for just now
pub counts_more : {D : Type 0} (counts : D → Counts) (ks ks' : List D) (k : D) (n : ℕ) → ks' ≡ ks ++ k ∷ [] → counts k ≡ no_counts → map (λ (d : D). counts d) ks ≡ replicate n no_counts
    → map (λ (d : D). counts d) ks' ≡ replicate (n + 1) no_counts
counts_more {D} counts ks ks' k n is fresh before =
    ap (λ (xs : List D). map (λ (d : D). counts d) xs) is
    ∙ map-append (λ (d : D). counts d) ks (k ∷ [])
    ∙ ap (λ (cs : List Counts). cs ++ counts k ∷ []) before
    ∙ ap (λ (c : Counts). replicate n no_counts ++ c ∷ []) fresh
    ∙ one_more n

-- a desk that tells its counts alone
quiet : Counts → DeskTold
quiet counts = record { counts = counts; files = None; log = None }

tells : {D : Type 0} (counts : D → Counts) (ks : List D) → map (λ (k : D). quiet (counts k)) ks ≡ map quiet (map (λ (k : D). counts k) ks)
tells counts [] = refl
tells counts (k ∷ ks) = ap (λ (ds : List DeskTold). quiet (counts k) ∷ ds) (tells counts ks)

-- desks that tell no calls, and have counted nothing
pub tell_nothing : {D : Type 0} (counts : D → Counts) (ks : List D) → map (λ (k : D). counts k) ks ≡ replicate 4 no_counts
    → map (λ (k : D). record { counts = counts k; files = None; log = None }) ks ≡ replicate 4 untold
unfolding quiet
tell_nothing counts ks fresh = tells counts ks ∙ ap (λ (cs : List Counts). map quiet cs) fresh
