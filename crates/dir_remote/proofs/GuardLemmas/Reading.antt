-- How a file name is read back, byte by byte.
use Rattle.std.proofs.Common.{◌≡◌, ◌∙◌, ℕ, suc, List, [], ◌∷◌, ◌++◌, drop, refl, sym, ap, append_assoc}
use Rattle.std.specs.Prelude.{true, false, ◌==◌}
use Rattle.dir_remote.specs.Guard.LeftFiles.{escaped, plain, read_on}

pub read_escaped : (out name whole : List ℕ) (i b : ℕ) → drop i name ≡ b ∷ drop (suc i) name → out ++ read_on true (drop i name) ≡ whole
    → (out ++ escaped b ∷ []) ++ read_on false (drop (suc i) name) ≡ whole
read_escaped out name whole i b d e =
    append_assoc out (escaped b ∷ []) (read_on false (drop (suc i) name)) ∙ ap (λ (l : List ℕ). out ++ read_on true l) (sym d) ∙ e

pub read_and : (out name whole : List ℕ) (i b : ℕ) → drop i name ≡ b ∷ drop (suc i) name → (b == 38) ≡ true → out ++ read_on false (drop i name) ≡ whole
    → out ++ read_on true (drop (suc i) name) ≡ whole
read_and out name whole i b d t e =
    let h : read_on false (b ∷ drop (suc i) name) ≡ read_on true (drop (suc i) name) = rw t refl in
    ap (λ (l : List ℕ). out ++ l) (sym h) ∙ ap (λ (l : List ℕ). out ++ read_on false l) (sym d) ∙ e

pub read_plain : (out name whole : List ℕ) (i b : ℕ) → drop i name ≡ b ∷ drop (suc i) name → (b == 38) ≡ false → out ++ read_on false (drop i name) ≡ whole
    → (out ++ plain b ∷ []) ++ read_on false (drop (suc i) name) ≡ whole
read_plain out name whole i b d t e =
    let h : read_on false (b ∷ drop (suc i) name) ≡ plain b ∷ read_on false (drop (suc i) name) = rw t refl in
    append_assoc out (plain b ∷ []) (read_on false (drop (suc i) name))
    ∙ ap (λ (l : List ℕ). out ++ l) (sym h) ∙ ap (λ (l : List ℕ). out ++ read_on false l) (sym d) ∙ e
