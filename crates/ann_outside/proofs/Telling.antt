-- What is told grows piece by piece.
use Rattle.std.proofs.Common.{◌≡◌, ℕ, ◌+◌, ◌-◌, List, ◌++◌, length, take, drop, Option, Some, None, sym, ap, subst, ◌∙◌, append_assoc}
use Rattle.std.specs.Io.KnownBytes.{Appends}
use Rattle.std.proofs.Math.Seq.{take-add}
use Rattle.std.proofs.lemmas.List.{take_rest}

pub appends_both : (a b c : Option (List ℕ)) (x y : List ℕ) → Appends a b x → Appends b c y → Appends a c (x ++ y)
appends_both None b c x y p q = tt
appends_both (Some s) None c x y p q = absurd p
appends_both (Some s) (Some t) None x y p q = absurd q
appends_both (Some s) (Some t) (Some u) x y p q = q ∙ ap (λ (l : List ℕ). l ++ y) p ∙ append_assoc s x y

-- the next n bytes after the first
pub taken_next : (a b c : Option (List ℕ)) (bytes : List ℕ) (at n : ℕ) → Appends a b (take at bytes)
    → Appends b c (take n (take (length bytes - at) (drop at bytes))) → Appends a c (take (at + n) bytes)
taken_next a b c bytes at n p q =
    let rest : take n (take (length bytes - at) (drop at bytes)) ≡ take n (drop at bytes) = ap (λ (l : List ℕ). take n l) (take_rest bytes at) in
    subst (λ (l : List ℕ). Appends a c l) (sym (take-add at n bytes))
    (appends_both a b c (take at bytes) (take n (drop at bytes)) p (subst (λ (l : List ℕ). Appends b c l) rest q))
