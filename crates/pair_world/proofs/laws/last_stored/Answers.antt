use Rattle.std.proofs.Common.{ℕ, List, [], ◌∷◌, codes, bytes_eq, refl, sym, ap, subst, inl, inr}
use Rattle.std.proofs.lemmas.Bool.{false≢true}
use Rattle.std.proofs.lemmas.Slice.Eq.{bytes_eq-Decides}
use Rattle.pair_kit.specs.Stored.{IsLastStored}
use Rattle.pair_world.specs.StoredRows.{stored, retrieved, removed}
use Rattle.pair_kit.proofs.StoredLast.{IsLastWith, last_of, gives_more, kept_none}
use Rattle.pair_world.proofs.laws.last_stored.Goals as goal

pub returns-clause-given : goal.returns-clause-given
returns-clause-given c =
    gives_more (stored (codes "one") ∷ removed (codes "WORM--b") ∷ []) (retrieved (codes "one"))
    (gives_more (stored (codes "one") ∷ []) (removed (codes "WORM--b"))
    (gives_more [] (stored (codes "one")) kept_none.0 (λ key is. absurd (false≢true is)))
    (λ key is. absurd (false≢true is)))
    (λ key is. subst (λ (k : List ℕ). IsLastStored (stored (codes "one") ∷ removed (codes "WORM--b") ∷ []) k (codes "one")) ((bytes_eq-Decides (codes "WORM--a") key).0 is) last)
  where
    last : IsLastStored (stored (codes "one") ∷ removed (codes "WORM--b") ∷ []) (codes "WORM--a") (codes "one")
    last = record { before = []; store = stored (codes "one"); later = removed (codes "WORM--b") ∷ []; splits = refl; is_store = refl; bytes_are = refl; is_last = refl }

pub returns-clause-gone : goal.returns-clause-gone
returns-clause-gone c = λ gives.
    none (last_of (stored (codes "one") ∷ []) (removed (codes "WORM--a")) (codes "WORM--a") (codes "one")
    (gives (stored (codes "one") ∷ removed (codes "WORM--a") ∷ []) [] (retrieved (codes "one")) (codes "WORM--a") refl refl))
  where
    none : IsLastWith (stored (codes "one") ∷ []) (removed (codes "WORM--a")) (codes "WORM--a") (codes "one") → ⊥
    none (inl x) = false≢true x.0
    none (inr x) = false≢true (sym x.0)

pub returns-clause-other : goal.returns-clause-other
returns-clause-other c = λ gives.
    behind (last_of (stored (codes "one") ∷ []) (removed (codes "WORM--b")) (codes "WORM--a") (codes "two")
    (gives (stored (codes "one") ∷ removed (codes "WORM--b") ∷ []) [] (retrieved (codes "two")) (codes "WORM--a") refl refl))
  where
    alone : IsLastWith [] (stored (codes "one")) (codes "WORM--a") (codes "two") → ⊥
    alone (inl x) = false≢true (ap (λ (l : List ℕ). bytes_eq l (codes "two")) x.1)
    alone (inr x) = false≢true (sym x.0)

    behind : IsLastWith (stored (codes "one") ∷ []) (removed (codes "WORM--b")) (codes "WORM--a") (codes "two") → ⊥
    behind (inl x) = false≢true x.0
    behind (inr x) = alone (last_of [] (stored (codes "one")) (codes "WORM--a") (codes "two") x.1)

pub returns-clause-earlier : goal.returns-clause-earlier
returns-clause-earlier c = λ gives.
    none (last_of (stored (codes "one") ∷ []) (stored (codes "two")) (codes "WORM--a") (codes "one")
    (gives (stored (codes "one") ∷ stored (codes "two") ∷ []) [] (retrieved (codes "one")) (codes "WORM--a") refl refl))
  where
    none : IsLastWith (stored (codes "one") ∷ []) (stored (codes "two")) (codes "WORM--a") (codes "one") → ⊥
    none (inl x) = false≢true (ap (λ (l : List ℕ). bytes_eq l (codes "one")) x.1)
    none (inr x) = false≢true (sym x.0)
