-- A table of logins, read as one of pairs of texts.
use Rattle.std.proofs.Common.{◌≡◌, ℕ, List, Vec, option_map}
use Rattle.std.specs.declared.alloc.Global.{Global}
use Rattle.std.specs.Map.{lookup, keys_of}
use Rattle.std.specs.BTreeMap.{insert_entry, is_at}
use Rattle.std.specs.List.{AllZip}
use Rattle.std.specs.List.Sorted.{IsStrictlySortedBy}
use Rattle.registers.specs.declared.logins.Login.{Login}
use Rattle.registers.specs.Tables.{by_bytes, Rises, value_at, put}
use Rattle.registers.specs.Logins.{pair_of, pairs_of}
use Rattle.registers.proofs.Seen.{lookup-seen, insert_entry-seen, rises-seen, seen_copies}
use Rattle.registers.proofs.Tables.{is_eq-by_bytes, IsVecCopy, items_of_copy}
use Rattle.std.specs.Str.{bytes_eq}

module _ (es : List (Vec ℕ Global × Login)) where
  pub value_at-pairs_of : (name : List ℕ) → value_at (pairs_of es) name ≡ option_map pair_of (lookup (is_at (λ k. by_bytes name k.items)) es)
  value_at-pairs_of name = lookup-seen (λ v. v.items) pair_of (bytes_eq name) (is_at (λ k. by_bytes name k.items)) (λ k. is_eq-by_bytes name k.items) es

  pub put-pairs_of : (name : Vec ℕ Global) (login : Login) → pairs_of (insert_entry (λ x y. by_bytes x.items y.items) es name login) ≡ put (pairs_of es) name.items (pair_of login)
  put-pairs_of name login = insert_entry-seen (λ v. v.items) pair_of by_bytes es name login

  pub Rises-pairs_of : IsStrictlySortedBy (λ x y. by_bytes x.items y.items) (keys_of es) → Rises (pairs_of es)
  Rises-pairs_of h = rises-seen (λ v. v.items) pair_of by_bytes es h

module _ {C : ℕ → ℕ → Type 0} (D : Vec ℕ Global → Vec ℕ Global → Type 0) (copy : (a b : ℕ) → C a b → b ≡ a) where
  abbrev pub IsLoginCopy : Login → Login → Type 0
  IsLoginCopy x y = IsVecCopy {C = C} D copy x.user y.user × IsVecCopy {C = C} D copy x.password y.password

  pub pairs_of_copies : (es fs : List (Vec ℕ Global × Login)) → AllZip (λ p q. IsVecCopy {C = C} D copy p.0 q.0 × IsLoginCopy p.1 q.1) es fs → pairs_of fs ≡ pairs_of es
  pairs_of_copies es fs h = seen_copies (λ v. v.items) pair_of (IsVecCopy D copy) IsLoginCopy (items_of_copy D copy) (λ x y c i. (items_of_copy D copy _ _ c.0 i, items_of_copy D copy _ _ c.1 i)) es fs h
