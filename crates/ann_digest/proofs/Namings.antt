-- A backend has at most one way to name keys.
use Rattle.std.proofs.Common.{◌≡◌, ◌≢◌, ◌↔◌, ℕ, Bool, true, false, cond, List, [], ◌++◌, codes, take, length, ◌-◌, Option, Some, None, MatchOption, refl, sym, ap, ◌∙◌}
use Rattle.std.specs.Prelude.{bytes_eq, option_map, IsTrue}
use Rattle.std.proofs.lemmas.List.{append-nil, append_cancel_left, append_cancel_right}
use Rattle.std.proofs.lemmas.Slice.Eq.{bytes_eq-Decides}
use Rattle.ann_digest.specs.HashKinds.{backend_of, kind_of, naming_backend, IsNamed, IsRest}
use Rattle.ann_digest.specs.declared.hash_kind.HashKind.{HashKind}
use Rattle.ann_digest.specs.declared.hash_kind.HashKind.TheVariants.{Md5, Sha1, Sha224, Sha256, Sha384, Sha512}
use Rattle.ann_digest.specs.declared.hash_kind.Naming.{Naming}

pub kind_of-backend_of : (kind : HashKind) → kind_of (backend_of kind) ≡ Some kind
kind_of-backend_of Md5 = refl
kind_of-backend_of Sha1 = refl
kind_of-backend_of Sha224 = refl
kind_of-backend_of Sha256 = refl
kind_of-backend_of Sha384 = refl
kind_of-backend_of Sha512 = refl

-- one test of kind_of
tested : (b : List ℕ) (k kind : HashKind) (rest : Option HashKind) → (rest ≡ Some k → b ≡ backend_of k)
    → cond (bytes_eq b (backend_of kind)) (Some kind) rest ≡ Some k → b ≡ backend_of k
tested b k kind rest more h = go (bytes_eq b (backend_of kind)) refl h
  where
    go : (t : Bool) → bytes_eq b (backend_of kind) ≡ t → cond t (Some kind) rest ≡ Some k → b ≡ backend_of k
    go true e h =
        let same : kind ≡ k = cc in
        (bytes_eq-Decides b (backend_of kind)).0 e ∙ ap backend_of same
    go false e h = more h

pub backend_of-kind_of : (b : List ℕ) (k : HashKind) → kind_of b ≡ Some k → b ≡ backend_of k
backend_of-kind_of b k =
    tested b k Md5 _ (tested b k Sha1 _ (tested b k Sha224 _ (tested b k Sha256 _ (tested b k Sha384 _ (tested b k Sha512 None (λ h. absurd cc))))))

-- the naming of a backend that ends in E
pub found : (b front : List ℕ) → kind_of b ≡ None → b ≡ front ++ codes "E"
    → MatchOption (option_map (λ (kind : HashKind). let n : Naming = record { kind = kind; extended = true } in n) (kind_of front)) ((other : Naming) → b ≢ naming_backend other) (λ naming. b ≡ naming_backend naming)
found b front none e = go (kind_of front) refl
  where
    go : (o : Option HashKind) → kind_of front ≡ o
        → MatchOption (option_map (λ (kind : HashKind). let n : Naming = record { kind = kind; extended = true } in n) o) ((other : Naming) → b ≢ naming_backend other) (λ naming. b ≡ naming_backend naming)
    go (Some kind) is = e ∙ ap (λ (s : List ℕ). s ++ codes "E") (backend_of-kind_of front kind is)
    go None is = λ other h. by (other.extended) other.kind h
      where
        by : (extended : Bool) (kind : HashKind) → b ≡ backend_of kind ++ cond extended (codes "E") [] → ⊥
        by true kind h =
            let same : front ≡ backend_of kind = append_cancel_right front (backend_of kind) (codes "E") (sym e ∙ h) in
            let some : kind_of front ≡ Some kind = ap kind_of same ∙ kind_of-backend_of kind in
            absurd cc
        by false kind h =
            let same : b ≡ backend_of kind = h ∙ append-nil (backend_of kind) in
            let some : kind_of b ≡ Some kind = ap kind_of same ∙ kind_of-backend_of kind in
            absurd cc

-- the naming that a backend is read as
abbrev read_by : Option HashKind → List ℕ → Option (HashKind × Bool)
read_by (Some kind) b = Some (kind, false)
read_by None b = option_map (λ kind. (kind, true)) (kind_of (take (length b - 1) b))

abbrev read : List ℕ → Option (HashKind × Bool)
read b = read_by (kind_of b) b

read-backend : (kind : HashKind) (extended : Bool) → read (backend_of kind ++ cond extended (codes "E") []) ≡ Some (kind, extended)
read-backend Md5 true = refl
read-backend Md5 false = refl
read-backend Sha1 true = refl
read-backend Sha1 false = refl
read-backend Sha224 true = refl
read-backend Sha224 false = refl
read-backend Sha256 true = refl
read-backend Sha256 false = refl
read-backend Sha384 true = refl
read-backend Sha384 false = refl
read-backend Sha512 true = refl
read-backend Sha512 false = refl

pub naming_backend-injective : (a b : Naming) → naming_backend a ≡ naming_backend b → a ≡ b
naming_backend-injective a b h =
    let same : ◌≡◌ {A = Option (HashKind × Bool)} (Some (a.kind, a.extended)) (Some (b.kind, b.extended)) = sym (read-backend a.kind a.extended) ∙ ap read h ∙ read-backend b.kind b.extended in
    let pair : ◌≡◌ {A = HashKind × Bool} (a.kind, a.extended) (b.kind, b.extended) = cc in
    ap (λ (p : HashKind × Bool). let n : Naming = record { kind = p.0; extended = p.1 } in n) pair

-- what follows the text in a name is what follows it in every cut of the name
pub named : (extended r : Bool) (text name rest : List ℕ) → name ≡ text ++ rest → (IsTrue r ↔ IsRest extended rest) → IsTrue r ↔ IsNamed extended text name
named extended r text name rest e h = (
  λ t. (rest, e, h.0 t),
  λ w. h.1 (let same : w.0 ≡ rest = append_cancel_left text w.0 rest (sym w.1 ∙ e) in rw same at w.2),
)
