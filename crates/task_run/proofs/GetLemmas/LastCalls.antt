-- What stands after the last call of a kind.
use Rattle.std.proofs.Common.{◌≡◌, ◌⊎◌, inl, inr, ◌+◌, ◌-◌, Bool, true, false, not, List, [], ◌∷◌, ◌++◌, length, reverse, refl, sym, ap, subst, ◌∙◌, append_assoc, length-append, arith}
use Rattle.std.specs.List.{list_all, prefix_len, suffix_len, after_last}
use Rattle.std.proofs.lemmas.Bool.{and_parts}
use Rattle.std.proofs.lemmas.List.{drop_at, length-reverse, reverse-append}
use Rattle.ann_key.proofs.Lists.{all_more as list_all-append}

pub prefix_len-front : {X : Type 0} (p : X → Bool) (xs : List X) (y : X) (ys : List X) → list_all p xs ≡ true → p y ≡ false → prefix_len p (xs ++ y ∷ ys) ≡ length xs
prefix_len-front p [] y ys all stop = rw stop refl
prefix_len-front p (x ∷ xs) y ys all stop =
    let parts = and_parts (p x) (list_all p xs) all in
    let rest : prefix_len p (xs ++ y ∷ ys) ≡ length xs = prefix_len-front p xs y ys parts.1 stop in
    let first : p x ≡ true = parts.0 in
    rw (first, rest) (omega arith)

list_all-reverse : {X : Type 0} (p : X → Bool) (xs : List X) → list_all p xs ≡ true → list_all p (reverse xs) ≡ true
list_all-reverse p [] h = refl
list_all-reverse {X} p (x ∷ xs) h =
    let parts = and_parts (p x) (list_all p xs) h in
    let one : list_all p (x ∷ []) ≡ true = rw parts.0 refl in
    subst (λ (l : List X). list_all p l ≡ true) (sym (reverse-append (x ∷ []) xs)) (list_all-append p (reverse xs) (x ∷ []) (list_all-reverse p xs parts.1) one)

behind : {X : Type 0} (p : X → Bool) (xs : List X) (y : X) (ys : List X) → list_all (λ x. not (p x)) ys ≡ true → p y ≡ true → suffix_len (λ x. not (p x)) (xs ++ y ∷ ys) ≡ length ys
behind {X} p xs y ys all stop =
    let turned : reverse (xs ++ y ∷ ys) ≡ reverse ys ++ y ∷ reverse xs =
    reverse-append xs (y ∷ ys) ∙ ap (λ (l : List X). l ++ reverse xs) (reverse-append (y ∷ []) ys) ∙ append_assoc (reverse ys) (y ∷ []) (reverse xs) in
    ap (prefix_len (λ (x : X). not (p x))) turned
    ∙ prefix_len-front (λ x. not (p x)) (reverse ys) y (reverse xs) (list_all-reverse (λ x. not (p x)) ys all) (ap not stop)
    ∙ length-reverse ys

pub after_last-at : {X : Type 0} (p : X → Bool) (xs : List X) (y : X) (ys : List X) → list_all (λ x. not (p x)) ys ≡ true → p y ≡ true → after_last p (xs ++ y ∷ ys) ≡ ys
after_last-at p xs y ys all stop =
    let n : suffix_len (λ x. not (p x)) (xs ++ y ∷ ys) ≡ length ys = behind p xs y ys all stop in
    let long : length (xs ++ y ∷ ys) ≡ length xs + length (y ∷ ys) = length-append xs (y ∷ ys) in
    let at : length xs + length (y ∷ ys) - length ys ≡ length xs + 1 = omega arith in
    let front : length (xs ++ y ∷ []) ≡ length xs + 1 = length-append xs (y ∷ []) in
    let split : (xs ++ y ∷ []) ++ ys ≡ xs ++ y ∷ ys = append_assoc xs (y ∷ []) ys in
    rw (n, long, at, ← split) (drop_at (xs ++ y ∷ []) ys (length xs + 1) front)

-- all of them, where none is of the kind
pub after_last-none : {X : Type 0} (p : X → Bool) (xs : List X) → list_all (λ x. not (p x)) xs ≡ true → after_last p xs ≡ xs
after_last-none {X} p xs all =
    let n : suffix_len (λ (x : X). not (p x)) xs ≡ length xs = prefix_len-all (λ x. not (p x)) (reverse xs) (list_all-reverse (λ x. not (p x)) xs all) ∙ length-reverse xs in
    let z : length xs - length xs ≡ 0 = omega arith in
    rw (n, z) refl
  where
    prefix_len-all : (q : X → Bool) (zs : List X) → list_all q zs ≡ true → prefix_len q zs ≡ length zs
    prefix_len-all q [] h = refl
    prefix_len-all q (z ∷ zs) h =
        let parts = and_parts (q z) (list_all q zs) h in
        let first : q z ≡ true = parts.0 in
        let rest : prefix_len q zs ≡ length zs = prefix_len-all q zs parts.1 in
        rw (first, rest) (omega arith)

-- the last one of the kind, and what stands after it
pub record Last {X : Type 0} (p : X → Bool) (xs : List X) : Type 0 where
  pub front : List X
  pub one : X
  pub rest : List X
  pub is : xs ≡ front ++ one ∷ rest
  pub kind : p one ≡ true
  pub none : list_all (λ x. not (p x)) rest ≡ true

pub last_of : {X : Type 0} (p : X → Bool) (xs : List X) → (list_all (λ x. not (p x)) xs ≡ true) ⊎ Last p xs
last_of p [] = inl refl
last_of {X} p (x ∷ xs) = by_rest (last_of p xs)
  where
    by_test : (b : Bool) → p x ≡ b → list_all (λ y. not (p y)) xs ≡ true → (list_all (λ y. not (p y)) (x ∷ xs) ≡ true) ⊎ Last p (x ∷ xs)
    by_test true e h = inr (record { front = []; one = x; rest = xs; is = refl; kind = e; none = h })
    by_test false e h = inl (rw (e, h) refl)

    by_rest : (list_all (λ y. not (p y)) xs ≡ true) ⊎ Last p xs → (list_all (λ y. not (p y)) (x ∷ xs) ≡ true) ⊎ Last p (x ∷ xs)
    by_rest (inl h) = by_test (p x) refl h
    by_rest (inr l) = inr (record { front = x ∷ l.front; one = l.one; rest = l.rest; is = ap (λ (zs : List X). x ∷ zs) l.is; kind = l.kind; none = l.none })

-- what is put after stands after the last as well, where none of it is of the kind
pub after_last-more : {X : Type 0} (p : X → Bool) (xs ys : List X) → list_all (λ x. not (p x)) ys ≡ true → after_last p (xs ++ ys) ≡ after_last p xs ++ ys
after_last-more {X} p xs ys h = by_case (last_of p xs)
  where
    by_case : (list_all (λ x. not (p x)) xs ≡ true) ⊎ Last p xs → after_last p (xs ++ ys) ≡ after_last p xs ++ ys
    by_case (inl none) =
        after_last-none p (xs ++ ys) (list_all-append (λ x. not (p x)) xs ys none h) ∙ ap (λ (l : List X). l ++ ys) (sym (after_last-none p xs none))
    by_case (inr l) =
        let whole : xs ++ ys ≡ l.front ++ l.one ∷ (l.rest ++ ys) = ap (λ (zs : List X). zs ++ ys) l.is ∙ append_assoc l.front (l.one ∷ l.rest) ys in
        let long : after_last p (xs ++ ys) ≡ l.rest ++ ys = ap (after_last p) whole ∙ after_last-at p l.front l.one (l.rest ++ ys) (list_all-append (λ x. not (p x)) l.rest ys l.none h) l.kind in
        let short : after_last p xs ≡ l.rest = ap (after_last p) l.is ∙ after_last-at p l.front l.one l.rest l.none l.kind in
        long ∙ ap (λ (zs : List X). zs ++ ys) (sym short)
