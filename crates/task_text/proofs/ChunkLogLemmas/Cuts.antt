-- Where text is cut.
use Rattle.std.proofs.Common.{◌≡◌, ℕ, ◌+◌, ◌-◌, Bool, true, false, not, List, [], ◌∷◌, ◌++◌, length, reverse, refl, sym, ap, subst, ◌∙◌, append_assoc, length-append, arith}
use Rattle.std.specs.Prelude.{◌||◌}
use Rattle.std.specs.List.{list_all, list_any, prefix_len, suffix_len, position_or_len, before_first, after_first, before_last, after_last}
use Rattle.std.proofs.lemmas.Bool.{and_parts}
use Rattle.std.proofs.lemmas.List.{take_at, drop_at, length-reverse, reverse-append}

pub prefix_len-front : (p : ℕ → Bool) (xs : List ℕ) (y : ℕ) (ys : List ℕ) → list_all p xs ≡ true → p y ≡ false → prefix_len p (xs ++ y ∷ ys) ≡ length xs
prefix_len-front p [] y ys all stop = rw stop refl
prefix_len-front p (x ∷ xs) y ys all stop =
    let parts = and_parts (p x) (list_all p xs) all in
    let rest : prefix_len p (xs ++ y ∷ ys) ≡ length xs = prefix_len-front p xs y ys parts.1 stop in
    let first : p x ≡ true = parts.0 in
    rw (first, rest) (omega arith)

pub before_first-at : (p : ℕ → Bool) (xs : List ℕ) (y : ℕ) (ys : List ℕ) → list_all (λ x. not (p x)) xs ≡ true → p y ≡ true → before_first p (xs ++ y ∷ ys) ≡ xs
before_first-at p xs y ys all stop =
    let n : position_or_len p (xs ++ y ∷ ys) ≡ length xs = prefix_len-front (λ x. not (p x)) xs y ys all (ap not stop) in
    rw n (take_at xs (y ∷ ys) (length xs) refl)

pub after_first-at : (p : ℕ → Bool) (xs : List ℕ) (y : ℕ) (ys : List ℕ) → list_all (λ x. not (p x)) xs ≡ true → p y ≡ true → after_first p (xs ++ y ∷ ys) ≡ ys
after_first-at p xs y ys all stop =
    let n : position_or_len p (xs ++ y ∷ ys) ≡ length xs = prefix_len-front (λ x. not (p x)) xs y ys all (ap not stop) in
    let long : length (xs ++ y ∷ []) ≡ length xs + 1 = length-append xs (y ∷ []) in
    let split : (xs ++ y ∷ []) ++ ys ≡ xs ++ y ∷ ys = append_assoc xs (y ∷ []) ys in
    rw (n, ← split) (drop_at (xs ++ y ∷ []) ys (length xs + 1) long)

pub list_all-append : (p : ℕ → Bool) (xs ys : List ℕ) → list_all p xs ≡ true → list_all p ys ≡ true → list_all p (xs ++ ys) ≡ true
list_all-append p [] ys h k = k
list_all-append p (x ∷ xs) ys h k =
    let parts = and_parts (p x) (list_all p xs) h in
    let first : p x ≡ true = parts.0 in
    let rest : list_all p (xs ++ ys) ≡ true = list_all-append p xs ys parts.1 k in
    rw (first, rest) refl

pub list_all-weaken : (p q : ℕ → Bool) → ((x : ℕ) → p x ≡ true → q x ≡ true) → (xs : List ℕ) → list_all p xs ≡ true → list_all q xs ≡ true
list_all-weaken p q f [] h = refl
list_all-weaken p q f (x ∷ xs) h =
    let parts = and_parts (p x) (list_all p xs) h in
    let first : q x ≡ true = f x parts.0 in
    let rest : list_all q xs ≡ true = list_all-weaken p q f xs parts.1 in
    rw (first, rest) refl

list_all-reverse : (p : ℕ → Bool) (xs : List ℕ) → list_all p xs ≡ true → list_all p (reverse xs) ≡ true
list_all-reverse p [] h = refl
list_all-reverse p (x ∷ xs) h =
    let parts = and_parts (p x) (list_all p xs) h in
    let one : list_all p (x ∷ []) ≡ true = rw parts.0 refl in
    subst (λ (l : List ℕ). list_all p l ≡ true) (sym (reverse-append (x ∷ []) xs)) (list_all-append p (reverse xs) (x ∷ []) (list_all-reverse p xs parts.1) one)

behind : (p : ℕ → Bool) (xs : List ℕ) (y : ℕ) (ys : List ℕ) → list_all (λ x. not (p x)) ys ≡ true → p y ≡ true → suffix_len (λ x. not (p x)) (xs ++ y ∷ ys) ≡ length ys
behind p xs y ys all stop =
    let turned : reverse (xs ++ y ∷ ys) ≡ reverse ys ++ y ∷ reverse xs =
    reverse-append xs (y ∷ ys) ∙ ap (λ (l : List ℕ). l ++ reverse xs) (reverse-append (y ∷ []) ys) ∙ append_assoc (reverse ys) (y ∷ []) (reverse xs) in
    ap (prefix_len (λ (x : ℕ). not (p x))) turned
    ∙ prefix_len-front (λ x. not (p x)) (reverse ys) y (reverse xs) (list_all-reverse (λ x. not (p x)) ys all) (ap not stop)
    ∙ length-reverse ys

pub before_last-at : (p : ℕ → Bool) (xs : List ℕ) (y : ℕ) (ys : List ℕ) → list_all (λ x. not (p x)) ys ≡ true → p y ≡ true → before_last p (xs ++ y ∷ ys) ≡ xs
before_last-at p xs y ys all stop =
    let n : suffix_len (λ x. not (p x)) (xs ++ y ∷ ys) ≡ length ys = behind p xs y ys all stop in
    let long : length (xs ++ y ∷ ys) ≡ length xs + length (y ∷ ys) = length-append xs (y ∷ ys) in
    let at : length xs + length (y ∷ ys) - length ys - 1 ≡ length xs = omega arith in
    rw (n, long, at) (take_at xs (y ∷ ys) (length xs) refl)

pub after_last-at : (p : ℕ → Bool) (xs : List ℕ) (y : ℕ) (ys : List ℕ) → list_all (λ x. not (p x)) ys ≡ true → p y ≡ true → after_last p (xs ++ y ∷ ys) ≡ ys
after_last-at p xs y ys all stop =
    let n : suffix_len (λ x. not (p x)) (xs ++ y ∷ ys) ≡ length ys = behind p xs y ys all stop in
    let long : length (xs ++ y ∷ ys) ≡ length xs + length (y ∷ ys) = length-append xs (y ∷ ys) in
    let at : length xs + length (y ∷ ys) - length ys ≡ length xs + 1 = omega arith in
    let front : length (xs ++ y ∷ []) ≡ length xs + 1 = length-append xs (y ∷ []) in
    let split : (xs ++ y ∷ []) ++ ys ≡ xs ++ y ∷ ys = append_assoc xs (y ∷ []) ys in
    rw (n, long, at, ← split) (drop_at (xs ++ y ∷ []) ys (length xs + 1) front)

pub list_any-at : (p : ℕ → Bool) (xs : List ℕ) (y : ℕ) (ys : List ℕ) → p y ≡ true → list_any p (xs ++ y ∷ ys) ≡ true
list_any-at p [] y ys stop = rw stop refl
list_any-at p (x ∷ xs) y ys stop = go (p x) (list_any-at p xs y ys stop)
  where
    go : (b : Bool) → list_any p (xs ++ y ∷ ys) ≡ true → (b || list_any p (xs ++ y ∷ ys)) ≡ true
    go true h = refl
    go false h = h
