-- A line of a text is one of its first section, or one after it.
use Rattle.std.proofs.Common.{◌≡◌, ℕ, zero, suc, ◌+◌, ◌<◌, ◌≤◌, List, [], ◌∷◌, ◌++◌, map, length, get_or, Some, None, refl, sym, ap, ◌∙◌, arith, append_assoc}
use Rattle.std.specs.List.{slice_get}
use Rattle.std.specs.Prelude.{option_map}
use Rattle.std.proofs.lemmas.List.{map-append}

module _ {X : Type 0} where
  pub in_first : (xs ys : List X) (n : ℕ) → n < length xs → slice_get (xs ++ ys) n ≡ slice_get xs n
  in_first [] ys n h = absurd (omega arith)
  in_first (x ∷ xs) ys zero h = refl
  in_first (x ∷ xs) ys (suc n) h = in_first xs ys n (omega arith)

  pub behind_first : (xs ys : List X) (n k : ℕ) → k + length xs ≡ n → slice_get (xs ++ ys) n ≡ slice_get ys k
  behind_first [] ys n k e = let same : n ≡ k = omega arith in ap (slice_get ys) same
  behind_first (x ∷ xs) ys zero k e = absurd (omega arith)
  behind_first (x ∷ xs) ys (suc n) k e = behind_first xs ys n k (omega arith)

  pub past : (xs : List X) (n : ℕ) → length xs ≤ n → slice_get xs n ≡ None
  past [] n h = refl
  past (x ∷ xs) zero h = absurd (omega arith)
  past (x ∷ xs) (suc n) h = past xs n (omega arith)

  pub there : (xs : List X) (n : ℕ) (x : X) → slice_get xs n ≡ Some x → n < length xs
  there [] n x h = absurd cc
  there (y ∷ xs) zero x h = omega arith
  there (y ∷ xs) (suc n) x h = let less : n < length xs = there xs n x h in omega arith

  pub not_there : (xs : List X) (n : ℕ) → slice_get xs n ≡ None → length xs ≤ n
  not_there [] n h = omega arith
  not_there (y ∷ xs) zero h = absurd cc
  not_there (y ∷ xs) (suc n) h = let less : length xs ≤ n = not_there xs n h in omega arith

module _ {X Y : Type 0} (f : X → Y) where
  pub get-map : (xs : List X) (n : ℕ) → slice_get (map f xs) n ≡ option_map f (slice_get xs n)
  get-map [] n = refl
  get-map (x ∷ xs) zero = refl
  get-map (x ∷ xs) (suc n) = get-map xs n

  pub length-mapped : (xs : List X) → length (map f xs) ≡ length xs
  length-mapped [] = refl
  length-mapped (x ∷ xs) = ap (λ (n : ℕ). suc n) (length-mapped xs)

  -- what is at a place of the list, as it is shown
  pub found_in : (xs : List X) (ys : List Y) (n : ℕ) (d : X) → map f xs ≡ ys → n < length xs → slice_get ys n ≡ Some (f (get_or xs n d))
  found_in [] ys n d same h = absurd (omega arith)
  found_in (x ∷ xs) ys zero d same h = ap (λ l. slice_get l 0) (sym same)
  found_in (x ∷ xs) ys (suc n) d same h = ap (λ l. slice_get l (suc n)) (sym same) ∙ found_in xs (map f xs) n d refl (omega arith)

module _ {X Y : Type 0} (f : X → Y) (xs : List X) (rest : List Y) where
  pub mapped_first : (n : ℕ) (x : X) → slice_get xs n ≡ Some x → slice_get (map f xs ++ rest) n ≡ Some (f x)
  mapped_first n x h =
      let within : n < length xs = there xs n x h in
      let long : length (map f xs) ≡ length xs = length-mapped f xs in
      in_first (map f xs) rest n (omega arith) ∙ get-map f xs n ∙ ap (option_map f) h

  pub mapped_behind : (n k : ℕ) → k + length xs ≡ n → slice_get (map f xs ++ rest) n ≡ slice_get rest k
  mapped_behind n k e = let long : length (map f xs) ≡ length xs = length-mapped f xs in behind_first (map f xs) rest n k (omega arith)

pub three_sections : {X Y : Type 0} (f : X → Y) (xs ys : List X) (rest : List Y) → map f (xs ++ ys) ++ rest ≡ map f xs ++ (map f ys ++ rest)
three_sections f xs ys rest = ap (λ l. l ++ rest) (map-append f xs ys) ∙ append_assoc (map f xs) (map f ys) rest
