-- Texts of lines grow at their end.
use Rattle.std.proofs.Common.{◌≡◌, ℕ, zero, suc, ◌+◌, Bool, true, false, cond, List, [], ◌∷◌, ◌++◌, map, filter, take, Some, None, refl, sym, ap, ◌∙◌, append_assoc, add-one, ◌<◌, length, get_or}
use Rattle.std.proofs.Math.Seq.{take-suc}
use Rattle.std.specs.List.{slice_get}
use Rattle.annex_model.specs.Lines.{text}
use Rattle.std.proofs.lemmas.List.{map-append as mapped-append}
use Rattle.annex_model.proofs.Across.{text-append}

pub filtered-append : {X : Type 0} (p : X → Bool) (xs ys : List X) → filter p (xs ++ ys) ≡ filter p xs ++ filter p ys
filtered-append p [] ys = refl
filtered-append p (x ∷ xs) ys = go (p x) (filtered-append p xs ys)
  where
    go : (b : Bool) → filter p (xs ++ ys) ≡ filter p xs ++ filter p ys → cond b (x ∷ filter p (xs ++ ys)) (filter p (xs ++ ys)) ≡ cond b (x ∷ filter p xs) (filter p xs) ++ filter p ys
    go true h = ap (λ rest. x ∷ rest) h
    go false h = h

-- what lines are made of the elements of a list, as a text
module _ {X Y : Type 0} (show : X → Y) (p : Y → Bool) (written : Y → List ℕ) where
  abbrev pub made : List X → List ℕ
  made xs = text (map written (filter p (map show xs)))

  pub made-append : (xs ys : List X) → made (xs ++ ys) ≡ made xs ++ made ys
  made-append xs ys =
      ap (λ zs. text (map written (filter p zs))) (mapped-append show xs ys)
      ∙ ap (λ zs. text (map written zs)) (filtered-append p (map show xs) (map show ys))
      ∙ ap text (mapped-append written (filter p (map show xs)) (filter p (map show ys)))
      ∙ text-append (map written (filter p (map show xs))) (map written (filter p (map show ys)))

-- ---- a list that is collected from its places
module _ {X Y : Type 0} (f : X → Y) where
  next_front : (xs : List X) (n : ℕ) (x : X) → slice_get xs n ≡ Some x → take (suc n) xs ≡ take n xs ++ x ∷ []
  next_front [] n x h = absurd cc
  next_front (y ∷ xs) zero x h = let e : y ≡ x = cc in ap (λ z. z ∷ []) e
  next_front (y ∷ xs) (suc n) x h = ap (λ rest. y ∷ rest) (next_front xs n x h)

  whole_front : (xs : List X) (n : ℕ) → slice_get xs n ≡ None → take n xs ≡ xs
  whole_front [] zero h = refl
  whole_front [] (suc n) h = refl
  whole_front (y ∷ xs) zero h = absurd cc
  whole_front (y ∷ xs) (suc n) h = ap (λ rest. y ∷ rest) (whole_front xs n h)

  module _ (xs : List X) (got : List Y) (n k : ℕ) (same : k ≡ n) (so_far : got ≡ map f (take n xs)) where
    pub one_more : (got' : List Y) (n' : ℕ) (x : X) (y : Y) → n' ≡ n + 1 → Some x ≡ slice_get xs k → y ≡ f x → got' ≡ got ++ y ∷ [] → got' ≡ map f (take n' xs)
    one_more got' n' x y next found is pushed =
        let at : slice_get xs n ≡ Some x = ap (slice_get xs) (sym same) ∙ sym found in
        pushed
        ∙ ap (λ g. g ++ y ∷ []) so_far
        ∙ ap (λ z. map f (take n xs) ++ z ∷ []) is
        ∙ sym (mapped-append f (take n xs) (x ∷ []))
        ∙ ap (map f) (sym (next_front xs n x at))
        ∙ ap (λ (i : ℕ). map f (take i xs)) (sym (next ∙ add-one n))

    pub all_got : None ≡ slice_get xs k → got ≡ map f xs
    all_got past = so_far ∙ ap (map f) (whole_front xs n (ap (slice_get xs) (sym same) ∙ sym past))

-- ---- one element more at the end of a text
next_item : {X : Type 0} (xs : List X) (i : ℕ) (x : X) → i < length xs → x ≡ get_or xs i x → take (i + 1) xs ≡ take i xs ++ x ∷ []
next_item xs i x h is = ap (λ (n : ℕ). take n xs) (add-one i) ∙ take-suc xs i x h ∙ ap (λ z. take i xs ++ z ∷ []) (sym is)

pub text_more : (lines : List (List ℕ)) (i : ℕ) (line start old new : List ℕ) → i < length lines → line ≡ get_or lines i line → old ≡ start ++ text (take i lines)
    → new ≡ (old ++ line) ++ 10 ∷ [] → new ≡ start ++ text (take (i + 1) lines)
text_more lines i line start old new h is so_far pushed =
    pushed
    ∙ ap (λ (t : List ℕ). (t ++ line) ++ 10 ∷ []) so_far
    ∙ append_assoc (start ++ text (take i lines)) line (10 ∷ [])
    ∙ append_assoc start (text (take i lines)) (line ++ 10 ∷ [])
    ∙ ap (λ (t : List ℕ). start ++ t) (sym (ap text (next_item lines i line h is) ∙ text-append (take i lines) (line ∷ [])))

module _ {X Y : Type 0} (show : X → Y) (p : Y → Bool) (written : Y → List ℕ) where
  pub made_more : (xs : List X) (i : ℕ) (d : X) (start old new : List ℕ) → i < length xs → old ≡ start ++ made show p written (take i xs)
      → new ≡ old ++ made show p written (get_or xs i d ∷ []) → new ≡ start ++ made show p written (take (i + 1) xs)
  made_more xs i d start old new h so_far pushed =
      let x : X = get_or xs i d in
      let next : take (i + 1) xs ≡ take i xs ++ get_or xs i d ∷ [] = ap (λ (n : ℕ). take n xs) (add-one i) ∙ take-suc xs i d h in
      pushed
      ∙ ap (λ (t : List ℕ). t ++ made show p written (x ∷ [])) so_far
      ∙ append_assoc start (made show p written (take i xs)) (made show p written (x ∷ []))
      ∙ ap (λ (t : List ℕ). start ++ t) (sym (ap (made show p written) next ∙ made-append show p written (take i xs) (x ∷ [])))

-- ---- three texts after a first line
pub whole_text : (first : List ℕ) (a b c : List (List ℕ)) (t0 t1 t2 t3 : List ℕ) → t0 ≡ first ++ 10 ∷ [] → t1 ≡ t0 ++ text a → t2 ≡ t1 ++ text b → t3 ≡ t2 ++ text c
    → t3 ≡ text (first ∷ (a ++ b ++ c))
whole_text first a b c t0 t1 t2 t3 h0 h1 h2 h3 =
    let lines : text (a ++ b ++ c) ≡ (text a ++ text b) ++ text c = text-append (a ++ b) c ∙ ap (λ (t : List ℕ). t ++ text c) (text-append a b) in
    h3
    ∙ ap (λ (t : List ℕ). t ++ text c) (h2 ∙ ap (λ (t : List ℕ). t ++ text b) (h1 ∙ ap (λ (t : List ℕ). t ++ text a) h0))
    ∙ regroup first (text a) (text b) (text c)
    ∙ ap (λ (t : List ℕ). first ++ 10 ∷ t) (sym lines)
  where
    regroup : (f a b c : List ℕ) → (((f ++ 10 ∷ []) ++ a) ++ b) ++ c ≡ f ++ 10 ∷ ((a ++ b) ++ c)
    regroup f a b c = simp append_assoc
