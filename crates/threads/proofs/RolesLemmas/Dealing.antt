-- Lists that are dealt from their ends, and lists that are related place by place, from their last element on.
use Rattle.std.proofs.Common.{◌≡◌, List, [], ◌∷◌, ◌++◌, map, refl, sym, ap, subst, ◌∙◌, append_assoc, suc, length}
use Rattle.std.specs.Prelude.{All, reverse}
use Rattle.std.proofs.lemmas.List.{reverse-append}
use Rattle.std.proofs.lemmas.List.Elements.{All-nil, All-cons, All-head, All-tail}
use Rattle.ann_key.specs.Pairs.{Pairwise}
use Rattle.threads.proofs.RolesLemmas.Pairs.{pairwise-snoc}

-- the last of a list was dealt, after those that were dealt before
pub dealt : {W X : Type 0} (f : W → X) (all old new : List X) (x : X) (ws vs : List W) (w : W) → f w ≡ x → old ≡ new ++ x ∷ [] → all ≡ old ++ map f (reverse ws)
    → vs ≡ ws ++ w ∷ [] → all ≡ new ++ map f (reverse vs)
dealt {W} {X} f all old new x ws vs w is popped e pushed =
    e ∙ ap (λ (l : List X). l ++ map f (reverse ws)) popped ∙ append_assoc new (x ∷ []) (map f (reverse ws))
    ∙ ap (λ (y : X). new ++ y ∷ map f (reverse ws)) (sym is) ∙ ap (λ (l : List W). new ++ map f l) (sym (reverse-append ws (w ∷ [])))
    ∙ ap (λ (l : List W). new ++ map f (reverse l)) (sym pushed)

pub all_snoc : {W : Type 0} (P : W → Type 0) (ws : List W) (w : W) → All P ws → P w → All P (ws ++ w ∷ [])
all_snoc P [] w all h = All-cons P w [] h (All-nil P)
all_snoc P (v ∷ ws) w all h = All-cons P v (ws ++ w ∷ []) (All-head P v ws all) (all_snoc P ws w (All-tail P v ws all) h)

pub all_pushed : {W : Type 0} (ws vs : List W) (w : W) → vs ≡ ws ++ w ∷ [] → (P : W → Type 0) → All P ws → P w → All P vs
all_pushed ws vs w is P all h = subst (All P) (sym is) (all_snoc P ws w all h)

pub reverse_cons : {A : Type 0} (x : A) (xs : List A) → reverse (x ∷ xs) ≡ reverse xs ++ x ∷ []
reverse_cons x xs = reverse-append (x ∷ []) xs

pub pairwise_reverse : {A B : Type 0} (R : A → B → Type 0) (xs : List A) (ys : List B) → Pairwise R xs ys → Pairwise R (reverse xs) (reverse ys)
pairwise_reverse R [] [] all = tt
pairwise_reverse R [] (y ∷ ys) all = absurd all
pairwise_reverse R (x ∷ xs) [] all = absurd all
pairwise_reverse {A} {B} R (x ∷ xs) (y ∷ ys) all =
    subst (λ (l : List A). Pairwise R l (reverse (y ∷ ys))) (sym (reverse_cons x xs))
    (subst (λ (l : List B). Pairwise R (reverse xs ++ x ∷ []) l) (sym (reverse_cons y ys))
    (pairwise-snoc R (reverse xs) (reverse ys) x y (pairwise_reverse R xs ys all.1) all.0))

pub pairwise_length : {A B : Type 0} (R : A → B → Type 0) (xs : List A) (ys : List B) → Pairwise R xs ys → length xs ≡ length ys
pairwise_length R [] [] all = refl
pairwise_length R [] (y ∷ ys) all = absurd all
pairwise_length R (x ∷ xs) [] all = absurd all
pairwise_length R (x ∷ xs) (y ∷ ys) all = ap suc (pairwise_length R xs ys all.1)

pub all_reverse : {A : Type 0} (P : A → Type 0) (xs : List A) → All P xs → All P (reverse xs)
all_reverse P [] all = All-nil P
all_reverse P (x ∷ xs) all =
    subst (All P) (sym (reverse_cons x xs)) (all_snoc P (reverse xs) x (all_reverse P xs (All-tail P x xs all)) (All-head P x xs all))

pub map_map : {A B C : Type 0} (f : A → B) (g : B → C) (xs : List A) → map g (map f xs) ≡ map (λ x. g (f x)) xs
map_map f g [] = refl
map_map f g (x ∷ xs) = ap (λ l. g (f x) ∷ l) (map_map f g xs)
