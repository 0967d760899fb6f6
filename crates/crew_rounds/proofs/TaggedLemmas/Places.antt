-- What came back of roles, from the last on.
use Rattle.std.proofs.Common.{◌≡◌, List, [], ◌∷◌, ◌++◌, map, Bool, true, false, refl, sym, ap, subst, ◌∙◌, suc, length}
use Rattle.std.specs.Prelude.{◌||◌, All, reverse}
use Rattle.std.specs.List.{list_any}
use Rattle.std.proofs.lemmas.List.{map-append, reverse-append}
use Rattle.std.proofs.lemmas.List.Elements.{All-nil, All-head, All-tail}
use Rattle.std.proofs.lemmas.List.Folds.{list_any-append}
use Rattle.threads.specs.declared.roles.back.Back.{Back}
use Rattle.threads.specs.declared.roles.back.Back.TheVariants.{Stayed, Ran}
use Rattle.threads.specs.Roles.Back.{CameBack}
use Rattle.threads.specs.Roles.BackRole.{has_run, role_of}
use Rattle.crew_rounds.specs.Tagged.Backs.{roles_of}
use Rattle.threads.proofs.RolesLemmas.Dealing.{map_map, reverse_cons}
use Rattle.ann_key.specs.Pairs.{Pairwise}

or_swap : (a b : Bool) → (a || (b || false)) ≡ (b || a)
or_swap true true = refl
or_swap true false = refl
or_swap false true = refl
or_swap false false = refl

pub any_reverse : {A : Type 0} (f : A → Bool) (xs : List A) → list_any f (reverse xs) ≡ list_any f xs
any_reverse f [] = refl
any_reverse f (x ∷ xs) =
    ap (list_any f) (reverse_cons x xs) ∙ list_any-append f (reverse xs) (x ∷ []) ∙ or_swap (list_any f (reverse xs)) (f x) ∙ ap (λ (b : Bool). f x || b) (any_reverse f xs)

map_reverse : {A B : Type 0} (f : A → B) (xs : List A) → map f (reverse xs) ≡ reverse (map f xs)
map_reverse f [] = refl
map_reverse f (x ∷ xs) =
    ap (map f) (reverse_cons x xs) ∙ map-append f (reverse xs) (x ∷ []) ∙ ap (λ l. l ++ f x ∷ []) (map_reverse f xs) ∙ sym (reverse_cons (f x) (map f xs))

-- what is told of the roles, from the last on
pub roles_order : {W X : Type 0} (f : W → X) (bs : List (Back W)) → map f (reverse (roles_of bs)) ≡ map (λ b. f (role_of b)) (reverse bs)
roles_order f bs = ap (map f) (sym (map_reverse role_of bs)) ∙ map_map role_of f (reverse bs)

-- where nobody ran, what came back is what was begun with
pub stayed_same : {W : Type 0} (ran : W → W → Type 0) (ws : List W) (bs : List (Back W)) → Pairwise (CameBack ran) ws bs → list_any has_run bs ≡ false → roles_of bs ≡ ws
stayed_same ran [] [] all none = refl
stayed_same ran [] (b ∷ bs) all none = absurd all
stayed_same ran (w ∷ ws) [] all none = absurd all
stayed_same ran (w ∷ ws) (Stayed v ∷ bs) all none =
    let here : v ≡ w = all.0 in
    let more : roles_of bs ≡ ws = stayed_same ran ws bs all.1 none in
    cc
stayed_same ran (w ∷ ws) (Ran v ∷ bs) all none = absurd cc
