-- Roles that came back are taken back from their last on.
use Rattle.std.proofs.Common.{◌≡◌, List, [], ◌∷◌, ◌++◌, map, sym, ap, subst, ◌∙◌, append_assoc}
use Rattle.std.specs.Prelude.{All, reverse}
use Rattle.std.proofs.lemmas.List.{map-append, reverse-append}
use Rattle.std.proofs.lemmas.List.Elements.{All-nil, All-cons, All-head, All-tail}
use Rattle.threads.specs.declared.roles.back.Back.{Back}
use Rattle.threads.specs.Roles.BackRole.{role_of}
use Rattle.crew_rounds.specs.Tagged.Backs.{roles_of}

-- the last that came back is taken back before the others
pub taken_back : {E X : Type 0} (f : E → X) (bs cs : List (Back E)) (b : Back E) (r : E) (old new all : List X) → bs ≡ cs ++ b ∷ [] → r ≡ role_of b → new ≡ old ++ f r ∷ []
    → old ++ map f (reverse (roles_of bs)) ≡ all → new ++ map f (reverse (roles_of cs)) ≡ all
taken_back {E} {X} f bs cs b r old new all popped role pushed is =
    ap (λ (l : List X). l ++ map f (reverse (roles_of cs))) (pushed ∙ ap (λ (x : E). old ++ f x ∷ []) role) ∙ append_assoc old (f (role_of b) ∷ []) (map f (reverse (roles_of cs)))
    ∙ ap (λ (l : List E). old ++ map f l) (sym (reverse-append (roles_of cs) (role_of b ∷ []))) ∙ ap (λ (l : List E). old ++ map f (reverse l)) (sym (map-append role_of cs (b ∷ [])))
    ∙ ap (λ (l : List (Back E)). old ++ map f (reverse (roles_of l))) (sym popped) ∙ is
