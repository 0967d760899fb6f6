-- How the steps that are told add up.
use Rattle.std.proofs.Common.{◌≡◌, ◌∙◌, List, [], ◌++◌, refl, sym, ap, append_assoc, append-nil}
use Rattle.std.specs.Prelude.{Option, Some, None, option_map}
use Rattle.dir_remote.specs.Guard.Steps.{Adds}
use Rattle.dir_remote.specs.declared.guard.place.Step.{Step}

pub adds_none : (a : Option (List Step)) → Adds a a []
adds_none None = refl
adds_none (Some xs) = ap (λ (steps : List Step). Some steps) (sym (append-nil xs))

adds_twice : (a : Option (List Step)) (xs ys : List Step)
    → option_map {U = List Step} (λ (steps : List Step). steps ++ ys) (option_map {U = List Step} (λ (steps : List Step). steps ++ xs) a)
    ≡ option_map {U = List Step} (λ (steps : List Step). steps ++ (xs ++ ys)) a
adds_twice None xs ys = refl
adds_twice (Some told) xs ys = ap (λ (steps : List Step). Some steps) (append_assoc told xs ys)

pub adds_more : (a b c : Option (List Step)) (xs ys : List Step) → Adds a b xs → Adds b c ys → Adds a c (xs ++ ys)
adds_more a b c xs ys e f = f ∙ ap (option_map {U = List Step} (λ (steps : List Step). steps ++ ys)) e ∙ adds_twice a xs ys
