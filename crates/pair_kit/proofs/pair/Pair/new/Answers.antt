use Rattle.std.proofs.Common.{ℕ, List, [], ◌∷◌, ◌++◌, ap, ◌∙◌}
use Rattle.std.specs.Prelude.{codes}
use Rattle.pair_kit.proofs.Started.{new_is}
use Rattle.pair_kit.proofs.pair.Pair.new.Goals as goal

pub returns : goal.returns
returns c =
    new_is c.new-2.result c.from_vec.result c.new-4.result.items c.new-5.result c.new-6.result c.push_line.new.self c.new-7.result
    (c.new-2.ensures.remote ∙ c.new.ensures) c.new-2.ensures.follows (c.from_vec.ensures ∙ c.new-3.ensures.items) c.new-4.ensures.items c.new-5.ensures c.new-6.ensures
    (c.in_ok-push_line.ensures ∙ ap (λ (l : List ℕ). l ++ codes "VERSION 1" ++ 10 ∷ []) c.new-to_host.ensures) c.new-7.ensures
