use Rattle.std.proofs.Common.{◌≡◌, ◌++◌, map}
use Rattle.std.specs.Vec.Iter.{into_iter_items}
use Rattle.kit_serve.specs.declared.kit.describe.Pair.{Pair}
use Rattle.kit_async_model.specs.declared.about.Fact.TheVariants.{Fixed}
use Rattle.kit_async_model.proofs.about.facts_of.Given as goal

-- those of the pairs so far
abbrev pub invariant-loop-pair : goal.invariant-loop-pair
invariant-loop-pair l = record {
  all : l.fn.pairs.items ≡ l.yielded ++ into_iter_items l.pair-iterator;
  made : l.facts.items ≡ map (λ (p : Pair). Fixed p.name p.text) l.yielded;
}
