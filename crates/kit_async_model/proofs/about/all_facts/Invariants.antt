use Rattle.std.proofs.Common.{◌≡◌, take}
use Rattle.kit_async_model.specs.Abouts.{all_facts}
use Rattle.kit_async_model.proofs.about.all_facts.Given as goal

-- those of the facts so far
abbrev pub invariant-loop-fact : goal.invariant-loop-fact
invariant-loop-fact l = l.lines.items ≡ all_facts l.told (take l.fact-index l.facts)
