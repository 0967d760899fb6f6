use Rattle.std.proofs.Common.{◌<◌, List, ℕ, ◌++◌, length, ap, sym, ◌∙◌, arith}
use Rattle.kit_async_model.specs.Abouts.{fact_lines}
use Rattle.kit_async_model.proofs.FactLines.{facts_next}
use Rattle.kit_async_model.proofs.about.all_facts.Goals as goal

pub loop-fact-preserved : goal.loop-fact-preserved
loop-fact-preserved c =
    let within : c.loop-fact.fact-index < length c.args.facts.now = omega arith in
    c.in_ok-push_fact.ensures
    ∙ ap (λ (ls : List (List ℕ)). ls ++ fact_lines c.args.told.now c.fact-item.result) c.loop-fact.invariant
    ∙ sym (facts_next c.args.told.now c.args.facts.now c.loop-fact.fact-index c.fact-item.result within c.fact-item.is)
