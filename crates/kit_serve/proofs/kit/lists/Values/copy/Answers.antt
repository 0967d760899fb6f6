use Rattle.std.proofs.Common.{◌<◌, ◌++◌, ◌∷◌, [], List, ℕ, length, take, ap, sym, ◌∙◌, arith}
use Rattle.std.proofs.lemmas.List.{take_more}
use Rattle.kit_serve.proofs.kit.lists.Values.copy.Goals as goal

pub loop-value-preserved : goal.loop-value-preserved
loop-value-preserved c =
    let within : c.loop-value.value-index < length c.as_slice-value-items.result.now = omega arith in
    let more = take_more c.as_slice-value-items.result.now c.loop-value.value-index c.value-item.result within
    ∙ ap (λ (v : List ℕ). take c.loop-value.value-index c.as_slice-value-items.result.now ++ v ∷ []) (sym c.value-item.is) in
    c.in_ok-push.ensures.items ∙ ap (λ (v : List ℕ). c.loop-value.items.items ++ v ∷ []) (c.in_ok-copy.ensures ∙ c.view.ensures)
    ∙ ap (λ (vs : List (List ℕ)). vs ++ c.value-item.result ∷ []) c.loop-value.invariant ∙ sym more
