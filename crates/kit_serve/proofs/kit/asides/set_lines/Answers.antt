use Rattle.std.proofs.Common.{◌≡◌, ◌<◌, ◌++◌, ◌∷◌, [], List, ℕ, length, ap, sym, ◌∙◌, arith}
use Rattle.annex_model.specs.Messages.{remote_line, Setconfig}
use Rattle.kit_serve.specs.Kit.Descriptions.{set_message}
use Rattle.kit_serve.proofs.KitLemmas.Describing.{all_next}
use Rattle.kit_serve.proofs.kit.asides.set_lines.Goals as goal

pub loop-pair-preserved : goal.loop-pair-preserved
loop-pair-preserved c =
    let within : c.loop-pair.pair-index < length c.args.pairs.now = omega arith in
    let more = all_next set_message c.args.pairs.now c.loop-pair.pair-index c.pair-item.result within c.pair-item.is in
    let said : remote_line (Setconfig c.view.result.now c.view-in-loop-pair.result.now) ≡ remote_line (Setconfig c.pair-item.result.name c.pair-item.result.text) =
    ap (λ (name : List ℕ). remote_line (Setconfig name c.view-in-loop-pair.result.now)) c.view.ensures
    ∙ ap (λ (text : List ℕ). remote_line (Setconfig c.pair-item.result.name text)) c.view-in-loop-pair.ensures in
    record {
      line = c.in_ok-push.ensures.line ∙ ap (λ (l : List ℕ). c.loop-pair.say.items ++ l ∷ []) said
          ∙ ap (λ (ls : List (List ℕ)). ls ++ remote_line (Setconfig c.pair-item.result.name c.pair-item.result.text) ∷ []) c.loop-pair.invariant.line ∙ sym more;
      lines = c.in_ok-push.ensures.lines c.loop-pair.invariant.lines;
    }
