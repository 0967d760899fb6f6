use Rattle.std.proofs.Common.{◌≡◌, ◌<◌, ◌++◌, ◌∷◌, [], List, ℕ, length, map, take, ap, sym, ◌∙◌, arith, append_assoc}
use Rattle.annex_model.specs.Messages.{remote_line, Infofield, Infovalue}
use Rattle.kit_serve.specs.Kit.Descriptions.{all_messages, info_messages}
use Rattle.kit_serve.proofs.KitLemmas.Describing.{all_next}
use Rattle.kit_serve.proofs.kit.asides.info_lines.Goals as goal

pub loop-pair-preserved : goal.loop-pair-preserved
loop-pair-preserved c =
    let within : c.loop-pair.pair-index < length c.args.pairs.now = omega arith in
    let more = all_next info_messages c.args.pairs.now c.loop-pair.pair-index c.pair-item.result within c.pair-item.is in
    let name : remote_line (Infofield c.view.result.now) ≡ remote_line (Infofield c.pair-item.result.name) = cc in
    let text : remote_line (Infovalue c.view-in-loop-pair.result.now) ≡ remote_line (Infovalue c.pair-item.result.text) = cc in
    let a : List ℕ = remote_line (Infofield c.pair-item.result.name) in
    let b : List ℕ = remote_line (Infovalue c.pair-item.result.text) in
    let first : c.push.new.lines.items ≡ map remote_line (all_messages info_messages (take c.loop-pair.pair-index c.args.pairs.now)) ++ a ∷ [] =
    c.in_ok-push.ensures.line ∙ ap (λ (l : List ℕ). c.loop-pair.say.items ++ l ∷ []) name ∙ ap (λ (ls : List (List ℕ)). ls ++ a ∷ []) c.loop-pair.invariant.line in
    record {
      line = c.in_ok-push-2.ensures.line ∙ ap (λ (l : List ℕ). c.push.new.lines.items ++ l ∷ []) text ∙ ap (λ (ls : List (List ℕ)). ls ++ b ∷ []) first
          ∙ append_assoc (map remote_line (all_messages info_messages (take c.loop-pair.pair-index c.args.pairs.now))) (a ∷ []) (b ∷ []) ∙ sym more;
      lines = c.in_ok-push-2.ensures.lines (c.in_ok-push.ensures.lines c.loop-pair.invariant.lines);
    }
