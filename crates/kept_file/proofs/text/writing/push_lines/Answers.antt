use Rattle.std.proofs.Common.{◌++◌, [], ◌∷◌, List, ℕ, ap, ◌∙◌, arith}
use Rattle.kept_file.proofs.TextLemmas.Texts.{text_more}
use Rattle.kept_file.proofs.text.writing.push_lines.Goals as goal

pub loop-line-preserved : goal.loop-line-preserved
loop-line-preserved c =
    text_more c.args.lines.now c.loop-line.line-index c.line-item.result c.args.text.now.items c.loop-line.text.items c.push_line.new.text.items
    (omega arith) c.line-item.is c.loop-line.invariant
    (c.in_ok-push_line.ensures ∙ ap (λ (l : List ℕ). (c.loop-line.text.items ++ l) ++ 10 ∷ []) c.view.ensures)
