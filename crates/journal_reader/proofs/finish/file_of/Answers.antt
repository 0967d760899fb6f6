use Rattle.std.proofs.Common.{◌++◌, [], ◌∷◌, List, ℕ, ap, ◌∙◌, arith}
use Rattle.annex_model.specs.Lines.{text}
use Rattle.kept_file.specs.Text.KeptFiles.{head}
use Rattle.kept_file.proofs.TextLemmas.Texts.{text_more}
use Rattle.journal_reader.proofs.finish.file_of.Goals as goal

pub loop-line-preserved : goal.loop-line-preserved
loop-line-preserved c =
    text_more c.args.kept.now c.loop-line.line-index c.line-item.result (text (head ∷ [])) c.loop-line.text.items c.push.new.self.items
    (omega arith) c.line-item.is c.loop-line.invariant
    (c.in_ok-push.ensures.items ∙ ap (λ (t : List ℕ). t ++ 10 ∷ []) (c.in_ok-extend_from_slice.ensures.items ∙ ap (λ (l : List ℕ). c.loop-line.text.items ++ l) c.view.ensures))
