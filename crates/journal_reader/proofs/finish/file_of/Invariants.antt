use Rattle.std.proofs.Common.{◌≡◌, ◌++◌, ◌∷◌, [], take}
use Rattle.annex_model.specs.Lines.{text}
use Rattle.kept_file.specs.Text.KeptFiles.{head}
use Rattle.journal_reader.proofs.finish.file_of.Given as goal

abbrev pub invariant-loop-line : goal.invariant-loop-line
invariant-loop-line l = l.text.items ≡ text (head ∷ []) ++ text (take l.line-index l.kept)
