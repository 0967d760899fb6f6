use Rattle.std.proofs.Common.{◌≡◌, ◌++◌, take}
use Rattle.annex_model.specs.Lines.{text}
use Rattle.kept_file.proofs.text.writing.push_lines.Given as goal

abbrev pub invariant-loop-line : goal.invariant-loop-line
invariant-loop-line l = l.text.items ≡ l.initial.text.items ++ text (take l.line-index l.lines)
