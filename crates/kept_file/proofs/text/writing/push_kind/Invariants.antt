use Rattle.std.proofs.Common.{◌≡◌, ◌++◌, take}
use Rattle.registers.specs.RegLines.{line_of}
use Rattle.kept_file.specs.Text.KeptFiles.{is_of_kind, written_line}
use Rattle.kept_file.proofs.TextLemmas.Texts.{made}
use Rattle.kept_file.proofs.text.writing.push_kind.Given as goal

abbrev pub invariant-loop-line : goal.invariant-loop-line
invariant-loop-line l = l.text.items ≡ l.initial.text.items ++ made line_of (is_of_kind l.config) written_line (take l.line-index l.lines)
