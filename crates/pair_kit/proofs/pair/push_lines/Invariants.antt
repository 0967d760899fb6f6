use Rattle.std.proofs.Common.{◌≡◌, ◌++◌, take}
use Rattle.annex_model.specs.Lines.{text}
use Rattle.pair_kit.proofs.pair.push_lines.Given as goal

-- the lines so far
abbrev pub invariant-loop-line : goal.invariant-loop-line
invariant-loop-line l = l.pipe ≡ l.initial.pipe ++ text (take l.line-index l.line-items)
