use Rattle.std.proofs.Common.{[]}
use Rattle.registers.specs.RegLines.{line_of}
use Rattle.registers.specs.declared.line.RegLine.{RegLine}
use Rattle.registers.specs.declared.line.RegLine.TheVariants.{Config}
use Rattle.kept_file.specs.Text.KeptFiles.{is_of_kind, written_line}
use Rattle.kept_file.proofs.TextLemmas.Texts.{made_more}
use Rattle.kept_file.proofs.text.writing.push_kind.Goals as goal

-- what stands past the end of a list of lines
past : RegLine
past = Config (record { ref_ptr = (0, 0); now = [] }) (record { ref_ptr = (0, 0); now = [] })

pub loop-line-preserved : goal.loop-line-preserved
unfolding past
loop-line-preserved c =
    made_more line_of (is_of_kind c.args.config) written_line c.args.lines.now c.loop-line.line-index past c.args.text.now.items c.loop-line.text.items c.push_if.new.text.items
    c.loop-line-test.true c.loop-line.invariant c.in_ok-push_if.ensures
