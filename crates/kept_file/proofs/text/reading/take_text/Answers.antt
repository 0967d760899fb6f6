use Rattle.std.proofs.Common.{◌≡◌, ◌==◌, ◌∷◌, false, length, arith, sym, ◌∙◌}
use Rattle.std.proofs.lemmas.Bool.Decides.{nat_tests}
use Rattle.std.proofs.lemmas.Result.{on_ok_weaker, IfErr-weaker}
use Rattle.kept_file.specs.Text.KeptFiles.{lines_in}
use Rattle.kept_file.proofs.TextLemmas.Cutting.{first_line}
use Rattle.kept_file.proofs.TextLemmas.Heads.{other_head, right_head, head_fault, head_registers, head_notes}
use Rattle.kept_file.proofs.text.reading.take_text.Goals as goal

pub returns-then-not-is_head-clause-fault : goal.returns-then-not-is_head-clause-fault
returns-then-not-is_head-clause-fault c =
    let some : (length c.args.text.now == 0) ≡ false = grind (arith, nat_tests) in
    let cut : lines_in c.args.text.now ≡ c.cut_at.result.0.now ∷ lines_in c.cut_at.result.1.now = rw (c.cut_at.ensures.before, c.cut_at.ensures.after) (first_line c.args.text.now some) in
    other_head c.args.text.now c.cut_at.result.0.now (lines_in c.cut_at.result.1.now) cut (sym c.is_head.ensures ∙ c.if-not-is_head.true)

pub returns-clause-fault : goal.returns-clause-fault
returns-clause-fault c =
    let some : (length c.args.text.now == 0) ≡ false = grind (arith, nat_tests) in
    let cut : lines_in c.args.text.now ≡ c.cut_at.result.0.now ∷ lines_in c.cut_at.result.1.now = rw (c.cut_at.ensures.before, c.cut_at.ensures.after) (first_line c.args.text.now some) in
    IfErr-weaker c.take_lines.result _ _ (head_fault c.args.text.now c.cut_at.result.0.now (lines_in c.cut_at.result.1.now) cut (sym c.is_head.ensures ∙ c.if-not-is_head.false)) c.take_lines.ensures.fault

pub returns-clause-whole : goal.returns-clause-whole
returns-clause-whole c =
    let some : (length c.args.text.now == 0) ≡ false = grind (arith, nat_tests) in
    let cut : lines_in c.args.text.now ≡ c.cut_at.result.0.now ∷ lines_in c.cut_at.result.1.now = rw (c.cut_at.ensures.before, c.cut_at.ensures.after) (first_line c.args.text.now some) in
    on_ok_weaker c.take_lines.result (λ whole. right_head c.args.text.now c.cut_at.result.0.now (lines_in c.cut_at.result.1.now) cut (sym c.is_head.ensures ∙ c.if-not-is_head.false) ∙ whole) c.take_lines.ensures.whole

pub returns-clause-registers : goal.returns-clause-registers
returns-clause-registers c =
    let some : (length c.args.text.now == 0) ≡ false = grind (arith, nat_tests) in
    let cut : lines_in c.args.text.now ≡ c.cut_at.result.0.now ∷ lines_in c.cut_at.result.1.now = rw (c.cut_at.ensures.before, c.cut_at.ensures.after) (first_line c.args.text.now some) in
    on_ok_weaker c.take_lines.result (head_registers c.args.text.now c.cut_at.result.0.now (lines_in c.cut_at.result.1.now) cut c.args.registers.now c.take_lines.new.registers c.requires.registers) c.take_lines.ensures.registers

pub returns-clause-notes : goal.returns-clause-notes
returns-clause-notes c =
    let some : (length c.args.text.now == 0) ≡ false = grind (arith, nat_tests) in
    let cut : lines_in c.args.text.now ≡ c.cut_at.result.0.now ∷ lines_in c.cut_at.result.1.now = rw (c.cut_at.ensures.before, c.cut_at.ensures.after) (first_line c.args.text.now some) in
    on_ok_weaker c.take_lines.result (λ counts. head_notes c.args.text.now c.cut_at.result.0.now (lines_in c.cut_at.result.1.now) cut c.take_lines.new.notes (rw c.requires.notes at counts)) c.take_lines.ensures.notes
