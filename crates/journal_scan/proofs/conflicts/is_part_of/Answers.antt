use Rattle.std.proofs.Common.{◌∙◌, ◌≡◌, ◌+◌, ◌-◌, sym, ap, length, arith, Bool}
use Rattle.std.specs.Prelude.{◌&&◌}
use Rattle.journal_scan.proofs.Parted.{part_tested}
use Rattle.journal_scan.proofs.conflicts.is_part_of.Goals as goal

pub returns-then-begins : goal.returns-then-begins
returns-then-begins c =
    let at = length c.args.text.now - 5 in
    let long : at + 5 ≡ length c.args.text.now = omega (arith, c.if-text-lt5.false) in
    sym (ap (λ (b : Bool). b && c.same-ends.result) c.if-begins.true)
    ∙ part_tested c.args.text.now c.args.other.now at c.same-begins.result c.same-ends.result long c.same-begins.ensures c.same-ends.ensures

pub returns-else-begins : goal.returns-else-begins
returns-else-begins c =
    let at = length c.args.text.now - 5 in
    let long : at + 5 ≡ length c.args.text.now = omega (arith, c.if-text-lt5.false) in
    c.if-begins.false ∙ sym (ap (λ (b : Bool). b && c.same-ends.result) c.if-begins.false)
    ∙ part_tested c.args.text.now c.args.other.now at c.same-begins.result c.same-ends.result long c.same-begins.ensures c.same-ends.ensures
