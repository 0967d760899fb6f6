use Rattle.std.proofs.Common.{◌<◌, ◌^◌, arith}
use Rattle.journal_reader.proofs.LineFields.{not_few}
use Rattle.journal_reader.proofs.fields.few_of.Goals as goal

pub returns-else-n-le8 : goal.returns-else-n-le8
returns-else-n-le8 c =
    let many : 8 < c.in-Some.n = omega (arith, c.if-n-le8.false) in
    let small : c.in-Some.n < 2 ^ 64 = omega arith in
    not_few c.args.text.now c.in_ok-n.field-0 c.in-Some.n c.in_ok-n.ensures c.in-Some.is small many
