use Rattle.std.proofs.Common.{take, drop, length, ◌-◌, sym}
use Rattle.std.proofs.lemmas.List.{take_rest}
use Rattle.ann_key.proofs.Scans.{number_scanned}
use Rattle.ann_key.proofs.scan.number_at.Goals as goal

pub returns-in-Some : goal.returns-in-Some
returns-in-Some c =
    let bytes = c.args.bytes.now in
    number_scanned bytes (take (length bytes - c.args.at) (drop c.args.at bytes)) c.args.at c.args.letter c.digits_len-digits.result c.in-Some.value
    (take_rest bytes c.args.at) c.digits_len-digits.ensures.value c.digits_len-digits.ensures.bound c.requires c.in-Some.ensures (sym c.if-may_stand.ensures)
