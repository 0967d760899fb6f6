use Rattle.std.proofs.Common.{sym}
use Rattle.ann_key.proofs.Scans.{field_scanned}
use Rattle.ann_key.proofs.scan.field_at.Goals as goal

pub returns : goal.returns
returns c =
    field_scanned c.args.bytes.now c.args.at c.args.letter c.in_ok-value.value c.in_ok-value.end (sym c.if-not-begins.ensures.value) c.in_ok-value.ensures
