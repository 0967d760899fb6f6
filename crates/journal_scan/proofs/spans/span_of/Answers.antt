use Rattle.std.proofs.Common.{sym}
use Rattle.journal_scan.proofs.Spanning.{span_is}
use Rattle.journal_scan.proofs.spans.span_of.Goals as goal

pub returns-then-not-is_offered : goal.returns-then-not-is_offered
returns-then-not-is_offered c =
    let past = c.args.entries.now in
    span_is past c.args.child c.args.job c.before_job-asked.result c.before_verdict-settled.result (sym c.if-not-is_offered.ensures)
    c.before_job-asked.ensures.value c.before_verdict-settled.ensures (c.is_first.ensures c.if-is_first.true)
