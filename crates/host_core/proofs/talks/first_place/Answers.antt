use Rattle.std.proofs.Common.{arith}
use Rattle.journal_scan.proofs.Firsts.{some_of}
use Rattle.journal_scan.proofs.Spanning.{silent_before}
use Rattle.journal_scan.specs.Spans.{IsSpan}
use Rattle.host_core.proofs.Replaying.{none_said}
use Rattle.host_core.proofs.talks.first_place.Goals as goal

pub returns-in-Some : goal.returns-in-Some
returns-in-Some c n low =
    let past = c.args.journal.now.entries in
    let child = c.args.child in
    let job = c.args.job in
    let is = some_of (IsSpan past child job) c.args.span c.in-Some.span c.requires c.in-Some.is in
    none_said past child job n (λ at less. silent_before past child job c.in-Some.span at is (omega (arith, low, less)))

pub returns-in-None : goal.returns-in-None
returns-in-None c n low = none_said c.args.journal.now.entries c.args.child c.args.job n (λ at less. absurd (omega (arith, low, less)))
