use Rattle.std.proofs.Common.{◌≡◌, sym, true}
use Rattle.journal_look.proofs.Spanning.{span_here}
use Rattle.journal_look.proofs.jobs.span_of.Goals as goal

pub returns-in-Some : goal.returns-in-Some
returns-in-Some c past long are plain =
    let alone : c.in-Some.x.now.alone ≡ true = cc in
    span_here past c.args.jobs.now c.args.child c.args.job c.args.len c.in-Some.x.now long are plain (sym c.in-Some.ensures) alone
