use Rattle.std.proofs.Common.{ℕ, List, Option, refl, subst, sym}
use Rattle.std.specs.Prelude.{IfSome, IsNone, option_map}
use Rattle.journal_scan.specs.Shown.{entry_shown}
use Rattle.journal_audit.specs.Replays.{Says}
use Rattle.journal_audit.proofs.Replaying.{on_ok, told_after, told_no_name}
use Rattle.journal_audit.proofs.replay.tell_name.Goals as goal

pub returns-in_default-clause-told : goal.returns-in_default-clause-told
returns-in_default-clause-told c = λ job.
    told_no_name c.args.core.now.opening c.args.core.now.journal c.args.by c.args.child job c.args.line.now (option_map entry_shown c.args.next)
    (c.in_ok-name.ensures.none (subst (λ (x : Option (List ℕ)). IsNone x) (sym c.in_default.is) refl) c.args.by job)

pub returns-then-branch-clause-told : goal.returns-then-branch-clause-told
returns-then-branch-clause-told c = λ job.
    c.in_ok-tell_pair.ensures.told c.if-branch.true job c.args.line.now
    (subst (λ (x : Option (List ℕ)). IfSome x (λ n. Says c.args.core.now.journal c.args.child c.args.line.now n)) c.in-Some.is c.in_ok-name.ensures.some)

pub returns-clause-told : goal.returns-clause-told
returns-clause-told c =
    let untold = c.in_ok-tell_pair.ensures.untold c.if-branch.false in
    let reads : Says c.args.core.now.journal c.args.child c.args.line.now c.in-Some.name =
    subst (λ (x : Option (List ℕ)). IfSome x (λ n. Says c.args.core.now.journal c.args.child c.args.line.now n)) c.in-Some.is c.in_ok-name.ensures.some in
    on_ok c.step.result c.step.ensures.made (λ made job.
    told_after c.args.core.now.opening c.tell_pair.new.core.opening c.args.core.now.journal c.tell_pair.new.core.journal c.args.by c.args.child job c.args.line.now c.in-Some.name (option_map entry_shown c.args.next)
    c.in_ok-event.event c.step.new.core.journal c.tell_pair.ensures.opening untold.0 c.requires reads (untold.1 job c.args.line.now reads) (λ says. c.in_ok-event.ensures job c.args.line.now says) made)
