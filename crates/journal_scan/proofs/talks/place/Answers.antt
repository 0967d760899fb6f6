use Rattle.std.proofs.Common.{ℕ, ◌≤◌, length, subst, sym, not}
use Rattle.std.proofs.lemmas.List.Sums.{prefix_len-le-length}
use Rattle.journal_model.specs.declared.entry.Entry.{Entry}
use Rattle.journal_scan.specs.Looks.{is_hosts}
use Rattle.journal_scan.proofs.Firsts.{some_of}
use Rattle.journal_scan.proofs.talks.place.Goals as goal

pub returns-in-Some-clause-bound : goal.returns-in-Some-clause-bound
returns-in-Some-clause-bound c =
    subst (λ (n : ℕ). n ≤ length c.args.entries.now) (sym (some_of _ c.args.known c.in-Some.at c.requires c.in-Some.is)) (prefix_len-le-length (λ (e : Entry). not (is_hosts c.args.child c.args.job e.what)) c.args.entries.now)
