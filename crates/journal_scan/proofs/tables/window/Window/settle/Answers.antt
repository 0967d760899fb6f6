use Rattle.std.proofs.Common.{◌<◌, sym, subst, ap, ◌∙◌, not, filter, ◌==◌}
use Rattle.std.specs.List.{AllByRecursion}
use Rattle.std.specs.Ordering.{nat_cmp}
use Rattle.std.specs.BTreeMap.{is_at}
use Rattle.journal_scan.proofs.TablesLemmas.Numbering.{remove_key-filter, below_removed}
use Rattle.journal_scan.proofs.tables.window.Window.settle.Goals as goal

pub invariant_of-self : goal.invariant_of-self
invariant_of-self c = record {
  rising = c.remove.ensures.ordered;
  below = subst (λ ks. AllByRecursion (λ k. k < c.self.inside.asked) ks) (sym c.remove.ensures.keys) (below_removed (is_at (nat_cmp c.args.job)) c.self.inside.asked c.self.inside.pending.keys c.self.invariant.below);
}

pub returns-clause-pending : goal.returns-clause-pending
returns-clause-pending c =
    c.remove.ensures.keys
    ∙ remove_key-filter c.args.job c.self.inside.pending.keys c.self.invariant.rising
    ∙ ap (λ v. filter (λ k. not (k == c.args.job)) v.pending) c.self.view_is
