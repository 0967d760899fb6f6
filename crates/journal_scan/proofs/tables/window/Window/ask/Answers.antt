use Rattle.std.proofs.Common.{◌≡◌, ◌+◌, ◌<◌, ℕ, List, [], ◌∷◌, ◌++◌, sym, subst, ap, ◌∙◌}
use Rattle.std.specs.List.{AllByRecursion}
use Rattle.journal_scan.proofs.TablesLemmas.Numbering.{insert_key-last, below_more}
use Rattle.journal_scan.proofs.tables.window.Window.ask.Goals as goal

pub invariant_of-self-2 : goal.invariant_of-self-2
invariant_of-self-2 c =
    let asked = c.self.inside.asked in
    let keys = c.self.inside.pending.keys in
    let appended : c.insert.new.self.keys ≡ keys ++ asked ∷ [] = c.in_ok-insert.ensures.keys ∙ insert_key-last asked keys c.self.invariant.below in
    record {
      rising = c.in_ok-insert.ensures.ordered;
      below = subst (λ (ks : List ℕ). AllByRecursion (λ k. k < asked + 1) ks) (sym appended) (below_more asked keys c.self.invariant.below);
    }

pub returns-clause-pending : goal.returns-clause-pending
returns-clause-pending c =
    c.in_ok-insert.ensures.keys
    ∙ insert_key-last c.self.inside.asked c.self.inside.pending.keys c.self.invariant.below
    ∙ ap (λ v. v.pending ++ v.asked ∷ []) c.self.view_is
