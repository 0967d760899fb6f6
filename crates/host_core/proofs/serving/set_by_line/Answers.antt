use Rattle.std.proofs.Common.{◌≡◌, sym, subst, not, true, Option, List, ℕ}
use Rattle.annex_model.specs.Lines.{has_newline}
use Rattle.host_core.proofs.Answered.{text_fits}
use Rattle.host_core.proofs.serving.set_by_line.Goals as goal

pub set_by_text-requires : goal.set_by_text-requires
set_by_text-requires c =
    subst (λ (p : Option ℕ × List ℕ). not (has_newline p.1) ≡ true) (sym c.addressed.ensures) (text_fits c.args.journal.now.entries c.args.child c.args.line.now c.requires)
