use Rattle.std.proofs.Common.{◌∙◌, subst, sym, vec_len, ◌≡◌}
use Rattle.registers.specs.Tables.{Rises}
use Rattle.registers.proofs.Tables.{texts_of_copies}
use Rattle.registers.proofs.table.Table.copy.Goals as goal

pub returns : goal.returns
returns c = texts_of_copies (λ v w. vec_len w ≡ vec_len v) (λ a b h. h) c.self.inside.entries.entries c.in_ok-entries.entries.entries c.in_ok-entries.ensures.cases ∙ c.self.view_is

pub invariant_of-result : goal.invariant_of-result
invariant_of-result c =
    subst Rises (sym (texts_of_copies (λ v w. vec_len w ≡ vec_len v) (λ a b h. h) c.self.inside.entries.entries c.in_ok-entries.entries.entries c.in_ok-entries.ensures.cases)) c.self.invariant
