use Rattle.std.proofs.Common.{◌≡◌, ◌∙◌, ◌==◌, sym, ap, ℕ, Option, None, Some}
use Rattle.std.specs.Prelude.{position}
use Rattle.kit_serve.proofs.KitLemmas.FirstLines.{front_to, before_by_position}
use Rattle.kit_serve.proofs.kit.call.first_line.Goals as goal

pub returns-in-None : goal.returns-in-None
returns-in-None c =
    let text = c.args.text.now in
    let e : position (λ b. b == 10) text ≡ None = sym c.in-None.ensures in
    sym (before_by_position text ∙ ap (λ (r : Option ℕ). front_to r text) e)

pub returns-in-Some : goal.returns-in-Some
returns-in-Some c =
    let text = c.args.text.now in
    let e : position (λ b. b == 10) text ≡ Some c.in-Some.end = sym c.in-Some.ensures in
    sym (before_by_position text ∙ ap (λ (r : Option ℕ). front_to r text) e)
