use Rattle.std.proofs.Common.{◌≡◌, ℕ, false, List, [], sym, subst, ◌∙◌, arith}
use Rattle.std.specs.Prelude.{◌==◌, vec_len}
use Rattle.std.proofs.lemmas.Bool.Decides.{nat_tests}
use Rattle.std.proofs.lemmas.Result.{on_ok_weaker}
use Rattle.audit_command.specs.Standing.{Stands}
use Rattle.audit_command.proofs.Refusing.{rest_ended}
use Rattle.audit_command.proofs.lines.Lines.end_rest.Goals as goal

not_zero : (n : ℕ) → (n == 0) ≡ false → n ≡ 0 → ⊥
not_zero n h e = grind (arith, nat_tests)

pub returns-else-is_empty : goal.returns-else-is_empty
returns-else-is_empty c =
    let old = c.args.self.now in
    let some = not_zero (vec_len old.held) (sym c.is_empty.ensures ∙ c.if-is_empty.false) in
    let P : List (List ℕ) → Type 0 = λ l. Stands l [] c.push_held.new.self in
    on_ok_weaker c.push_held.result
    (λ ended lines rest h.
    subst P (sym (rest_ended lines rest old.reader old.held.items old.bad (vec_len old.held) c.requires (omega (arith, old.held.ok.0)) some h)) (ended lines rest h))
    c.push_held.ensures
