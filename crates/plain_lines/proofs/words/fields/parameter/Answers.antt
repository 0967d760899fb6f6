use Rattle.std.proofs.Common.{◌≡◌, ◌∙◌, sym, ap, ℕ, Option, None, Some, ◌+◌, ◌-◌, take, drop, length, arith, length-drop}
use Rattle.std.proofs.Math.Seq.{take_all}
use Rattle.std.specs.Prelude.{position}
use Rattle.annex_model.specs.Messages.{is_space, rest_field}
use Rattle.annex_model.proofs.Words.{field_from, field_by_position}
use Rattle.plain_lines.proofs.words.fields.parameter.Goals as goal

pub returns-in-None : goal.returns-in-None
returns-in-None c =
    let line = c.args.line.now in
    let e : position is_space line ≡ None = sym c.in-None.ensures in
    sym (ap rest_field (field_by_position line ∙ ap (λ (r : Option ℕ). field_from r line) e))

pub returns-in-Some : goal.returns-in-Some
returns-in-Some c =
    let line = c.args.line.now in
    let n = c.in-Some.at + 1 in
    let e : position is_space line ≡ Some c.in-Some.at = sym c.in-Some.ensures in
    let whole : take (length line - n) (drop n line) ≡ drop n line = take_all (length line - n) (drop n line) (omega (arith, length-drop n line)) in
    whole ∙ sym (ap rest_field (field_by_position line ∙ ap (λ (r : Option ℕ). field_from r line) e))
