use Rattle.std.proofs.Common.{◌≡◌, ◌∙◌, sym, ap, ℕ, Option, None, Some}
use Rattle.std.specs.Prelude.{position}
use Rattle.annex_model.specs.Messages.{is_space}
use Rattle.annex_model.proofs.Words.{word_to, word_by_position}
use Rattle.plain_lines.proofs.words.fields.word_of.Goals as goal

pub returns-in-None : goal.returns-in-None
returns-in-None c =
    let line = c.args.line.now in
    let e : position is_space line ≡ None = sym c.in-None.ensures in
    sym (word_by_position line ∙ ap (λ (r : Option ℕ). word_to r line) e)

pub returns-in-Some : goal.returns-in-Some
returns-in-Some c =
    let line = c.args.line.now in
    let e : position is_space line ≡ Some c.in-Some.at = sym c.in-Some.ensures in
    sym (word_by_position line ∙ ap (λ (r : Option ℕ). word_to r line) e)
