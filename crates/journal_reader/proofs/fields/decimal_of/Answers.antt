use Rattle.std.proofs.Common.{◌∙◌, sym}
use Rattle.journal_reader.proofs.LineFields.{other_number, no_number}
use Rattle.journal_reader.proofs.fields.decimal_of.Goals as goal

pub returns-in_default : goal.returns-in_default
returns-in_default c = no_number c.args.text.now (λ n e. c.in_default.not-Some n (c.number_of.ensures ∙ e))

pub returns-else-branch : goal.returns-else-branch
returns-else-branch c = other_number c.in-Some.n c.args.text.now (sym c.in-Some.ensures) (sym c.in_ok-is_decimal.ensures ∙ c.if-branch.false)
