use Rattle.std.proofs.Common.{ap, sym, ◌∙◌, [], unwrap_or}
use Rattle.std.specs.Option.{option_map}
use Rattle.registers.specs.Tables.{text_at}
use Rattle.registers.proofs.Tables.{value_at-texts_of}
use Rattle.registers.proofs.table.Table.get.Goals as goal

pub returns-in-Some : goal.returns-in-Some
returns-in-Some c =
    c.as_slice.ensures.value
    ∙ ap (λ found. unwrap_or (option_map (λ v. v.items) found) []) c.in-Some.ensures.value
    ∙ ap (λ found. unwrap_or found []) (sym (value_at-texts_of c.self.inside.entries.entries c.args.name.now))
    ∙ ap (λ t. text_at t c.args.name.now) c.self.view_is

pub returns-in-None : goal.returns-in-None
returns-in-None c =
    ap (λ found. unwrap_or (option_map (λ v. v.items) found) []) c.in-None.ensures.value
    ∙ ap (λ found. unwrap_or found []) (sym (value_at-texts_of c.self.inside.entries.entries c.args.name.now))
    ∙ ap (λ t. text_at t c.args.name.now) c.self.view_is
