use Rattle.std.proofs.Common.{ap, sym, ◌∙◌, Some}
use Rattle.std.specs.Option.{option_map}
use Rattle.registers.proofs.Tables.{value_at-texts_of}
use Rattle.pair_kit.specs.Shelves.{content}
use Rattle.pair_kit.proofs.shelf.Shelf.find.Goals as goal

pub returns-in-Some : goal.returns-in-Some
returns-in-Some c =
    ap (λ bytes. Some bytes) c.as_slice.ensures.value
    ∙ ap (λ found. option_map (λ v. v.items) found) c.in-Some.ensures.value
    ∙ sym (value_at-texts_of c.self.inside.entries.entries c.args.name.now)
    ∙ ap (λ items. content c.args.name.now items) c.self.view_is

pub returns-in-None : goal.returns-in-None
returns-in-None c =
    ap (λ found. option_map (λ v. v.items) found) c.in-None.ensures.value
    ∙ sym (value_at-texts_of c.self.inside.entries.entries c.args.name.now)
    ∙ ap (λ items. content c.args.name.now items) c.self.view_is
