use Rattle.std.proofs.Common.{ap, sym, ◌∙◌, [], unwrap_or, option_map}
use Rattle.registers.specs.Logins.{pair_at, pair_of}
use Rattle.registers.proofs.PairLists.{value_at-pairs_of}
use Rattle.registers.proofs.logins.Logins.get.Goals as goal

pub returns-in-Some : goal.returns-in-Some
returns-in-Some c =
    (λ i. (c.as_slice.ensures.value i, c.as_slice-in-Some.ensures.value i))
    ∙ ap (λ found. unwrap_or (option_map pair_of found) ([], [])) c.in-Some.ensures.value
    ∙ ap (λ found. unwrap_or found ([], [])) (sym (value_at-pairs_of c.self.inside.entries.entries c.args.name.now))
    ∙ ap (λ t. pair_at t c.args.name.now) c.self.view_is

pub returns-in-None : goal.returns-in-None
returns-in-None c =
    ap (λ found. unwrap_or (option_map pair_of found) ([], [])) c.in-None.ensures.value
    ∙ ap (λ found. unwrap_or found ([], [])) (sym (value_at-pairs_of c.self.inside.entries.entries c.args.name.now))
    ∙ ap (λ t. pair_at t c.args.name.now) c.self.view_is
