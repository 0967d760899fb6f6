use Rattle.std.proofs.Common.{Some, ap, sym, ◌∙◌, slice_get, option_map, Bor, List, ℕ}
use Rattle.std.proofs.lemmas.Option.{slice_get-map}
use Rattle.registers.specs.Links.{urls_at}
use Rattle.registers.proofs.LinkLists.{urls_at-links_of}
use Rattle.registers.proofs.links.Links.url.Goals as goal

pub returns : goal.returns
returns c =
    ap Some c.as_slice.ensures.value
    ∙ ap (option_map (λ l. l.1.items)) c.in_ok-link.ensures
    ∙ sym (slice_get-map (λ l. l.1.items) _ c.args.n)
    ∙ ap (λ urls. slice_get urls c.args.n) (sym (urls_at-links_of c.args.key.now c.args.prefix.now c.self.inside.links.keys))
    ∙ ap (λ links. slice_get (urls_at links c.args.key.now c.args.prefix.now) c.args.n) c.self.view_is

pub returns-in_err-link : goal.returns-in_err-link
returns-in_err-link c =
    ap (option_map (λ (url : Bor (List ℕ)). url.now)) c.from_residual.ensures
    ∙ ap (option_map (λ l. l.1.items)) c.in_err-link.ensures
    ∙ sym (slice_get-map (λ l. l.1.items) _ c.args.n)
    ∙ ap (λ urls. slice_get urls c.args.n) (sym (urls_at-links_of c.args.key.now c.args.prefix.now c.self.inside.links.keys))
    ∙ ap (λ links. slice_get (urls_at links c.args.key.now c.args.prefix.now) c.args.n) c.self.view_is
