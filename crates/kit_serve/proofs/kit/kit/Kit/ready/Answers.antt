use Rattle.std.proofs.Common.{◌<◌, length, sym, ap, ◌∙◌, arith}
use Rattle.annex_model.specs.Lines.{has_newline}
use Rattle.kit_serve.proofs.KitLemmas.Endless.{name_free, got_within}
use Rattle.kit_serve.proofs.kit.kit.Kit.ready.Goals as goal

pub one_line-requires-clause-line : goal.one_line-requires-clause-line
one_line-requires-clause-line g c =
    ap has_newline c.as_bytes.ensures.value
    ∙ name_free (g.R.Remote.settings c.self.inside.remote) c.len.result c.in-Some.name.now (sym c.in-Some.ensures.name) c.in-Some.ensures.lines

pub enter-requires : goal.enter-requires
enter-requires g c =
    let within : c.len.result < length (g.R.Remote.settings c.self.inside.remote) =
    got_within (g.R.Remote.settings c.self.inside.remote) c.len.result c.in-Some.name.now (sym c.in-Some.ensures.name) in
    (omega (arith, within, c.in-Some.ensures.few, c.len.ensures), c.requires.lines)
