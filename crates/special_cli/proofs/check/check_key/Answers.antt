use Rattle.std.proofs.Common.{ap, map, refl, sym}
use Rattle.ann_key.specs.KeyRefs.{text_of}
use Rattle.child_life.specs.End.Outsides.{OutsideValue}
use Rattle.special_cli.proofs.Checked.{has_checked}
use Rattle.special_cli.proofs.check.check_key.Goals as goal

pub returns : goal.returns
returns g c =
    has_checked (g.C.Clock.answer c.args.clock.now) c.args.program.now (text_of c.args.key) _ c.do_check-made.result _ c.args.outside _ c.do_check-made.ensures c.made.view_is
    (sym (ap (λ (o : OutsideValue). o.programs) c.outside.view_is)) refl refl refl c.end_of.ensures
    (record { made = ap (λ (o : OutsideValue). o.made) c.outside.view_is; tables = ap (map _) c.new.ensures.items })
