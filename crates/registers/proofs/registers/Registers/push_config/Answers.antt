use Rattle.std.proofs.Common.{map, ap, ◌∙◌}
use Rattle.registers.specs.RegLines.{ConfigLine, line_of}
use Rattle.registers.proofs.Listing.{all_left}
use Rattle.registers.proofs.registers.Registers.push_config.Goals as goal

pub loop-name-init : goal.loop-name-init
loop-name-init c =
    all_left (λ e. (e.0.now, e.1.now)) (λ e. ConfigLine e.0 e.1) (map line_of c.args.lines.now.items) _ c.in_ok-items.items.items c.args.self.now.config
    c.into_iter-name-iterator.ensures.into_iter_gives.0 (c.in_ok-items.ensures ∙ ap (λ r. r.config) c.self.view_is)
