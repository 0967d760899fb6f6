use Rattle.std.proofs.Common.{map, ap, ◌∙◌}
use Rattle.registers.specs.RegLines.{StateLine, line_of}
use Rattle.registers.proofs.Listing.{all_left}
use Rattle.registers.proofs.registers.Registers.push_states.Goals as goal

pub loop-key-init : goal.loop-key-init
loop-key-init c =
    all_left (λ e. (e.0.now, e.1.now)) (λ e. StateLine e.0 e.1) (map line_of c.args.lines.now.items) _ c.in_ok-items.items.items c.args.self.now.state
    c.into_iter-key-iterator.ensures.into_iter_gives.0 (c.in_ok-items.ensures ∙ ap (λ r. r.state) c.self.view_is)
