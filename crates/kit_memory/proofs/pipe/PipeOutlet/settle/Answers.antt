use Rattle.std.proofs.Common.{ap, sym, ◌∙◌}
use Rattle.rtrb.specs.Ring.{sent, received, known_items}
use Rattle.kit_memory.specs.Pipes.{has_end, is_stream}
use Rattle.kit_memory.proofs.PipeLemmas.{settled}
use Rattle.kit_memory.proofs.pipe.PipeOutlet.settle.Goals as goal

pub returns-clause-heard : goal.returns-clause-heard
returns-clause-heard g c =
    let live = c.args.inlet.now.is_open in
    let t = settled live (sent c.slots_beside.new.producer) (received c.slots_beside.new.self) (known_items c.slots_beside.new.self) c.slots_beside.ensures.fifo
    (ap (is_stream live) c.slots_beside.ensures.producer.1 ∙ c.args.inlet.now.stream) in
    (t.0, t.1, (λ ends. t.2 (ap has_end c.slots_beside.ensures.looked.1 ∙ (sym c.args.self.now.end ∙ ends))))
