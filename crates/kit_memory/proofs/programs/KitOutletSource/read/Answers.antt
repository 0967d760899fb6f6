use Rattle.std.proofs.Common.{◌∙◌}
use Rattle.kit_memory.proofs.PipeLemmas.{consumer_both, stepped}
use Rattle.kit_memory.proofs.programs.KitOutletSource.read.Goals as goal

pub loop-preserved : goal.loop-preserved
loop-preserved g c = record {
  is_open = c.loop.invariant.is_open;
  read = c.go_on.ensures.read ∙ c.loop.invariant.read;
  pipe = consumer_both c.args.self.now.child.source.ring c.loop.self.child.source.ring c.go_on.new.self.source.ring c.loop.invariant.pipe
      (stepped (λ pipe. pipe.ring) c.loop.self.child.source c.go_on.new.self.source c.go_on.ensures.source);
}
