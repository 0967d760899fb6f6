use Rattle.kit_memory.proofs.Children.{read_more}
use Rattle.kit_memory.proofs.child.Child.say.Goals as goal

pub returns-clause-read : goal.returns-clause-read
returns-clause-read g c =
    rw (← c.self.view_is, c.copied-n.ensures.bytes) (read_more c.self.inside.said.bytes.items c.taken.result.now c.self.inside.read c.copied-n.result c.taken.ensures)
