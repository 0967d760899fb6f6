use Rattle.ann_outside.proofs.PlayLaws.{same_played}
use Rattle.ann_outside.proofs.mem.desk.MemDeskDesk.sync.Goals as goal

pub invariant_of-self : goal.invariant_of-self
invariant_of-self c = record {
  played = same_played c.args.self.now.state.log.items c.sync.new.self.log.items c.args.self.now.origin.value.items c.args.self.now.state.files.items c.sync.new.self.files.items c.sync.ensures.log c.sync.ensures.files c.args.self.now.played;
}
