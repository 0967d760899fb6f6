use Rattle.ann_outside.specs.declared.file_desk.Call.TheVariants.{Remove}
use Rattle.ann_outside.proofs.PlayLaws.{call_played}
use Rattle.ann_outside.proofs.mem.desk.MemDeskDesk.remove.Goals as goal

pub invariant_of-self : goal.invariant_of-self
invariant_of-self c = record {
  played =
      call_played (Remove c.args.name.now c.remove.result) c.args.self.now.state.log.items c.remove.new.self.log.items c.args.self.now.origin.value.items c.args.self.now.state.files.items c.remove.new.self.files.items c.remove.ensures.log
      (c.remove.ensures.files) c.args.self.now.played;
}
