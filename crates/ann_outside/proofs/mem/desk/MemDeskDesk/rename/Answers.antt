use Rattle.ann_outside.specs.declared.file_desk.Call.TheVariants.{Rename}
use Rattle.ann_outside.proofs.PlayLaws.{call_played}
use Rattle.ann_outside.proofs.mem.desk.MemDeskDesk.rename.Goals as goal

pub invariant_of-self : goal.invariant_of-self
invariant_of-self c = record {
  played =
      call_played (Rename c.args.from.now c.args.to.now c.rename.result) c.args.self.now.state.log.items c.rename.new.self.log.items c.args.self.now.origin.value.items c.args.self.now.state.files.items c.rename.new.self.files.items c.rename.ensures.log
      (c.rename.ensures.files) c.args.self.now.played;
}
