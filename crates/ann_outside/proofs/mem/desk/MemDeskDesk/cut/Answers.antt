use Rattle.ann_outside.specs.declared.file_desk.Call.TheVariants.{Cut}
use Rattle.ann_outside.proofs.PlayLaws.{call_played}
use Rattle.ann_outside.proofs.mem.desk.MemDeskDesk.cut.Goals as goal

pub invariant_of-self : goal.invariant_of-self
invariant_of-self c = record {
  played =
      call_played (Cut c.args.name.now c.args.size c.cut.result) c.args.self.now.state.log.items c.cut.new.self.log.items c.args.self.now.origin.value.items c.args.self.now.state.files.items c.cut.new.self.files.items c.cut.ensures.log
      (c.cut.ensures.files) c.args.self.now.played;
}
