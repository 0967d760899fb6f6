use Rattle.ann_outside.specs.declared.file_desk.Call.TheVariants.{Create}
use Rattle.ann_outside.proofs.PlayLaws.{call_played}
use Rattle.ann_outside.proofs.mem.desk.MemDeskDesk.create.Goals as goal

pub invariant_of-self : goal.invariant_of-self
invariant_of-self c = record {
  played =
      call_played (Create c.args.name.now c.create.result) c.args.self.now.state.log.items c.create.new.self.log.items c.args.self.now.origin.value.items c.args.self.now.state.files.items c.create.new.self.files.items c.create.ensures.log
      (c.create.ensures.files) c.args.self.now.played;
}
