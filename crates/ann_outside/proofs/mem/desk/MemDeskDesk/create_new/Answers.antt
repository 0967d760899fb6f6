use Rattle.ann_outside.specs.declared.file_desk.Call.TheVariants.{Create}
use Rattle.ann_outside.proofs.PlayLaws.{call_played, create_new_played}
use Rattle.ann_outside.proofs.mem.desk.MemDeskDesk.create_new.Goals as goal

pub invariant_of-self : goal.invariant_of-self
invariant_of-self c = record {
  played =
      call_played (Create c.args.name.now c.create_new.result) c.args.self.now.state.log.items c.create_new.new.self.log.items c.args.self.now.origin.value.items c.args.self.now.state.files.items c.create_new.new.self.files.items c.create_new.ensures.log
      (create_new_played c.args.name.now c.create_new.result c.args.self.now.state.files.items c.create_new.new.self.files.items c.create_new.ensures.files) c.args.self.now.played;
}
