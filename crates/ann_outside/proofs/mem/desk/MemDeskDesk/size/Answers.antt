use Rattle.ann_outside.specs.declared.file_desk.Call.TheVariants.{Size}
use Rattle.ann_outside.proofs.PlayLaws.{call_played, size_played}
use Rattle.ann_outside.proofs.mem.desk.MemDeskDesk.size.Goals as goal

pub invariant_of-self : goal.invariant_of-self
invariant_of-self c = record {
  played =
      call_played (Size c.args.name.now c.size.result) c.args.self.now.state.log.items c.size.new.self.log.items c.args.self.now.origin.value.items c.args.self.now.state.files.items c.size.new.self.files.items c.size.ensures.log
      (size_played c.args.name.now c.size.result c.args.self.now.state.files.items c.size.new.self.files.items c.size.ensures.told c.size.ensures.files) c.args.self.now.played;
}
