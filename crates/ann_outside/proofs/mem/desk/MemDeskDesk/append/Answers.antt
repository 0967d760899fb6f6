use Rattle.ann_outside.specs.declared.file_desk.Call.TheVariants.{Append}
use Rattle.ann_outside.proofs.PlayLaws.{call_played}
use Rattle.ann_outside.proofs.mem.desk.MemDeskDesk.append.Goals as goal

pub invariant_of-self : goal.invariant_of-self
invariant_of-self c = record {
  played =
      call_played (Append c.args.name.now c.args.piece.now c.append.result) c.args.self.now.state.log.items c.append.new.self.log.items c.args.self.now.origin.value.items c.args.self.now.state.files.items c.append.new.self.files.items c.append.ensures.log
      (c.append.ensures.files) c.args.self.now.played;
}
