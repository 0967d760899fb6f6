use Rattle.ann_outside.specs.Calls.{bytes_read}
use Rattle.ann_outside.specs.declared.file_desk.Call.TheVariants.{ReadAt}
use Rattle.ann_outside.proofs.PlayLaws.{call_played, read_played}
use Rattle.ann_outside.proofs.mem.desk.MemDeskDesk.read_at.Goals as goal

pub invariant_of-self : goal.invariant_of-self
invariant_of-self c = record {
  played =
      call_played (ReadAt c.args.name.now c.args.from (bytes_read c.read_at.new.buf c.read_at.result)) c.args.self.now.state.log.items c.read_at.new.self.log.items c.args.self.now.origin.value.items c.args.self.now.state.files.items c.read_at.new.self.files.items c.read_at.ensures.log
      (read_played c.args.name.now c.args.from c.read_at.new.buf c.read_at.result c.args.self.now.state.files.items c.read_at.new.self.files.items c.read_at.ensures.bound c.read_at.ensures.told c.read_at.ensures.files) c.args.self.now.played;
}
