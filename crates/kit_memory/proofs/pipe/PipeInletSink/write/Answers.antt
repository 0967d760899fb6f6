use Rattle.std.proofs.Common.{◌≡◌, Bool, true, ap, sym, ◌∙◌, subst}
use Rattle.rtrb.specs.Ring.{sent}
use Rattle.kit_memory.specs.Pipes.{has_end, is_stream}
use Rattle.kit_memory.proofs.PipeLemmas.{open_stream, stream_open}
use Rattle.kit_memory.proofs.pipe.PipeInletSink.write.Goals as goal

pub put_all-requires-clause-open : goal.put_all-requires-clause-open
put_all-requires-clause-open g c =
    let items = sent c.args.self.now.ring in
    ap has_end c.room-room.ensures.ring.1 ∙ stream_open items (subst (λ (b : Bool). is_stream b items ≡ true) c.requires c.args.self.now.stream)

pub invariant_of-self : goal.invariant_of-self
invariant_of-self g c =
    let items = sent c.put_all.new.ring in
    record {
      stream = subst (λ (b : Bool). is_stream b items ≡ true) (sym c.requires) (open_stream items c.put_all.ensures.open);
      room = λ live. c.put_all.ensures.room;
    }
