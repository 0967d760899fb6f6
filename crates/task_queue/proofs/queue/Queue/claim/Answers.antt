use Rattle.std.proofs.Common.{◌∙◌, length, ap, arith}
use Rattle.std.proofs.lemmas.List.{length-set}
use Rattle.task_queue.proofs.Ordering.{claimed_ordered, claimed_room}
use Rattle.task_queue.proofs.Places.{count_up}
use Rattle.task_queue.proofs.queue.Queue.claim.Goals as goal

pub add-requires : goal.add-requires
add-requires c =
    let one = count_up c.args.self.now.claimed.items c.args.task c.requires.next.1 c.requires.next.2 in
    omega (arith, c.requires.room.left, c.requires.room.room, one)

pub returns-clause-sound : goal.returns-clause-sound
returns-clause-sound c = record {
  ordered = claimed_ordered c.args.self.now c.put_flag.new.flags c.unmark.new.self c.add.new.busy c.args.task c.requires.ordered c.requires.next.0 c.requires.next.1
      c.put_flag.ensures c.unmark.ensures.flags c.unmark.ensures.blocks c.add.ensures.items;
  room = claimed_room c.args.self.now c.put_flag.new.flags c.unmark.new.self c.add.new.busy c.args.task c.requires.room c.requires.next.1 c.requires.next.2
      c.put_flag.ensures c.add.ensures.items c.add.ensures.room;
  fits = λ o fits. record {
    long = ap length c.put_flag.ensures ∙ length-set c.args.self.now.claimed.items c.args.task _ ∙ fits.long;
    keys = fits.keys;
    files = fits.files;
    waits = fits.waits;
  };
}
