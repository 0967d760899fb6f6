use Rattle.std.proofs.Common.{◌<◌, Vec, Bool, ap, length, arith}
use Rattle.std.specs.declared.alloc.Global.{Global}
use Rattle.task_queue.proofs.Ordering.{renewed_of, renewed_ordered, renewed_room}
use Rattle.task_queue.proofs.queue.Queue.renew.Goals as goal

pub returns-clause-sound : goal.returns-clause-sound
returns-clause-sound c =
    let q = c.args.self.now in
    let r = c.release.new.self in
    let task = c.args.task in
    let sound = c.release.ensures.sound in
    let some = (c.requires.ordered.busy.each task c.requires.busy).0 in
    let within : task < length r.claimed.items = omega (arith, (c.requires.ordered.busy.each task c.requires.busy).1, ap (λ (v : Vec Bool Global). length v.items) c.release.ensures.claimed) in
    record {
      ordered = renewed_ordered r c.put_flag.new.flags c.reopen.new.groups c.reopen-2.new.groups c.mark.new.self task sound.ordered some within c.put_flag.ensures
          (c.reopen.ensures.kept r.claimed.items within sound.ordered.keys) c.reopen.ensures.same
          (c.reopen-2.ensures.kept r.claimed.items within sound.ordered.files) c.reopen-2.ensures.same c.mark.ensures.flags c.mark.ensures.blocks;
      room = renewed_room q r c.put_flag.new.flags c.reopen.new.groups c.reopen-2.new.groups c.mark.new.self task c.requires.room c.release.ensures.claimed within c.release.ensures.less
          sound.room c.put_flag.ensures;
      fits = λ o fits. renewed_of o r c.put_flag.new.flags c.reopen.new.groups c.reopen-2.new.groups c.mark.new.self task c.put_flag.ensures c.reopen.ensures.same c.reopen-2.ensures.same
          (sound.fits o fits);
    }
