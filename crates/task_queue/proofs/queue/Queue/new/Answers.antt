use Rattle.std.proofs.Common.{rules, ℕ, List, subst}
use Rattle.task_queue.specs.declared.queue.Queue.{Queue}
use Rattle.task_queue.specs.Ways.{AreReady}
use Rattle.task_queue.proofs.Beginning.{IsNew, new_queued}
use Rattle.task_queue.proofs.queue.Queue.new.Goals as goal

pub returns : goal.returns
returns c =
    let q : Queue = record {
      claimed = c.in_ok-none_claimed.field-0;
      busy = c.in_ok-with_capacity.field-0;
      keys = c.in_ok-keys.keys;
      files = c.in_ok-files.files;
      ready = c.in_ok-ready.ready;
      waits = c.in_ok-no_waits.field-0;
      watched = c.in_ok-flags.field-0;
    } in
    let new : IsNew q c.len-numbers.result = record {
      long = search rules;
      claimed = c.in_ok-none_claimed.ensures;
      busy = c.in_ok-with_capacity.ensures.items;
      room = c.in_ok-with_capacity.ensures.capacity;
      waits = c.in_ok-no_waits.ensures;
      watched = c.in_ok-flags.ensures;
      ready = subst (λ (firsts : List ℕ). AreReady firsts c.in_ok-ready.ready.flags.items) c.deref.ensures.value c.in_ok-ready.ensures.ready;
    } in
    new_queued c.args.opening.now q c.len-numbers.result new
    (record { groups = c.in_ok-keys.ensures.groups; within = c.in_ok-keys.ensures.within; chained = c.in_ok-keys.ensures.chained })
    (record { groups = c.in_ok-files.ensures.groups; within = c.in_ok-files.ensures.within; chained = c.in_ok-files.ensures.chained })
    c.in_ok-ready.ensures.in_blocks
