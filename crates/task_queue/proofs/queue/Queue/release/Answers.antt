use Rattle.std.proofs.Common.{ℕ, List, Bool, sym, ap, subst, length, arith}
use Rattle.task_queue.specs.Kept.{AreKept, CallsFirst}
use Rattle.task_queue.specs.Woken.{AreWoken}
use Rattle.task_queue.proofs.Ordering.{let_go_of, let_go_ordered}
use Rattle.task_queue.proofs.Places.{length_without}
use Rattle.task_queue.proofs.queue.Queue.release.Goals as goal

pub call_first-requires-clause-kept : goal.call_first-requires-clause-kept
call_first-requires-clause-kept c = subst (λ (l : List Bool). AreKept l c.args.self.now.keys) (sym c.deref-4.ensures.value) c.requires.ordered.keys

pub call_first-requires-clause-within : goal.call_first-requires-clause-within
call_first-requires-clause-within c = omega (arith, (c.requires.ordered.busy.each c.args.task c.requires.busy).1, ap length c.deref-4.ensures.value)

pub call_first-requires-2-clause-kept : goal.call_first-requires-2-clause-kept
call_first-requires-2-clause-kept c = subst (λ (l : List Bool). AreKept l c.args.self.now.files) (sym c.deref-5.ensures.value) c.requires.ordered.files

pub call_first-requires-2-clause-within : goal.call_first-requires-2-clause-within
call_first-requires-2-clause-within c = omega (arith, (c.requires.ordered.busy.each c.args.task c.requires.busy).1, ap length c.deref-5.ensures.value)

pub returns-clause-less : goal.returns-clause-less
returns-clause-less c =
    let shorter = length_without c.args.task c.args.self.now.busy.items c.requires.busy in
    omega (arith, ap length c.let_go.ensures.items, shorter)

pub returns-clause-sound : goal.returns-clause-sound
returns-clause-sound c =
    let q = c.args.self.now in
    let claimed = q.claimed.items in
    let task = c.args.task in
    let woken : AreWoken q.waits.items claimed task (length q.waits.items) q.ready.flags.items c.wake_watchers.new.ready.flags.items =
    subst (λ (l : List Bool). AreWoken q.waits.items l task (length q.waits.items) q.ready.flags.items c.wake_watchers.new.ready.flags.items) c.deref-3.ensures.value
    (subst (λ (l : List ℕ). AreWoken l c.deref-3.result.now task (length l) q.ready.flags.items c.wake_watchers.new.ready.flags.items) c.deref.ensures.value c.wake_watchers.ensures.woken) in
    let by_key : CallsFirst claimed task q.keys c.call_first.new.groups c.wake_watchers.new.ready.flags.items c.call_first.new.ready.flags.items =
    subst (λ (l : List Bool). CallsFirst l task q.keys c.call_first.new.groups c.wake_watchers.new.ready.flags.items c.call_first.new.ready.flags.items) c.deref-4.ensures.value c.call_first.ensures.called in
    let by_file : CallsFirst claimed task q.files c.call_first-2.new.groups c.call_first.new.ready.flags.items c.call_first-2.new.ready.flags.items =
    subst (λ (l : List Bool). CallsFirst l task q.files c.call_first-2.new.groups c.call_first.new.ready.flags.items c.call_first-2.new.ready.flags.items) c.deref-5.ensures.value c.call_first-2.ensures.called in
    let shorter = returns-clause-less c in
    record {
      ordered = let_go_ordered q c.call_first.new.groups c.call_first-2.new.groups c.wake_watchers.new.ready.flags.items c.call_first.new.ready.flags.items c.call_first-2.new.ready c.let_go.new.busy task
          c.requires.ordered woken by_key by_file c.call_first-2.ensures.blocks c.let_go.ensures.items;
      room = record { left = omega (arith, c.requires.room.left, shorter); room = omega (arith, c.requires.room.room, c.let_go.ensures.room) };
      fits = λ o fits. let_go_of o q c.call_first.new.groups c.call_first-2.new.groups c.call_first-2.new.ready c.let_go.new.busy by_key.same by_file.same fits;
    }
