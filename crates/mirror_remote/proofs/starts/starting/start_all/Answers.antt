use Rattle.ann_outside.specs.Told.{ProgramsTold}
use Rattle.mirror_remote.proofs.StartsLemmas.Settled.{IsFreshFor, begun_settles, begun_sound, begun_stop, none_kept, nothing_kept, ready_kept, ready_settles, roomless_settles}
use Rattle.mirror_remote.proofs.starts.starting.start_all.Goals as goal

-- ---- there is no room

pub returns-in_default-clause-starts : goal.returns-in_default-clause-starts
returns-in_default-clause-starts g c =
    roomless_settles c.args.plans.now (g.P.Programs.told c.args.programs.now)
    c.args.children.now.items c.make_room.new.children.items c.args.stopped.now.logs c.make_room.new.stopped.logs c.make_room.ensures.none.0 c.make_room.ensures.none.1

pub returns-in_default-clause-kept : goal.returns-in_default-clause-kept
returns-in_default-clause-kept g c =
    nothing_kept c.make_room.new.children.items c.make_room.new.stopped.spare c.make_room.new.stopped.logs c.make_room.ensures.none.0 c.make_room.ensures.none.1

-- ---- each child is ready

pub returns-in-Ok-begin_all-clause-starts : goal.returns-in-Ok-begin_all-clause-starts
returns-in-Ok-begin_all-clause-starts g c =
    let before : ProgramsTold = g.P.Programs.told c.args.programs.now in
    let after : ProgramsTold = g.P.Programs.told c.begin_all.new.programs in
    let fresh : IsFreshFor c.args.plans.now c.make_room.new.stopped = record { logs = c.make_room.ensures.none.1; spare = c.in-Ok.ensures.room.1 } in
    ready_settles c.args.plans.now c.make_room.new.stopped before after c.begin_all.new.children.items c.args.children.now.items c.args.stopped.now.logs fresh c.in-Ok-begin_all.ensures.begins

pub returns-in-Ok-begin_all-clause-kept : goal.returns-in-Ok-begin_all-clause-kept
returns-in-Ok-begin_all-clause-kept g c =
    let before : ProgramsTold = g.P.Programs.told c.args.programs.now in
    let after : ProgramsTold = g.P.Programs.told c.begin_all.new.programs in
    let fresh : IsFreshFor c.args.plans.now c.make_room.new.stopped = record { logs = c.make_room.ensures.none.1; spare = c.in-Ok.ensures.room.1 } in
    ready_kept c.args.plans.now c.make_room.new.stopped before after c.begin_all.new.children.items fresh c.in-Ok-begin_all.ensures.begins

-- ---- one isn't ready

pub stop_begun-requires-clause-may : goal.stop_begun-requires-clause-may
stop_begun-requires-clause-may g c κs within =
    let before : ProgramsTold = g.P.Programs.told c.args.programs.now in
    let after : ProgramsTold = g.P.Programs.told c.begin_all.new.programs in
    let fresh : IsFreshFor c.args.plans.now c.make_room.new.stopped = record { logs = c.make_room.ensures.none.1; spare = c.in-Ok.ensures.room.1 } in
    rw c.replace-begun.ensures.value (begun_stop c.args.plans.now c.make_room.new.stopped fresh before after c.begin_all.new.children.items c.in-Err.cause c.in-Err.ensures.begins)

pub returns-in-Err-clause-starts : goal.returns-in-Err-clause-starts
returns-in-Err-clause-starts g c =
    let before : ProgramsTold = g.P.Programs.told c.args.programs.now in
    let mid : ProgramsTold = g.P.Programs.told c.begin_all.new.programs in
    let after : ProgramsTold = g.P.Programs.told c.stop_begun.new.programs in
    let fresh : IsFreshFor c.args.plans.now c.make_room.new.stopped = record { logs = c.make_room.ensures.none.1; spare = c.in-Ok.ensures.room.1 } in
    let stops = rw c.replace-begun.ensures.value at c.stop_begun.ensures.stops in
    rw (c.stop_begun.ensures.standing, c.replace-begun.ensures.after, c.new.ensures.items)
    (begun_settles c.args.plans.now c.make_room.new.stopped c.stop_begun.new.stopped before mid after c.begin_all.new.children.items c.args.children.now.items c.args.stopped.now.logs fresh
    c.stop_begun.ensures.starts c.stop_begun.ensures.later c.in-Err.cause c.in-Err.ensures.begins stops)

pub returns-in-Err-clause-kept : goal.returns-in-Err-clause-kept
returns-in-Err-clause-kept g c =
    let before : ProgramsTold = g.P.Programs.told c.args.programs.now in
    let mid : ProgramsTold = g.P.Programs.told c.begin_all.new.programs in
    let fresh : IsFreshFor c.args.plans.now c.make_room.new.stopped = record { logs = c.make_room.ensures.none.1; spare = c.in-Ok.ensures.room.1 } in
    let stops = rw c.replace-begun.ensures.value at c.stop_begun.ensures.stops in
    rw (c.replace-begun.ensures.after, c.new.ensures.items)
    (none_kept c.stop_begun.new.stopped.spare c.stop_begun.new.stopped.logs
    (begun_sound c.args.plans.now c.make_room.new.stopped c.stop_begun.new.stopped before mid c.begin_all.new.children.items fresh c.in-Err.cause c.in-Err.ensures.begins stops))
