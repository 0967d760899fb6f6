use Rattle.std.proofs.Common.{sym, subst}
use Rattle.mirror_remote.specs.declared.starts.beginning.Cause.{Cause}
use Rattle.mirror_remote.specs.Starts.Beginnings.{MayStop, StopsBegun}
use Rattle.mirror_remote.proofs.StartsLemmas.Settled.{may_linked, may_room, room_left}
use Rattle.mirror_remote.proofs.starts.starting.stop_begun.Goals as goal

pub stop_all-requires-clause-linked : goal.stop_all-requires-clause-linked
stop_all-requires-clause-linked g c κs within = may_linked c.args.children.items c.args.stopped.now c.args.cause c.requires.may

pub stop_all-requires-clause-room : goal.stop_all-requires-clause-room
stop_all-requires-clause-room g c κs within = may_room c.args.children.items c.args.stopped.now c.args.cause c.requires.may

pub add_unstarted-requires-clause-unstarted : goal.add_unstarted-requires-clause-unstarted
add_unstarted-requires-clause-unstarted g c = (subst (λ (k : Cause). MayStop c.args.children.items c.args.stopped.now k) c.in-Unstarted.is c.requires.may).2

pub add_unstarted-requires-clause-room : goal.add_unstarted-requires-clause-room
add_unstarted-requires-clause-room g c =
    room_left c.args.children.items c.args.stopped.now c.stop_all.new.stopped c.stop_all.ensures.stops
    (subst (λ (k : Cause). MayStop c.args.children.items c.args.stopped.now k) c.in-Unstarted.is c.requires.may).1

pub returns-in-Unready-clause-stops : goal.returns-in-Unready-clause-stops
returns-in-Unready-clause-stops g c =
    subst (λ (k : Cause). StopsBegun c.args.children.items c.args.stopped.now c.stop_all.new.stopped k) (sym c.in-Unready.is) c.stop_all.ensures.stops

pub returns-in-Unstarted-clause-stops : goal.returns-in-Unstarted-clause-stops
returns-in-Unstarted-clause-stops g c =
    subst (λ (k : Cause). StopsBegun c.args.children.items c.args.stopped.now c.add_unstarted.new.self k) (sym c.in-Unstarted.is)
    (c.stop_all.new.stopped, c.stop_all.ensures.stops, c.add_unstarted.ensures.logs)

pub returns-in-NoMemory-clause-stops : goal.returns-in-NoMemory-clause-stops
returns-in-NoMemory-clause-stops g c =
    subst (λ (k : Cause). StopsBegun c.args.children.items c.args.stopped.now c.stop_all.new.stopped k) (sym c.in-NoMemory.is) c.stop_all.ensures.stops
