use Rattle.std.proofs.Common.{map, take}
use Rattle.host_talk.specs.Request.Requests.{message_of}
use Rattle.child_link.specs.Alone.{KeepsLink}
use Rattle.child_link.specs.Doors.{IsSameDoor}
use Rattle.info_and_init.specs.Info.Askings.{MayGoOn}
use Rattle.info_and_init.proofs.info.asking.ask_each.Given as goal

abbrev pub invariant-loop-request : goal.invariant-loop-request
invariant-loop-request g l =
    let before = g.D.Door.view l.fn.door in
    let now = g.D.Door.view l.door in
    record {
      goes : MayGoOn (map message_of (take l.request-index l.requests)) before.seen now.seen l.fn.link.ear.child;
      link : KeepsLink before.seen now.seen l.fn.link.ear l.link.ear l.fn.link.mouth l.link.mouth;
      door : IsSameDoor before now;
    }
