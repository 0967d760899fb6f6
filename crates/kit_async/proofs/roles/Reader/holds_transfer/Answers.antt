use Rattle.kit_async.specs.Turns.{is_transfer}
use Rattle.kit_async.proofs.Turning.{holds_in, holds_none}
use Rattle.kit_async.proofs.roles.Reader.holds_transfer.Goals as goal

pub returns-in-Line : goal.returns-in-Line
returns-in-Line g c =
    let s = c.args.self.now.splitter in
    holds_in is_transfer s.limit s.bytes c.in-Line.line.now c.is_transfer.result c.requires c.in-Line.ensures.next.0 c.in-Line.ensures.next.1 c.is_transfer.ensures

pub returns-in-Long : goal.returns-in-Long
returns-in-Long g c =
    let s = c.args.self.now.splitter in
    holds_none is_transfer s.limit s.bytes c.requires c.in-Long.ensures.next.0

pub returns-in-More : goal.returns-in-More
returns-in-More g c =
    let s = c.args.self.now.splitter in
    holds_none is_transfer s.limit s.bytes c.requires c.in-More.ensures.next.0
