use Rattle.std.proofs.Common.{◌≡◌, ℕ, subst, sym, true}
use Rattle.wire_line.specs.HeldBytes.{has_line}
use Rattle.kit_async.proofs.Turning.{has_none}
use Rattle.kit_async.proofs.roles.Reader.holds_line.Goals as goal

pub returns-in-Line : goal.returns-in-Line
returns-in-Line g c =
    let s = c.args.self.now.splitter in
    sym (subst (λ (n : ℕ). has_line n s.bytes ≡ true) c.requires c.in-Line.ensures.next.0)

pub returns-in-Long : goal.returns-in-Long
returns-in-Long g c =
    let s = c.args.self.now.splitter in
    sym (has_none s.limit s.bytes c.requires c.in-Long.ensures.next.0)

pub returns-in-More : goal.returns-in-More
returns-in-More g c =
    let s = c.args.self.now.splitter in
    sym (has_none s.limit s.bytes c.requires c.in-More.ensures.next.0)
