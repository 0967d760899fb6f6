use Rattle.std.proofs.Common.{ℕ, List, not, ◌<◌, ◌≤◌, ◌∙◌, length, subst, IsTrue}
use Rattle.wire_line.specs.HeldBytes.{has_line}
use Rattle.kit_async.proofs.work.reader.first_of.Goals as goal
use Rattle.wire_line.proofs.Limits.{long_line, no_line}
use Rattle.kit_serve.specs.Limits.{longest_line}

pub returns-in_ok-line-in-Line : goal.returns-in_ok-line-in-Line
returns-in_ok-line-in-Line c =
    let held = c.args.splitter.now.bytes in
    (subst (λ (n : ℕ). IsTrue (has_line n held)) c.requires c.in-Line.ensures.next.0, c.in_ok-line-in-Line.ensures ∙ c.in-Line.ensures.next.1)

pub returns-in-Long : goal.returns-in-Long
returns-in-Long c =
    let held = c.args.splitter.now.bytes in
    long_line longest_line held (subst (λ (n : ℕ). IsTrue (not (has_line n held))) c.requires c.in-Long.ensures.next.0) (subst (λ (n : ℕ). n < length held) c.requires c.in-Long.ensures.next.1)

pub returns-in-More : goal.returns-in-More
returns-in-More c =
    let held = c.args.splitter.now.bytes in
    no_line longest_line held (subst (λ (n : ℕ). IsTrue (not (has_line n held))) c.requires c.in-More.ensures.next.0) (subst (λ (n : ℕ). length held ≤ n) c.requires c.in-More.ensures.next.1)
