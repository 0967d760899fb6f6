use Rattle.std.proofs.Common.{ℕ, ◌+◌, ◌∙◌, ap, arith}
use Rattle.wire_line.proofs.Firsts.{end_pushed, end_kept}
use Rattle.wire_line.proofs.splitter.Splitter.push.Goals as goal

pub invariant_of-self-then-self-held : goal.invariant_of-self-then-self-held
invariant_of-self-then-self-held c =
    let s = c.self.inside in (
      omega (arith, c.in_ok-extend_from_slice.ensures.len),
      ap (λ (n : ℕ). s.end + n) c.end_of.ensures.value
          ∙ end_pushed s.start s.end s.bytes.items c.args.piece.now (omega arith) c.self.invariant.1 c.extend_from_slice.new.self.items c.in_ok-extend_from_slice.ensures.items (omega arith),
    )

pub invariant_of-self-else-self-held : goal.invariant_of-self-else-self-held
invariant_of-self-else-self-held c =
    let s = c.self.inside in (
      omega (arith, c.in_ok-extend_from_slice.ensures.len),
      end_kept s.start s.end s.bytes.items c.args.piece.now (omega arith) c.self.invariant.1 c.extend_from_slice.new.self.items c.in_ok-extend_from_slice.ensures.items (λ e. c.if-self-held.false (omega arith)),
    )
