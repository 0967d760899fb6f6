use Rattle.std.proofs.Common.{◌≡◌, ℕ, ap, arith, take, not, length}
use Rattle.wire_line.specs.declared.splitter.Next.TheVariants.{Line, Long, More}
use Rattle.wire_line.proofs.Firsts.{end_of, end_of-le-length, has_line_at, lacks_line, lacks_line_all}
use Rattle.wire_line.proofs.Cuts.{next_of_lines}
use Rattle.wire_line.proofs.splitter.first_of.Goals as goal

pub returns-then-line-limit-clause-next : goal.returns-then-line-limit-clause-next
returns-then-line-limit-clause-next c =
    let fits = end_of-le-length c.args.held.now in
    (ap not (lacks_line c.args.limit c.args.held.now (omega arith)), omega arith)

pub returns-then-line-limit-clause-of_lines : goal.returns-then-line-limit-clause-of_lines
returns-then-line-limit-clause-of_lines c = next_of_lines _ _ Long (returns-then-line-limit-clause-next c)

pub returns-then-line-held-clause-next : goal.returns-then-line-held-clause-next
returns-then-line-held-clause-next c =
    (has_line_at c.args.limit c.args.held.now (omega arith) (omega arith), ap (λ (n : ℕ). take n c.args.held.now) c.requires)

pub returns-then-line-held-clause-of_lines : goal.returns-then-line-held-clause-of_lines
returns-then-line-held-clause-of_lines c = next_of_lines _ _ (Line _) (returns-then-line-held-clause-next c)

pub returns-else-line-held-clause-next : goal.returns-else-line-held-clause-next
returns-else-line-held-clause-next c =
    let fits = end_of-le-length c.args.held.now in
    let none : end_of c.args.held.now ≡ length c.args.held.now = omega arith in
    (ap not (lacks_line_all c.args.limit c.args.held.now none), omega arith)

pub returns-else-line-held-clause-of_lines : goal.returns-else-line-held-clause-of_lines
returns-else-line-held-clause-of_lines c = next_of_lines _ _ More (returns-else-line-held-clause-next c)
