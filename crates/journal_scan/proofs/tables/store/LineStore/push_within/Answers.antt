use Rattle.std.proofs.Common.{◌≡◌, ◌+◌, ◌≤◌, List, ℕ, [], ◌∷◌, ◌++◌, length, sym, ap, subst, ◌∙◌, length-append, arith}
use Rattle.journal_scan.specs.Tables.Lines.{lines_from, total, EndAt}
use Rattle.journal_scan.proofs.TablesLemmas.Ending.{lines_from-append, EndAt-append, many_lines, many_bytes}
use Rattle.journal_scan.proofs.tables.store.LineStore.push_within.Goals as goal

-- there is room for the bytes, and for the end
bytes_fit : (bytes ends : List ℕ) (lines : List (List ℕ)) (more space most : ℕ) → EndAt 0 ends (length bytes) → lines_from bytes 0 ends ≡ lines → total lines + more ≤ space → space ≤ most → length bytes + more ≤ most
bytes_fit bytes ends lines more space most h is fits roomy = let many = many_bytes bytes ends lines h is in omega (arith, many, fits, roomy)

pub invariant_of-self : goal.invariant_of-self
invariant_of-self c =
    let old = c.self.inside.bytes.items in
    let long : length c.as_slice-end.result.now ≡ length old + length c.args.line.now =
    ap length (c.as_slice-end.ensures.value ∙ c.in-Ok.ensures.items) ∙ length-append old c.args.line.now in
    let after : length c.extend_from_slice.new.self.items ≡ length old + length c.args.line.now =
    ap length c.in-Ok.ensures.items ∙ length-append old c.args.line.now in
    let ends : c.push.new.self.items ≡ c.self.inside.ends.items ++ (length old + length c.args.line.now) ∷ [] =
    c.in-Ok-push.ensures.items ∙ (λ i. c.self.inside.ends.items ++ long i ∷ []) in
    record {
      ended = subst (λ (xs : List ℕ). EndAt 0 xs (length c.extend_from_slice.new.self.items)) (sym ends)
          (subst (λ (n : ℕ). EndAt 0 (c.self.inside.ends.items ++ (length old + length c.args.line.now) ∷ []) n) (sym after)
          (EndAt-append 0 c.self.inside.ends.items (length old) (length c.args.line.now) c.self.invariant.ended));
      for_lines = omega (arith, c.push.ensures.capacity, c.self.invariant.for_lines);
      for_bytes = omega (arith, c.extend_from_slice.ensures.capacity, c.self.invariant.for_bytes);
    }

pub returns-clause-lines : goal.returns-clause-lines
returns-clause-lines c =
    let old = c.self.inside.bytes.items in
    let long : length c.as_slice-end.result.now ≡ length old + length c.args.line.now =
    ap length (c.as_slice-end.ensures.value ∙ c.in-Ok.ensures.items) ∙ length-append old c.args.line.now in
    let ends : c.push.new.self.items ≡ c.self.inside.ends.items ++ (length old + length c.args.line.now) ∷ [] =
    c.in-Ok-push.ensures.items ∙ (λ i. c.self.inside.ends.items ++ long i ∷ []) in
    (λ i. lines_from (c.in-Ok.ensures.items i) 0 (ends i))
    ∙ lines_from-append old c.args.line.now 0 c.self.inside.ends.items c.self.invariant.ended
    ∙ ap (λ v. v.lines ++ c.args.line.now ∷ []) c.self.view_is

pub unreachable-requires : goal.unreachable-requires
unreachable-requires c =
    let old = c.self.inside in
    let fits : total c.args.self.now.lines + length c.args.line.now ≤ old.space = let same = ap (λ v. v.space) c.self.view_is in let roomy = c.requires.space in omega (arith, same, roomy) in
    let there = bytes_fit old.bytes.items old.ends.items c.args.self.now.lines (length c.args.line.now) old.space _ c.self.invariant.ended (ap (λ v. v.lines) c.self.view_is) fits c.self.invariant.for_bytes in
    let full = c.in-Err.ensures.full in
    let long = old.bytes.ok.0 in
    omega (arith, there, full, long)

pub unreachable-requires-in-Err-push : goal.unreachable-requires-in-Err-push
unreachable-requires-in-Err-push c =
    let old = c.self.inside in
    let many = many_lines old.bytes.items old.ends.items c.args.self.now.lines (ap (λ v. v.lines) c.self.view_is) in
    let same = ap (λ v. v.room) c.self.view_is in
    let few = c.requires.room in
    let full = c.in-Err-push.ensures.full in
    let long = old.ends.ok.0 in
    let roomy = c.self.invariant.for_lines in
    omega (arith, many, same, few, full, long, roomy)
