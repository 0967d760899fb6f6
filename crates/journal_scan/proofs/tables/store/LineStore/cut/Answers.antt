use Rattle.std.proofs.Common.{◌≡◌, ◌≤◌, List, ℕ, ◌∷◌, length, get_or, take, sym, ap, subst, ◌∙◌, arith}
use Rattle.journal_scan.specs.Tables.Lines.{LineStoreValue, lines_from, EndAt}
use Rattle.journal_scan.proofs.TablesLemmas.Ending.{many_lines, lines_from-take, EndAt-bytes}
use Rattle.journal_scan.proofs.tables.store.LineStore.cut.Goals as goal

enough : (bytes ends : List ℕ) (v : LineStoreValue) (n : ℕ) → lines_from bytes 0 ends ≡ v.lines → n ≤ length v.lines → n ≤ length ends
enough bytes ends v n is few = let many = many_lines bytes ends v.lines is in omega (arith, many, few)

pub end_of-end-requires : goal.end_of-end-requires
end_of-end-requires c =
    subst (λ (xs : List ℕ). c.args.lines ≤ length xs) (sym c.as_slice.ensures.value)
    (enough c.self.inside.bytes.items c.self.inside.ends.items c.args.self.now c.args.lines (ap (λ v. v.lines) c.self.view_is) c.requires)

pub invariant_of-self : goal.invariant_of-self
invariant_of-self c =
    let ends = c.self.inside.ends.items in
    let few : c.args.lines ≤ length ends = enough c.self.inside.bytes.items ends c.args.self.now c.args.lines (ap (λ v. v.lines) c.self.view_is) c.requires in
    let end : c.end_of-end.result ≡ get_or (0 ∷ ends) c.args.lines 0 =
    c.end_of-end.ensures ∙ ap (λ (xs : List ℕ). get_or (0 ∷ xs) c.args.lines 0) c.as_slice.ensures.value in
    let bytes = c.truncate-2.ensures.items ∙ ap (λ (n : ℕ). take n c.self.inside.bytes.items) end in
    record {
      ended = subst (λ (xs : List ℕ). EndAt 0 xs (length c.truncate-2.new.self.items)) (sym c.truncate.ensures.items)
          (subst (λ (xs : List ℕ). EndAt 0 (take c.args.lines ends) (length xs)) (sym bytes)
          (EndAt-bytes c.self.inside.bytes.items 0 ends c.args.lines c.self.invariant.ended few));
      for_lines = omega (arith, c.truncate.ensures.capacity, c.self.invariant.for_lines);
      for_bytes = omega (arith, c.truncate-2.ensures.capacity, c.self.invariant.for_bytes);
    }

pub returns-clause-lines : goal.returns-clause-lines
returns-clause-lines c =
    let ends = c.self.inside.ends.items in
    let few : c.args.lines ≤ length ends = enough c.self.inside.bytes.items ends c.args.self.now c.args.lines (ap (λ v. v.lines) c.self.view_is) c.requires in
    let end : c.end_of-end.result ≡ get_or (0 ∷ ends) c.args.lines 0 =
    c.end_of-end.ensures ∙ ap (λ (xs : List ℕ). get_or (0 ∷ xs) c.args.lines 0) c.as_slice.ensures.value in
    let bytes = c.truncate-2.ensures.items ∙ ap (λ (n : ℕ). take n c.self.inside.bytes.items) end in
    (λ i. lines_from (bytes i) 0 (c.truncate.ensures.items i))
    ∙ lines_from-take c.self.inside.bytes.items 0 ends (length c.self.inside.bytes.items) c.args.lines c.self.invariant.ended few
    ∙ ap (λ v. take c.args.lines v.lines) c.self.view_is
