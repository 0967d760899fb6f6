use Rattle.std.proofs.Common.{◌≡◌, ◌≤◌, ◌<◌, List, ℕ, suc, ◌∷◌, length, get_or, sym, ap, ◌∙◌, arith, add-one}
use Rattle.std.specs.Prelude.{slice_get, slice_range, Some}
use Rattle.journal_scan.proofs.TablesLemmas.Ending.{start-le-end, end-le-length, line_at, line_past}
use Rattle.journal_scan.proofs.tables.store.LineStore.line.Goals as goal

pub part-requires-clause-rising : goal.part-requires-clause-rising
part-requires-clause-rising c =
    let ends = c.self.inside.ends.items in
    let all : length c.as_slice-ends.result.now ≡ length ends = ap length c.as_slice-ends.ensures.value in
    let here : c.args.n < length c.as_slice-ends.result.now = c.if-at-ends.true in
    let start : c.end_of.result ≡ get_or (0 ∷ ends) c.args.n 0 =
    c.end_of.ensures ∙ ap (λ (xs : List ℕ). get_or (0 ∷ xs) c.args.n 0) c.as_slice-ends.ensures.value in
    let end : c.end_of-then-at-ends.result ≡ get_or (0 ∷ ends) (suc c.args.n) 0 =
    c.end_of-then-at-ends.ensures ∙ (λ i. get_or (0 ∷ c.as_slice-ends.ensures.value i) (add-one c.args.n i) 0) in
    let rising = start-le-end 0 ends (length c.self.inside.bytes.items) c.args.n c.self.invariant.ended (omega (arith, all, here)) in
    omega (arith, start, end, rising)

pub part-requires-clause-within : goal.part-requires-clause-within
part-requires-clause-within c =
    let ends = c.self.inside.ends.items in
    let all : length c.as_slice-ends.result.now ≡ length ends = ap length c.as_slice-ends.ensures.value in
    let here : c.args.n < length c.as_slice-ends.result.now = c.if-at-ends.true in
    let end : c.end_of-then-at-ends.result ≡ get_or (0 ∷ ends) (suc c.args.n) 0 =
    c.end_of-then-at-ends.ensures ∙ (λ i. get_or (0 ∷ c.as_slice-ends.ensures.value i) (add-one c.args.n i) 0) in
    let within = end-le-length 0 ends (length c.self.inside.bytes.items) (suc c.args.n) c.self.invariant.ended (omega (arith, all, here)) in
    let bytes : length c.as_slice-bytes.result.now ≡ length c.self.inside.bytes.items = ap length c.as_slice-bytes.ensures.value in
    omega (arith, end, within, bytes)

pub returns-then-at-ends : goal.returns-then-at-ends
returns-then-at-ends c =
    let ends = c.self.inside.ends.items in
    let all : length c.as_slice-ends.result.now ≡ length ends = ap length c.as_slice-ends.ensures.value in
    let here : c.args.n < length c.as_slice-ends.result.now = c.if-at-ends.true in
    let start : c.end_of.result ≡ get_or (0 ∷ ends) c.args.n 0 =
    c.end_of.ensures ∙ ap (λ (xs : List ℕ). get_or (0 ∷ xs) c.args.n 0) c.as_slice-ends.ensures.value in
    let end : c.end_of-then-at-ends.result ≡ get_or (0 ∷ ends) (suc c.args.n) 0 =
    c.end_of-then-at-ends.ensures ∙ (λ i. get_or (0 ∷ c.as_slice-ends.ensures.value i) (add-one c.args.n i) 0) in
    ap (λ (xs : List ℕ). Some xs) (c.part.ensures ∙ (λ i. slice_range (c.as_slice-bytes.ensures.value i) (start i) (end i)))
    ∙ sym (line_at c.self.inside.bytes.items 0 ends c.args.n (omega (arith, all, here)))
    ∙ ap (λ v. slice_get v.lines c.args.n) c.self.view_is

pub returns-else-at-ends : goal.returns-else-at-ends
returns-else-at-ends c =
    let ends = c.self.inside.ends.items in
    let all : length c.as_slice-ends.result.now ≡ length ends = ap length c.as_slice-ends.ensures.value in
    let past : length c.as_slice-ends.result.now ≤ c.args.n = c.if-at-ends.false in
    sym (line_past c.self.inside.bytes.items 0 ends c.args.n (omega (arith, all, past)))
    ∙ ap (λ v. slice_get v.lines c.args.n) c.self.view_is
