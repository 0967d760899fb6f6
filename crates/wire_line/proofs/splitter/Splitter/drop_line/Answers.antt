use Rattle.std.proofs.Common.{ℕ, ◌+◌, ◌≤◌, List, ◌∷◌, ◌++◌, drop, length, sym, ap, ◌∙◌, subst, arith}
use Rattle.wire_line.specs.HeldBytes.{first_line, TakesLine}
use Rattle.wire_line.proofs.Firsts.{end_of, ends_within, end_in, after_end, split_line, takes_line}
use Rattle.wire_line.proofs.splitter.Splitter.drop_line.Goals as goal

pub overflow_add-start : goal.overflow_add-start
overflow_add-start c =
    let s = c.self.inside in
    let ends = ends_within c.args.self.now.limit c.args.self.now.bytes c.requires in
    let within : s.end + 1 ≤ length s.bytes.items = end_in s.start s.end s.bytes.items c.args.self.now.bytes (omega arith) c.self.invariant.1 (ap (λ v. v.bytes) c.self.view_is) ends.1 in
    omega arith

pub end_from-end-requires : goal.end_from-end-requires
end_from-end-requires c =
    let s = c.self.inside in
    let ends = ends_within c.args.self.now.limit c.args.self.now.bytes c.requires in
    let within : s.end + 1 ≤ length s.bytes.items = end_in s.start s.end s.bytes.items c.args.self.now.bytes (omega arith) c.self.invariant.1 (ap (λ v. v.bytes) c.self.view_is) ends.1 in
    omega arith

pub invariant_of-self : goal.invariant_of-self
invariant_of-self c =
    let s = c.self.inside in
    let ends = ends_within c.args.self.now.limit c.args.self.now.bytes c.requires in
    let within : s.end + 1 ≤ length s.bytes.items = end_in s.start s.end s.bytes.items c.args.self.now.bytes (omega arith) c.self.invariant.1 (ap (λ v. v.bytes) c.self.view_is) ends.1 in
    (omega arith, c.end_from-end.ensures ∙ ap (λ (l : List ℕ). s.end + 1 + end_of (drop (s.end + 1) l)) c.as_slice-bytes.ensures.value)

pub returns-clause-line : goal.returns-clause-line
returns-clause-line c =
    let s = c.self.inside in
    let bytes = c.args.self.now.bytes in
    let behind = after_end s.start s.end s.bytes.items c.args.self.now.bytes c.self.invariant.1 (ap (λ v. v.bytes) c.self.view_is) in
    split_line bytes (ends_within c.args.self.now.limit bytes c.requires).1
    ∙ ap (λ l. first_line bytes ++ 10 ∷ l) (sym behind)

pub returns-clause-cut : goal.returns-clause-cut
returns-clause-cut c =
    let s = c.self.inside in
    let bytes = c.args.self.now.bytes in
    let behind = after_end s.start s.end s.bytes.items c.args.self.now.bytes c.self.invariant.1 (ap (λ v. v.bytes) c.self.view_is) in
    subst (λ l. TakesLine bytes (first_line bytes) l) (sym behind)
    (takes_line bytes (ends_within c.args.self.now.limit bytes c.requires).1)
