use Rattle.std.proofs.Common.{ℕ, List, ◌≡◌, ◌+◌, true, false, drop, sym, ap, subst, ◌∙◌}
use Rattle.std.specs.Prelude.{None, Some}
use Rattle.memchr.specs.Find.{IsFirstByte, is_byte}
use Rattle.wire_line.proofs.Firsts.{found_at, found_none}
use Rattle.pair_kit.proofs.Lines.{lacks_of}
use Rattle.pair_kit.proofs.pipe.drop_line_of.Goals as goal

pub returns-in-Some : goal.returns-in-Some
returns-in-Some c h =
    let items = c.args.bytes.now.items in
    let is : IsFirstByte (is_byte 10) items (Some c.in-Some.end) = subst (λ (l : List ℕ). IsFirstByte (is_byte 10) l (Some c.in-Some.end)) c.as_slice.ensures.value c.in-Some.ensures in
    c.drop_front.ensures ∙ ap (λ (n : ℕ). drop (n + 1) items) (sym (found_at items c.in-Some.end is).0)

pub returns-in_default : goal.returns-in_default
returns-in_default c h =
    let items = c.args.bytes.now.items in
    let is : IsFirstByte (is_byte 10) items None = subst (λ (l : List ℕ). IsFirstByte (is_byte 10) l None) c.as_slice.ensures.value c.in_default.ensures in
    let bad : true ≡ false = sym h ∙ lacks_of items (found_none items is) in
    cc
