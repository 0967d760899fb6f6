-- What waits at the host's side.
use Rattle.std.proofs.Common.{ℕ, ◌≡◌, ◌<◌, Bool, true, false, not, cond, List, length, refl, sym, ap, ◌∙◌, arith}
use Rattle.std.specs.Prelude.{◌||◌, ◌&&◌, nat_le, nat_lt}
use Rattle.std.proofs.lemmas.Bool.Decides.{nat_tests}
use Rattle.annex_model.specs.Lines.{has_newline}
use Rattle.wire_line.specs.HeldBytes.{first_line, after_line}
use Rattle.journal_model.specs.declared.verdict.Why.TheVariants.{LongLine}
use Rattle.host_core.specs.declared.event.Event.TheVariants.{Stop as StopEvent}
use Rattle.pair_world.specs.Moves.{is_silent, is_long, is_gone, heard_event, left_at}
use Rattle.pair_kit.specs.Pairs.{PairValue}
use Rattle.host_core.specs.declared.event.Reply.{Reply}
use Rattle.pair_kit.proofs.Lines.{first_all}
use Rattle.ann_key.proofs.Booleans.{left_false as first_false}

-- with no line end and more than a line may have, the child's end is heard
pub too_long : (c : ℕ) (side : List ℕ) → has_newline side ≡ false → 65536 < length side → (is_silent side ≡ false) × (StopEvent c LongLine ≡ heard_event c side)
too_long c side none long =
    let all : length (first_line side) ≡ length side = ap (λ (l : List ℕ). length l) (first_all side none) in
    let over : nat_lt 65536 (length (first_line side)) ≡ true = grind (arith, nat_tests) in
    let more : nat_le (length side) 65536 ≡ false = grind (arith, nat_tests) in
    (ap (λ (b : Bool). not b && nat_le (length side) 65536) none ∙ more, rw over refl)

-- where something is there and no line is whole, it is too long
pub long_rest : (side : List ℕ) → is_silent side ≡ false → has_newline side ≡ false → is_long side ≡ true
long_rest side some none =
    let all : length (first_line side) ≡ length side = ap (λ (l : List ℕ). length l) (first_all side none) in
    let more : nat_le (length side) 65536 ≡ false = ap (λ (b : Bool). not b && nat_le (length side) 65536) (sym none) ∙ some in
    grind (arith, nat_tests)

-- the line that was heard is gone from the side
pub dropped : (old new : PairValue) (reply : Reply) → is_silent old.at_host ≡ false → (b : Bool) → b ≡ not (is_long old.at_host || is_gone reply) → b ≡ true
    → (has_newline old.at_host ≡ true → new ≡ record old { at_host = after_line old.at_host }) → new ≡ record old { at_host = left_at reply old.at_host }
dropped old new reply some b is used drops = go (is_long old.at_host || is_gone reply) refl (has_newline old.at_host) refl
  where
    go : (k : Bool) → (is_long old.at_host || is_gone reply) ≡ k → (n : Bool) → has_newline old.at_host ≡ n → new ≡ record old { at_host = left_at reply old.at_host }
    go true k n e = let bad : false ≡ true = sym (is ∙ ap not k) ∙ used in cc
    go false k true e = drops e ∙ ap (λ (l : Bool). let p : PairValue = record old { at_host = cond l old.at_host (after_line old.at_host) } in p) (sym k)
    go false k false e = let bad : true ≡ false = sym (long_rest old.at_host some e) ∙ first_false (is_long old.at_host) (is_gone reply) k in cc
