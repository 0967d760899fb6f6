-- Lines within a limit.
use Rattle.std.proofs.Common.{◌≡◌, ℕ, ◌+◌, ◌<◌, ◌≤◌, true, false, not, ◌&&◌, List, [], ◌∷◌, ◌++◌, IsTrue, length, length-take, sym, ap, ◌∙◌, arith, ⊎_elim}
use Rattle.std.specs.Prelude.{nat_le}
use Rattle.std.specs.List.{list_all}
use Rattle.std.proofs.lemmas.Bool.{cases_lt, not-true}
use Rattle.std.proofs.lemmas.Bool.Decides.{nat_tests}
use Rattle.std.proofs.lemmas.List.{take_all}
use Rattle.std.proofs.lemmas.List.Folds.{list_all-append}
use Rattle.ann_key.proofs.Booleans.{not_and_so}
use Rattle.annex_model.specs.Lines.{has_newline}
use Rattle.wire_line.specs.HeldBytes.{has_line, first_line}
use Rattle.wire_line.proofs.Firsts.{end_of, end_of-le-length, ends_within, has_line_at}

-- no line ends in what is held, where none stands first and it isn't long
pub no_line : (limit : ℕ) (held : List ℕ) → IsTrue (not (has_line limit held)) → length held ≤ limit → has_newline held ≡ false
no_line limit held none few =
    let long : length held ≤ limit + 1 = omega arith in
    not-true (has_newline held) (ap (λ (x : List ℕ). not (has_newline x)) (sym (take_all (limit + 1) held long)) ∙ none)

-- where the first line is longer than the limit
pub long_line : (limit : ℕ) (held : List ℕ) → IsTrue (not (has_line limit held)) → limit < length held → limit < length (first_line held)
long_line limit held none many =
    let fits : end_of held ≤ length held = end_of-le-length held in
    let long : length (first_line held) ≡ end_of held = length-take (end_of held) held ∙ omega arith in
    ⊎_elim (λ (late : limit < end_of held). omega arith)
    (λ (soon : end_of held ≤ limit). absurd (not_and_so (has_line limit held) (has_line_at limit held soon (omega arith)) none)) (cases_lt limit (end_of held))

-- a line that stands first is no longer than the limit
pub short_line : (limit : ℕ) (held : List ℕ) → IsTrue (has_line limit held) → length (first_line held) ≤ limit
short_line limit held has =
    let within = ends_within limit held has in
    let long : length (first_line held) ≡ end_of held = length-take (end_of held) held ∙ omega arith in
    omega arith

-- one more line within the limit
pub short_push : (limit : ℕ) (lines : List (List ℕ)) (line : List ℕ) → IsTrue (list_all (λ l. nat_le (length l) limit) lines) → length line ≤ limit
    → IsTrue (list_all (λ l. nat_le (length l) limit) (lines ++ line ∷ []))
short_push limit lines line all fits =
    let this : nat_le (length line) limit ≡ true = grind (arith, nat_tests) in
    list_all-append (λ l. nat_le (length l) limit) lines (line ∷ []) ∙ ap (λ b. b && (nat_le (length line) limit && true)) all ∙ ap (λ b. b && true) this
