-- What stands first in bytes, by the lines that they are cut into.
use Rattle.std.proofs.Common.{◌≡◌, ℕ, ◌+◌, ◌<◌, ◌==◌, true, false, not, List, [], ◌∷◌, ◌++◌, IsTrue, length, take, refl, sym, ap, subst, ◌∙◌, arith, ⊎_elim, append_assoc}
use Rattle.std.proofs.lemmas.Bool.{false≢true, cases_lt, and_parts, not-true}
use Rattle.std.proofs.lemmas.List.{take_at, length-append}
use Rattle.std.proofs.lemmas.List.Folds.{list_any_at}
use Rattle.std.proofs.lemmas.List.Sums.{passes_at_first}
use Rattle.annex_model.specs.Lines.{has_newline, text, Cut}
use Rattle.wire_line.specs.HeldBytes.{first_line}
use Rattle.wire_line.specs.Nexts.{IsNext, IsNextOfLines, NextOfLines}
use Rattle.wire_line.specs.declared.splitter.Next.{Next}
use Rattle.wire_line.specs.declared.splitter.Next.TheVariants.{Line, Long, More}
use Rattle.wire_line.proofs.Firsts.{end_of, ends_within, has_line_at}
use Rattle.ann_key.proofs.Booleans.{one_more, right_false as later_lacks}

line_end : (line after : List ℕ) → has_newline line ≡ false → end_of (line ++ 10 ∷ after) ≡ length line
line_end [] after none = refl
line_end (x ∷ xs) after none =
    one_more (x == 10) (has_newline xs) _ _ none (line_end xs after (later_lacks (x == 10) (has_newline xs) none))

no_end : (rest : List ℕ) → IsTrue (not (has_newline rest)) → end_of rest < length rest → ⊥
no_end rest none within =
    false≢true (sym (ap not (list_any_at (λ b. b == 10) rest (end_of rest) 0 within (passes_at_first (λ b. b == 10) rest 0 within))) ∙ none)

-- the first line of a cut ends where the bytes' first line does
first_end : (bytes line : List ℕ) (lines : List (List ℕ)) (rest : List ℕ) → Cut bytes (line ∷ lines) rest
    → (end_of bytes ≡ length line) × (end_of bytes < length bytes) × (first_line bytes ≡ line)
first_end bytes line lines rest cut =
    let whole : bytes ≡ line ++ 10 ∷ (text lines ++ rest) = cut.whole ∙ append_assoc line (10 ∷ text lines) rest in
    let apart : has_newline line ≡ false = not-true _ (and_parts _ _ cut.apart).0 in
    let ends : end_of bytes ≡ length line = ap end_of whole ∙ line_end line (text lines ++ rest) apart in
    let long : length bytes ≡ length line + (1 + length (text lines ++ rest)) = ap length whole ∙ length-append line (10 ∷ (text lines ++ rest)) ∙ omega arith in
    (ends, omega arith, ap (λ n. take n bytes) ends ∙ ap (take (length line)) whole ∙ take_at line (10 ∷ (text lines ++ rest)) (length line) refl)

pub next_of_lines : (limit : ℕ) (bytes : List ℕ) (next : Next) → IsNext limit bytes next → NextOfLines limit bytes next
next_of_lines limit bytes next is (line ∷ lines) rest cut none = of_line limit bytes next is line (first_end bytes line lines rest cut)
  where
    of_line : (limit : ℕ) (bytes : List ℕ) (next : Next) → IsNext limit bytes next → (line : List ℕ)
        → (end_of bytes ≡ length line) × (end_of bytes < length bytes) × (first_line bytes ≡ line)
        → IsNextOfLines limit (line ∷ lines) rest next
    of_line limit bytes (Line first) is line at =
        let within = ends_within limit bytes is.0 in
        (omega arith, is.1 ∙ at.2)
    of_line limit bytes Long is line at =
        ⊎_elim (λ late. late) (λ soon. absurd (false≢true (sym (ap not (has_line_at limit bytes (omega arith) at.1)) ∙ is.0))) (cases_lt limit (length line))
    of_line limit bytes More is line at =
        false≢true (sym (ap not (has_line_at limit bytes (omega arith) at.1)) ∙ is.0)
next_of_lines limit bytes (Line first) is [] rest cut none =
    no_end rest none (subst (λ l. end_of l < length l) cut.whole (ends_within limit bytes is.0).1)
next_of_lines limit bytes Long is [] rest cut none = let same = ap length cut.whole in omega (arith, is.1)
next_of_lines limit bytes More is [] rest cut none = let same = ap length cut.whole in omega (arith, is.1)
