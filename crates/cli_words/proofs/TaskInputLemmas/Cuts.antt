-- Bytes that are cut into lines and a rest.
use Rattle.std.proofs.Common.{◌≡◌, ℕ, Bool, true, false, not, cond, List, [], ◌∷◌, ◌++◌, refl, sym, ap, ◌∙◌, append_assoc, append-nil}
use mathlib.Core.Bool.{false≢true}
use Rattle.std.specs.Prelude.{◌||◌}
use Rattle.std.specs.List.{list_all}
use Rattle.annex_model.specs.Lines.{has_newline, text, Cut}
use Rattle.cli_words.specs.TaskInput.InputLines.{is_end, lines_of, with_byte, with_rest}
use Rattle.std.proofs.lemmas.Bool.{and_parts as both, not-true as clear}

-- a line and its end stand before the lines of what follows
ended : (last : Bool) (line more : List ℕ) → has_newline line ≡ false → lines_of last (line ++ 10 ∷ more) ≡ line ∷ lines_of last more
ended last [] more h = refl
ended last (b ∷ line) more h = go (is_end b) h (ended last line more)
  where
    go : (s : Bool) → (s || has_newline line) ≡ false → (has_newline line ≡ false → lines_of last (line ++ 10 ∷ more) ≡ line ∷ lines_of last more)
        → cond s ([] ∷ lines_of last (line ++ 10 ∷ more)) (with_byte last b (lines_of last (line ++ 10 ∷ more))) ≡ (b ∷ line) ∷ lines_of last more
    go true h rest = absurd (false≢true (sym h))
    go false h rest = ap (with_byte last b) (rest h)

-- a rest without an end is a line or none
rest_false : (rest : List ℕ) → has_newline rest ≡ false → lines_of false rest ≡ []
rest_false [] h = refl
rest_false (b ∷ rest) h = go (is_end b) h (rest_false rest)
  where
    go : (s : Bool) → (s || has_newline rest) ≡ false → (has_newline rest ≡ false → lines_of false rest ≡ [])
        → cond s ([] ∷ lines_of false rest) (with_byte false b (lines_of false rest)) ≡ []
    go true h next = absurd (false≢true (sym h))
    go false h next = ap (with_byte false b) (next h)

rest_true : (rest : List ℕ) → has_newline rest ≡ false → lines_of true rest ≡ with_rest [] rest
rest_true [] h = refl
rest_true (b ∷ []) h = go (is_end b) h
  where
    go : (s : Bool) → (s || false) ≡ false → cond s ([] ∷ []) ((b ∷ []) ∷ []) ≡ (b ∷ []) ∷ []
    go true h = absurd (false≢true (sym h))
    go false h = refl
rest_true (b ∷ c ∷ rest) h = go (is_end b) h (rest_true (c ∷ rest))
  where
    go : (s : Bool) → (s || has_newline (c ∷ rest)) ≡ false → (has_newline (c ∷ rest) ≡ false → lines_of true (c ∷ rest) ≡ (c ∷ rest) ∷ [])
        → cond s ([] ∷ lines_of true (c ∷ rest)) (with_byte true b (lines_of true (c ∷ rest))) ≡ (b ∷ c ∷ rest) ∷ []
    go true h next = absurd (false≢true (sym h))
    go false h next = ap (with_byte true b) (next h)

pub behind : (last : Bool) (lines : List (List ℕ)) (rest : List ℕ) → list_all (λ line. not (has_newline line)) lines ≡ true
    → lines_of last (text lines ++ rest) ≡ lines ++ lines_of last rest
behind last [] rest h = refl
behind last (line ∷ lines) rest h =
    let apart = both (not (has_newline line)) (list_all (λ line. not (has_newline line)) lines) h in
    ap (lines_of last) (append_assoc line (10 ∷ text lines) rest)
    ∙ ended last line (text lines ++ rest) (clear (has_newline line) apart.0)
    ∙ ap (λ ls. line ∷ ls) (behind last lines rest apart.1)

rest_joins : (lines : List (List ℕ)) (rest : List ℕ) → lines ++ with_rest [] rest ≡ with_rest lines rest
rest_joins lines [] = append-nil lines
rest_joins lines (b ∷ rest) = refl

pub ended_lines : (bytes rest : List ℕ) (lines : List (List ℕ)) → Cut bytes lines rest → has_newline rest ≡ false → lines_of false bytes ≡ lines
ended_lines bytes rest lines cut h =
    ap (lines_of false) cut.whole ∙ behind false lines rest cut.apart ∙ ap (λ ls. lines ++ ls) (rest_false rest h) ∙ append-nil lines

pub all_lines : (bytes rest : List ℕ) (lines : List (List ℕ)) → Cut bytes lines rest → has_newline rest ≡ false → lines_of true bytes ≡ with_rest lines rest
all_lines bytes rest lines cut h =
    ap (lines_of true) cut.whole ∙ behind true lines rest cut.apart ∙ ap (λ ls. lines ++ ls) (rest_true rest h) ∙ rest_joins lines rest
