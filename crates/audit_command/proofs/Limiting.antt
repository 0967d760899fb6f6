-- Where an input passes a limit, whatever follows; and that it passes none.
use Rattle.std.proofs.Common.{◌≡◌, ℕ, ◌+◌, ◌-◌, ◌<◌, ◌≤◌, Bool, true, false, cond, List, [], ◌∷◌, ◌++◌, take, length, sym, ap, ◌∙◌, arith, append-nil, length-append}
use Rattle.std.specs.Prelude.{◌||◌, nat_lt}
use Rattle.std.proofs.Math.Seq.{take-append-add, take-append_seam}
use Rattle.std.proofs.lemmas.List.{take_all}
use Rattle.annex_model.specs.Lines.{text, has_newline, Cut}
use Rattle.cli_words.specs.TaskInput.InputLines.{is_end, lines_of, with_byte, with_rest}
use Rattle.cli_words.proofs.TaskInputLemmas.Cuts.{behind, ended_lines, all_lines}
use Rattle.audit_command.specs.Inputs.{is_large, passes, lines_within}
use Rattle.audit_command.specs.declared.limits.Limits.{Limits}
use Rattle.ann_key.proofs.Booleans.{or_true}
use Rattle.std.proofs.lemmas.Bool.{lt-ltb as less, le-ltb as not_less}

-- as many as there are
front : {X : Type 0} (n : ℕ) (xs ys : List X) → n ≡ length xs → take n (xs ++ ys) ≡ xs
front n xs ys e = ap (λ (m : ℕ). take m (xs ++ ys)) e ∙ take-append_seam xs ys

-- what follows isn't empty, so some line begins there
some_line : (b : ℕ) (bytes : List ℕ) → 0 < length (lines_of true (b ∷ bytes))
some_line b bytes = go (is_end b) (lines_of true bytes)
  where
    go : (s : Bool) (ls : List (List ℕ)) → 0 < length (cond s ([] ∷ lines_of true bytes) (with_byte true b ls))
    go true ls = omega arith
    go false [] = omega arith
    go false (l ∷ ls) = omega arith

-- ---- more bytes than there may be

module _ (limits : Limits) (bytes : List ℕ) (b : ℕ) (more : List ℕ) (full : length bytes ≡ limits.bytes) where
  large : is_large limits (bytes ++ b ∷ more) ≡ true
  large = let long = length-append bytes (b ∷ more) in less limits.bytes (length (bytes ++ b ∷ more)) (omega arith)

  pub passes_bytes : passes limits (bytes ++ b ∷ more) ≡ true
  passes_bytes = ap (λ (s : Bool). s || nat_lt limits.lines (length (lines_of true (bytes ++ b ∷ more)))) large

  pub within_bytes : (lines : List (List ℕ)) (rest : List ℕ) → Cut bytes lines rest → has_newline rest ≡ false → length lines ≤ limits.lines
      → lines_within limits (bytes ++ b ∷ more) ≡ lines
  within_bytes lines rest cut ended few =
      let all = bytes ++ b ∷ more in
      ap (λ (s : Bool). take limits.lines (cond s (lines_of false (take limits.bytes all)) (lines_of true all))) large
      ∙ ap (λ (bs : List ℕ). take limits.lines (lines_of false bs)) (front limits.bytes bytes (b ∷ more) (sym full))
      ∙ ap (take limits.lines) (ended_lines bytes rest lines cut ended)
      ∙ take_all limits.lines lines few

-- ---- more lines than there may be

module _ (limits : Limits) (bytes : List ℕ) (lines : List (List ℕ)) (cut : Cut bytes lines []) (full : length lines ≡ limits.lines) where
  same : bytes ≡ text lines
  same = cut.whole ∙ append-nil (text lines)

  pub passes_lines : (b : ℕ) (more : List ℕ) → passes limits (bytes ++ b ∷ more) ≡ true
  passes_lines b more =
      let all = bytes ++ b ∷ more in
      let apart : lines_of true all ≡ lines ++ lines_of true (b ∷ more) = ap (λ (bs : List ℕ). lines_of true (bs ++ b ∷ more)) same ∙ behind true lines (b ∷ more) cut.apart in
      let long = length-append lines (lines_of true (b ∷ more)) in
      let some = some_line b more in
      let over : limits.lines < length (lines_of true all) = let count = ap (λ (ls : List (List ℕ)). length ls) apart in omega arith in
      ap (λ (s : Bool). is_large limits all || s) (less limits.lines (length (lines_of true all)) over) ∙ or_true (is_large limits all)

  within : (large : Bool) (b : ℕ) (more : List ℕ) → length bytes ≤ limits.bytes
      → take limits.lines (cond large (lines_of false (take limits.bytes (bytes ++ b ∷ more))) (lines_of true (bytes ++ b ∷ more))) ≡ lines
  within true b more small =
      let n = limits.bytes - length bytes in
      let sum : limits.bytes ≡ length bytes + n = omega arith in
      let front_is : take limits.bytes (bytes ++ b ∷ more) ≡ bytes ++ take n (b ∷ more) =
      ap (λ (m : ℕ). take m (bytes ++ b ∷ more)) sum ∙ take-append-add bytes (b ∷ more) n in
      ap (λ (bs : List ℕ). take limits.lines (lines_of false bs)) (front_is ∙ ap (λ (bs : List ℕ). bs ++ take n (b ∷ more)) same)
      ∙ ap (take limits.lines) (behind false lines (take n (b ∷ more)) cut.apart)
      ∙ front limits.lines lines (lines_of false (take n (b ∷ more))) (sym full)
  within false b more small =
      ap (λ (bs : List ℕ). take limits.lines (lines_of true (bs ++ b ∷ more))) same
      ∙ ap (take limits.lines) (behind true lines (b ∷ more) cut.apart)
      ∙ front limits.lines lines (lines_of true (b ∷ more)) (sym full)

  pub within_lines : (b : ℕ) (more : List ℕ) → length bytes ≤ limits.bytes → lines_within limits (bytes ++ b ∷ more) ≡ lines
  within_lines b more small = within (is_large limits (bytes ++ b ∷ more)) b more small

-- ---- neither

rest_few : (limits : Limits) (lines : List (List ℕ)) (rest : List ℕ) → length lines ≤ limits.lines → (length lines ≡ limits.lines → rest ≡ []) → length (with_rest lines rest) ≤ limits.lines
rest_few limits lines [] few full = few
rest_few limits lines (b ∷ rest) few full =
    let long = length-append lines ((b ∷ rest) ∷ []) in
    let not_all : length lines ≡ limits.lines → ⊥ = λ e. (let none : b ∷ rest ≡ [] = full e in absurd cc) in
    omega (arith, not_all)

module _ (limits : Limits) (bytes : List ℕ) (lines : List (List ℕ)) (rest : List ℕ) (cut : Cut bytes lines rest) (ended : has_newline rest ≡ false)
    (small : length bytes ≤ limits.bytes) (few : length lines ≤ limits.lines) (full : length lines ≡ limits.lines → rest ≡ []) where
  pub all_are : lines_of true bytes ≡ with_rest lines rest
  all_are = all_lines bytes rest lines cut ended

  count : length (lines_of true bytes) ≤ limits.lines
  count = let few_all = rest_few limits lines rest few full in let same = ap (λ (ls : List (List ℕ)). length ls) all_are in omega arith

  not_large : is_large limits bytes ≡ false
  not_large = not_less limits.bytes (length bytes) small

  pub passes_none : passes limits bytes ≡ false
  passes_none =
      ap (λ (s : Bool). s || nat_lt limits.lines (length (lines_of true bytes))) not_large ∙ not_less limits.lines (length (lines_of true bytes)) count

  pub within_none : lines_within limits bytes ≡ with_rest lines rest
  within_none =
      ap (λ (s : Bool). take limits.lines (cond s (lines_of false (take limits.bytes bytes)) (lines_of true bytes))) not_large
      ∙ take_all limits.lines (lines_of true bytes) count ∙ all_are
