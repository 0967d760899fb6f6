-- No line ends within a line that the kit says.
use Rattle.std.proofs.Common.{◌≡◌, ℕ, zero, suc, ◌<◌, arith, ◌==◌, ◌||◌, not, true, false, List, [], ◌∷◌, ◌++◌, length, slice_get, Some, IsTrue, refl, sym, ap, ◌∙◌}
use Rattle.std.proofs.lemmas.Bool.{and_parts, not-true}
use Rattle.std.proofs.lemmas.List.Folds.{list_any-append}
use Rattle.annex_model.specs.Lines.{has_newline}
use Rattle.annex_model.specs.Messages.{remote_line, HostMessage, Prepare, Initremote, Transfer, Checkpresent, Remove}
use Rattle.kit_serve.specs.declared.kit.call.Said.{Said}
use Rattle.kit_serve.specs.declared.kit.call.Said.TheVariants.{Yes, No, Failure, Set}
use Rattle.kit_serve.specs.Kit.Calls.{are_lines, is_line_said}
use Rattle.kit_serve.specs.Kit.Kits.{final_line, has_line_fields}

pub free_both : (xs ys : List ℕ) → has_newline xs ≡ false → has_newline ys ≡ false → has_newline (xs ++ ys) ≡ false
free_both xs ys x y = list_any-append (λ b. b == 10) xs ys ∙ ap (λ b. b || has_newline ys) x ∙ y

-- the line of an answer
pub final_free : (request : HostMessage) (said : Said) → IsTrue (has_line_fields request) → IsTrue (is_line_said said)
    → has_newline (remote_line (final_line (Some request) said)) ≡ false
final_free Prepare Yes fields text = refl
final_free Prepare (Set pairs) fields text = refl
final_free Prepare No fields text = refl
final_free Prepare (Failure t) fields text = not-true (has_newline t) text
final_free Initremote Yes fields text = refl
final_free Initremote (Set pairs) fields text = refl
final_free Initremote No fields text = refl
final_free Initremote (Failure t) fields text = not-true (has_newline t) text
final_free (Transfer true key file) Yes fields text = not-true (has_newline key) (and_parts _ _ fields).0
final_free (Transfer true key file) (Set pairs) fields text = not-true (has_newline key) (and_parts _ _ fields).0
final_free (Transfer true key file) No fields text = free_both key (32 ∷ []) (not-true (has_newline key) (and_parts _ _ fields).0) refl
final_free (Transfer true key file) (Failure t) fields text =
    free_both key (32 ∷ t) (not-true (has_newline key) (and_parts _ _ fields).0) (not-true (has_newline t) text)
final_free (Transfer false key file) Yes fields text = not-true (has_newline key) (and_parts _ _ fields).0
final_free (Transfer false key file) (Set pairs) fields text = not-true (has_newline key) (and_parts _ _ fields).0
final_free (Transfer false key file) No fields text = free_both key (32 ∷ []) (not-true (has_newline key) (and_parts _ _ fields).0) refl
final_free (Transfer false key file) (Failure t) fields text =
    free_both key (32 ∷ t) (not-true (has_newline key) (and_parts _ _ fields).0) (not-true (has_newline t) text)
final_free (Checkpresent key) Yes fields text = not-true (has_newline key) (and_parts _ _ fields).0
final_free (Checkpresent key) (Set pairs) fields text = not-true (has_newline key) (and_parts _ _ fields).0
final_free (Checkpresent key) No fields text = not-true (has_newline key) (and_parts _ _ fields).0
final_free (Checkpresent key) (Failure t) fields text =
    free_both key (32 ∷ t) (not-true (has_newline key) (and_parts _ _ fields).0) (not-true (has_newline t) text)
final_free (Remove key) Yes fields text = not-true (has_newline key) (and_parts _ _ fields).0
final_free (Remove key) (Set pairs) fields text = not-true (has_newline key) (and_parts _ _ fields).0
final_free (Remove key) No fields text = free_both key (32 ∷ []) (not-true (has_newline key) (and_parts _ _ fields).0) refl
final_free (Remove key) (Failure t) fields text =
    free_both key (32 ∷ t) (not-true (has_newline key) (and_parts _ _ fields).0) (not-true (has_newline t) text)
final_free request said fields text = refl

-- a setting's name
pub name_free : (settings : List (List ℕ)) (n : ℕ) (name : List ℕ) → slice_get settings n ≡ Some name → IsTrue (are_lines settings) → has_newline name ≡ false
name_free [] n name at all = cc
name_free (x ∷ xs) zero name at all = let same : x ≡ name = cc in ap has_newline (sym same) ∙ not-true (has_newline x) (and_parts _ _ all).0
name_free (x ∷ xs) (suc n) name at all = name_free xs n name at (and_parts _ _ all).1

-- a setting that there is has a number below their count
pub got_within : (settings : List (List ℕ)) (n : ℕ) (name : List ℕ) → slice_get settings n ≡ Some name → n < length settings
got_within [] n name at = cc
got_within (x ∷ xs) zero name at = omega arith
got_within (x ∷ xs) (suc n) name at = let below : n < length xs = got_within xs n name at in omega arith

-- and one line more
pub lines_push : (lines : List (List ℕ)) (line : List ℕ) → IsTrue (are_lines lines) → has_newline line ≡ false → IsTrue (are_lines (lines ++ line ∷ []))
lines_push [] line all free = rw free refl
lines_push (x ∷ xs) line all free = let parts = and_parts (not (has_newline x)) (are_lines xs) all in rw parts.0 (lines_push xs line parts.1 free)
