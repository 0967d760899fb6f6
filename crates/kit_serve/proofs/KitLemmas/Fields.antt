-- A message that a line spells holds no line end.
use Rattle.std.proofs.Common.{◌≡◌, ℕ, ◌==◌, true, false, not, ◌&&◌, List, [], ◌∷◌, ◌++◌, IsTrue, refl, sym, ap, ◌∙◌, ⊎_elim}
use Rattle.std.specs.List.{list_all}
use Rattle.std.proofs.lemmas.List.Folds.{list_any-append}
use Rattle.annex_model.specs.Lines.{has_newline}
use Rattle.annex_model.specs.Messages.{HostMessage, HostSpells, host_row, Param, Number, Key, Word, Rest, Direction, Scope, Spelled, Followed}
use Rattle.kit_serve.specs.Kit.Kits.{is_line_param, has_line_fields}
use Rattle.ann_key.proofs.Booleans.{both_false as or_none}

parts_none : (xs ys : List ℕ) → has_newline (xs ++ ys) ≡ false → (has_newline xs ≡ false) × (has_newline ys ≡ false)
parts_none xs ys h = or_none (has_newline xs) (has_newline ys) (sym (list_any-append (λ b. b == 10) xs ys) ∙ h)

field_none : (tail field more : List ℕ) → tail ≡ 32 ∷ field ++ more → has_newline tail ≡ false → (has_newline field ≡ false) × (has_newline more ≡ false)
field_none tail field more e h = parts_none field more (sym (ap has_newline e) ∙ h)

spelled_line : (p : Param) (field : List ℕ) → Spelled p field → has_newline field ≡ false → is_line_param p ≡ true
spelled_line (Number n) field s h = refl
spelled_line (Key key) field s h = ap (λ t. not (has_newline t)) (sym s.0) ∙ ap not h
spelled_line (Word word) field s h = ap (λ t. not (has_newline t)) (sym s.0) ∙ ap not h
spelled_line (Rest rest) field s h = ap (λ t. not (has_newline t)) (sym s) ∙ ap not h
spelled_line (Direction store) field s h = refl
spelled_line (Scope global) field s h = refl

last_line : (p : Param) (tail : List ℕ) → Followed (p ∷ []) tail → has_newline tail ≡ false → is_line_param p ≡ true
last_line (Number n) tail f h = refl
last_line (Key key) tail f h = spelled_line (Key key) f.0 f.3 (field_none tail f.0 f.1 f.2 h).0
last_line (Word word) tail f h = spelled_line (Word word) f.0 f.3 (field_none tail f.0 f.1 f.2 h).0
last_line (Rest rest) tail f h =
    ⊎_elim (λ (e : tail ≡ 32 ∷ rest). ap not (sym (ap has_newline e) ∙ h)) (λ (e : (tail ≡ []) × (rest ≡ [])). ap (λ t. not (has_newline t)) e.1) f
last_line (Direction store) tail f h = refl
last_line (Scope global) tail f h = refl

first_line : (p q : Param) (ps : List Param) (tail : List ℕ) → Followed (p ∷ q ∷ ps) tail → has_newline tail ≡ false
    → (is_line_param p ≡ true) × ((more : List ℕ) × Followed (q ∷ ps) more × (has_newline more ≡ false))
first_line (Number n) q ps tail f h = let n = field_none tail f.0 f.1 f.2 h in (refl, (f.1, f.4, n.1))
first_line (Key key) q ps tail f h = let n = field_none tail f.0 f.1 f.2 h in (spelled_line (Key key) f.0 f.3 n.0, (f.1, f.4, n.1))
first_line (Word word) q ps tail f h = let n = field_none tail f.0 f.1 f.2 h in (spelled_line (Word word) f.0 f.3 n.0, (f.1, f.4, n.1))
first_line (Rest rest) q ps tail f h = let n = field_none tail f.0 f.1 f.2 h in (spelled_line (Rest rest) f.0 f.3 n.0, (f.1, f.4, n.1))
first_line (Direction store) q ps tail f h = let n = field_none tail f.0 f.1 f.2 h in (refl, (f.1, f.4, n.1))
first_line (Scope global) q ps tail f h = let n = field_none tail f.0 f.1 f.2 h in (refl, (f.1, f.4, n.1))

followed_lines : (ps : List Param) (tail : List ℕ) → Followed ps tail → has_newline tail ≡ false → list_all is_line_param ps ≡ true
followed_lines [] tail f h = refl
followed_lines (p ∷ []) tail f h = ap (λ b. b && true) (last_line p tail f h)
followed_lines (p ∷ (q ∷ ps)) tail f h =
    let n = first_line p q ps tail f h in
    ap (λ b. b && list_all is_line_param (q ∷ ps)) n.0 ∙ followed_lines (q ∷ ps) n.1.0 n.1.1 n.1.2

pub spelled_fields : (m : HostMessage) (line : List ℕ) → HostSpells m line → has_newline line ≡ false → IsTrue (has_line_fields m)
spelled_fields m line s h =
    followed_lines (host_row m).1 s.0 s.2 (parts_none (host_row m).0 s.0 (sym (ap has_newline s.1) ∙ h)).1
