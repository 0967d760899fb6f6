-- What the desks in memory tell grows desk by desk.
use Rattle.std.proofs.Common.{◌≡◌, ◌∙◌, ℕ, ◌+◌, List, [], ◌∷◌, ◌++◌, length, drop, refl, ap, sym, Some, length-append, arith}
use Rattle.std.proofs.lemmas.List.{drop-drop}
use Rattle.ann_outside.specs.MemDesks.{made_from, files_next}
use Rattle.ann_outside.specs.declared.mem.desk.MemDesk.{MemDesk}

-- one more number
pub made_from-snoc : (desks : List MemDesk) (numbers : List ℕ) (number : ℕ)
    → made_from desks (numbers ++ number ∷ []) ≡ made_from desks numbers ++ record { number = number; files = Some (files_next (drop (length numbers) desks)) } ∷ []
made_from-snoc desks [] number = refl
made_from-snoc desks (n ∷ numbers) number =
    let count : 1 + length numbers ≡ length (n ∷ numbers) = omega arith in
    let left : drop (length numbers) (drop 1 desks) ≡ drop (length (n ∷ numbers)) desks = drop-drop (length numbers) 1 desks ∙ ap (λ k. drop k desks) count in
    ap (λ rest. record { number = n; files = Some (files_next desks) } ∷ rest)
    (made_from-snoc (drop 1 desks) numbers number
    ∙ ap (λ l. made_from (drop 1 desks) numbers ++ record { number = number; files = Some (files_next l) } ∷ []) left)

-- one more was handed out
pub left-snoc : (desks : List MemDesk) (numbers : List ℕ) (number : ℕ) → drop (length (numbers ++ number ∷ [])) desks ≡ drop 1 (drop (length numbers) desks)
left-snoc desks numbers number =
    let count : length (numbers ++ number ∷ []) ≡ length numbers + 1 = length-append numbers (number ∷ []) in
    ap (λ k. drop k desks) count ∙ sym (drop-drop 1 (length numbers) desks)
