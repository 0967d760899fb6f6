-- What several crates above this one use.
use Rattle.std.proofs.Common.{◌≡◌, ℕ, ◌+◌, ◌-◌, List, [], ◌∷◌, ◌++◌, refl, sym, append_assoc, Bool, true, false, ◌<◌, ◌∙◌, ap, length, take, get_or}
use Rattle.annex_model.specs.Lines.{text}
use Rattle.annex_model.specs.Talks.{is_same}
use Rattle.std.proofs.lemmas.List.{take_more}

pub text-append : (xs ys : List (List ℕ)) → text (xs ++ ys) ≡ text xs ++ text ys
text-append [] ys = refl
text-append (x ∷ xs) ys = rw (text-append xs ys) (sym (append_assoc x (10 ∷ text xs) (text ys)))

pub same_way : (store : Bool) → is_same store store ≡ true
same_way true = refl
same_way false = refl

-- the text of the lines that were passed, and one more
pub text_next : (lines : List (List ℕ)) (i : ℕ) (line : List ℕ) → i < length lines → get_or lines i [] ≡ line
    → text (take i lines) ++ (line ++ 10 ∷ []) ≡ text (take (i + 1) lines)
text_next lines i line within is =
    ap (λ (l : List ℕ). text (take i lines) ++ (l ++ 10 ∷ [])) (sym is)
    ∙ sym (ap text (take_more lines i [] within) ∙ text-append (take i lines) (get_or lines i [] ∷ []))
