-- Texts of lines, and how much of one was written.
use Rattle.std.proofs.Common.{◌≡◌, ℕ, ◌+◌, ◌<◌, ◌≤◌, List, [], ◌∷◌, ◌++◌, length, take, drop, get_or, Option, sym, ap, ◌∙◌, subst, append_assoc}
use Rattle.std.proofs.Math.Seq.{take-append-add, take-length}
use Rattle.std.proofs.lemmas.List.{take_all, take-append-drop}
use Rattle.std.specs.Io.KnownBytes.{Appends}
use Rattle.ann_outside.proofs.Telling.{appends_both}
use Rattle.annex_model.specs.Lines.{text}
use Rattle.ann_key.proofs.Lists.{front_of_longer}
use Rattle.annex_model.proofs.Across.{text-append, text_next}

-- A whole text, and then the first bytes of what follows it
pub prefix_more : (a b c : Option (List ℕ)) (xs ys zs : List ℕ) → Appends a b xs
    → ((n : ℕ) × Appends b c (take n ys)) → (m : ℕ) × Appends a c (take m (xs ++ (ys ++ zs)))
prefix_more a b c xs ys zs p q =
    let front = front_of_longer q.0 ys zs in (
      length xs + front.0,
      subst (λ (l : List ℕ). Appends a c l)
          (sym (take-append-add xs (ys ++ zs) front.0 ∙ ap (λ (l : List ℕ). xs ++ l) front.1)) (appends_both a b c xs (take q.0 ys) p q.1),
    )

-- all of it is a prefix of it
pub prefix_whole : (a c : Option (List ℕ)) (xs : List ℕ) → Appends a c xs → (m : ℕ) × Appends a c (take m xs)
prefix_whole a c xs p = (length xs, subst (λ (l : List ℕ). Appends a c l) (sym (take-length xs)) p)

-- ---- a loop over lines

-- the text of all lines, from one line on
pub text_behind : (ls : List (List ℕ)) (i : ℕ) (line : List ℕ) → i < length ls → get_or ls i [] ≡ line
    → text ls ≡ text (take i ls) ++ ((line ++ 10 ∷ []) ++ text (drop (i + 1) ls))
text_behind ls i line within is =
    ap text (sym (take-append-drop (i + 1) ls))
    ∙ text-append (take (i + 1) ls) (drop (i + 1) ls)
    ∙ ap (λ (l : List ℕ). l ++ text (drop (i + 1) ls)) (sym (text_next ls i line within is))
    ∙ append_assoc (text (take i ls)) (line ++ 10 ∷ []) (text (drop (i + 1) ls))

pub text_all : (ls : List (List ℕ)) (i : ℕ) → length ls ≤ i → text (take i ls) ≡ text ls
text_all ls i past = ap text (take_all i ls past)
