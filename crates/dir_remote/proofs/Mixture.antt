-- With one mark two remotes can mix their contents.
use Rattle.std.proofs.Common.{◌≡◌, ◌≢◌, ◌∙◌, ℕ, List, [], ◌∷◌, ◌++◌, refl, sym, ap, inl, inr}
use Rattle.std.specs.Prelude.{Bool, true, false, bytes_eq, Some, None, option_map}
use Rattle.std.specs.List.{concat}
use Rattle.std.proofs.lemmas.Slice.Eq.{bytes_eq-Decides}
use Rattle.ann_outside.specs.Files.{content}
use Rattle.dir_remote.specs.Contents.{temporary_name}
use Rattle.dir_remote.specs.Traces.{Store}
use Rattle.dir_remote.specs.Interleavings.{IsWhole, MixesWithOneMark, store_of_one, half_of_two, Stores}

own : (name bytes : List ℕ) → content name ((name, bytes) ∷ []) ≡ Some bytes
own name bytes = rw ((bytes_eq-Decides name name).1 refl) refl

none_of : (name bytes other : List ℕ) → (other ≡ name → ⊥) → content other ((name, bytes) ∷ []) ≡ None
none_of name bytes other d = by_test (bytes_eq name other) refl
  where
    by_test : (t : Bool) → bytes_eq name other ≡ t → content other ((name, bytes) ∷ []) ≡ None
    by_test true e = absurd (d (sym ((bytes_eq-Decides name other).0 e)))
    by_test false e = rw e refl

others : (name xs ys other : List ℕ) → (other ≡ name → ⊥) → content other ((name, ys) ∷ []) ≡ content other ((name, xs) ∷ [])
others name xs ys other d = none_of name ys other d ∙ sym (none_of name xs other d)

there : (name bytes : List ℕ) → content name ((name, bytes) ∷ []) ≢ None
there name bytes e = absurd (let bad : Some bytes ≡ None = sym (own name bytes) ∙ e in cc)

pub mixes : (directory mark text name : List ℕ) → MixesWithOneMark directory mark text name
mixes directory mark text name m at = record {
  first = (at, tt);
  other = (inr (text, refl), (tt, (inr (text, refl), tt)));
  order = inl (_, refl, inr (_, refl, inl (_, refl, inl (_, refl, inr (_, refl, inr (_, refl, inl (_, refl, inl (_, refl, (refl, refl)))))))));
  does =
      ((beside, []) ∷ [], (own beside [], λ o d. none_of beside [] o d), ((beside, []) ∷ [], (own beside [], λ o d. refl), ((beside, []) ∷ [], (λ o. refl), ((beside, 1 ∷ []) ∷ [], (there beside ([]), own beside (1 ∷ []) ∙ ap (option_map (λ l. l ++ 1 ∷ [])) (sym (own beside ([]))), λ o d. others beside ([]) (1 ∷ []) o d), ((beside, 1 ∷ []) ∷ [], (λ o. refl), ((beside, 1 ∷ 2 ∷ []) ∷ [], (there beside (1 ∷ []), own beside (1 ∷ 2 ∷ []) ∙ ap (option_map (λ l. l ++ 2 ∷ [])) (sym (own beside (1 ∷ []))), λ o d. others beside (1 ∷ []) (1 ∷ 2 ∷ []) o d), ((beside, 1 ∷ 2 ∷ []) ∷ [], (λ o. refl), ((name, 1 ∷ 2 ∷ []) ∷ [], (there beside (1 ∷ 2 ∷ []), own name (1 ∷ 2 ∷ []) ∙ sym (own beside (1 ∷ 2 ∷ [])), (λ d. none_of name (1 ∷ 2 ∷ []) beside d), λ o d d'. none_of name (1 ∷ 2 ∷ []) o d' ∙ sym (none_of beside (1 ∷ 2 ∷ []) o d)), λ o. refl))))))));
  mixed = no;
}
  where
    beside : List ℕ
    beside = temporary_name (Some mark) directory text

    no : IsWhole (Stores (store_of_one text name) ∷ []) (half_of_two beside) text None (content name ((name, 1 ∷ 2 ∷ []) ∷ [])) → ⊥
    no (inl e) = there name (1 ∷ 2 ∷ []) e
    no (inr (inl e)) = there name (1 ∷ 2 ∷ []) e
    no (inr (inr (inl (s, inl is, same, e)))) = absurd (let bad : Some (1 ∷ 2 ∷ []) ≡ Some (concat s.pieces) = sym (own name (1 ∷ 2 ∷ [])) ∙ e in let p : store_of_one text name ≡ s = cc in let q : Some (concat s.pieces) ≡ Some (1 ∷ []) = ap (λ (t : Store). Some (concat t.pieces)) (sym p) in let worse : Some (1 ∷ 2 ∷ []) ≡ Some (1 ∷ []) = bad ∙ q in cc)
    no (inr (inr (inl (s, inr is, same, e)))) = absurd is
    no (inr (inr (inr (s, inl is, same, e)))) = cc
    no (inr (inr (inr (s, inr (inl is), same, e)))) = cc
    no (inr (inr (inr (s, inr (inr (inl is)), same, e)))) = cc
    no (inr (inr (inr (s, inr (inr (inr is)), same, e)))) = absurd is
