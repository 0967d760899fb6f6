-- What stands under a name, where bytes were put or taken away.
use Rattle.std.proofs.Common.{ℕ, ◌≡◌, Bool, true, false, cond, List, Some, None, bytes_eq, refl, sym, ap, ◌∙◌}
use Rattle.std.proofs.lemmas.Slice.Eq.{bytes_eq-Decides}
use Rattle.registers.proofs.Tables.{value_at-put, value_at-without}
use Rattle.pair_kit.specs.Shelves.{Items, content, without, with_item}

swapped : (xs ys : List ℕ) → bytes_eq xs ys ≡ bytes_eq ys xs
swapped xs ys = go (bytes_eq xs ys) refl (bytes_eq ys xs) refl
  where
    go : (a : Bool) → bytes_eq xs ys ≡ a → (b : Bool) → bytes_eq ys xs ≡ b → a ≡ b
    go true e true f = refl
    go true e false f = let bad : true ≡ false = sym ((bytes_eq-Decides ys xs).1 (sym ((bytes_eq-Decides xs ys).0 e))) ∙ f in cc
    go false e true f = let bad : true ≡ false = sym ((bytes_eq-Decides xs ys).1 (sym ((bytes_eq-Decides ys xs).0 f))) ∙ e in cc
    go false e false f = refl

pub content-without : (name key : List ℕ) (items : Items) → content key (without name items) ≡ cond (bytes_eq name key) None (content key items)
content-without name key items = value_at-without items name key ∙ ap (λ (b : Bool). cond b None (content key items)) (swapped key name)

pub content-with_item : (name key bytes : List ℕ) (items : Items) → content key (with_item name bytes items) ≡ cond (bytes_eq name key) (Some bytes) (content key items)
content-with_item name key bytes items = value_at-put items name bytes key ∙ ap (λ (b : Bool). cond b (Some bytes) (content key items)) (swapped key name)
