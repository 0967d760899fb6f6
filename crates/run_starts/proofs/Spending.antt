-- The entries before the first of a kind.
use Rattle.std.proofs.Common.{◌≡◌, List, [], ◌∷◌, ◌++◌, refl, ap, Bool, true, false, cond}
use Rattle.journal_model.specs.declared.entry.What.{What}
use Rattle.journal_model.specs.declared.entry.Entry.{Entry}
use Rattle.journal_model.specs.Journal.{any}
use Rattle.run_starts.specs.Starting.{up_to}
use Rattle.ann_key.proofs.Booleans.{left_false as either_left, right_false as either_right}

pub up_to_none : (is : What → Bool) (xs : List Entry) → any is xs ≡ false → up_to is xs ≡ xs
up_to_none is [] h = refl
up_to_none is (e ∷ xs) h = rw (either_left (is e.what) (any is xs) h, up_to_none is xs (either_right (is e.what) (any is xs) h)) refl

-- among more entries there stand as many before it, or more
pub up_to_more : (is : What → Bool) (xs ys : List Entry) → (more : List Entry) × (up_to is (xs ++ ys) ≡ up_to is xs ++ more)
up_to_more is [] ys = (up_to is ys, refl)
up_to_more is (e ∷ xs) ys = go (is e.what) (up_to_more is xs ys)
  where
    go : (b : Bool) → ((more : List Entry) × (up_to is (xs ++ ys) ≡ up_to is xs ++ more)) → (more : List Entry) × (cond b [] (e ∷ up_to is (xs ++ ys)) ≡ cond b [] (e ∷ up_to is xs) ++ more)
    go true r = ([], refl)
    go false r = (r.0, ap (λ (l : List Entry). e ∷ l) r.1)
