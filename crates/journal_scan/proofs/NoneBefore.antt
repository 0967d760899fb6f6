-- What no entry says, none of the first says.
use Rattle.std.proofs.Common.{◌≡◌, ℕ, zero, suc, List, [], ◌∷◌, refl, Bool, true, false, take}
use Rattle.std.specs.Prelude.{◌||◌}
use Rattle.journal_model.specs.declared.entry.Entry.{Entry}
use Rattle.journal_model.specs.Journal.{any, offers}

pub none_before : (c n : ℕ) (past : List Entry) → any (offers c) past ≡ false → any (offers c) (take n past) ≡ false
none_before c zero past h = refl
none_before c (suc n) [] h = refl
none_before c (suc n) (e ∷ past) h = go (offers c e.what) h (none_before c n past)
  where
    go : (b : Bool) → (b || any (offers c) past) ≡ false → (any (offers c) past ≡ false → any (offers c) (take n past) ≡ false) → (b || any (offers c) (take n past)) ≡ false
    go true h r = absurd cc
    go false h r = r h
