-- What was written for people.
use Rattle.std.proofs.Common.{◌≡◌, ◌++◌, ℕ, Bool, true, false, List, [], ◌∷◌, Option, Some, None, refl, sym, subst}
use Rattle.std.proofs.lemmas.List.{append-nil}
use Rattle.std.specs.Prelude.{is_some, take}
use Rattle.std.specs.Io.KnownBytes.{Appends}
use Rattle.ann_outside.specs.Told.{SinkTold}
use Rattle.special_bin.specs.People.{AreForPeople, has_hint, people_text}

-- a second line where there is to be one
some_hint : Bool → Option (List ℕ)
some_hint true = Some []
some_hint false = None

some_hint_is : (b : Bool) → is_some (some_hint b) ≡ b
unfolding some_hint
some_hint_is true = refl
some_hint_is false = refl

appends_none : (taken : Option (List ℕ)) → Appends taken taken []
appends_none None = tt
appends_none (Some xs) = sym (append-nil xs)

-- nothing was written
pub nothing_said : (status : ℕ) (before after : SinkTold) → after ≡ before → AreForPeople status before after
nothing_said status before after same =
    subst (λ (t : SinkTold). AreForPeople status before t) (sym same)
    (record { hint = some_hint (has_hint status); notes = []; hinted = some_hint_is (has_hint status); size = 0; written = appends_none before.taken })

-- the first bytes of a second line and of notices were written
pub lines_said : (status : ℕ) (before after : SinkTold) (hint : Option (List ℕ)) (notes : List (List ℕ)) → is_some hint ≡ has_hint status
    → ((n : ℕ) × Appends before.taken after.taken (take n (people_text hint notes))) → AreForPeople status before after
lines_said status before after hint notes hinted written = record { hint = hint; notes = notes; hinted = hinted; size = written.0; written = written.1 }
