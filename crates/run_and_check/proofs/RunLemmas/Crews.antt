-- What the desks of the workers tell.
use Rattle.ann_outside.specs.Told.{DeskTold}
use Rattle.std.proofs.Common.{◌≡◌, List, [], ◌∷◌, ◌++◌, sym, subst}
use Rattle.std.specs.Prelude.{map}
use Rattle.std.proofs.lemmas.List.{map-append}
use Rattle.ann_outside.specs.Calls.{IsLogBlank}
use Rattle.ann_outside.specs.Desks.{no_counts}
use Rattle.run_and_check.specs.Run.Runs.{AreFresh, IsFresh}

fresh_append : (desks : List DeskTold) (desk : DeskTold) → AreFresh desks → IsFresh desk → AreFresh (desks ++ desk ∷ [])
fresh_append [] desk h one = (one, tt)
fresh_append (d ∷ ds) desk h one = (h.0, fresh_append ds desk h.1 one)

-- and one that was asked for just now
pub fresh_more : {D : Type 0} (told : D → DeskTold) (ks ks' : List D) (k : D) → ks' ≡ ks ++ k ∷ [] → (told k).counts ≡ no_counts → IsLogBlank (told k).log
    → AreFresh (map told ks) → AreFresh (map told ks')
fresh_more {D} told ks ks' k is uncounted blank h =
    subst (λ (xs : List D). AreFresh (map told xs)) (sym is)
    (subst AreFresh (sym (map-append told ks (k ∷ []))) (fresh_append (map told ks) (told k) h (record { blank = blank; uncounted = uncounted })))
