-- A child that was just started.
use Rattle.std.proofs.Common.{ℕ, ◌≡◌, Bool, false, List, [], ◌∷◌, refl, ap, ◌∙◌}
use Rattle.std.specs.Prelude.{codes}
use Rattle.annex_model.specs.Lines.{text}
use Rattle.kit_serve.specs.declared.kit.call.Said.TheVariants.{Yes}
use Rattle.kit_serve.specs.declared.kit.kit.Stage.{Stage}
use Rattle.kit_serve.specs.declared.kit.kit.Stage.TheVariants.{Waiting}
use Rattle.kit_serve.specs.Kit.Stages.{KitValue, Follows}
use Rattle.pair_kit.specs.declared.taken.Taken.{Taken}
use Rattle.pair_kit.specs.Cues.{CueValue, settings}
use Rattle.pair_kit.specs.Pairs.{new_pair}

pub new_is : (kit : KitValue CueValue) (request : List ℕ) (taken : List Taken) (a b d e : List ℕ) → kit.remote ≡ record { word = Yes; calls = [] }
    → ((names : List (List ℕ)) → Follows names kit []) → request ≡ [] → taken ≡ [] → a ≡ [] → b ≡ [] → d ≡ text (codes "VERSION 1" ∷ []) → e ≡ []
    → record { kit = kit; request = request; taken = taken; to_kit = a; at_kit = b; to_host = d; at_host = e } ≡ new_pair
new_is kit request taken a b d e remote follows r t x y z w =
    let f = follows settings in
    let k : kit ≡ record { remote = record { word = Yes; calls = [] }; prepared = false; stage = Waiting } =
    ap (λ (v : CueValue). let q : KitValue CueValue = record kit { remote = v } in q) remote
    ∙ ap (λ (v : Bool). let q : KitValue CueValue = record kit { remote = record { word = Yes; calls = [] }; prepared = v } in q) f.prepared
    ∙ ap (λ (v : Stage). let q : KitValue CueValue = record { remote = record { word = Yes; calls = [] }; prepared = false; stage = v } in q) f.stage in
    rw (k, r, t, x, y, z, w) refl
