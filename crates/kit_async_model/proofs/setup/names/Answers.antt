use Rattle.std.proofs.Common.{◌≡◌, ◌∙◌, ◌+◌, ◌<◌, ◌++◌, ◌∷◌, [], List, ℕ, Some, sym, ap, take, length, get_or, arith}
use Rattle.std.specs.Prelude.{slice_get}
use Rattle.std.proofs.lemmas.List.{take_more}
use Rattle.std.proofs.lemmas.Option.{slice_get_within, slice_get-get_or}
use Rattle.kit_async_model.proofs.setup.names.Goals as goal

-- one element more
next_taken : (xs : List (List ℕ)) (n : ℕ) (x : List ℕ) → slice_get xs n ≡ Some x → take (n + 1) xs ≡ take n xs ++ x ∷ []
next_taken xs n x e =
    let within : n < length xs = slice_get_within xs n x e in
    let read : Some x ≡ Some (get_or xs n x) = sym e ∙ slice_get-get_or xs n x within in
    let is : get_or xs n x ≡ x = cc in
    take_more xs n x within ∙ ap (λ (y : List ℕ). take n xs ++ y ∷ []) is

pub loop-n-preserved : goal.loop-n-preserved
loop-n-preserved g c =
    let names : List (List ℕ) = g.R.Remote.settings c.args.remote.now in
    let n : ℕ = c.loop-n.n in
    let x : List ℕ = c.in-Some.name.now in
    let there : slice_get names n ≡ Some x = sym c.in-Some.ensures.name in
    let name : c.in_ok-copy-in-Some.field-0 ≡ x = c.in_ok-copy-in-Some.ensures ∙ c.as_bytes.ensures.value in
    let within : n < length names = slice_get_within names n x there in
    record {
      names = c.in_ok-push-in-Some.ensures.items
          ∙ ap (λ (v : List ℕ). c.loop-n.names.items ++ v ∷ []) name
          ∙ ap (λ (xs : List (List ℕ)). xs ++ x ∷ []) c.loop-n.invariant.names
          ∙ sym (next_taken names n x there);
      within = omega (arith, within);
    }
