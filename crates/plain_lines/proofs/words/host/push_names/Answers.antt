use Rattle.std.proofs.Common.{◌≡◌, ◌++◌, ◌∙◌, ◌<◌, ◌∷◌, [], ℕ, cond, nat_eq, List, map, take, length, get_or, ap, append_assoc, arith, length-take, Bor}
use Rattle.std.proofs.Math.ListN.{get_or-map}
use Rattle.std.proofs.lemmas.List.{length-map}
use Rattle.std.specs.List.{join_with_byte}
use Rattle.plain_lines.proofs.WordsLemmas.Joining.{join_next}
use Rattle.plain_lines.proofs.words.host.push_names.Goals as goal

-- the name at the loop's place is appended after those before it
pub loop-i-preserved : goal.loop-i-preserved
loop-i-preserved c =
    let i : ℕ = c.loop-i.i in
    let ns : List (List ℕ) = map {A = Bor (List ℕ)} {B = List ℕ} (λ name. name.now) c.args.names.now in
    let t = c.loop-i-test.true in
    let within : i < length ns = omega (arith, length-map {A = Bor (List ℕ)} {B = List ℕ} c.args.names.now (λ name. name.now), t) in
    let long : length (take i ns) ≡ i = length-take i ns ∙ omega (arith, within) in
    let before : List ℕ = c.args.text.now.items in
    let none : Bor (List ℕ) = record { ref_ptr = (0, 0); now = [] } in
    let name : List ℕ = (get_or c.args.names.now i none).now in
    let here : get_or ns i [] ≡ name = get_or-map {A = Bor (List ℕ)} {B = List ℕ} (λ n. n.now) c.args.names.now i none in
    c.in_ok-push_name.ensures
    ∙ ap (λ (l : List ℕ). l ++ cond (nat_eq i 0) name (32 ∷ name)) c.loop-i.invariant
    ∙ append_assoc before (join_with_byte 32 (take i ns)) (cond (nat_eq i 0) name (32 ∷ name))
    ∙ ap (λ (l : List ℕ). before ++ l) (join_next ns i name within here long)
