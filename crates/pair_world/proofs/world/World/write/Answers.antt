use Rattle.std.proofs.Common.{◌≡◌, ℕ, false, List, refl, sym, ap, ◌∙◌}
use Rattle.std.specs.Prelude.{◌||◌, Option}
use Rattle.journal_model.specs.Journal.{is_ended}
use Rattle.journal_model.specs.Legality.{is_empty}
use Rattle.pair_kit.specs.Pairs.{PairValue, is_child}
use Rattle.pair_world.specs.Moves.{DoesWrite}
use Rattle.pair_world.proofs.Made.{not_made}
use Rattle.pair_world.proofs.Linking.{none_unsent}
use Rattle.pair_world.proofs.world.World.write.Goals as goal

pub returns-in_default-clause-moves : goal.returns-in_default-clause-moves
returns-in_default-clause-moves c =
    let w = c.args.self.now in
    let child : ℕ = c.args.child in
    let none : is_child w.pairs child ≡ false =
    ap (λ (ps : List PairValue). is_child ps child) (sym (c.as_slice.ensures.value ∙ ap (λ v. v.pairs) c.self.view_is)) ∙ c.in_default.ensures in
    not_made _ w w (DoesWrite w child) (ap (λ (ws : List (Option ℕ × List ℕ)). is_empty ws || is_ended w.journal child) (none_unsent w child c.requires none)) refl
