use Rattle.std.proofs.Common.{◌≡◌, ℕ, List, Bor, map, drop}
use Rattle.std.specs.Prelude.{fold}
use Rattle.std.specs.List.{list_all}
use Rattle.registers.specs.Registers.{nothing_set}
use Rattle.mirror_children.specs.Plan.Settings.{set_pair, spells_pair}
use Rattle.mirror_children.proofs.plan.plan.registers_of.Given as goal

-- the words so far spell what is set
abbrev pub invariant-loop-word : goal.invariant-loop-word
invariant-loop-word l =
    let texts : List (List ℕ) = map {A = Bor (List ℕ)} {B = List ℕ} (λ w. w.now) l.words in
    record {
      spelled : list_all spells_pair texts ≡ list_all spells_pair (drop l.word-index texts);
      set : fold set_pair nothing_set texts ≡ fold set_pair l.registers (drop l.word-index texts);
    }
