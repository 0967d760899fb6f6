-- What reading the settings comes to.
use Rattle.std.specs.Prelude.{ℕ, ◌≡◌, true, false, List, fold, Option, Some, None}
use Rattle.std.specs.List.{list_all}
use Rattle.registers.specs.Registers.{RegisterFile, nothing_set}
use Rattle.mirror_children.specs.declared.plan.plan.Plan.{Plan}
use Rattle.mirror_children.specs.declared.plan.plan.Plans.{Plans}
use Rattle.mirror_children.specs.declared.plan.plan.Plans.TheVariants.{Bad, Asked}
use Rattle.mirror_children.specs.Plan.Settings.{spells_pair, set_pair, first_bad, plans_in}

-- each of the words spells a config value, and these registers hold them; or one doesn't
abbrev pub ReadsPairs : List (List ℕ) → Option RegisterFile → Type 0
ReadsPairs ws None = list_all spells_pair ws ≡ false
ReadsPairs ws (Some registers) = (list_all spells_pair ws ≡ true) × (registers ≡ fold set_pair nothing_set ws)

-- the first bad setting, or the plans where there is none
abbrev pub ReadsAs : List (List ℕ) → Plans → Type 0
ReadsAs values (Bad n) = first_bad values ≡ Some n
ReadsAs values (Asked plans) = (first_bad values ≡ None) × (plans.items ≡ plans_in values)
