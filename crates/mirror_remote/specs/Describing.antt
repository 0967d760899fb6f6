-- What a mirror says of itself.
use Rattle.std.specs.Prelude.{ℕ, List, map, codes}
use Rattle.kit_serve.specs.declared.kit.describe.Pair.{Pair}
use Rattle.mirror_children.specs.Plan.Settings.{names}

-- a setting with its meaning
abbrev pub config_of : List ℕ → Pair
config_of name = record { name = name; text = codes "a program that serves a remote, and its settings as NAME=VALUE" }

abbrev pub configs : List Pair
configs = map config_of names
