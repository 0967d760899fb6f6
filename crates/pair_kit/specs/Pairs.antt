-- A child of the world: its kit, the pipes between it and the host, and what waits at either side.
use Rattle.std.specs.Prelude.{ℕ, ◌-◌, ◌==◌, ◌&&◌, not, nat_le, Bool, false, if◌then◌else◌, List, [], ◌∷◌, ◌++◌, map, filter_map, length, take, drop, slice_index_or, slice_set, Option, option_map, is_some, codes}
use Rattle.std.specs.List.{list_all}
use Rattle.annex_model.specs.Lines.{text}
use Rattle.annex_model.specs.Messages.{host_reading}
use Rattle.kit_serve.specs.declared.kit.kit.Stage.TheVariants.{Waiting}
use Rattle.kit_serve.specs.declared.kit.call.Said.TheVariants.{Yes}
use Rattle.kit_serve.specs.Kit.Kits.{Heard, lines_said}
use Rattle.kit_serve.specs.Kit.Stages.{KitValue}
use Rattle.pair_kit.specs.declared.taken.Taken.{Taken}
use Rattle.pair_kit.specs.Cues.{CueValue, settings}

-- the kit, the line of the request that it answers, the lines that it took, and the bytes in either pipe and at either side
pub record PairValue : Type 0 where
  pub kit : KitValue CueValue
  pub request : List ℕ
  pub taken : List Taken
  pub to_kit : List ℕ
  pub at_kit : List ℕ
  pub to_host : List ℕ
  pub at_host : List ℕ

-- ---- what the kit heard

-- a line that was taken, as the message that it spells
abbrev pub heard_by : Taken → Option Heard
heard_by t = option_map (λ m. record { message = m; call = t.call }) (host_reading t.line)

abbrev pub heard : List Taken → List Heard
heard taken = filter_map heard_by taken

abbrev pub is_spelled : Taken → Bool
is_spelled t = is_some (host_reading t.line)

-- each line that was taken spells a message
abbrev pub are_spelled : List Taken → Bool
are_spelled taken = list_all is_spelled taken

abbrev pub taken_lines : List Taken → List (List ℕ)
taken_lines taken = map (λ t. t.line) taken

-- all that the kit said, from its version on
abbrev pub said_lines : List Taken → List (List ℕ)
said_lines taken = codes "VERSION 1" ∷ lines_said settings (heard taken)

-- ---- children by their numbers

-- a child that was just started: its version is on its way
abbrev pub new_pair : PairValue
new_pair = record {
  kit = record { remote = record { word = Yes; calls = [] }; prepared = false; stage = Waiting };
  request = [];
  taken = [];
  to_kit = [];
  at_kit = [];
  to_host = text (codes "VERSION 1" ∷ []);
  at_host = [];
}

-- where there is no child, nothing is in a pipe or at a side
abbrev pub no_pair : PairValue
no_pair = record new_pair { to_host = [] }

-- the children have the numbers from 1 on
abbrev pub is_child : List PairValue → ℕ → Bool
is_child pairs c = not (c == 0) && nat_le c (length pairs)

abbrev pub pair_of : List PairValue → ℕ → PairValue
pair_of pairs c = if c == 0 then no_pair else slice_index_or pairs (c - 1) no_pair

abbrev pub with_pair : List PairValue → ℕ → PairValue → List PairValue
with_pair pairs c pair = slice_set pairs (c - 1) pair

-- ---- bytes that are moved

abbrev pub moved_to_kit : ℕ → PairValue → PairValue
moved_to_kit n p = record p { to_kit = drop n p.to_kit; at_kit = p.at_kit ++ take n p.to_kit }

abbrev pub moved_to_host : ℕ → PairValue → PairValue
moved_to_host n p = record p { to_host = drop n p.to_host; at_host = p.at_host ++ take n p.to_host }

-- a line for the kit goes into its pipe
abbrev pub written_to : List ℕ → PairValue → PairValue
written_to line p = record p { to_kit = p.to_kit ++ line ++ 10 ∷ [] }
