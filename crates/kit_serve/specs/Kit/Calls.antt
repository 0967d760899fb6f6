-- The calls of a remote, and what it said to each.
use Rattle.std.specs.Prelude.{ℕ, not, Bool, true, List, [], ◌∷◌, ◌++◌, Option, option_map, Result, Ok, Err}
use Rattle.std.specs.List.{list_all}
use Rattle.annex_model.specs.Lines.{has_newline}
use Rattle.kit_serve.specs.declared.kit.call.Said.{Said}
use Rattle.kit_serve.specs.declared.kit.call.Said.TheVariants.{Yes, No, Failure, Set}
use Rattle.kit_serve.specs.declared.kit.call.Asked.{Asked}
use Rattle.kit_serve.specs.declared.kit.call.Asked.TheVariants.{Prepare, Initialize}
use Rattle.kit_serve.specs.declared.kit.call.Call.{Call}
use Rattle.kit_serve.specs.Kit.Descriptions.{is_config}

-- no line ends in any of these
abbrev pub are_lines : List (List ℕ) → Bool
are_lines texts = list_all (λ text. not (has_newline text)) texts

-- no line ends in the text of a failure, nor in a setting, whose name is a word
abbrev pub is_line_said : Said → Bool
is_line_said Yes = true
is_line_said No = true
is_line_said (Failure text) = not (has_newline text)
is_line_said (Set pairs) = list_all is_config pairs

-- what a list of calls tells of it: getting ready at INITREMOTE counts as a prepare
abbrev pub plain : Asked → Asked
plain (Initialize values) = Prepare values
plain asked = asked

-- the calls that are told, and this one after them, unless no memory was found for it
abbrev pub called : {E : Type 0} → Option (List Call) → Asked → Result Said E → Option (List Call)
called told asked (Ok said) = option_map (λ calls. calls ++ record { asked = asked; said = said } ∷ []) told
called told asked (Err e) = told

-- a remote, and the calls that are kept of it
pub record NotedValue (R : Type 0) : Type 0 where
  pub remote : R
  pub calls : List Call
