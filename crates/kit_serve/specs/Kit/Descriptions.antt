-- What a remote says of itself, and the lines of it.
use Rattle.std.specs.Prelude.{ℕ, not, ◌&&◌, Bool, true, false, List, [], ◌∷◌, ◌++◌, map, Option, Some, None}
use Rattle.annex_model.specs.Lines.{has_newline}
use Rattle.annex_model.specs.Messages.{RemoteMessage, UnsupportedRequest, Config, Configend, Setconfig, Cost, Availability as AvailabilityLine, Infofield, Infovalue, Infoend, WhereisSuccess, WhereisFailure}
use Rattle.annex_model.specs.Messages.{HostMessage, Listconfigs, Getcost, Getavailability, Getinfo, Whereis, is_word, remote_line}
use Rattle.kit_serve.specs.declared.kit.describe.Pair.{Pair}
use Rattle.kit_serve.specs.declared.kit.describe.Availability.{Availability}
use Rattle.kit_serve.specs.declared.kit.describe.Availability.TheVariants.{Global, Local}
use Rattle.kit_serve.specs.declared.kit.describe.Where.{Where}
use Rattle.kit_serve.specs.declared.kit.describe.Where.TheVariants.{Untold, Nowhere, At}

-- its settings with their meaning, its cost, its availability, facts about it, and where the content of a key is
pub record Description : Type 0 where
  pub configs : List Pair
  pub cost : Option ℕ
  pub availability : Option Availability
  pub info : List Pair
  pub whereis : List ℕ → Where

-- of a remote that says nothing of itself
abbrev pub untold : Description
untold = record {
  configs = [];
  cost = None;
  availability = None;
  info = [];
  whereis = λ key. Untold;
}

-- ---- what can be said on lines

abbrev pub is_pair : Pair → Bool
is_pair p = not (has_newline p.name) && not (has_newline p.text)

-- the name of a setting is a word
abbrev pub is_config : Pair → Bool
is_config p = is_word p.name && is_pair p

abbrev pub is_where : Where → Bool
is_where Untold = true
is_where Nowhere = true
is_where (At text) = not (has_newline text)

-- ---- the answers

-- one line for a setting, two for a fact
abbrev pub config_message : Pair → List RemoteMessage
config_message p = Config p.name p.text ∷ []

-- and one for a setting that is set
abbrev pub set_message : Pair → List RemoteMessage
set_message p = Setconfig p.name p.text ∷ []

abbrev pub info_messages : Pair → List RemoteMessage
info_messages p = Infofield p.name ∷ Infovalue p.text ∷ []

abbrev pub all_messages : (Pair → List RemoteMessage) → List Pair → List RemoteMessage
all_messages each [] = []
all_messages each (p ∷ ps) = each p ++ all_messages each ps

-- all pairs, and the end of the list; where there is none, the request isn't supported
abbrev pub list_messages : (Pair → List RemoteMessage) → RemoteMessage → List Pair → List RemoteMessage
list_messages each end [] = UnsupportedRequest ∷ []
list_messages each end (p ∷ ps) = all_messages each (p ∷ ps) ++ end ∷ []

abbrev pub cost_message : Option ℕ → RemoteMessage
cost_message None = UnsupportedRequest
cost_message (Some n) = Cost n

abbrev pub availability_message : Option Availability → RemoteMessage
availability_message None = UnsupportedRequest
availability_message (Some Global) = AvailabilityLine true
availability_message (Some Local) = AvailabilityLine false

abbrev pub where_message : Where → RemoteMessage
where_message Untold = UnsupportedRequest
where_message Nowhere = WhereisFailure
where_message (At text) = WhereisSuccess text

-- the answer to a request about the remote; any other isn't supported
abbrev pub about_messages : Description → HostMessage → List RemoteMessage
about_messages d Listconfigs = list_messages config_message Configend d.configs
about_messages d Getcost = cost_message d.cost ∷ []
about_messages d Getavailability = availability_message d.availability ∷ []
about_messages d Getinfo = list_messages info_messages Infoend d.info
about_messages d (Whereis key) = where_message (d.whereis key) ∷ []
about_messages d m = UnsupportedRequest ∷ []

-- the answer to a line that spells this message, or none
abbrev pub aside_messages : Description → Option HostMessage → List RemoteMessage
aside_messages d None = UnsupportedRequest ∷ []
aside_messages d (Some m) = about_messages d m

abbrev pub aside_lines : Description → Option HostMessage → List (List ℕ)
aside_lines d request = map remote_line (aside_messages d request)
