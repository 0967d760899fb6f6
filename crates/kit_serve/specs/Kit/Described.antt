-- What a kit says to a host where its remote also answers requests about itself, and lines that spell no message.
use Rattle.std.specs.Prelude.{ℕ, ◌≡◌, ◌&&◌, not, Bool, true, false, List, [], ◌∷◌, ◌++◌, filter_map, Option, Some, None}
use Rattle.annex_model.specs.Messages.{HostMessage, Listconfigs, Getcost, Getavailability, Getinfo, Whereis}
use Rattle.kit_serve.specs.Kit.Descriptions.{Description, aside_lines}
use Rattle.kit_serve.specs.Kit.Kits.{Heard, messages, awaits_value, is_over, due_of, lines_to, IsAskedBy}

-- a line's message was handed to the kit; or what the line spells, if anything, was answered by what the remote said of itself
pub data Answered : Type 0 where
  ByKit : (heard : Heard) → Answered
  Aside : (request : Option HostMessage) (about : Description) → Answered

-- what the line spells
abbrev pub read_as : Answered → Option HostMessage
read_as (ByKit e) = Some e.message
read_as (Aside request about) = request

abbrev pub kit_part : Answered → Option Heard
kit_part (ByKit e) = Some e
kit_part (Aside request about) = None

-- what the kit heard
abbrev pub kit_heard : List Answered → List Heard
kit_heard t = filter_map kit_part t

-- a request about the remote, or a line that spells no message
abbrev pub is_about : Option HostMessage → Bool
is_about None = true
is_about (Some Listconfigs) = true
is_about (Some Getcost) = true
is_about (Some Getavailability) = true
is_about (Some Getinfo) = true
is_about (Some (Whereis key)) = true
is_about request = false

-- such a line is kept from the kit, unless the kit awaits a value or is over
abbrev pub goes_aside : List (List ℕ) → List Heard → Option HostMessage → Bool
goes_aside settings h request = not (is_over settings (messages h)) && not (awaits_value settings (messages h)) && is_about request

-- ---- what is said

abbrev pub answer_lines : List (List ℕ) → List Heard → Answered → List (List ℕ)
answer_lines settings before (ByKit e) = lines_to settings before e
answer_lines settings before (Aside request about) = aside_lines about request

abbrev pub described_behind : List (List ℕ) → List Answered → List Answered → List (List ℕ)
described_behind settings before [] = []
described_behind settings before (a ∷ rest) = answer_lines settings (kit_heard before) a ++ described_behind settings (before ++ a ∷ []) rest

-- the lines that are said to all of them
abbrev pub described_lines : List (List ℕ) → List Answered → List (List ℕ)
described_lines settings t = described_behind settings [] t

-- ---- what must have been done

-- By the kit, exactly where it doesn't go aside, with the call that is due; aside, with a description that the remote gives.
abbrev pub IsAnswered : (Description → Type 0) → List (List ℕ) → List Heard → Answered → Type 0
IsAnswered gives settings before (ByKit e) = (goes_aside settings before (Some e.message) ≡ false) × IsAskedBy (due_of settings before e.message) e.call
IsAnswered gives settings before (Aside request about) = (goes_aside settings before request ≡ true) × gives about

abbrev pub AreAnsweredBehind : (Description → Type 0) → List (List ℕ) → List Answered → List Answered → Type 0
AreAnsweredBehind gives settings before [] = Unit {0}
AreAnsweredBehind gives settings before (a ∷ rest) =
    IsAnswered gives settings (kit_heard before) a × AreAnsweredBehind gives settings (before ++ a ∷ []) rest

abbrev pub AreAnswered : (Description → Type 0) → List (List ℕ) → List Answered → Type 0
AreAnswered gives settings t = AreAnsweredBehind gives settings [] t
