-- Worked jobs, each of which is as it is meant to be or isn't.
use Rattle.std.specs.Prelude.{ℕ, true, List, [], ◌∷◌, Option, Some, codes}
use Rattle.annex_model.specs.Messages.{HostMessage, Prepare, Initremote, Checkpresent, Value}
use Rattle.kit_serve.specs.declared.kit.call.Asked.TheVariants.{Prepare as AskPrepare, Check as AskCheck}
use Rattle.kit_serve.specs.declared.kit.call.Said.{Said}
use Rattle.kit_serve.specs.declared.kit.call.Said.TheVariants.{Yes, No}
use Rattle.kit_serve.specs.Kit.Rows.{sets}
use Rattle.kit_async_model.specs.declared.entry.Entry.{Entry}
use Rattle.kit_async_model.specs.declared.entry.Entry.TheVariants.{Heard, Take, Call, Say}
use Rattle.kit_async_model.specs.Meanings.{Item, Told, Says, Calls}
use Rattle.kit_async_model.specs.Rows.{error, check_b, absent_a, present_b}
use Rattle.kit_async_model.specs.Standings.{Standing, opening}

-- ---- how the kit stands when the request is heard

abbrev pub unprepared : Standing
unprepared = record opening { due = [] }

abbrev pub prepared : Standing
prepared = record unprepared { prepared = true }

-- ---- a check

abbrev pub check : Option HostMessage
check = Some (Checkpresent (codes "WORM--a"))

abbrev pub asked : Item
asked = Told check

abbrev pub absent : Item
absent = Says (codes "CHECKPRESENT-FAILURE WORM--a")

abbrev pub checks : ℕ → Said → Item
checks remote said = Calls remote (Some (AskCheck (codes "WORM--a"))) said

-- what follows its line, with another check at once
abbrev pub overlapping : List Entry
overlapping = check_b ∷ Take 2 0 ∷ Take 3 1 ∷ Call 3 1 Yes ∷ present_b ∷ Call 2 0 No ∷ absent_a ∷ []

-- ---- getting ready

abbrev pub told : List Item
told = Told (Some Prepare) ∷ Says (codes "GETCONFIG directory") ∷ Told (Some (Value (codes "d"))) ∷ []

abbrev pub prepares : ℕ → Said → Item
prepares remote said = Calls remote (Some (AskPrepare (codes "d" ∷ []))) said

abbrev pub success : Item
success = Says (codes "PREPARE-SUCCESS")

-- what follows its line
abbrev pub readied : List Entry
readied = Say 1 (codes "J 1 GETCONFIG directory") ∷ Heard (codes "J 1 VALUE d") ∷ Call 1 0 Yes ∷ Call 1 1 Yes ∷ Say 1 (codes "J 1 PREPARE-SUCCESS") ∷ []

-- and what follows an untagged one, with a line that isn't the value
abbrev pub unexpected : List Entry
unexpected = Say 0 (codes "GETCONFIG directory") ∷ Heard (codes "GETCOST") ∷ error ∷ []

-- ---- a remote that sets a setting

-- INITREMOTE of the one remote, of which nothing is asked for
abbrev pub initializing : List Item
initializing = Told (Some Initremote) ∷ Calls 0 (Some (AskPrepare [])) sets ∷ []

abbrev pub setting : Item
setting = Says (codes "SETCONFIG directory /d")

abbrev pub initialized : Item
initialized = Says (codes "INITREMOTE-SUCCESS")

-- ---- about the remotes

-- both lines of the answer
abbrev pub configs_told : List Item
configs_told = Says (codes "CONFIG directory where files are kept") ∷ Says (codes "CONFIGEND") ∷ []
