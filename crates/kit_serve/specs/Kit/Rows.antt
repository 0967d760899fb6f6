-- Worked sessions of a kit.
use Rattle.std.specs.Prelude.{ℕ, List, [], ◌∷◌, Some, None, codes, true}
use Rattle.annex_model.specs.Messages.{HostMessage, AskExtensions, Prepare, Initremote, Transfer, Checkpresent, Listconfigs, Getcost, Getavailability, Getinfo, Whereis, Exportsupported, Export, Transferexport, Checkpresentexport, Removeexport, Renameexport, Value, HostError}
use Rattle.kit_serve.specs.declared.kit.call.Said.{Said}
use Rattle.kit_serve.specs.declared.kit.call.Said.TheVariants.{Yes, No, Failure, Set}
use Rattle.kit_serve.specs.declared.kit.call.Asked.{Asked}
use Rattle.kit_serve.specs.declared.kit.call.Asked.TheVariants.{Prepare as AskPrepare, Check as AskCheck}
use Rattle.kit_serve.specs.declared.kit.describe.Pair.{Pair}
use Rattle.kit_serve.specs.declared.kit.describe.Availability.TheVariants.{Local}
use Rattle.kit_serve.specs.declared.kit.describe.Where.TheVariants.{Untold, Nowhere}
use Rattle.kit_serve.specs.Kit.Described.{Answered, ByKit, Aside}
use Rattle.kit_serve.specs.Kit.Descriptions.{Description, untold}
use Rattle.kit_serve.specs.Kit.Kits.{Heard}

-- a message for which no call was made
abbrev pub heard : HostMessage → Heard
heard m = record { message = m; call = None }

-- and one for which this call was made, and said this
abbrev pub heard_with : HostMessage → Asked → Said → Heard
heard_with m asked said = record { message = m; call = Some record { asked = asked; said = said } }

-- the one setting of these sessions
abbrev pub settings : List (List ℕ)
settings = codes "directory" ∷ []

-- what the kit says to ask for it
abbrev pub asks_directory : List ℕ
asks_directory = codes "GETCONFIG directory"

abbrev pub key : List ℕ
key = codes "WORM--a"

abbrev pub values : List (List ℕ)
values = codes "d" ∷ []

-- getting ready with the value `d`, and a remote that then says no to a check
abbrev pub check_session : List Heard
check_session =
    heard (AskExtensions (codes "INFO")) ∷ heard Prepare
    ∷ heard_with (Value (codes "d")) (AskPrepare values) Yes
    ∷ heard_with (Checkpresent key) (AskCheck key) No ∷ []

-- the same, where the check was answered without a call
abbrev pub invented_session : List Heard
invented_session = heard Prepare ∷ heard_with (Value (codes "d")) (AskPrepare values) Yes ∷ heard (Checkpresent key) ∷ []

-- a call of a remote that isn't prepared
abbrev pub early_session : List Heard
early_session = heard Prepare ∷ heard_with (Value (codes "d")) (AskPrepare values) No ∷ heard_with (Checkpresent key) (AskCheck key) No ∷ []

-- a remote that gets ready before it has the values
abbrev pub hasty_session : List Heard
hasty_session = heard_with Prepare (AskPrepare []) Yes ∷ []

-- a host that asks about exports: nothing is said to a name
abbrev pub export_session : List Heard
export_session =
    heard Exportsupported
    ∷ heard (Export (codes "a b.txt")) ∷ heard (Transferexport true key (codes "f"))
    ∷ heard (Export []) ∷ heard (Checkpresentexport key)
    ∷ heard (Export (codes "a")) ∷ heard (Removeexport key)
    ∷ heard (Export (codes "a")) ∷ heard (Renameexport key (codes "c d")) ∷ []

-- a name in place of a value
abbrev pub name_session : List Heard
name_session = heard Prepare ∷ heard (Export (codes "a")) ∷ []

-- INITREMOTE doesn't prepare
abbrev pub init_session : List Heard
init_session = heard Initremote ∷ heard_with (Value (codes "d")) (AskPrepare values) Yes ∷ heard (Checkpresent key) ∷ []

-- the remote sets the setting at INITREMOTE; at PREPARE it doesn't, and is prepared all the same
abbrev pub sets : Said
sets = Set (record { name = codes "directory"; text = codes "/d" } ∷ [])

abbrev pub set_session : List Heard
set_session =
    heard Initremote ∷ heard_with (Value (codes "d")) (AskPrepare values) sets
    ∷ heard Prepare ∷ heard_with (Value (codes "d")) (AskPrepare values) sets
    ∷ heard_with (Checkpresent key) (AskCheck key) No ∷ []

-- once prepared, it stays so, also where a later PREPARE fails
abbrev pub again_session : List Heard
again_session =
    heard Prepare ∷ heard_with (Value (codes "d")) (AskPrepare values) Yes
    ∷ heard Prepare ∷ heard_with (Value []) (AskPrepare ([] ∷ [])) (Failure (codes "no directory"))
    ∷ heard_with (Checkpresent key) (AskCheck key) Yes ∷ []

-- a transfer that comes first
abbrev pub transfer_session : List Heard
transfer_session = heard (AskExtensions (codes "INFO")) ∷ heard (Transfer true key (codes "f")) ∷ []

-- a value that nobody asked for, and what comes after it
abbrev pub value_session : List Heard
value_session = heard (Value (codes "x")) ∷ heard Getcost ∷ []

-- a request while a value is awaited
abbrev pub request_session : List Heard
request_session = heard Prepare ∷ heard (Checkpresent key) ∷ []

-- the host gives up while a value is awaited
abbrev pub error_session : List Heard
error_session = heard Prepare ∷ heard (HostError (codes "no such setting")) ∷ heard Getcost ∷ []

-- a remote without settings gets ready at once
abbrev pub bare_session : List Heard
bare_session = heard_with Prepare (AskPrepare []) Yes ∷ heard_with (Checkpresent key) (AskCheck key) (Failure (codes "no disk")) ∷ []

-- ---- where the remote says what it is

abbrev pub directory_pair : Pair
directory_pair = record { name = codes "directory"; text = codes "a folder" }

-- a cheap remote of this machine, with one setting and one fact, that doesn't say where contents are
abbrev pub description : Description
description = record {
  configs = directory_pair ∷ [];
  cost = Some 100;
  availability = Some Local;
  info = record { name = codes "folder"; text = codes "d" } ∷ [];
  whereis = λ key. Untold;
}

-- and one that says only that contents are nowhere
abbrev pub nowhere : Description
nowhere = record {
  configs = [];
  cost = None;
  availability = None;
  info = [];
  whereis = λ key. Nowhere;
}

-- requests before and after it gets ready, and one that nobody knows
abbrev pub described_session : List Answered
described_session =
    Aside (Some Listconfigs) description ∷ Aside (Some Getcost) description ∷ ByKit (heard Prepare)
    ∷ ByKit (heard_with (Value (codes "d")) (AskPrepare values) Yes)
    ∷ Aside (Some Getavailability) description ∷ Aside (Some Getinfo) description ∷ Aside (Some (Whereis key)) description
    ∷ Aside None description ∷ ByKit (heard_with (Checkpresent key) (AskCheck key) No) ∷ []

-- each of them of that remote
abbrev pub untold_session : List Answered
untold_session =
    Aside (Some Listconfigs) nowhere ∷ Aside (Some Getcost) nowhere ∷ Aside (Some Getavailability) nowhere ∷ Aside (Some Getinfo) nowhere
    ∷ Aside (Some (Whereis key)) nowhere ∷ []

-- of a remote that says nothing: lines that spell no message, between and after the requests that it answers
abbrev pub unknown_session : List Answered
unknown_session =
    Aside None untold ∷ ByKit (heard Prepare) ∷ ByKit (heard_with (Value (codes "d")) (AskPrepare values) Yes)
    ∷ Aside None untold ∷ Aside (Some (Whereis key)) untold ∷ Aside None untold ∷ ByKit (heard_with (Checkpresent key) (AskCheck key) No) ∷ []

-- such a line while a value is awaited, and one after an ERROR
abbrev pub garbled_session : List Answered
garbled_session = ByKit (heard Prepare) ∷ Aside None untold ∷ []

abbrev pub late_session : List Answered
late_session = ByKit (heard (HostError (codes "no"))) ∷ Aside None untold ∷ []

-- a request about the remote that the kit answers
abbrev pub kept_session : List Answered
kept_session = ByKit (heard Getcost) ∷ []

-- a request about the remote while a value is awaited, which goes to the kit, and one that doesn't
abbrev pub awaiting_session : List Answered
awaiting_session = ByKit (heard Prepare) ∷ ByKit (heard Getcost) ∷ []

abbrev pub intruding_session : List Answered
intruding_session = ByKit (heard Prepare) ∷ Aside (Some Getcost) description ∷ []

-- a request for a key that is answered aside
abbrev pub astray_session : List Answered
astray_session = Aside (Some (Checkpresent key)) description ∷ []
