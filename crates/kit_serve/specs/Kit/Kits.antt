-- What a kit says to a host: by all that the host said so far, and by what the remote said to the calls that were made for it.
use Rattle.std.specs.Prelude.{ℕ, ◌≡◌, ◌&&◌, ◌||◌, not, Bool, true, false, if◌then◌else◌, List, [], ◌∷◌, ◌++◌, map, filter, filter_map, length, slice_get, Option, Some, None, option_map, is_some, codes}
use Rattle.std.specs.List.{last_or, after_last, list_all}
use Rattle.std.specs.Str.{is_utf8}
use Rattle.annex_model.specs.Lines.{has_newline}
use Rattle.annex_model.specs.Messages.{RemoteMessage, Extensions, UnsupportedRequest, Error, Getconfig, PrepareSuccess, PrepareFailure, InitremoteSuccess, InitremoteFailure, TransferSuccess, TransferFailure, CheckpresentSuccess, CheckpresentFailure, CheckpresentUnknown, RemoveSuccess, RemoveFailure}
use Rattle.annex_model.specs.Messages.{HostMessage, AskExtensions, Prepare, Initremote, Transfer, Checkpresent, Remove, Listconfigs, Getcost, Getavailability, Getinfo, Whereis, Exportsupported, Export, Transferexport, Checkpresentexport, Removeexport, Renameexport, Value, Creds, HostError}
use Rattle.annex_model.specs.Messages.{Param, Key, Word, Rest, host_row, remote_line}
use Rattle.kit_serve.specs.declared.kit.call.Said.{Said}
use Rattle.kit_serve.specs.declared.kit.call.Said.TheVariants.{Yes, No, Failure, Set}
use Rattle.kit_serve.specs.declared.kit.call.Asked.{Asked}
use Rattle.kit_serve.specs.declared.kit.call.Asked.TheVariants.{Prepare as AskPrepare, Store as AskStore, Retrieve as AskRetrieve, Check as AskCheck, Remove as AskRemove}
use Rattle.kit_serve.specs.declared.kit.call.Call.{Call}
use Rattle.kit_serve.specs.Kit.Descriptions.{all_messages, set_message}

-- a message of the host, and the call that was made of the remote for it
pub record Heard : Type 0 where
  pub message : HostMessage
  pub call : Option Call

abbrev pub messages : List Heard → List HostMessage
messages h = map (λ e. e.message) h

-- the calls that were made for these
abbrev pub calls_of : List Heard → List Call
calls_of h = filter_map (λ e. e.call) h

-- some element passes the test after those that stand before it: `before`, and the earlier ones of the list
abbrev pub some_behind : {A : Type 0} → (List A → A → Bool) → List A → List A → Bool
some_behind p before [] = false
some_behind p before (x ∷ xs) = p before x || some_behind p (before ++ x ∷ []) xs

-- ---- the fields of a message

-- no line ends in the field
abbrev pub is_line_param : Param → Bool
is_line_param (Key key) = not (has_newline key)
is_line_param (Word word) = not (has_newline word)
is_line_param (Rest rest) = not (has_newline rest)
is_line_param p = true

abbrev pub has_line_fields : HostMessage → Bool
has_line_fields m = list_all is_line_param (host_row m).1

-- ---- settings and their values

abbrev pub is_value : HostMessage → Bool
is_value (Value value) = true
is_value m = false

abbrev pub value_in : HostMessage → List ℕ
value_in (Value value) = value
value_in m = []

abbrev pub is_creds : HostMessage → Bool
is_creds (Creds user password) = true
is_creds m = false

abbrev pub is_error : HostMessage → Bool
is_error (HostError text) = true
is_error m = false

-- what is being answered: the last message that is no VALUE
abbrev pub request_of : List HostMessage → Option HostMessage
request_of ms = last_or None (filter (λ m. not (is_value m)) ms)

-- the values after it
abbrev pub values_of : List HostMessage → List (List ℕ)
values_of ms = map value_in (after_last (λ m. not (is_value m)) ms)

-- the setting whose value comes next
abbrev pub next_setting : List (List ℕ) → List HostMessage → Option (List ℕ)
next_setting settings ms = slice_get settings (length (values_of ms))

abbrev pub is_prepare : Option HostMessage → Bool
is_prepare (Some Prepare) = true
is_prepare request = false

-- the requests before which the settings are asked for
abbrev pub is_readying : Option HostMessage → Bool
is_readying (Some Prepare) = true
is_readying (Some Initremote) = true
is_readying request = false

-- a VALUE is awaited: PREPARE or INITREMOTE has fewer values after it than there are settings
abbrev pub awaits_value : List (List ℕ) → List HostMessage → Bool
awaits_value settings ms = is_readying (request_of ms) && is_some (next_setting settings ms)

-- ---- the end

-- While a VALUE is awaited, only VALUE and ERROR may come; else neither VALUE nor CREDS may.
abbrev pub is_unexpected : Bool → HostMessage → Bool
is_unexpected true m = not (is_value m) && not (is_error m)
is_unexpected false m = is_value m || is_creds m

abbrev pub ends_kit : List (List ℕ) → List HostMessage → HostMessage → Bool
ends_kit settings before m = is_error m || is_unexpected (awaits_value settings before) m

-- the host said ERROR, or what it said was unexpected
abbrev pub is_over : List (List ℕ) → List HostMessage → Bool
is_over settings ms = some_behind (ends_kit settings) [] ms

-- ---- getting ready

abbrev pub is_yes : Said → Bool
is_yes Yes = true
is_yes (Set pairs) = true
is_yes said = false

abbrev pub said_yes : Option Call → Bool
said_yes None = false
said_yes (Some call) = is_yes call.said

-- the remote said Yes to a PREPARE
abbrev pub prepares : List Heard → Heard → Bool
prepares before e = is_prepare (request_of (messages (before ++ e ∷ []))) && said_yes e.call

-- once it did so, the kit stays prepared
abbrev pub is_prepared : List Heard → Bool
is_prepared h = some_behind prepares [] h

-- ---- the last line of an answer

-- the line that answers the request, by what the remote said
abbrev pub final_line : Option HostMessage → Said → RemoteMessage
final_line (Some Prepare) Yes = PrepareSuccess
final_line (Some Prepare) (Set pairs) = PrepareSuccess
final_line (Some Prepare) No = PrepareFailure []
final_line (Some Prepare) (Failure text) = PrepareFailure text
final_line (Some Initremote) Yes = InitremoteSuccess
final_line (Some Initremote) (Set pairs) = InitremoteSuccess
final_line (Some Initremote) No = InitremoteFailure []
final_line (Some Initremote) (Failure text) = InitremoteFailure text
final_line (Some (Transfer store key file)) Yes = TransferSuccess store key
final_line (Some (Transfer store key file)) (Set pairs) = TransferSuccess store key
final_line (Some (Transfer store key file)) No = TransferFailure store key []
final_line (Some (Transfer store key file)) (Failure text) = TransferFailure store key text
final_line (Some (Checkpresent key)) Yes = CheckpresentSuccess key
final_line (Some (Checkpresent key)) (Set pairs) = CheckpresentSuccess key
final_line (Some (Checkpresent key)) No = CheckpresentFailure key
final_line (Some (Checkpresent key)) (Failure text) = CheckpresentUnknown key text
final_line (Some (Remove key)) Yes = RemoveSuccess key
final_line (Some (Remove key)) (Set pairs) = RemoveSuccess key
final_line (Some (Remove key)) No = RemoveFailure key []
final_line (Some (Remove key)) (Failure text) = RemoveFailure key text
final_line request said = UnsupportedRequest

-- the settings that the word sets, at INITREMOTE alone
abbrev pub set_lines : Option HostMessage → Said → List RemoteMessage
set_lines (Some Initremote) (Set pairs) = all_messages set_message pairs
set_lines request said = []

-- all lines for the word: the settings that it sets, and the answer
abbrev pub final_lines : Option HostMessage → Said → List RemoteMessage
final_lines request said = set_lines request said ++ final_line request said ∷ []

-- ---- what a message makes due

-- nothing; a line; or a call of the remote, whose word gives the lines
pub data Due : Type 0 where
  Silence : Due
  Line : (line : RemoteMessage) → Due
  Asks : (asked : Asked) → Due

-- a request that isn't worked on, for this reason
abbrev pub refusal : HostMessage → List ℕ → Due
refusal request text = Line (final_line (Some request) (Failure text))

-- the next setting is asked for; after the last one, with these values, the remote gets ready
abbrev pub readying : Option (List ℕ) → List (List ℕ) → Due
readying (Some name) values = Line (Getconfig name)
readying None values = Asks (AskPrepare values)

abbrev pub transfer_asked : Bool → List ℕ → List ℕ → Asked
transfer_asked true key file = AskStore key file
transfer_asked false key file = AskRetrieve key file

-- by the message, where it is expected: with the next setting, the values so far, and whether the kit is prepared
abbrev pub work_due : Option (List ℕ) → List (List ℕ) → Bool → HostMessage → Due
work_due next values prepared (AskExtensions names) = Line (Extensions [])
work_due next values prepared Prepare = readying next values
work_due next values prepared Initremote = readying next values
work_due next values prepared (Value value) = readying next values
work_due next values false (Transfer store key file) = refusal (Transfer store key file) (codes "not prepared")
work_due next values true (Transfer store key file) =
    if is_utf8 file then Asks (transfer_asked store key file) else refusal (Transfer store key file) (codes "not text")
work_due next values false (Checkpresent key) = refusal (Checkpresent key) (codes "not prepared")
work_due next values true (Checkpresent key) = Asks (AskCheck key)
work_due next values false (Remove key) = refusal (Remove key) (codes "not prepared")
work_due next values true (Remove key) = Asks (AskRemove key)
work_due next values prepared Listconfigs = Line UnsupportedRequest
work_due next values prepared Getcost = Line UnsupportedRequest
work_due next values prepared Getavailability = Line UnsupportedRequest
work_due next values prepared Getinfo = Line UnsupportedRequest
work_due next values prepared (Whereis key) = Line UnsupportedRequest
work_due next values prepared Exportsupported = Line UnsupportedRequest
-- a name to which nothing is said
work_due next values prepared (Export name) = Silence
work_due next values prepared (Transferexport store key file) = Line UnsupportedRequest
work_due next values prepared (Checkpresentexport key) = Line UnsupportedRequest
work_due next values prepared (Removeexport key) = Line UnsupportedRequest
work_due next values prepared (Renameexport key onto) = Line UnsupportedRequest
work_due next values prepared (Creds user password) = Silence
work_due next values prepared (HostError text) = Silence

abbrev pub expected_due : Bool → Due → Due
expected_due true due = Line (Error (codes "unexpected message"))
expected_due false due = due

-- a kit that is over says nothing
abbrev pub live_due : Bool → Due → Due
live_due true due = Silence
live_due false due = due

-- what the message makes due after what was heard
abbrev pub due_of : List (List ℕ) → List Heard → HostMessage → Due
due_of settings h m =
    live_due (is_over settings (messages h))
    (expected_due (is_unexpected (awaits_value settings (messages h)) m)
    (work_due (next_setting settings (messages h ++ m ∷ [])) (values_of (messages h ++ m ∷ [])) (is_prepared h) m))

-- ---- what is asked of the remote, and what is said

abbrev pub asked_by : Due → Option Asked
asked_by Silence = None
asked_by (Line line) = None
asked_by (Asks asked) = Some asked

abbrev pub said_by : Due → Option HostMessage → Option Call → List RemoteMessage
said_by Silence request call = []
said_by (Line line) request call = line ∷ []
said_by (Asks asked) request None = []
said_by (Asks asked) request (Some call) = final_lines request call.said

-- the call asks for exactly what is due
abbrev pub IsAskedBy : Due → Option Call → Type 0
IsAskedBy due call = asked_by due ≡ option_map (λ c. c.asked) call

-- the lines that are said to one message, after what was heard before it
abbrev pub lines_to : List (List ℕ) → List Heard → Heard → List (List ℕ)
lines_to settings before e =
    map remote_line (said_by (due_of settings before e.message) (request_of (messages before ++ e.message ∷ [])) e.call)

-- the lines that are said to the messages of a list, after those heard before it
abbrev pub lines_behind : List (List ℕ) → List Heard → List Heard → List (List ℕ)
lines_behind settings before [] = []
lines_behind settings before (e ∷ rest) = lines_to settings before e ++ lines_behind settings (before ++ e ∷ []) rest

abbrev pub lines_said : List (List ℕ) → List Heard → List (List ℕ)
lines_said settings h = lines_behind settings [] h

-- for each message exactly the call was made that is due after those heard before it
abbrev pub IsServedBehind : List (List ℕ) → List Heard → List Heard → Type 0
IsServedBehind settings before [] = Unit {0}
IsServedBehind settings before (e ∷ rest) =
    IsAskedBy (due_of settings before e.message) e.call × IsServedBehind settings (before ++ e ∷ []) rest

abbrev pub IsServed : List (List ℕ) → List Heard → Type 0
IsServed settings h = IsServedBehind settings [] h

-- the calls that are told, and this one after them
abbrev pub with_call : Option (List Call) → Option Call → Option (List Call)
with_call told None = told
with_call told (Some call) = option_map (λ calls. calls ++ call ∷ []) told

-- ---- one step

-- After what was heard, the message had this call made, these lines said, and left the kit over or not.
pub record IsStep (settings : List (List ℕ)) (h : List Heard) (m : HostMessage) (call : Option Call) (say : List (List ℕ)) (over : Bool) : Type 0 where
  pub asks : IsAskedBy (due_of settings h m) call
  pub says : say ≡ lines_to settings h (record { message = m; call = call })
  pub ends : over ≡ is_over settings (messages (h ++ record { message = m; call = call } ∷ []))
