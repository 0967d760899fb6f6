-- Conversations: one request, what the remote says to it, and the replies.
-- https://git-annex.branchable.com/design/external_special_remote_protocol/
use Rattle.std.specs.Prelude.{ℕ, ◌≡◌, ◌&&◌, not, Bool, true, false, if◌then◌else◌, List, [], ◌∷◌, ◌++◌, Option, Some, None, map, filter, IsSome, IsTrue, bytes_eq}
use Rattle.std.specs.List.{flat_map, last_or, list_all}
use Rattle.annex_model.specs.declared.final_line.Final.{Final}
use Rattle.annex_model.specs.declared.final_line.Final.TheVariants.{Done, Failed, Absent, Unknown, Unsupported}
use Rattle.annex_model.specs.Messages.{RemoteMessage, Extensions, UnsupportedRequest, Progress, Debug, Info, Dirhash, DirhashLower, Getconfig, Setconfig, Getcreds, Setcreds, Getuuid, Getgitdir, Getgitremotename, Getwanted, Setwanted, Getstate, Setstate, Seturlpresent, Seturlmissing, Geturls, PrepareSuccess, PrepareFailure, InitremoteSuccess, InitremoteFailure, TransferSuccess, TransferFailure, CheckpresentSuccess, CheckpresentFailure, CheckpresentUnknown, RemoveSuccess, RemoveFailure, Config, Configend, Cost, Availability, Infofield, Infovalue, Infoend, WhereisSuccess, WhereisFailure, ExportsupportedSuccess, ExportsupportedFailure, RenameexportSuccess, RenameexportFailure, HostMessage, AskExtensions, Prepare, Initremote, Transfer, Checkpresent, Remove, Listconfigs, Getcost, Getavailability, Getinfo, Whereis, Exportsupported, Export, Transferexport, Checkpresentexport, Removeexport, Renameexport, remote_reading, host_line}

-- who says a line
pub data Side : Type 0 where
  Host : Side
  Remote : Side

-- a line of a job's part: its place in the journal, and its text without a tag
pub record Item : Type 0 where
  pub side : Side
  pub at : ℕ
  pub text : List ℕ

-- ---- asides

-- the message is one that a remote may say in any request, which goes on
abbrev pub is_aside : RemoteMessage → Bool
is_aside (Progress bytes) = true
is_aside (Debug text) = true
is_aside (Info text) = true
is_aside (Dirhash key) = true
is_aside (DirhashLower key) = true
is_aside (Getconfig name) = true
is_aside (Setconfig name value) = true
is_aside (Getcreds setting) = true
is_aside (Setcreds setting user password) = true
is_aside Getuuid = true
is_aside Getgitdir = true
is_aside Getgitremotename = true
is_aside Getwanted = true
is_aside (Setwanted expression) = true
is_aside (Getstate key) = true
is_aside (Setstate key value) = true
is_aside (Seturlpresent key url) = true
is_aside (Seturlmissing key url) = true
is_aside (Geturls key prefix) = true
is_aside m = false

-- an aside that asks for nothing and sets nothing
abbrev pub is_talk : RemoteMessage → Bool
is_talk (Progress bytes) = true
is_talk (Debug text) = true
is_talk (Info text) = true
is_talk m = false

-- ---- answers

abbrev pub is_same : Bool → Bool → Bool
is_same true b = b
is_same false b = not b

-- what one line says, as the whole answer to the request
abbrev pub one_line : HostMessage → RemoteMessage → Option Final
one_line (AskExtensions names) (Extensions answer) = Some Done
one_line Prepare PrepareSuccess = Some Done
one_line Prepare (PrepareFailure text) = Some Failed
one_line Initremote InitremoteSuccess = Some Done
one_line Initremote (InitremoteFailure text) = Some Failed
one_line (Transfer store key file) (TransferSuccess s k) = if is_same s store && bytes_eq k key then Some Done else None
one_line (Transfer store key file) (TransferFailure s k text) = if is_same s store && bytes_eq k key then Some Failed else None
one_line (Checkpresent key) (CheckpresentSuccess k) = if bytes_eq k key then Some Done else None
one_line (Checkpresent key) (CheckpresentFailure k) = if bytes_eq k key then Some Absent else None
one_line (Checkpresent key) (CheckpresentUnknown k text) = if bytes_eq k key then Some Unknown else None
one_line (Remove key) (RemoveSuccess k) = if bytes_eq k key then Some Done else None
one_line (Remove key) (RemoveFailure k text) = if bytes_eq k key then Some Failed else None
one_line Getcost (Cost number) = Some Done
one_line Getavailability (Availability global) = Some Done
one_line (Whereis key) (WhereisSuccess text) = Some Done
one_line (Whereis key) WhereisFailure = Some Absent
one_line Exportsupported ExportsupportedSuccess = Some Done
one_line Exportsupported ExportsupportedFailure = Some Absent
one_line (Transferexport store key file) (TransferSuccess s k) = if is_same s store && bytes_eq k key then Some Done else None
one_line (Transferexport store key file) (TransferFailure s k text) = if is_same s store && bytes_eq k key then Some Failed else None
one_line (Checkpresentexport key) (CheckpresentSuccess k) = if bytes_eq k key then Some Done else None
one_line (Checkpresentexport key) (CheckpresentFailure k) = if bytes_eq k key then Some Absent else None
one_line (Checkpresentexport key) (CheckpresentUnknown k text) = if bytes_eq k key then Some Unknown else None
one_line (Removeexport key) (RemoveSuccess k) = if bytes_eq k key then Some Done else None
one_line (Removeexport key) (RemoveFailure k text) = if bytes_eq k key then Some Failed else None
one_line (Renameexport key onto) (RenameexportSuccess k) = if bytes_eq k key then Some Done else None
one_line (Renameexport key onto) (RenameexportFailure k) = if bytes_eq k key then Some Failed else None
one_line q m = None

-- an answer is one line, or a list of configs, or a list of pairs of infos
pub data Shape : Type 0 where
  OneLine : Shape
  Configs : Shape
  Infos : Shape

abbrev pub shape_of : HostMessage → Shape
shape_of Listconfigs = Configs
shape_of Getinfo = Infos
shape_of q = OneLine

abbrev pub is_config : Option RemoteMessage → Bool
is_config (Some (Config name description)) = true
is_config m = false

abbrev pub is_configend : Option RemoteMessage → Bool
is_configend (Some Configend) = true
is_configend m = false

abbrev pub is_infofield : Option RemoteMessage → Bool
is_infofield (Some (Infofield name)) = true
is_infofield m = false

abbrev pub is_infovalue : Option RemoteMessage → Bool
is_infovalue (Some (Infovalue value)) = true
is_infovalue m = false

abbrev pub is_infoend : Option RemoteMessage → Bool
is_infoend (Some Infoend) = true
is_infoend m = false

-- any number of CONFIG, then CONFIGEND
abbrev pub are_configs : List (Option RemoteMessage) → Bool
are_configs [] = false
are_configs (m ∷ []) = is_configend m
are_configs (m ∷ ms) = is_config m && are_configs ms

-- any number of pairs INFOFIELD and INFOVALUE, then INFOEND
abbrev pub are_infos : List (Option RemoteMessage) → Bool
are_infos [] = false
are_infos (m ∷ []) = is_infoend m
are_infos (f ∷ v ∷ ms) = is_infofield f && is_infovalue v && are_infos ms

-- pairs, and perhaps a field that awaits its value
abbrev pub are_pairs : List (Option RemoteMessage) → Bool
are_pairs [] = true
are_pairs (f ∷ []) = is_infofield f
are_pairs (f ∷ v ∷ ms) = is_infofield f && is_infovalue v && are_pairs ms

abbrev pub is_unsupported : List (Option RemoteMessage) → Bool
is_unsupported (Some UnsupportedRequest ∷ []) = true
is_unsupported ms = false

abbrev pub said_alone : HostMessage → List (Option RemoteMessage) → Option Final
said_alone q (Some m ∷ []) = one_line q m
said_alone q ms = None

abbrev pub done_if : Bool → Option Final
done_if true = Some Done
done_if false = None

abbrev pub by_shape : Shape → HostMessage → List (Option RemoteMessage) → Option Final
by_shape OneLine q ms = said_alone q ms
by_shape Configs q ms = done_if (are_configs ms)
by_shape Infos q ms = done_if (are_infos ms)

-- What these messages are, as a whole answer to the request. None is a line that spells no message. A remote may say of any
-- request that it doesn't know it.
abbrev pub final_of : HostMessage → List (Option RemoteMessage) → Option Final
final_of q ms = if is_unsupported ms then Some Unsupported else by_shape (shape_of q) q ms

abbrev pub is_nothing : List (Option RemoteMessage) → Bool
is_nothing [] = true
is_nothing (m ∷ ms) = false

abbrev pub may_go_on : Shape → List (Option RemoteMessage) → Bool
may_go_on OneLine ms = is_nothing ms
may_go_on Configs ms = list_all is_config ms
may_go_on Infos ms = are_pairs ms

-- these messages begin an answer to the request, and more must come
abbrev pub awaits : HostMessage → List (Option RemoteMessage) → Bool
awaits q ms = may_go_on (shape_of q) ms

-- ---- parts

abbrev pub is_remote : Side → Bool
is_remote Host = false
is_remote Remote = true

abbrev pub spells_aside : Option RemoteMessage → Bool
spells_aside None = false
spells_aside (Some m) = is_aside m

abbrev pub item_is_aside : Item → Bool
item_is_aside i = spells_aside (remote_reading i.text)

-- what the remote says in the part
abbrev pub remote_items : List Item → List Item
remote_items part = filter (λ i. is_remote i.side) part

-- what it says there that is no aside, each as the message that it spells
abbrev pub said : List Item → List (Option RemoteMessage)
said part = map (λ i. remote_reading i.text) (filter (λ i. not (item_is_aside i)) (remote_items part))

-- an item without its place
abbrev pub shown : Item → Side × List ℕ
shown i = (i.side, i.text)

-- lines of the host, as items without their places
abbrev pub of_host : List (List ℕ) → List (Side × List ℕ)
of_host lines = map (λ line. (Host, line)) lines

-- a request of a file that is exported is said in two lines: first EXPORT with the name of that file, then its own
abbrev pub has_lead : HostMessage → Bool
has_lead (Transferexport store key file) = true
has_lead (Checkpresentexport key) = true
has_lead (Removeexport key) = true
has_lead (Renameexport key onto) = true
has_lead q = false

-- the one line says a name
abbrev pub SaysName : List (List ℕ) → Type 0
SaysName lines = (name : List ℕ) × (lines ≡ host_line (Export name) ∷ [])

-- what the host says before the request's own line: a name where the request has a lead, and else nothing. A name alone asks nothing.
abbrev pub IsLead : HostMessage → List (List ℕ) → Type 0
IsLead (Transferexport store key file) lines = SaysName lines
IsLead (Checkpresentexport key) lines = SaysName lines
IsLead (Removeexport key) lines = SaysName lines
IsLead (Renameexport key onto) lines = SaysName lines
IsLead (Export name) lines = ⊥
IsLead q lines = lines ≡ []

-- the lines that the host says for a request
abbrev pub request_lines : List (List ℕ) → HostMessage → List (List ℕ)
request_lines lead q = lead ++ host_line q ∷ []

-- an item of the remote, and the replies that it is owed
abbrev pub with_replies : (ℕ → List (List ℕ)) → Item → List (Side × List ℕ)
with_replies replies i = shown i ∷ (if item_is_aside i then of_host (replies i.at) else [])

-- the part, places aside, is the request's lines and then what the remote says, each aside followed by exactly its replies
abbrev pub AreReplied : (ℕ → List (List ℕ)) → List (List ℕ) → HostMessage → List Item → Type 0
AreReplied replies lead q part = map shown part ≡ of_host (request_lines lead q) ++ flat_map (with_replies replies) (remote_items part)

-- so it is, with such a lead as the request has
pub record IsReplied (replies : ℕ → List (List ℕ)) (q : HostMessage) (part : List Item) : Type 0 where
  pub lead : List (List ℕ)
  pub leads : IsLead q lead
  pub lines : AreReplied replies lead q part

-- the last item is the remote's, and no aside
abbrev pub is_final_item : Option Item → Bool
is_final_item None = false
is_final_item (Some i) = is_remote i.side && not (item_is_aside i)

pub record Conv (replies : ℕ → List (List ℕ)) (q : HostMessage) (part : List Item) : Type 0 where
  pub replied : IsReplied replies q part
  pub answer : IsSome (final_of q (said part))
  pub last : IsTrue (is_final_item (last_or None part))

-- as a conversation, but more must come
pub record Talking (replies : ℕ → List (List ℕ)) (q : HostMessage) (part : List Item) : Type 0 where
  pub replied : IsReplied replies q part
  pub waits : IsTrue (awaits q (said part))

-- no reply stands first
abbrev pub begins_with_remote : List Item → Bool
begins_with_remote [] = true
begins_with_remote (i ∷ rest) = is_remote i.side

-- the part has its request, goes on to a conversation, and no reply is owed at its end
pub record ConvFront (replies : ℕ → List (List ℕ)) (q : HostMessage) (part : List Item) : Type 0 where
  pub more : List Item
  pub begun : part ≡ [] → ⊥
  pub goes_on : Conv replies q (part ++ more)
  pub replied : IsTrue (begins_with_remote more)
