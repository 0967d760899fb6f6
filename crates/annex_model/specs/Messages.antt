-- The messages of the protocol, and the lines that spell them.
-- https://git-annex.branchable.com/design/external_special_remote_protocol/
use Rattle.std.specs.Prelude.{ℕ, ◌≡◌, ◌⊎◌, ◌<◌, ◌^◌, ◌==◌, ◌&&◌, not, nat_lt, Bool, true, false, if◌then◌else◌, List, [], ◌∷◌, ◌++◌, Option, Some, None, codes, option_map, option_and_then, bytes_eq, IsTrue, decimal}
use Rattle.std.specs.List.{list_any}
use Rattle.std.specs.Option.{option_or}
use Rattle.ann_key.specs.Numbers.{is_number, number_of, value_of}
use Rattle.ann_key.specs.Keys.{is_key}

-- a key that holds no space: only such a key can stand in a message
abbrev pub is_sent_key : List ℕ → Bool
is_sent_key bytes = is_key bytes && not (list_any (λ b. b == 32) bytes)

-- ---- the messages, with their fields

pub data RemoteMessage : Type 0 where
  Version : (number : ℕ) → RemoteMessage
  Extensions : (names : List ℕ) → RemoteMessage
  UnsupportedRequest : RemoteMessage
  Error : (text : List ℕ) → RemoteMessage
  -- what a remote may say in any request
  Progress : (bytes : ℕ) → RemoteMessage
  Debug : (text : List ℕ) → RemoteMessage
  Info : (text : List ℕ) → RemoteMessage
  Dirhash : (key : List ℕ) → RemoteMessage
  DirhashLower : (key : List ℕ) → RemoteMessage
  Getconfig : (name : List ℕ) → RemoteMessage
  Setconfig : (name value : List ℕ) → RemoteMessage
  Getcreds : (setting : List ℕ) → RemoteMessage
  Setcreds : (setting user password : List ℕ) → RemoteMessage
  Getuuid : RemoteMessage
  Getgitdir : RemoteMessage
  Getgitremotename : RemoteMessage
  Getwanted : RemoteMessage
  Setwanted : (expression : List ℕ) → RemoteMessage
  Getstate : (key : List ℕ) → RemoteMessage
  Setstate : (key value : List ℕ) → RemoteMessage
  Seturlpresent : (key url : List ℕ) → RemoteMessage
  Seturlmissing : (key url : List ℕ) → RemoteMessage
  Geturls : (key prefix : List ℕ) → RemoteMessage
  -- the lines of answers
  PrepareSuccess : RemoteMessage
  PrepareFailure : (text : List ℕ) → RemoteMessage
  InitremoteSuccess : RemoteMessage
  InitremoteFailure : (text : List ℕ) → RemoteMessage
  TransferSuccess : (store : Bool) (key : List ℕ) → RemoteMessage
  TransferFailure : (store : Bool) (key text : List ℕ) → RemoteMessage
  CheckpresentSuccess : (key : List ℕ) → RemoteMessage
  CheckpresentFailure : (key : List ℕ) → RemoteMessage
  CheckpresentUnknown : (key text : List ℕ) → RemoteMessage
  RemoveSuccess : (key : List ℕ) → RemoteMessage
  RemoveFailure : (key text : List ℕ) → RemoteMessage
  Config : (name description : List ℕ) → RemoteMessage
  Configend : RemoteMessage
  Cost : (number : ℕ) → RemoteMessage
  Availability : (global : Bool) → RemoteMessage
  Infofield : (name : List ℕ) → RemoteMessage
  Infovalue : (value : List ℕ) → RemoteMessage
  Infoend : RemoteMessage
  WhereisSuccess : (text : List ℕ) → RemoteMessage
  WhereisFailure : RemoteMessage
  ExportsupportedSuccess : RemoteMessage
  ExportsupportedFailure : RemoteMessage
  RenameexportSuccess : (key : List ℕ) → RemoteMessage
  RenameexportFailure : (key : List ℕ) → RemoteMessage

pub data HostMessage : Type 0 where
  AskExtensions : (names : List ℕ) → HostMessage
  Prepare : HostMessage
  Initremote : HostMessage
  Transfer : (store : Bool) (key file : List ℕ) → HostMessage
  Checkpresent : (key : List ℕ) → HostMessage
  Remove : (key : List ℕ) → HostMessage
  Listconfigs : HostMessage
  Getcost : HostMessage
  Getavailability : HostMessage
  Getinfo : HostMessage
  Whereis : (key : List ℕ) → HostMessage
  -- of exports: EXPORT says the name that the next request is about
  Exportsupported : HostMessage
  Export : (name : List ℕ) → HostMessage
  Transferexport : (store : Bool) (key file : List ℕ) → HostMessage
  Checkpresentexport : (key : List ℕ) → HostMessage
  Removeexport : (key : List ℕ) → HostMessage
  Renameexport : (key onto : List ℕ) → HostMessage
  -- replies
  Value : (value : List ℕ) → HostMessage
  Creds : (user password : List ℕ) → HostMessage
  HostError : (text : List ℕ) → HostMessage

-- ---- their rows: the command word and the parameters, each by its class

-- a number, a key, a word, the rest of the line, STORE or RETRIEVE, GLOBAL or LOCAL
pub data Param : Type 0 where
  Number : ℕ → Param
  Key : List ℕ → Param
  Word : List ℕ → Param
  Rest : List ℕ → Param
  Direction : (store : Bool) → Param
  Scope : (global : Bool) → Param

abbrev pub remote_row : RemoteMessage → List ℕ × List Param
remote_row (Version n) = (codes "VERSION", Number n ∷ [])
remote_row (Extensions names) = (codes "EXTENSIONS", Rest names ∷ [])
remote_row UnsupportedRequest = (codes "UNSUPPORTED-REQUEST", [])
remote_row (Error text) = (codes "ERROR", Rest text ∷ [])
remote_row (Progress bytes) = (codes "PROGRESS", Number bytes ∷ [])
remote_row (Debug text) = (codes "DEBUG", Rest text ∷ [])
remote_row (Info text) = (codes "INFO", Rest text ∷ [])
remote_row (Dirhash key) = (codes "DIRHASH", Key key ∷ [])
remote_row (DirhashLower key) = (codes "DIRHASH-LOWER", Key key ∷ [])
remote_row (Getconfig name) = (codes "GETCONFIG", Rest name ∷ [])
remote_row (Setconfig name value) = (codes "SETCONFIG", Word name ∷ Rest value ∷ [])
remote_row (Getcreds setting) = (codes "GETCREDS", Rest setting ∷ [])
remote_row (Setcreds setting user password) = (codes "SETCREDS", Word setting ∷ Word user ∷ Rest password ∷ [])
remote_row Getuuid = (codes "GETUUID", [])
remote_row Getgitdir = (codes "GETGITDIR", [])
remote_row Getgitremotename = (codes "GETGITREMOTENAME", [])
remote_row Getwanted = (codes "GETWANTED", [])
remote_row (Setwanted expression) = (codes "SETWANTED", Rest expression ∷ [])
remote_row (Getstate key) = (codes "GETSTATE", Key key ∷ [])
remote_row (Setstate key value) = (codes "SETSTATE", Key key ∷ Rest value ∷ [])
remote_row (Seturlpresent key url) = (codes "SETURLPRESENT", Key key ∷ Rest url ∷ [])
remote_row (Seturlmissing key url) = (codes "SETURLMISSING", Key key ∷ Rest url ∷ [])
remote_row (Geturls key prefix) = (codes "GETURLS", Key key ∷ Rest prefix ∷ [])
remote_row PrepareSuccess = (codes "PREPARE-SUCCESS", [])
remote_row (PrepareFailure text) = (codes "PREPARE-FAILURE", Rest text ∷ [])
remote_row InitremoteSuccess = (codes "INITREMOTE-SUCCESS", [])
remote_row (InitremoteFailure text) = (codes "INITREMOTE-FAILURE", Rest text ∷ [])
remote_row (TransferSuccess store key) = (codes "TRANSFER-SUCCESS", Direction store ∷ Key key ∷ [])
remote_row (TransferFailure store key text) = (codes "TRANSFER-FAILURE", Direction store ∷ Key key ∷ Rest text ∷ [])
remote_row (CheckpresentSuccess key) = (codes "CHECKPRESENT-SUCCESS", Key key ∷ [])
remote_row (CheckpresentFailure key) = (codes "CHECKPRESENT-FAILURE", Key key ∷ [])
remote_row (CheckpresentUnknown key text) = (codes "CHECKPRESENT-UNKNOWN", Key key ∷ Rest text ∷ [])
remote_row (RemoveSuccess key) = (codes "REMOVE-SUCCESS", Key key ∷ [])
remote_row (RemoveFailure key text) = (codes "REMOVE-FAILURE", Key key ∷ Rest text ∷ [])
remote_row (Config name description) = (codes "CONFIG", Word name ∷ Rest description ∷ [])
remote_row Configend = (codes "CONFIGEND", [])
remote_row (Cost number) = (codes "COST", Number number ∷ [])
remote_row (Availability global) = (codes "AVAILABILITY", Scope global ∷ [])
remote_row (Infofield name) = (codes "INFOFIELD", Rest name ∷ [])
remote_row (Infovalue value) = (codes "INFOVALUE", Rest value ∷ [])
remote_row Infoend = (codes "INFOEND", [])
remote_row (WhereisSuccess text) = (codes "WHEREIS-SUCCESS", Rest text ∷ [])
remote_row WhereisFailure = (codes "WHEREIS-FAILURE", [])
remote_row ExportsupportedSuccess = (codes "EXPORTSUPPORTED-SUCCESS", [])
remote_row ExportsupportedFailure = (codes "EXPORTSUPPORTED-FAILURE", [])
remote_row (RenameexportSuccess key) = (codes "RENAMEEXPORT-SUCCESS", Key key ∷ [])
remote_row (RenameexportFailure key) = (codes "RENAMEEXPORT-FAILURE", Key key ∷ [])

abbrev pub host_row : HostMessage → List ℕ × List Param
host_row (AskExtensions names) = (codes "EXTENSIONS", Rest names ∷ [])
host_row Prepare = (codes "PREPARE", [])
host_row Initremote = (codes "INITREMOTE", [])
host_row (Transfer store key file) = (codes "TRANSFER", Direction store ∷ Key key ∷ Rest file ∷ [])
host_row (Checkpresent key) = (codes "CHECKPRESENT", Key key ∷ [])
host_row (Remove key) = (codes "REMOVE", Key key ∷ [])
host_row Listconfigs = (codes "LISTCONFIGS", [])
host_row Getcost = (codes "GETCOST", [])
host_row Getavailability = (codes "GETAVAILABILITY", [])
host_row Getinfo = (codes "GETINFO", [])
host_row (Whereis key) = (codes "WHEREIS", Key key ∷ [])
host_row Exportsupported = (codes "EXPORTSUPPORTED", [])
host_row (Export name) = (codes "EXPORT", Rest name ∷ [])
host_row (Transferexport store key file) = (codes "TRANSFEREXPORT", Direction store ∷ Key key ∷ Rest file ∷ [])
host_row (Checkpresentexport key) = (codes "CHECKPRESENTEXPORT", Key key ∷ [])
host_row (Removeexport key) = (codes "REMOVEEXPORT", Key key ∷ [])
host_row (Renameexport key onto) = (codes "RENAMEEXPORT", Key key ∷ Rest onto ∷ [])
host_row (Value value) = (codes "VALUE", Rest value ∷ [])
host_row (Creds user password) = (codes "CREDS", Word user ∷ Rest password ∷ [])
host_row (HostError text) = (codes "ERROR", Rest text ∷ [])

-- ---- what a row spells

abbrev pub is_space : ℕ → Bool
is_space b = b == 32

-- a word holds no space. It may be empty
abbrev pub is_word : List ℕ → Bool
is_word bytes = not (list_any is_space bytes)

abbrev pub direction_word : Bool → List ℕ
direction_word true = codes "STORE"
direction_word false = codes "RETRIEVE"

abbrev pub scope_word : Bool → List ℕ
scope_word true = codes "GLOBAL"
scope_word false = codes "LOCAL"

-- the field spells the parameter. A number may have leading zeros
abbrev pub Spelled : Param → List ℕ → Type 0
Spelled (Number n) field = IsTrue (is_number field) × (value_of field ≡ n)
Spelled (Key key) field = (field ≡ key) × IsTrue (is_sent_key key)
Spelled (Word word) field = (field ≡ word) × IsTrue (is_word word)
Spelled (Rest rest) field = field ≡ rest
Spelled (Direction store) field = field ≡ direction_word store
Spelled (Scope global) field = field ≡ scope_word global

-- a space and a field for each parameter. An empty last Rest may lack its space
abbrev pub Followed : List Param → List ℕ → Type 0
Followed [] tail = tail ≡ []
Followed (Rest rest ∷ []) tail = (tail ≡ 32 ∷ rest) ⊎ ((tail ≡ []) × (rest ≡ []))
Followed (p ∷ ps) tail = (field : List ℕ) × (more : List ℕ) × (tail ≡ 32 ∷ field ++ more) × Spelled p field × Followed ps more

-- the command word, and what follows it
abbrev pub SpelledBy : List ℕ × List Param → List ℕ → Type 0
SpelledBy row line = (tail : List ℕ) × (line ≡ row.0 ++ tail) × Followed row.1 tail

abbrev pub RemoteSpells : RemoteMessage → List ℕ → Type 0
RemoteSpells m line = SpelledBy (remote_row m) line

abbrev pub HostSpells : HostMessage → List ℕ → Type 0
HostSpells m line = SpelledBy (host_row m) line

-- ---- the canonical line, which is the one that is written

-- the field without leading zeros
abbrev pub field_text : Param → List ℕ
field_text (Number n) = decimal n
field_text (Key key) = key
field_text (Word word) = word
field_text (Rest rest) = rest
field_text (Direction store) = direction_word store
field_text (Scope global) = scope_word global

-- each with its space
abbrev pub fields_text : List Param → List ℕ
fields_text [] = []
fields_text (p ∷ []) = 32 ∷ field_text p
fields_text (p ∷ ps) = 32 ∷ field_text p ++ fields_text ps

abbrev pub row_line : List ℕ × List Param → List ℕ
row_line row = row.0 ++ fields_text row.1

abbrev pub remote_line : RemoteMessage → List ℕ
remote_line m = row_line (remote_row m)

abbrev pub host_line : HostMessage → List ℕ
host_line m = row_line (host_row m)

-- the parameter is of its class
abbrev pub IsOfClass : Param → Type 0
IsOfClass (Number n) = n < 2 ^ 64
IsOfClass (Key key) = IsTrue (is_sent_key key)
IsOfClass (Word word) = IsTrue (is_word word)
IsOfClass (Rest rest) = Unit {0}
IsOfClass (Direction store) = Unit {0}
IsOfClass (Scope global) = Unit {0}

abbrev pub AreOfClass : List Param → Type 0
AreOfClass [] = Unit {0}
AreOfClass (p ∷ []) = IsOfClass p
AreOfClass (p ∷ ps) = IsOfClass p × AreOfClass ps

-- each field of the message is of its class
abbrev pub IsSayable : RemoteMessage → Type 0
IsSayable m = AreOfClass (remote_row m).1

abbrev pub IsAskable : HostMessage → Type 0
IsAskable m = AreOfClass (host_row m).1

-- the same as tests
abbrev pub is_of_class : Param → Bool
is_of_class (Number n) = nat_lt n (2 ^ 64)
is_of_class (Key key) = is_sent_key key
is_of_class (Word word) = is_word word
is_of_class (Rest rest) = true
is_of_class (Direction store) = true
is_of_class (Scope global) = true

abbrev pub are_of_class : List Param → Bool
are_of_class [] = true
are_of_class (p ∷ []) = is_of_class p
are_of_class (p ∷ ps) = is_of_class p && are_of_class ps

abbrev pub is_askable : HostMessage → Bool
is_askable m = are_of_class (host_row m).1

-- the rest of the line that the message ends with, which is empty where it has none
abbrev pub rest_in : List Param → List ℕ
rest_in [] = []
rest_in (Rest rest ∷ ps) = rest
rest_in (p ∷ ps) = rest_in ps

abbrev pub text_in : RemoteMessage → List ℕ
text_in m = rest_in (remote_row m).1

-- ---- reading, as a function of the line

-- the command word reaches to the first space or the end
abbrev pub word_of : List ℕ → List ℕ
word_of [] = []
word_of (b ∷ bs) = if is_space b then [] else b ∷ word_of bs

-- what follows the first space, if there is one
abbrev pub field_of : List ℕ → Option (List ℕ)
field_of [] = None
field_of (b ∷ bs) = if is_space b then Some bs else field_of bs

-- ---- the parameters of each shape, from what follows the word

abbrev pub no_field : {M : Type 0} → M → Option (List ℕ) → Option M
no_field m None = Some m
no_field m (Some field) = None

abbrev pub number_field : Option (List ℕ) → Option ℕ
number_field None = None
number_field (Some field) = number_of field

abbrev pub key_field : Option (List ℕ) → Option (List ℕ)
key_field None = None
key_field (Some field) = if is_sent_key field then Some field else None

abbrev pub rest_field : Option (List ℕ) → List ℕ
rest_field None = []
rest_field (Some field) = field

abbrev pub scope_field : Option (List ℕ) → Option Bool
scope_field None = None
scope_field (Some field) = if bytes_eq field (codes "GLOBAL") then Some true else if bytes_eq field (codes "LOCAL") then Some false else None

abbrev pub direction_of : List ℕ → Option Bool
direction_of word = if bytes_eq word (codes "STORE") then Some true else if bytes_eq word (codes "RETRIEVE") then Some false else None

-- a word, and the rest
abbrev pub word_rest_field : Option (List ℕ) → Option (List ℕ × List ℕ)
word_rest_field None = None
word_rest_field (Some field) = Some (word_of field, rest_field (field_of field))

-- two words, and the rest
abbrev pub words_rest_field : Option (List ℕ) → Option (List ℕ × (List ℕ × List ℕ))
words_rest_field None = None
words_rest_field (Some field) = option_map (λ r. (word_of field, r)) (word_rest_field (field_of field))

-- a key, and the rest
abbrev pub key_rest_field : Option (List ℕ) → Option (List ℕ × List ℕ)
key_rest_field None = None
key_rest_field (Some field) = option_map (λ key. (key, rest_field (field_of field))) (key_field (Some (word_of field)))

-- a direction, and a key
abbrev pub transfer_field : Option (List ℕ) → Option (Bool × List ℕ)
transfer_field None = None
transfer_field (Some field) =
    option_and_then (λ store. option_map (λ key. (store, key)) (key_field (field_of field))) (direction_of (word_of field))

-- a direction, a key, and the rest
abbrev pub transfer_rest_field : Option (List ℕ) → Option (Bool × (List ℕ × List ℕ))
transfer_rest_field None = None
transfer_rest_field (Some field) =
    option_and_then (λ store. option_map (λ r. (store, r)) (key_rest_field (field_of field))) (direction_of (word_of field))

-- ---- the table of reading: a command word, and how what follows it is read

pub record Row (M : Type 0) : Type 0 where
  pub word : List ℕ
  pub read : Option (List ℕ) → Option M

abbrev pub by_rows : {M : Type 0} → List (Row M) → List ℕ → Option (List ℕ) → Option M
by_rows [] word field = None
by_rows (r ∷ rs) word field = if bytes_eq word r.word then r.read field else by_rows rs word field

abbrev pub bare_row : {M : Type 0} → List ℕ → M → Row M
bare_row word m = record { word = word; read = no_field m }

abbrev pub number_row : {M : Type 0} → List ℕ → (ℕ → M) → Row M
number_row word make = record { word = word; read = λ f. option_map make (number_field f) }

abbrev pub key_row : {M : Type 0} → List ℕ → (List ℕ → M) → Row M
key_row word make = record { word = word; read = λ f. option_map make (key_field f) }

abbrev pub rest_row : {M : Type 0} → List ℕ → (List ℕ → M) → Row M
rest_row word make = record { word = word; read = λ f. Some (make (rest_field f)) }

abbrev pub scope_row : {M : Type 0} → List ℕ → (Bool → M) → Row M
scope_row word make = record { word = word; read = λ f. option_map make (scope_field f) }

abbrev pub word_rest_row : {M : Type 0} → List ℕ → (List ℕ → List ℕ → M) → Row M
word_rest_row word make = record { word = word; read = λ f. option_map (λ r. make r.0 r.1) (word_rest_field f) }

abbrev pub words_rest_row : {M : Type 0} → List ℕ → (List ℕ → List ℕ → List ℕ → M) → Row M
words_rest_row word make = record { word = word; read = λ f. option_map (λ r. make r.0 r.1.0 r.1.1) (words_rest_field f) }

abbrev pub key_rest_row : {M : Type 0} → List ℕ → (List ℕ → List ℕ → M) → Row M
key_rest_row word make = record { word = word; read = λ f. option_map (λ r. make r.0 r.1) (key_rest_field f) }

abbrev pub transfer_row : {M : Type 0} → List ℕ → (Bool → List ℕ → M) → Row M
transfer_row word make = record { word = word; read = λ f. option_map (λ r. make r.0 r.1) (transfer_field f) }

abbrev pub transfer_rest_row : {M : Type 0} → List ℕ → (Bool → List ℕ → List ℕ → M) → Row M
transfer_rest_row word make = record { word = word; read = λ f. option_map (λ r. make r.0 r.1.0 r.1.1) (transfer_rest_field f) }

-- what is said before and beside all answers
abbrev pub opening_rows : List (Row RemoteMessage)
opening_rows =
    number_row (codes "VERSION") Version
    ∷ rest_row (codes "EXTENSIONS") Extensions
    ∷ bare_row (codes "UNSUPPORTED-REQUEST") UnsupportedRequest
    ∷ rest_row (codes "ERROR") Error
    ∷ []

abbrev pub aside_rows : List (Row RemoteMessage)
aside_rows =
    number_row (codes "PROGRESS") Progress
    ∷ rest_row (codes "DEBUG") Debug
    ∷ rest_row (codes "INFO") Info
    ∷ key_row (codes "DIRHASH") Dirhash
    ∷ key_row (codes "DIRHASH-LOWER") DirhashLower
    ∷ rest_row (codes "GETCONFIG") Getconfig
    ∷ word_rest_row (codes "SETCONFIG") Setconfig
    ∷ rest_row (codes "GETCREDS") Getcreds
    ∷ words_rest_row (codes "SETCREDS") Setcreds
    ∷ bare_row (codes "GETUUID") Getuuid
    ∷ bare_row (codes "GETGITDIR") Getgitdir
    ∷ bare_row (codes "GETGITREMOTENAME") Getgitremotename
    ∷ bare_row (codes "GETWANTED") Getwanted
    ∷ rest_row (codes "SETWANTED") Setwanted
    ∷ key_row (codes "GETSTATE") Getstate
    ∷ key_rest_row (codes "SETSTATE") Setstate
    ∷ key_rest_row (codes "SETURLPRESENT") Seturlpresent
    ∷ key_rest_row (codes "SETURLMISSING") Seturlmissing
    ∷ key_rest_row (codes "GETURLS") Geturls
    ∷ []

-- the lines that answer a request of the greeting or for a key
abbrev pub task_rows : List (Row RemoteMessage)
task_rows =
    bare_row (codes "PREPARE-SUCCESS") PrepareSuccess
    ∷ rest_row (codes "PREPARE-FAILURE") PrepareFailure
    ∷ bare_row (codes "INITREMOTE-SUCCESS") InitremoteSuccess
    ∷ rest_row (codes "INITREMOTE-FAILURE") InitremoteFailure
    ∷ transfer_row (codes "TRANSFER-SUCCESS") TransferSuccess
    ∷ transfer_rest_row (codes "TRANSFER-FAILURE") TransferFailure
    ∷ key_row (codes "CHECKPRESENT-SUCCESS") CheckpresentSuccess
    ∷ key_row (codes "CHECKPRESENT-FAILURE") CheckpresentFailure
    ∷ key_rest_row (codes "CHECKPRESENT-UNKNOWN") CheckpresentUnknown
    ∷ key_row (codes "REMOVE-SUCCESS") RemoveSuccess
    ∷ key_rest_row (codes "REMOVE-FAILURE") RemoveFailure
    ∷ []

-- the lines that answer a request about the remote itself, and those of exports
abbrev pub about_rows : List (Row RemoteMessage)
about_rows =
    word_rest_row (codes "CONFIG") Config
    ∷ bare_row (codes "CONFIGEND") Configend
    ∷ number_row (codes "COST") Cost
    ∷ scope_row (codes "AVAILABILITY") Availability
    ∷ rest_row (codes "INFOFIELD") Infofield
    ∷ rest_row (codes "INFOVALUE") Infovalue
    ∷ bare_row (codes "INFOEND") Infoend
    ∷ rest_row (codes "WHEREIS-SUCCESS") WhereisSuccess
    ∷ bare_row (codes "WHEREIS-FAILURE") WhereisFailure
    ∷ bare_row (codes "EXPORTSUPPORTED-SUCCESS") ExportsupportedSuccess
    ∷ bare_row (codes "EXPORTSUPPORTED-FAILURE") ExportsupportedFailure
    ∷ key_row (codes "RENAMEEXPORT-SUCCESS") RenameexportSuccess
    ∷ key_row (codes "RENAMEEXPORT-FAILURE") RenameexportFailure
    ∷ []

abbrev pub host_rows : List (Row HostMessage)
host_rows =
    rest_row (codes "EXTENSIONS") AskExtensions
    ∷ bare_row (codes "PREPARE") Prepare
    ∷ bare_row (codes "INITREMOTE") Initremote
    ∷ transfer_rest_row (codes "TRANSFER") Transfer
    ∷ key_row (codes "CHECKPRESENT") Checkpresent
    ∷ key_row (codes "REMOVE") Remove
    ∷ bare_row (codes "LISTCONFIGS") Listconfigs
    ∷ bare_row (codes "GETCOST") Getcost
    ∷ bare_row (codes "GETAVAILABILITY") Getavailability
    ∷ bare_row (codes "GETINFO") Getinfo
    ∷ key_row (codes "WHEREIS") Whereis
    ∷ bare_row (codes "EXPORTSUPPORTED") Exportsupported
    ∷ rest_row (codes "EXPORT") Export
    ∷ transfer_rest_row (codes "TRANSFEREXPORT") Transferexport
    ∷ key_row (codes "CHECKPRESENTEXPORT") Checkpresentexport
    ∷ key_row (codes "REMOVEEXPORT") Removeexport
    ∷ key_rest_row (codes "RENAMEEXPORT") Renameexport
    ∷ rest_row (codes "VALUE") Value
    ∷ word_rest_row (codes "CREDS") Creds
    ∷ rest_row (codes "ERROR") HostError
    ∷ []

abbrev pub remote_by_word : List ℕ → Option (List ℕ) → Option RemoteMessage
remote_by_word word field =
    option_or (by_rows opening_rows word field)
    (option_or (by_rows aside_rows word field) (option_or (by_rows task_rows word field) (by_rows about_rows word field)))

-- the message that the line spells, where it spells one
abbrev pub remote_reading : List ℕ → Option RemoteMessage
remote_reading line = remote_by_word (word_of line) (field_of line)

abbrev pub host_reading : List ℕ → Option HostMessage
host_reading line = by_rows host_rows (word_of line) (field_of line)
