-- What a request for a key makes due.
use Rattle.std.proofs.Common.{◌≡◌, ◌⊎◌, inl, inr, ℕ, List, [], ◌∷◌, refl, sym, ap, subst, ◌∙◌, Bool, true, false, Some, None, Option}
use Rattle.std.specs.Prelude.{codes, is_some}
use Rattle.std.specs.Str.{is_utf8}
use Rattle.std.proofs.lemmas.Str.{IsUtf8-nil, is_utf8-from_IsUtf8}
use Rattle.annex_model.specs.Messages.{RemoteMessage, remote_line, HostMessage, AskExtensions, Prepare, Initremote, Transfer, Checkpresent, Remove, Listconfigs, Getcost, Getavailability, Getinfo, Whereis, Exportsupported, Export, Transferexport, Checkpresentexport, Removeexport, Renameexport, Value, Creds, HostError, IsAskable, IsSayable}
use Rattle.wire_msg.specs.declared.remote.RemoteMsg.{RemoteMsg}
use Rattle.wire_msg.specs.Shown.{remote_shown}
use Rattle.kit_serve.specs.declared.kit.call.Said.TheVariants.{Failure}
use Rattle.kit_serve.specs.Kit.Kits.{Due, Silence, Line, Asks, asked_by, final_line, refusal, work_due}
use Rattle.kit_async_model.specs.declared.due.Due.{Due as CodeDue}
use Rattle.kit_async_model.specs.declared.due.Due.TheVariants.{Silence as NoDue, Line as LineDue, Call as CallDue}
use Rattle.kit_async_model.specs.Abouts.{lines_by}
use Rattle.kit_async_model.specs.Jobs.{key_in}
use Rattle.kit_async_model.specs.Views.{DueOf, file_of}

-- the line of a message whose fields are of their classes
record IsLineOf (message : RemoteMsg) (m : HostMessage) (text : List ℕ) : Type 0 where
  line : remote_shown message ≡ final_line (Some m) (Failure text)
  sayable : IsSayable (remote_shown message)

line_due : (message : RemoteMsg) (m : HostMessage) (text : List ℕ) → IsLineOf message m text → DueOf (LineDue message) (refusal m text)
line_due message m text l = (l.line, subst IsSayable l.line l.sayable)

-- it isn't worked on by a kit that isn't prepared
unprepared : (m : HostMessage) → is_some (key_in (Some m)) ≡ true → work_due None [] false m ≡ refusal m (codes "not prepared")
unprepared (Transfer store key file) h = refl
unprepared (Checkpresent key) h = refl
unprepared (Remove key) h = refl
unprepared (AskExtensions names) h = absurd cc
unprepared Prepare h = absurd cc
unprepared Initremote h = absurd cc
unprepared Listconfigs h = absurd cc
unprepared Getcost h = absurd cc
unprepared Getavailability h = absurd cc
unprepared Getinfo h = absurd cc
unprepared (Whereis key) h = absurd cc
unprepared Exportsupported h = absurd cc
unprepared (Export name) h = absurd cc
unprepared (Transferexport store key file) h = absurd cc
unprepared (Checkpresentexport key) h = absurd cc
unprepared (Removeexport key) h = absurd cc
unprepared (Renameexport key onto) h = absurd cc
unprepared (Value value) h = absurd cc
unprepared (Creds user password) h = absurd cc
unprepared (HostError text) h = absurd cc

pub unprepared_due : (message : RemoteMsg) (m : HostMessage) (prepared : Bool) → is_some (key_in (Some m)) ≡ true → prepared ≡ false → IsAskable m
    → remote_shown message ≡ final_line (Some m) (Failure (codes "not prepared")) → (IsAskable m → IsSayable (remote_shown message))
    → DueOf (LineDue message) (work_due None [] prepared m)
unprepared_due message m prepared k p a l s =
    let e : work_due None [] prepared m ≡ refusal m (codes "not prepared") = ap (λ (b : Bool). work_due None [] b m) p ∙ unprepared m k in
    subst (DueOf (LineDue message)) (sym e) (line_due message m (codes "not prepared") (record { line = l; sayable = s a }))

-- nor where its file's name is no text
no_text : (m : HostMessage) → is_some (key_in (Some m)) ≡ true → is_utf8 (file_of m) ≡ false → work_due None [] true m ≡ refusal m (codes "not text")
no_text (Transfer store key file) h u = rw u refl
no_text (Checkpresent key) h u = let is : is_utf8 [] ≡ true = is_utf8-from_IsUtf8 [] IsUtf8-nil in absurd cc
no_text (Remove key) h u = let is : is_utf8 [] ≡ true = is_utf8-from_IsUtf8 [] IsUtf8-nil in absurd cc
no_text (AskExtensions names) h u = absurd cc
no_text Prepare h u = absurd cc
no_text Initremote h u = absurd cc
no_text Listconfigs h u = absurd cc
no_text Getcost h u = absurd cc
no_text Getavailability h u = absurd cc
no_text Getinfo h u = absurd cc
no_text (Whereis key) h u = absurd cc
no_text Exportsupported h u = absurd cc
no_text (Export name) h u = absurd cc
no_text (Transferexport store key file) h u = absurd cc
no_text (Checkpresentexport key) h u = absurd cc
no_text (Removeexport key) h u = absurd cc
no_text (Renameexport key onto) h u = absurd cc
no_text (Value value) h u = absurd cc
no_text (Creds user password) h u = absurd cc
no_text (HostError text) h u = absurd cc

pub no_text_due : (message : RemoteMsg) (m : HostMessage) (prepared : Bool) (file : List ℕ) → is_some (key_in (Some m)) ≡ true → prepared ≡ true → IsAskable m
    → file_of m ≡ file → is_utf8 file ≡ false
    → remote_shown message ≡ final_line (Some m) (Failure (codes "not text")) → (IsAskable m → IsSayable (remote_shown message))
    → DueOf (LineDue message) (work_due None [] prepared m)
no_text_due message m prepared file k p a f u l s =
    let e : work_due None [] prepared m ≡ refusal m (codes "not text") =
    ap (λ (b : Bool). work_due None [] b m) p ∙ no_text m k (ap is_utf8 f ∙ u) in
    subst (DueOf (LineDue message)) (sym e) (line_due message m (codes "not text") (record { line = l; sayable = s a }))

-- else a remote is asked
worked : (m : HostMessage) → is_some (key_in (Some m)) ≡ true → is_utf8 (file_of m) ≡ true → DueOf CallDue (work_due None [] true m)
worked (Transfer store key file) h u = rw u tt
worked (Checkpresent key) h u = tt
worked (Remove key) h u = tt
worked (AskExtensions names) h u = absurd cc
worked Prepare h u = absurd cc
worked Initremote h u = absurd cc
worked Listconfigs h u = absurd cc
worked Getcost h u = absurd cc
worked Getavailability h u = absurd cc
worked Getinfo h u = absurd cc
worked (Whereis key) h u = absurd cc
worked Exportsupported h u = absurd cc
worked (Export name) h u = absurd cc
worked (Transferexport store key file) h u = absurd cc
worked (Checkpresentexport key) h u = absurd cc
worked (Removeexport key) h u = absurd cc
worked (Renameexport key onto) h u = absurd cc
worked (Value value) h u = absurd cc
worked (Creds user password) h u = absurd cc
worked (HostError text) h u = absurd cc

pub worked_due : (m : HostMessage) (prepared : Bool) (file : List ℕ) → is_some (key_in (Some m)) ≡ true → prepared ≡ true
    → file_of m ≡ file → is_utf8 file ≡ true → DueOf CallDue (work_due None [] prepared m)
worked_due m prepared file k p f u =
    subst (λ (b : Bool). DueOf CallDue (work_due None [] b m)) (sym p) (worked m k (ap is_utf8 f ∙ u))

-- ---- what is due in a job

pub not_asked : (d : CodeDue) (due : Due) → DueOf d due → (d ≡ CallDue → ⊥) → asked_by due ≡ None
not_asked NoDue Silence h n = refl
not_asked NoDue (Line line) h n = refl
not_asked NoDue (Asks asked) h n = absurd h
not_asked (LineDue message) Silence h n = refl
not_asked (LineDue message) (Line line) h n = refl
not_asked (LineDue message) (Asks asked) h n = absurd h
not_asked CallDue due h n = absurd (n refl)

pub some_asked : (due : Due) → DueOf CallDue due → is_some (asked_by due) ≡ true
some_asked Silence h = absurd h
some_asked (Line line) h = absurd h
some_asked (Asks asked) h = refl

pub line_of : (message : RemoteMsg) (due : Due) → DueOf (LineDue message) due → remote_line (remote_shown message) ∷ [] ≡ lines_by due
line_of message Silence h = absurd h
line_of message (Line line) h = ap (λ (m : RemoteMessage). remote_line m ∷ []) h.0
line_of message (Asks asked) h = absurd h

pub sayable_of : (message : RemoteMsg) (due : Due) → DueOf (LineDue message) due → IsSayable (remote_shown message)
sayable_of message Silence h = absurd h
sayable_of message (Line line) h = subst IsSayable (sym h.0) h.1
sayable_of message (Asks asked) h = absurd h

pub no_line : (d : CodeDue) (due : Due) → DueOf d due → (d ≡ NoDue) ⊎ (d ≡ CallDue) → [] ≡ lines_by due
no_line d Silence h n = refl
no_line d (Asks asked) h n = refl
no_line d (Line line) h (inl e) = absurd (subst (λ (x : CodeDue). DueOf x (Line line)) e h)
no_line d (Line line) h (inr e) = absurd (subst (λ (x : CodeDue). DueOf x (Line line)) e h)

pub untold : (next : Option (List ℕ)) (values : List (List ℕ)) (prepared store : Bool) (key file : List ℕ) → is_utf8 file ≡ false
    → asked_by (work_due next values prepared (Transfer store key file)) ≡ None
untold next values true store key file u = rw u refl
untold next values false store key file u = refl
