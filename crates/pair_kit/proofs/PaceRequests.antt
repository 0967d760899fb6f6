-- What is asked is on one line, and is what a kit that waits expects.
use Rattle.std.proofs.Common.{ℕ, ◌≡◌, Bool, true, false, not, List, [], ◌∷◌, ◌++◌, Option, Some, None, is_some, bytes_eq, refl, sym, ap, ◌∙◌}
use Rattle.std.specs.Prelude.{◌&&◌}
use Rattle.std.proofs.lemmas.Bool.{not-true, and_parts as both}
use Rattle.std.proofs.lemmas.Slice.Eq.{bytes_eq-Decides}
use Rattle.ann_key.specs.Keys.{Parts, key_reading, is_key}
use Rattle.annex_model.specs.Extensions.{names_of}
use Rattle.annex_model.specs.Lines.{has_newline}
use Rattle.annex_model.specs.Messages.{HostMessage, AskExtensions, Prepare, Initremote, Transfer, Checkpresent, Remove, Listconfigs, Getcost, Getavailability, Getinfo, Whereis, Exportsupported, Export, Transferexport, Checkpresentexport, Removeexport, Renameexport, Value, Creds, HostError, IsAskable, host_line, is_sent_key, is_space}
use Rattle.std.specs.List.{list_any}
use Rattle.annex_model.specs.Turns.{turn_of, is_at}
use Rattle.journal_model.specs.declared.entry.Entry.{Entry}
use Rattle.journal_model.specs.Journal.{any, offers}
use Rattle.journal_model.specs.Legality.{is_text, suits_child}
use Rattle.kit_serve.specs.declared.kit.kit.Stage.TheVariants.{Waiting}
use Rattle.kit_serve.specs.Kit.Kits.{is_error as is_host_error, is_unexpected, is_over, awaits_value, is_readying, next_setting, request_of, values_of}
use Rattle.kit_serve.specs.Kit.Stages.{is_free, stage_by, stage_of}
use Rattle.kit_serve.proofs.KitLemmas.Behind.{request_pushed, request_of-push}
use Rattle.kit_serve.proofs.KitLemmas.KeyLines.{fields_free, read_free}
use Rattle.pair_kit.specs.Cues.{settings}
use Rattle.pair_kit.specs.Paces.{is_name}
use Rattle.pair_kit.proofs.PaceKits.{Expects}
use Rattle.journal_model.proofs.FieldLines.{text_fits}

-- ---- the line of a request

key_free : (key : List ℕ) → is_sent_key key ≡ true → has_newline key ≡ false
key_free key h = go (key_reading key) refl (both (is_key key) (not (list_any is_space key)) h).0
  where
    go : (r : Option Parts) → key_reading key ≡ r → is_some r ≡ true → has_newline key ≡ false
    go (Some parts) e s = read_free key parts e
    go None e s = absurd cc

text_free : (text : List ℕ) → is_text text ≡ true → has_newline text ≡ false
text_free text h = not-true (has_newline text) (text_fits text h)

names_free : (names : List ℕ) (offered : Bool) → bytes_eq names (names_of offered) ≡ true → has_newline names ≡ false
names_free names offered h = ap has_newline ((bytes_eq-Decides names (names_of offered)).0 h) ∙ go offered
  where
    go : (b : Bool) → has_newline (names_of b) ≡ false
    go true = refl
    go false = refl

pub name_line_free : (name : List ℕ) → is_text name ≡ true → has_newline (host_line (Export name)) ≡ false
name_line_free name h = text_free name h

pub value_line_free : (value : List ℕ) → has_newline value ≡ false → has_newline (host_line (Value value)) ≡ false
value_line_free value h = h

-- the message is no reply and no name
abbrev pub is_asking : HostMessage → Bool
is_asking (Export name) = false
is_asking (Value value) = false
is_asking (Creds user password) = false
is_asking (HostError text) = false
is_asking q = true

-- the line of a request that suits a child is one line
pub request_line_free : (past : List Entry) (c : ℕ) (q : HostMessage) → IsAskable q → suits_child past c q ≡ true → is_asking q ≡ true → has_newline (host_line q) ≡ false
request_line_free past c (AskExtensions names) a s k = names_free names (any (offers c) past) s
request_line_free past c Prepare a s k = refl
request_line_free past c Initremote a s k = refl
request_line_free past c (Transfer true key file) a s k = fields_free key file (key_free key a.1.0) (text_free file s)
request_line_free past c (Transfer false key file) a s k = fields_free key file (key_free key a.1.0) (text_free file s)
request_line_free past c (Checkpresent key) a s k = key_free key a
request_line_free past c (Remove key) a s k = key_free key a
request_line_free past c Listconfigs a s k = refl
request_line_free past c Getcost a s k = refl
request_line_free past c Getavailability a s k = refl
request_line_free past c Getinfo a s k = refl
request_line_free past c (Whereis key) a s k = key_free key a
request_line_free past c Exportsupported a s k = refl
request_line_free past c (Export name) a s k = absurd cc
request_line_free past c (Transferexport true key file) a s k = fields_free key file (key_free key a.1.0) (text_free file s)
request_line_free past c (Transferexport false key file) a s k = fields_free key file (key_free key a.1.0) (text_free file s)
request_line_free past c (Checkpresentexport key) a s k = key_free key a
request_line_free past c (Removeexport key) a s k = key_free key a
request_line_free past c (Renameexport key onto) a s k = fields_free key onto (key_free key a.0) (text_free onto s)
request_line_free past c (Value value) a s k = absurd cc
request_line_free past c (Creds user password) a s k = absurd cc
request_line_free past c (HostError text) a s k = absurd cc

-- ---- a request

-- a message that may be asked at all is one
pub turn_asks : (q : HostMessage) (job : ℕ) → is_at (turn_of q) job ≡ true → is_asking q ≡ true
turn_asks (Export name) job h = absurd cc
turn_asks (Value value) job h = absurd cc
turn_asks (Creds user password) job h = absurd cc
turn_asks (HostError text) job h = absurd cc
turn_asks q job h = refl

pub asks_no_name : (q : HostMessage) → is_asking q ≡ true → is_name q ≡ false
asks_no_name (Export name) h = absurd cc
asks_no_name q h = refl

asks_no_error : (q : HostMessage) → is_asking q ≡ true → is_host_error q ≡ false
asks_no_error (HostError text) h = absurd cc
asks_no_error q h = refl

asks_expected : (q : HostMessage) → is_asking q ≡ true → is_unexpected false q ≡ false
asks_expected (Value value) h = absurd cc
asks_expected (Creds user password) h = absurd cc
asks_expected q h = refl

asks_pushed : (r : Option HostMessage) (q : HostMessage) → is_asking q ≡ true → request_pushed r q ≡ Some q
asks_pushed r (Value value) h = absurd cc
asks_pushed r q h = refl

-- it is what a kit answers from then on
pub asks_current : (ms : List HostMessage) (q : HostMessage) → is_asking q ≡ true → request_of (ms ++ q ∷ []) ≡ Some q
asks_current ms q h = request_of-push ms q ∙ asks_pushed (request_of ms) q h

-- ---- what a kit expects

waiting_awaits : (a : Bool) (r : Option HostMessage) (vs : List (List ℕ)) → stage_by false a r vs ≡ Waiting → a ≡ false
waiting_awaits true r vs h = absurd cc
waiting_awaits false r vs h = refl

busy_awaits : (a : Bool) (r : Option HostMessage) (vs : List (List ℕ)) → is_free (stage_by false a r vs) ≡ false → a ≡ true
busy_awaits true r vs h = refl
busy_awaits false r vs h = absurd cc

not_awaiting : (ms : List HostMessage) → is_over settings ms ≡ false → stage_of settings ms ≡ Waiting → awaits_value settings ms ≡ false
not_awaiting ms on h =
    waiting_awaits (awaits_value settings ms) (request_of ms) (values_of ms) (sym (ap (λ (b : Bool). stage_by b (awaits_value settings ms) (request_of ms) (values_of ms)) on) ∙ h)

awaiting : (ms : List HostMessage) → is_over settings ms ≡ false → is_free (stage_of settings ms) ≡ false → awaits_value settings ms ≡ true
awaiting ms on h =
    busy_awaits (awaits_value settings ms) (request_of ms) (values_of ms) (sym (ap (λ (b : Bool). is_free (stage_by b (awaits_value settings ms) (request_of ms) (values_of ms))) on) ∙ h)

-- a kit that waits expects a request
pub expects_request : (ms : List HostMessage) (q : HostMessage) → is_over settings ms ≡ false → stage_of settings ms ≡ Waiting → is_asking q ≡ true → Expects ms q
expects_request ms q on waits asking = record {
  before = on;
  no_error = asks_no_error q asking;
  expected = ap (λ (b : Bool). is_unexpected b q) (not_awaiting ms on waits) ∙ asks_expected q asking;
}

-- and a name
pub expects_name : (ms : List HostMessage) (name : List ℕ) → is_over settings ms ≡ false → stage_of settings ms ≡ Waiting → Expects ms (Export name)
expects_name ms name on waits = record { before = on; no_error = refl; expected = ap (λ (b : Bool). is_unexpected b (Export name)) (not_awaiting ms on waits) }

-- after a name a request
pub expects_named : (ms : List HostMessage) (name : List ℕ) (q : HostMessage) → is_over settings (ms ++ Export name ∷ []) ≡ false → is_asking q ≡ true → Expects (ms ++ Export name ∷ []) q
expects_named ms name q on asking =
    let named : List HostMessage = ms ++ Export name ∷ [] in
    let free : awaits_value settings named ≡ false = ap (λ (r : Option HostMessage). is_readying r && is_some (next_setting settings named)) (request_of-push ms (Export name)) in
    record { before = on; no_error = asks_no_error q asking; expected = ap (λ (b : Bool). is_unexpected b q) free ∙ asks_expected q asking }

-- a kit that asked for a value expects one
pub expects_value : (ms : List HostMessage) (value : List ℕ) → is_over settings ms ≡ false → is_free (stage_of settings ms) ≡ false → Expects ms (Value value)
expects_value ms value on busy = record { before = on; no_error = refl; expected = ap (λ (b : Bool). is_unexpected b (Value value)) (awaiting ms on busy) }
