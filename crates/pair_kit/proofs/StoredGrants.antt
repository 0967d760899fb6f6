-- What the answer of a kit grants, by the call that was made for it.
use Rattle.std.proofs.Common.{ℕ, ◌≡◌, ◌&&◌, ◌||◌, not, Bool, true, false, cond, List, [], ◌∷◌, ◌++◌, map, Option, Some, None, codes, bytes_eq, is_some, refl, sym, ap, subst, ◌∙◌}
use Rattle.std.specs.Prelude.{IsTrue}
use Rattle.std.specs.Str.{is_utf8}
use Rattle.std.proofs.lemmas.Bool.{and_parts, false≢true}
use Rattle.std.proofs.lemmas.Slice.Eq.{bytes_eq-Decides}
use Rattle.annex_model.specs.declared.final_line.Final.TheVariants.{Done, Failed}
use Rattle.annex_model.specs.Messages.{RemoteMessage, TransferSuccess, TransferFailure, RemoveSuccess, RemoveFailure}
use Rattle.annex_model.specs.Messages.{HostMessage, AskExtensions, Prepare, Initremote, Transfer, Checkpresent, Remove, Listconfigs, Getcost, Getavailability, Getinfo, Whereis, Exportsupported, Export, Transferexport, Checkpresentexport, Removeexport, Renameexport, Value, Creds, HostError}
use Rattle.annex_model.specs.Messages.{IsAskable, IsSayable, is_sent_key, host_reading, remote_reading, remote_line}
use Rattle.annex_model.specs.Talks.{final_of, is_same}
use Rattle.annex_model.proofs.Readings.{canonical_remote_read}
use Rattle.kit_serve.specs.declared.kit.call.Said.{Said}
use Rattle.kit_serve.specs.declared.kit.call.Said.TheVariants.{Yes, No, Failure}
use Rattle.kit_serve.specs.declared.kit.call.Asked.{Asked}
use Rattle.kit_serve.specs.declared.kit.call.Asked.TheVariants.{Prepare as AskPrepare, Initialize as AskInitialize, Store as AskStore, Retrieve as AskRetrieve, Check as AskCheck, Remove as AskRemove}
use Rattle.kit_serve.specs.Kit.Kits.{Heard, Due, Silence, Line, Asks, messages, request_of, values_of, next_setting, awaits_value, is_readying, is_over, is_unexpected, is_error, is_value, is_prepared, readying, refusal, transfer_asked, final_line, work_due, expected_due, live_due, due_of, asked_by, said_by}
use Rattle.kit_serve.specs.Kit.Calls.{is_line_said}
use Rattle.kit_serve.proofs.KitLemmas.Behind.{request_pushed, request_of-push, messages-push}
use Rattle.kit_serve.proofs.KitLemmas.Following.{over_pushed}
use Rattle.pair_kit.specs.declared.answer.Answer.{Answer}
use Rattle.pair_kit.specs.Shelves.{Items, content}
use Rattle.pair_kit.specs.Cues.{settings}
use Rattle.pair_kit.specs.Works.{found, is_there, word, call_for, bytes_found, bytes_put, last_said, answered}
use Rattle.pair_kit.specs.Paces.{sets_nothing}
use Rattle.pair_kit.specs.Stored.{is_success, granted, granted_by}
use Rattle.pair_kit.proofs.Kits.{call_is_line}
use Rattle.pair_kit.proofs.PaceKits.{only_final}
use Rattle.annex_model.proofs.Across.{same_way}

-- ---- lines that grant nothing

-- neither a STORE, nor a RETRIEVE, nor a REMOVE
abbrev pub is_still : Option HostMessage → Bool
is_still (Some (Transfer store key file)) = false
is_still (Some (Remove key)) = false
is_still q = true

-- the lines that grant one of them
abbrev pub is_grant : RemoteMessage → Bool
is_grant (TransferSuccess store key) = true
is_grant (RemoveSuccess key) = true
is_grant line = false

failed_if : (b : Bool) → is_success (cond b (Some Failed) None) ≡ false
failed_if true = refl
failed_if false = refl

transfer_refused : (store : Bool) (key file : List ℕ) (line : RemoteMessage) → is_grant line ≡ false → is_success (final_of (Transfer store key file) (Some line ∷ [])) ≡ false
transfer_refused store key file (TransferSuccess s k) none = cc
transfer_refused store key file (TransferFailure s k text) none = failed_if (is_same s store && bytes_eq k key)
transfer_refused store key file line none = refl

remove_refused : (key : List ℕ) (line : RemoteMessage) → is_grant line ≡ false → is_success (final_of (Remove key) (Some line ∷ [])) ≡ false
remove_refused key (RemoveSuccess k) none = cc
remove_refused key (RemoveFailure k text) none = failed_if (bytes_eq k key)
remove_refused key line none = refl

still_if : (b : Bool) (q : HostMessage) → is_still (Some q) ≡ true → is_still (cond b (Some q) None) ≡ true
still_if true q still = still
still_if false q still = refl

still_by : (q : Option HostMessage) (line : RemoteMessage) → is_grant line ≡ false → is_still (granted q (Some line)) ≡ true
still_by None line none = refl
still_by (Some (Transfer store key file)) line none =
    ap (λ (b : Bool). is_still (cond b (Some (Transfer store key file)) None)) (transfer_refused store key file line none)
still_by (Some (Remove key)) line none =
    ap (λ (b : Bool). is_still (cond b (Some (Remove key)) None)) (remove_refused key line none)
still_by (Some q) line none = still_if (is_success (final_of q (Some line ∷ []))) q refl

-- ---- lines that grant the request

transfer_granted : (store : Bool) (key file : List ℕ) → granted (Some (Transfer store key file)) (Some (TransferSuccess store key)) ≡ Some (Transfer store key file)
transfer_granted store key file =
    let both : (is_same store store && bytes_eq key key) ≡ true = ap (λ (b : Bool). b && bytes_eq key key) (same_way store) ∙ (bytes_eq-Decides key key).1 refl in
    ap (λ (b : Bool). cond (is_success (cond b (Some Done) None)) (Some (Transfer store key file)) None) both

remove_granted : (key : List ℕ) → granted (Some (Remove key)) (Some (RemoveSuccess key)) ≡ Some (Remove key)
remove_granted key = ap (λ (b : Bool). cond (is_success (cond b (Some Done) None)) (Some (Remove key)) None) ((bytes_eq-Decides key key).1 refl)

-- ---- what is due, and what is known of it

-- what is answered is this request, its line is read as it, and the kit may hear any request after it
pub record IsCall (request read : Option HostMessage) (free : Bool) (m : HostMessage) : Type 0 where
  pub request_is : request ≡ Some m
  pub read_is : read ≡ Some m
  pub free_is : free ≡ true
  pub askable : IsAskable m

-- a line that is due grants nothing, and a call is due only for its own request
abbrev pub Suits : Option HostMessage → Option HostMessage → Bool → Due → Type 0
Suits request read free Silence = Unit {0}
Suits request read free (Line line) = (is_grant line ≡ false) × IsSayable line
Suits request read free (Asks (AskPrepare values)) = is_readying request ≡ true
Suits request read free (Asks (AskInitialize values)) = is_readying request ≡ true
Suits request read free (Asks (AskStore key file)) = IsCall request read free (Transfer true key file)
Suits request read free (Asks (AskRetrieve key file)) = IsCall request read free (Transfer false key file)
Suits request read free (Asks (AskCheck key)) = IsCall request read free (Checkpresent key)
Suits request read free (Asks (AskRemove key)) = IsCall request read free (Remove key)

-- a request for which the remote is called, once the kit is prepared
abbrev pub is_call : HostMessage → Bool
is_call (Transfer store key file) = true
is_call (Checkpresent key) = true
is_call (Remove key) = true
is_call m = false

transfer_key : (store : Bool) (key file : List ℕ) → IsAskable (Transfer store key file) → IsTrue (is_sent_key key)
transfer_key store key file a = a.1.0

suits_ready : (next : Option (List ℕ)) (values : List (List ℕ)) (request read : Option HostMessage) (free : Bool) → is_readying request ≡ true
    → Suits request read free (readying next values)
suits_ready (Some name) values request read free ready = (refl, tt)
suits_ready None values request read free ready = ready

suits_transfer : (store text : Bool) (key file : List ℕ) (request read : Option HostMessage) (free : Bool) → IsCall request read free (Transfer store key file)
    → Suits request read free (cond text (Asks (transfer_asked store key file)) (refusal (Transfer store key file) (codes "not text")))
suits_transfer true true key file request read free call = call
suits_transfer false true key file request read free call = call
suits_transfer true false key file request read free call = (refl, (tt, (transfer_key true key file call.askable, tt)))
suits_transfer false false key file request read free call = (refl, (tt, (transfer_key false key file call.askable, tt)))

suits_work : (next : Option (List ℕ)) (values : List (List ℕ)) (prepared awaits : Bool) (earlier request read : Option HostMessage) (free : Bool) (m : HostMessage)
    → request ≡ request_pushed earlier m → (awaits ≡ true → is_readying earlier ≡ true) → is_unexpected awaits m ≡ false
    → (is_call m ≡ true → IsCall request read free m) → Suits request read free (work_due next values prepared m)
suits_work next values prepared awaits earlier request read free (AskExtensions names) is ready expected call = (refl, tt)
suits_work next values prepared awaits earlier request read free Prepare is ready expected call = suits_ready next values request read free (ap is_readying is)
suits_work next values prepared awaits earlier request read free Initremote is ready expected call = suits_ready next values request read free (ap is_readying is)
suits_work next values prepared true earlier request read free (Value value) is ready expected call =
    suits_ready next values request read free (ap is_readying is ∙ ready refl)
suits_work next values prepared false earlier request read free (Value value) is ready expected call = absurd (false≢true (sym expected))
suits_work next values false awaits earlier request read free (Transfer store key file) is ready expected call =
    (refl, (tt, (transfer_key store key file (call refl).askable, tt)))
suits_work next values true awaits earlier request read free (Transfer store key file) is ready expected call =
    suits_transfer store (is_utf8 file) key file request read free (call refl)
suits_work next values false awaits earlier request read free (Checkpresent key) is ready expected call = (refl, ((call refl).askable, tt))
suits_work next values true awaits earlier request read free (Checkpresent key) is ready expected call = call refl
suits_work next values false awaits earlier request read free (Remove key) is ready expected call = (refl, ((call refl).askable, tt))
suits_work next values true awaits earlier request read free (Remove key) is ready expected call = call refl
suits_work next values prepared awaits earlier request read free Listconfigs is ready expected call = (refl, tt)
suits_work next values prepared awaits earlier request read free Getcost is ready expected call = (refl, tt)
suits_work next values prepared awaits earlier request read free Getavailability is ready expected call = (refl, tt)
suits_work next values prepared awaits earlier request read free Getinfo is ready expected call = (refl, tt)
suits_work next values prepared awaits earlier request read free (Whereis key) is ready expected call = (refl, tt)
suits_work next values prepared awaits earlier request read free Exportsupported is ready expected call = (refl, tt)
suits_work next values prepared awaits earlier request read free (Export name) is ready expected call = tt
suits_work next values prepared awaits earlier request read free (Transferexport store key file) is ready expected call = (refl, tt)
suits_work next values prepared awaits earlier request read free (Checkpresentexport key) is ready expected call = (refl, tt)
suits_work next values prepared awaits earlier request read free (Removeexport key) is ready expected call = (refl, tt)
suits_work next values prepared awaits earlier request read free (Renameexport key onto) is ready expected call = (refl, tt)
suits_work next values prepared awaits earlier request read free (Creds user password) is ready expected call = tt
suits_work next values prepared awaits earlier request read free (HostError text) is ready expected call = tt

pub suits_due : (h : List Heard) (m : HostMessage) (read : Option HostMessage) (free : Bool)
    → (is_over settings (messages h) ≡ false → is_unexpected (awaits_value settings (messages h)) m ≡ false → is_call m ≡ true → IsCall (request_of (messages h ++ m ∷ [])) read free m)
    → Suits (request_of (messages h ++ m ∷ [])) read free (due_of settings h m)
suits_due h m read free call = go (is_over settings (messages h)) refl (is_unexpected (awaits_value settings (messages h)) m) refl
  where
    ready : awaits_value settings (messages h) ≡ true → is_readying (request_of (messages h)) ≡ true
    ready e = (and_parts (is_readying (request_of (messages h))) (is_some (next_setting settings (messages h))) e).0

    go : (over : Bool) → is_over settings (messages h) ≡ over → (unexpected : Bool) → is_unexpected (awaits_value settings (messages h)) m ≡ unexpected
        → Suits (request_of (messages h ++ m ∷ [])) read free (live_due over (expected_due unexpected (work_due (next_setting settings (messages h ++ m ∷ [])) (values_of (messages h ++ m ∷ [])) (is_prepared h) m)))
    go true e unexpected f = tt
    go false e true f = (refl, tt)
    go false e false f =
        suits_work (next_setting settings (messages h ++ m ∷ [])) (values_of (messages h ++ m ∷ [])) (is_prepared h) (awaits_value settings (messages h))
        (request_of (messages h)) (request_of (messages h ++ m ∷ [])) read free m (request_of-push (messages h) m) ready f (call e f)

-- ---- after a call

pub call_request : (earlier : Option HostMessage) (m : HostMessage) → is_call m ≡ true → request_pushed earlier m ≡ Some m
call_request earlier (Value value) called = cc
call_request earlier m called = refl

pub call_value : (m : HostMessage) → is_call m ≡ true → is_value m ≡ false
call_value (Value value) called = cc
call_value m called = refl

call_error : (m : HostMessage) → is_call m ≡ true → is_error m ≡ false
call_error (HostError text) called = cc
call_error m called = refl

call_ready : (earlier : Option HostMessage) (m : HostMessage) → is_call m ≡ true → is_readying (request_pushed earlier m) ≡ false
call_ready earlier Prepare called = cc
call_ready earlier Initremote called = cc
call_ready earlier (Value value) called = cc
call_ready earlier m called = refl

-- the kit may hear any request
pub call_free : (h : List Heard) (e : Heard) → is_over settings (messages h) ≡ false → is_unexpected (awaits_value settings (messages h)) e.message ≡ false → is_call e.message ≡ true
    → (not (is_over settings (messages (h ++ e ∷ []))) && not (awaits_value settings (messages (h ++ e ∷ [])))) ≡ true
call_free h e live expected called =
    let over : is_over settings (messages (h ++ e ∷ [])) ≡ false =
    over_pushed settings h e
    ∙ ap (λ (b : Bool). b || (is_error e.message || is_unexpected (awaits_value settings (messages h)) e.message)) live
    ∙ ap (λ (b : Bool). b || is_unexpected (awaits_value settings (messages h)) e.message) (call_error e.message called)
    ∙ expected in
    let ready : is_readying (request_of (messages (h ++ e ∷ []))) ≡ false =
    ap (λ (ms : List HostMessage). is_readying (request_of ms)) (messages-push h e)
    ∙ ap is_readying (request_of-push (messages h) e.message)
    ∙ call_ready (request_of (messages h)) e.message called in
    let awaits : awaits_value settings (messages (h ++ e ∷ [])) ≡ false = ap (λ (b : Bool). b && is_some (next_setting settings (messages (h ++ e ∷ [])))) ready in
    ap (λ (b : Bool). not b && not (awaits_value settings (messages (h ++ e ∷ [])))) over ∙ ap not awaits

-- ---- what the answer does

-- at most one answer, which grants none of the three
abbrev pub AreStill : List Answer → Type 0
AreStill [] = Unit {0}
AreStill (a ∷ []) = is_still (granted_by a) ≡ true
AreStill (a ∷ b ∷ answers) = ⊥

-- one answer, which grants this request, with these bytes
pub record IsOne (q : HostMessage) (bytes : List ℕ) (answers : List Answer) : Type 0 where
  pub answer : Answer
  pub one : answers ≡ answer ∷ []
  pub grants : granted_by answer ≡ Some q
  pub bytes_are : answer.bytes ≡ bytes

-- the request is granted with what was found, if it was
abbrev pub Grants : HostMessage → Option (List ℕ) → List Answer → Type 0
Grants q None answers = AreStill answers
Grants q (Some bytes) answers = IsOne q bytes answers

-- by the call
abbrev pub Effect : Items → Items → Option Asked → List Answer → Type 0
Effect keys files None answers = AreStill answers
Effect keys files (Some (AskPrepare values)) answers = AreStill answers
Effect keys files (Some (AskInitialize values)) answers = AreStill answers
Effect keys files (Some (AskStore key file)) answers = Grants (Transfer true key file) (content file files) answers
Effect keys files (Some (AskRetrieve key file)) answers = Grants (Transfer false key file) (content key keys) answers
Effect keys files (Some (AskCheck key)) answers = AreStill answers
Effect keys files (Some (AskRemove key)) answers = IsOne (Remove key) [] answers

silent : (c : ℕ) (text : List ℕ) (free : Bool) (bytes : List ℕ) → AreStill (answered c text (last_said free []) bytes)
silent c text true bytes = tt
silent c text false bytes = tt

still_said : (c : ℕ) (text : List ℕ) (free : Bool) (line : RemoteMessage) (bytes : List ℕ) → is_grant line ≡ false → IsSayable line
    → AreStill (answered c text (last_said free (remote_line line ∷ [])) bytes)
still_said c text true line bytes none sayable =
    ap (λ (r : Option RemoteMessage). is_still (granted (host_reading text) r)) (canonical_remote_read line sayable) ∙ still_by (host_reading text) line none
still_said c text false line bytes none sayable = tt

still_call : (c : ℕ) (text : List ℕ) (request : Option HostMessage) (free : Bool) (m : HostMessage) (said : Said) (bytes : List ℕ) → IsCall request (host_reading text) free m
    → is_grant (final_line (Some m) said) ≡ false → IsSayable (final_line (Some m) said)
    → AreStill (answered c text (last_said free (remote_line (final_line request said) ∷ [])) bytes)
still_call c text request free m said bytes call none sayable =
    subst (λ (r : Option HostMessage). AreStill (answered c text (last_said free (remote_line (final_line r said) ∷ [])) bytes)) (sym call.request_is)
    (still_said c text free (final_line (Some m) said) bytes none sayable)

one_said : (c : ℕ) (text : List ℕ) (request : Option HostMessage) (free : Bool) (m : HostMessage) (line : RemoteMessage) (bytes : List ℕ) → IsCall request (host_reading text) free m
    → final_line (Some m) Yes ≡ line → IsSayable line → granted (Some m) (Some line) ≡ Some m
    → IsOne m bytes (answered c text (last_said free (remote_line (final_line request Yes) ∷ [])) bytes)
one_said c text request free m line bytes call is sayable grants = record {
  answer = record { child = c; request = text; line = remote_line line; bytes = bytes };
  one = ap (λ (r : Option HostMessage). answered c text (last_said free (remote_line (final_line r Yes) ∷ [])) bytes) call.request_is
      ∙ ap (λ (f : Bool). answered c text (last_said f (remote_line (final_line (Some m) Yes) ∷ [])) bytes) call.free_is
      ∙ ap (λ (l : RemoteMessage). answered c text (Some (remote_line l)) bytes) is;
  grants = ap (λ (q : Option HostMessage). granted q (remote_reading (remote_line line))) call.read_is
      ∙ ap (λ (r : Option RemoteMessage). granted (Some m) r) (canonical_remote_read line sayable) ∙ grants;
  bytes_are = refl;
}

transfer_effect : (c : ℕ) (text : List ℕ) (request : Option HostMessage) (free store : Bool) (key file reason : List ℕ) (o : Option (List ℕ))
    → IsCall request (host_reading text) free (Transfer store key file)
    → Grants (Transfer store key file) o (answered c text (last_said free (remote_line (final_line request (found o reason)) ∷ [])) (bytes_found o))
transfer_effect c text request free store key file reason None call =
    still_call c text request free (Transfer store key file) (Failure reason) [] call refl (tt, (transfer_key store key file call.askable, tt))
transfer_effect c text request free store key file reason (Some bytes) call =
    one_said c text request free (Transfer store key file) (TransferSuccess store key) bytes call refl (tt, transfer_key store key file call.askable) (transfer_granted store key file)

check_effect : (c : ℕ) (text : List ℕ) (request : Option HostMessage) (free : Bool) (key : List ℕ) (o : Option (List ℕ)) → IsCall request (host_reading text) free (Checkpresent key)
    → AreStill (answered c text (last_said free (remote_line (final_line request (is_there o)) ∷ [])) [])
check_effect c text request free key None call = still_call c text request free (Checkpresent key) No [] call refl call.askable
check_effect c text request free key (Some bytes) call = still_call c text request free (Checkpresent key) Yes [] call refl call.askable

prepare_line : (request : Option HostMessage) → is_readying request ≡ true → (is_grant (final_line request Yes) ≡ false) × IsSayable (final_line request Yes)
prepare_line (Some Prepare) ready = (refl, tt)
prepare_line (Some Initremote) ready = (refl, tt)
prepare_line None ready = (refl, tt)
prepare_line (Some m) ready = absurd (false≢true ready)

-- the one line that is said for a call
effect_said : (keys files : Items) (c : ℕ) (text : List ℕ) (request : Option HostMessage) (free : Bool) (asked : Asked) → Suits request (host_reading text) free (Asks asked)
    → Effect keys files (Some asked) (answered c text (last_said free (remote_line (final_line request (word keys files asked)) ∷ [])) (bytes_put keys files (Some asked)))
effect_said keys files c text request free (AskPrepare values) s =
    let line = prepare_line request s in
    still_said c text free (final_line request Yes) [] line.0 line.1
effect_said keys files c text request free (AskInitialize values) s =
    let line = prepare_line request s in
    still_said c text free (final_line request Yes) [] line.0 line.1
effect_said keys files c text request free (AskStore key file) s = transfer_effect c text request free true key file (codes "no such file") (content file files) s
effect_said keys files c text request free (AskRetrieve key file) s = transfer_effect c text request free false key file (codes "no such key") (content key keys) s
effect_said keys files c text request free (AskCheck key) s = check_effect c text request free key (content key keys) s
effect_said keys files c text request free (AskRemove key) s = one_said c text request free (Remove key) (RemoveSuccess key) [] s refl s.askable (remove_granted key)

pub effect : (keys files : Items) (c : ℕ) (text : List ℕ) (request : Option HostMessage) (free : Bool) (due : Due) → Suits request (host_reading text) free due
    → Effect keys files (asked_by due)
    (answered c text (last_said free (map remote_line (said_by due request (call_for keys files (asked_by due))))) (bytes_put keys files (asked_by due)))
effect keys files c text request free Silence s = silent c text free []
effect keys files c text request free (Line line) s = still_said c text free line [] s.0 s.1
effect keys files c text request free (Asks asked) s =
    let said : Said = word keys files asked in
    let nothing = (and_parts (sets_nothing said) (is_line_said said) (call_is_line keys files (Some asked))).0 in
    subst (λ (l : List RemoteMessage). Effect keys files (Some asked) (answered c text (last_said free (map remote_line l)) (bytes_put keys files (Some asked)))) (sym (only_final request said nothing))
    (effect_said keys files c text request free asked s)
