-- What a kit of the world says to one message that it expects: one line, and nothing to a name.
use Rattle.std.proofs.Common.{ℕ, ◌≡◌, ◌⊎◌, inl, inr, Bool, true, false, not, cond, List, [], ◌∷◌, ◌++◌, length, slice_get, Option, Some, None, is_some, codes, IsTrue, bytes_eq, refl, sym, ap, subst, ◌∙◌}
use Rattle.std.specs.Prelude.{◌&&◌, ◌||◌}
use Rattle.std.specs.Str.{is_utf8}
use Rattle.std.proofs.lemmas.Bool.{and_parts, or_parts}
use Rattle.annex_model.specs.Lines.{has_newline}
use Rattle.annex_model.specs.declared.final_line.Final.{Final}
use Rattle.annex_model.specs.declared.final_line.Final.TheVariants.{Done, Failed, Absent, Unknown, Unsupported}
use Rattle.annex_model.specs.Messages.{RemoteMessage, Extensions, UnsupportedRequest, Getconfig, remote_line, IsSayable, IsAskable}
use Rattle.annex_model.specs.Messages.{HostMessage, AskExtensions, Prepare, Initremote, Transfer, Checkpresent, Remove, Listconfigs, Getcost, Getavailability, Getinfo, Whereis, Exportsupported, Export, Transferexport, Checkpresentexport, Removeexport, Renameexport, Value, Creds, HostError}
use Rattle.annex_model.specs.Tags.{names_async}
use Rattle.annex_model.specs.Talks.{final_of, is_aside}
use Rattle.journal_model.specs.Due.{is_error}
use Rattle.journal_model.specs.Replies.{is_setting}
use Rattle.kit_serve.specs.declared.kit.call.Said.{Said}
use Rattle.kit_serve.specs.declared.kit.call.Said.TheVariants.{Yes, No, Failure, Set}
use Rattle.kit_serve.specs.declared.kit.call.Asked.{Asked}
use Rattle.kit_serve.specs.declared.kit.call.Asked.TheVariants.{Prepare as AskPrepare, Check as AskCheck, Remove as AskRemove}
use Rattle.kit_serve.specs.declared.kit.call.Call.{Call}
use Rattle.kit_serve.specs.declared.kit.kit.Stage.{Stage}
use Rattle.kit_serve.specs.declared.kit.kit.Stage.TheVariants.{Waiting, Readying}
use Rattle.kit_serve.specs.Kit.Calls.{is_line_said}
use Rattle.kit_serve.specs.Kit.Kits.{Heard, messages, has_line_fields, is_error as is_host_error, is_readying, is_prepared, is_unexpected, ends_kit, is_over, awaits_value, next_setting, request_of, values_of, final_line, final_lines, Due, Asks, refusal, readying, transfer_asked, work_due, expected_due, live_due, due_of, said_by, IsAskedBy}
use Rattle.kit_serve.specs.Kit.Stages.{is_free, stage_by, stage_of}
use Rattle.kit_serve.proofs.KitLemmas.Behind.{request_pushed, values_pushed, some_behind-push, request_of-push, values_of-push}
use Rattle.kit_serve.proofs.KitLemmas.Endless.{final_free}
use Rattle.pair_kit.specs.Cues.{settings}
use Rattle.pair_kit.specs.Paces.{is_name, sets_nothing, is_line_call}
use Rattle.ann_key.proofs.Lists.{same_name as own}
use Rattle.std.proofs.lemmas.Option.{same_Some as some_is}

-- ---- one line

-- the kit asks for the value of its setting
pub record GoesOn (reply : RemoteMessage) (stage : Stage) : Type 0 where
  pub is : reply ≡ Getconfig (codes "directory")
  pub busy : is_free stage ≡ false

-- the request is answered
pub record Finishes (request : HostMessage) (reply : RemoteMessage) (stage : Stage) : Type 0 where
  pub final : Final
  pub settles : final_of request (Some reply ∷ []) ≡ Some final
  pub plain : is_aside reply ≡ false
  pub free : stage ≡ Waiting

-- neither a fault, nor a setting, nor an answer that names ASYNC
abbrev pub is_fine : RemoteMessage → Bool
is_fine m = not (is_error (Some m)) && (not (is_setting m) && not (names_async (Some m)))

-- These messages are one, which can be said on a line. It asks for a value, or is the answer to the request.
pub record SaysOne (request : HostMessage) (said : List RemoteMessage) (stage : Stage) : Type 0 where
  pub reply : RemoteMessage
  pub is : said ≡ reply ∷ []
  pub sayable : IsSayable reply
  pub line : has_newline (remote_line reply) ≡ false
  pub fine : is_fine reply ≡ true
  pub next : GoesOn reply stage ⊎ Finishes request reply stage

own_says : (m q : HostMessage) (said : List RemoteMessage) (stage : Stage) → Some m ≡ Some q → SaysOne m said stage → SaysOne q said stage
own_says m q said stage is s = subst (λ (x : HostMessage). SaysOne x said stage) (some_is m q is) s

-- ---- the lines

unsupported : (q : HostMessage) → SaysOne q (UnsupportedRequest ∷ []) Waiting
unsupported q = record {
  reply = UnsupportedRequest;
  is = refl;
  sayable = tt;
  line = refl;
  fine = refl;
  next = inr (record { final = Unsupported; settles = refl; plain = refl; free = refl });
}

extensions : (names : List ℕ) → SaysOne (AskExtensions names) (Extensions [] ∷ []) Waiting
extensions names = record {
  reply = Extensions [];
  is = refl;
  sayable = tt;
  line = refl;
  fine = refl;
  next = inr (record { final = Done; settles = refl; plain = refl; free = refl });
}

asks_value : (q : HostMessage) (by_prepare : Bool) (values : List (List ℕ)) → SaysOne q (Getconfig (codes "directory") ∷ []) (Readying by_prepare values)
asks_value q by_prepare values = record {
  reply = Getconfig (codes "directory");
  is = refl;
  sayable = tt;
  line = refl;
  fine = refl;
  next = inl (record { is = refl; busy = refl });
}

finishes : (q : HostMessage) (said : Said) (f : Final) → IsSayable (final_line (Some q) said) → is_fine (final_line (Some q) said) ≡ true
    → is_aside (final_line (Some q) said) ≡ false → final_of q (Some (final_line (Some q) said) ∷ []) ≡ Some f → IsTrue (has_line_fields q) → IsTrue (is_line_said said)
    → SaysOne q (final_line (Some q) said ∷ []) Waiting
finishes q said f sayable fine plain settles fields text = record {
  reply = final_line (Some q) said;
  is = refl;
  sayable = sayable;
  line = final_free q said fields text;
  fine = fine;
  next = inr (record { final = f; settles = settles; plain = plain; free = refl });
}

chosen : (b : Bool) (f : Final) → b ≡ true → cond {A = Option Final} b (Some f) None ≡ Some f
chosen b f e = ap (λ (x : Bool). cond {A = Option Final} x (Some f) None) e

-- one line is said for a word that sets nothing
pub only_final : (request : Option HostMessage) (said : Said) → sets_nothing said ≡ true → final_lines request said ≡ final_line request said ∷ []
only_final (Some Initremote) (Set pairs) nothing = absurd cc
only_final request said nothing = refl

-- what the remote said answers the request
answers : (q : HostMessage) (said : Said) → sets_nothing said ≡ true → IsAskable q → IsTrue (has_line_fields q) → IsTrue (is_line_said said)
    → SaysOne q (final_line (Some q) said ∷ []) Waiting
answers q (Set pairs) nothing a fields text = absurd cc
answers Prepare Yes nothing a fields text = finishes Prepare Yes Done tt refl refl refl fields text
answers Prepare No nothing a fields text = finishes Prepare No Failed tt refl refl refl fields text
answers Prepare (Failure t) nothing a fields text = finishes Prepare (Failure t) Failed tt refl refl refl fields text
answers Initremote Yes nothing a fields text = finishes Initremote Yes Done tt refl refl refl fields text
answers Initremote No nothing a fields text = finishes Initremote No Failed tt refl refl refl fields text
answers Initremote (Failure t) nothing a fields text = finishes Initremote (Failure t) Failed tt refl refl refl fields text
answers (Transfer true key file) Yes nothing a fields text =
    finishes (Transfer true key file) Yes Done (tt, a.1.0) refl refl (chosen (bytes_eq key key) Done (own key)) fields text
answers (Transfer true key file) No nothing a fields text =
    finishes (Transfer true key file) No Failed (tt, (a.1.0, tt)) refl refl (chosen (bytes_eq key key) Failed (own key)) fields text
answers (Transfer true key file) (Failure t) nothing a fields text =
    finishes (Transfer true key file) (Failure t) Failed (tt, (a.1.0, tt)) refl refl (chosen (bytes_eq key key) Failed (own key)) fields text
answers (Transfer false key file) Yes nothing a fields text =
    finishes (Transfer false key file) Yes Done (tt, a.1.0) refl refl (chosen (bytes_eq key key) Done (own key)) fields text
answers (Transfer false key file) No nothing a fields text =
    finishes (Transfer false key file) No Failed (tt, (a.1.0, tt)) refl refl (chosen (bytes_eq key key) Failed (own key)) fields text
answers (Transfer false key file) (Failure t) nothing a fields text =
    finishes (Transfer false key file) (Failure t) Failed (tt, (a.1.0, tt)) refl refl (chosen (bytes_eq key key) Failed (own key)) fields text
answers (Checkpresent key) Yes nothing a fields text = finishes (Checkpresent key) Yes Done a refl refl (chosen (bytes_eq key key) Done (own key)) fields text
answers (Checkpresent key) No nothing a fields text = finishes (Checkpresent key) No Absent a refl refl (chosen (bytes_eq key key) Absent (own key)) fields text
answers (Checkpresent key) (Failure t) nothing a fields text = finishes (Checkpresent key) (Failure t) Unknown (a, tt) refl refl (chosen (bytes_eq key key) Unknown (own key)) fields text
answers (Remove key) Yes nothing a fields text = finishes (Remove key) Yes Done a refl refl (chosen (bytes_eq key key) Done (own key)) fields text
answers (Remove key) No nothing a fields text = finishes (Remove key) No Failed (a, tt) refl refl (chosen (bytes_eq key key) Failed (own key)) fields text
answers (Remove key) (Failure t) nothing a fields text = finishes (Remove key) (Failure t) Failed (a, tt) refl refl (chosen (bytes_eq key key) Failed (own key)) fields text
answers q said nothing a fields text = finishes q said Unsupported tt refl refl refl fields text

-- ---- what is due

none_asked : {A : Type 0} (x : Asked) → Some x ≡ None → A
none_asked x e = absurd cc

asks_says : (q : HostMessage) (x : Asked) (call : Option Call) → IsAskable q → IsTrue (has_line_fields q) → is_line_call call ≡ true → IsAskedBy (Asks x) call
    → SaysOne q (said_by (Asks x) (Some q) call) Waiting
asks_says q x None a fields c asked = none_asked x asked
asks_says q x (Some call) a fields c asked =
    let parts = and_parts (sets_nothing call.said) (is_line_said call.said) c in
    subst (λ (l : List RemoteMessage). SaysOne q l Waiting) (sym (only_final (Some q) call.said parts.0)) (answers q call.said parts.0 a fields parts.1)

refuses : (q : HostMessage) (text : List ℕ) (call : Option Call) → IsAskable q → IsTrue (has_line_fields q) → has_newline text ≡ false
    → SaysOne q (said_by (refusal q text) (Some q) call) Waiting
refuses q text call a fields whole = answers q (Failure text) refl a fields (ap not whole)

transfers : (b : Bool) (store : Bool) (key file : List ℕ) (call : Option Call) → IsAskable (Transfer store key file) → IsTrue (has_line_fields (Transfer store key file))
    → is_line_call call ≡ true → IsAskedBy (cond b (Asks (transfer_asked store key file)) (refusal (Transfer store key file) (codes "not text"))) call
    → SaysOne (Transfer store key file) (said_by (cond b (Asks (transfer_asked store key file)) (refusal (Transfer store key file) (codes "not text"))) (Some (Transfer store key file)) call) Waiting
transfers true store key file call a fields c asked = asks_says (Transfer store key file) (transfer_asked store key file) call a fields c asked
transfers false store key file call a fields c asked = refuses (Transfer store key file) (codes "not text") call a fields refl

-- a value comes only where it is awaited, and is the last
values_say : (r : Option HostMessage) (vs : List (List ℕ)) (v : List ℕ) (call : Option Call) (q : HostMessage)
    → is_unexpected (is_readying r && is_some (slice_get settings (length vs))) (Value v) ≡ false
    → IsAskedBy (readying (slice_get settings (length (vs ++ v ∷ []))) (vs ++ v ∷ [])) call → r ≡ Some q → is_line_call call ≡ true
    → SaysOne q (said_by (readying (slice_get settings (length (vs ++ v ∷ []))) (vs ++ v ∷ [])) r call)
    (stage_by false (is_readying r && is_some (slice_get settings (length (vs ++ v ∷ [])))) r (vs ++ v ∷ []))
values_say (Some Prepare) [] v call q e asked is c =
    own_says Prepare q (said_by (Asks (AskPrepare (v ∷ []))) (Some Prepare) call) Waiting is (asks_says Prepare (AskPrepare (v ∷ [])) call tt refl c asked)
values_say (Some Prepare) (x ∷ vs) v call q e asked is c = absurd cc
values_say (Some Initremote) [] v call q e asked is c =
    own_says Initremote q (said_by (Asks (AskPrepare (v ∷ []))) (Some Initremote) call) Waiting is (asks_says Initremote (AskPrepare (v ∷ [])) call tt refl c asked)
values_say (Some Initremote) (x ∷ vs) v call q e asked is c = absurd cc
values_say None vs v call q e asked is c = absurd cc
values_say (Some m) vs v call q e asked is c = absurd cc

no_creds : {A : Type 0} (b : Bool) (user password : List ℕ) → is_unexpected b (Creds user password) ≡ false → A
no_creds true user password e = absurd cc
no_creds false user password e = absurd cc

-- by the request and the values before the message, and whether the kit is prepared
abbrev pub due_by : List (List ℕ) → Bool → HostMessage → Due
due_by vs p m = work_due (slice_get settings (length (values_pushed vs m))) (values_pushed vs m) p m

abbrev pub stage_behind : Option HostMessage → List (List ℕ) → HostMessage → Stage
stage_behind r vs m =
    stage_by false (is_readying (request_pushed r m) && is_some (slice_get settings (length (values_pushed vs m)))) (request_pushed r m) (values_pushed vs m)

says_one : (r : Option HostMessage) (vs : List (List ℕ)) (p : Bool) (m : HostMessage) (call : Option Call) (q : HostMessage)
    → is_host_error m ≡ false → is_unexpected (is_readying r && is_some (slice_get settings (length vs))) m ≡ false → is_name m ≡ false
    → IsAskedBy (due_by vs p m) call → request_pushed r m ≡ Some q → IsAskable m → IsTrue (has_line_fields m) → is_line_call call ≡ true
    → SaysOne q (said_by (due_by vs p m) (request_pushed r m) call) (stage_behind r vs m)
says_one r vs p (AskExtensions names) call q h e n asked is a fields c = own_says (AskExtensions names) q (Extensions [] ∷ []) Waiting is (extensions names)
says_one r vs p Prepare call q h e n asked is a fields c = asks_value q true []
says_one r vs p Initremote call q h e n asked is a fields c = asks_value q false []
says_one r vs false (Transfer store key file) call q h e n asked is a fields c =
    own_says (Transfer store key file) q (said_by (refusal (Transfer store key file) (codes "not prepared")) (Some (Transfer store key file)) call) Waiting is
    (refuses (Transfer store key file) (codes "not prepared") call a fields refl)
says_one r vs true (Transfer store key file) call q h e n asked is a fields c =
    own_says (Transfer store key file) q
    (said_by (cond (is_utf8 file) (Asks (transfer_asked store key file)) (refusal (Transfer store key file) (codes "not text"))) (Some (Transfer store key file)) call) Waiting is
    (transfers (is_utf8 file) store key file call a fields c asked)
says_one r vs false (Checkpresent key) call q h e n asked is a fields c =
    own_says (Checkpresent key) q (said_by (refusal (Checkpresent key) (codes "not prepared")) (Some (Checkpresent key)) call) Waiting is
    (refuses (Checkpresent key) (codes "not prepared") call a fields refl)
says_one r vs true (Checkpresent key) call q h e n asked is a fields c =
    own_says (Checkpresent key) q (said_by (Asks (AskCheck key)) (Some (Checkpresent key)) call) Waiting is (asks_says (Checkpresent key) (AskCheck key) call a fields c asked)
says_one r vs false (Remove key) call q h e n asked is a fields c =
    own_says (Remove key) q (said_by (refusal (Remove key) (codes "not prepared")) (Some (Remove key)) call) Waiting is
    (refuses (Remove key) (codes "not prepared") call a fields refl)
says_one r vs true (Remove key) call q h e n asked is a fields c =
    own_says (Remove key) q (said_by (Asks (AskRemove key)) (Some (Remove key)) call) Waiting is (asks_says (Remove key) (AskRemove key) call a fields c asked)
says_one r vs p Listconfigs call q h e n asked is a fields c = unsupported q
says_one r vs p Getcost call q h e n asked is a fields c = unsupported q
says_one r vs p Getavailability call q h e n asked is a fields c = unsupported q
says_one r vs p Getinfo call q h e n asked is a fields c = unsupported q
says_one r vs p (Whereis key) call q h e n asked is a fields c = unsupported q
says_one r vs p Exportsupported call q h e n asked is a fields c = unsupported q
says_one r vs p (Export name) call q h e n asked is a fields c = absurd cc
says_one r vs p (Transferexport store key file) call q h e n asked is a fields c = unsupported q
says_one r vs p (Checkpresentexport key) call q h e n asked is a fields c = unsupported q
says_one r vs p (Removeexport key) call q h e n asked is a fields c = unsupported q
says_one r vs p (Renameexport key onto) call q h e n asked is a fields c = unsupported q
says_one r vs p (Value v) call q h e n asked is a fields c = values_say r vs v call q e asked is c
says_one r vs p (Creds user password) call q h e n asked is a fields c = no_creds (is_readying r && is_some (slice_get settings (length vs))) user password e
says_one r vs p (HostError text) call q h e n asked is a fields c = absurd cc

-- ---- after what was heard

-- the kit isn't over, and expects the message
pub record Expects (ms : List HostMessage) (m : HostMessage) : Type 0 where
  pub before : is_over settings ms ≡ false
  pub no_error : is_host_error m ≡ false
  pub expected : is_unexpected (awaits_value settings ms) m ≡ false

pub expects : (ms : List HostMessage) (m : HostMessage) → is_over settings (ms ++ m ∷ []) ≡ false → Expects ms m
expects ms m over =
    let two = or_parts (is_over settings ms) (ends_kit settings ms m) (sym (some_behind-push (ends_kit settings) [] ms m) ∙ over) in
    let one = or_parts (is_host_error m) (is_unexpected (awaits_value settings ms) m) two.1 in
    record { before = two.0; no_error = one.0; expected = one.1 }

pub still_expects : (ms : List HostMessage) (m : HostMessage) → Expects ms m → is_over settings (ms ++ m ∷ []) ≡ false
still_expects ms m e =
    some_behind-push (ends_kit settings) [] ms m ∙ ap (λ (b : Bool). b || ends_kit settings ms m) e.before
    ∙ ap (λ (b : Bool). b || is_unexpected (awaits_value settings ms) m) e.no_error ∙ e.expected

due_is : (h : List Heard) (m : HostMessage) → Expects (messages h) m → due_of settings h m ≡ due_by (values_of (messages h)) (is_prepared h) m
due_is h m e =
    let ms = messages h in
    let work : Due = work_due (next_setting settings (ms ++ m ∷ [])) (values_of (ms ++ m ∷ [])) (is_prepared h) m in
    ap (λ (b : Bool). live_due b (expected_due (is_unexpected (awaits_value settings ms) m) work)) e.before
    ∙ ap (λ (b : Bool). expected_due b work) e.expected
    ∙ ap (λ (vs : List (List ℕ)). work_due (slice_get settings (length vs)) vs (is_prepared h) m) (values_of-push ms m)

pub stage_is : (ms : List HostMessage) (m : HostMessage) → Expects ms m → stage_of settings (ms ++ m ∷ []) ≡ stage_behind (request_of ms) (values_of ms) m
stage_is ms m e =
    let now : List HostMessage = ms ++ m ∷ [] in
    ap (λ (b : Bool). stage_by b (awaits_value settings now) (request_of now) (values_of now)) (still_expects ms m e)
    ∙ ap (λ (r : Option HostMessage). stage_by false (is_readying r && is_some (next_setting settings now)) r (values_of now)) (request_of-push ms m)
    ∙ ap (λ (vs : List (List ℕ)). stage_by false (is_readying (request_pushed (request_of ms) m) && is_some (slice_get settings (length vs))) (request_pushed (request_of ms) m) vs) (values_of-push ms m)

-- a message that is expected and no name is answered by one line
pub says : (h : List Heard) (m : HostMessage) (call : Option Call) (q : HostMessage) → Expects (messages h) m → is_name m ≡ false → IsAskedBy (due_of settings h m) call
    → request_of (messages h ++ m ∷ []) ≡ Some q → IsAskable m → IsTrue (has_line_fields m) → is_line_call call ≡ true
    → SaysOne q (said_by (due_of settings h m) (request_of (messages h ++ m ∷ [])) call) (stage_of settings (messages h ++ m ∷ []))
says h m call q e n asked is a fields c =
    let ms = messages h in
    let r = request_of ms in
    let vs = values_of ms in
    let due = due_by vs (is_prepared h) m in
    let stage = stage_of settings (ms ++ m ∷ []) in
    subst (λ (d : Due). SaysOne q (said_by d (request_of (ms ++ m ∷ [])) call) stage) (sym (due_is h m e))
    (subst (λ (x : Option HostMessage). SaysOne q (said_by due x call) stage) (sym (request_of-push ms m))
    (subst (λ (s : Stage). SaysOne q (said_by due (request_pushed r m) call) s) (sym (stage_is ms m e))
    (says_one r vs (is_prepared h) m call q e.no_error e.expected n (subst (λ (d : Due). IsAskedBy d call) (due_is h m e) asked) (sym (request_of-push ms m) ∙ is) a fields c)))

-- to a name nothing is said
pub silent : (h : List Heard) (m : HostMessage) (call : Option Call) (r : Option HostMessage) → Expects (messages h) m → is_name m ≡ true → said_by (due_of settings h m) r call ≡ []
silent h m call r e n = ap (λ (d : Due). said_by d r call) (due_is h m e) ∙ go m n
  where
    go : (x : HostMessage) → is_name x ≡ true → said_by (due_by (values_of (messages h)) (is_prepared h) x) r call ≡ []
    go (Export name) n = refl
    go x n = absurd cc

-- an expected message is a request, or belongs to one
pub asked_for : (ms : List HostMessage) (m : HostMessage) → Expects ms m → (q : HostMessage) × (request_of (ms ++ m ∷ []) ≡ Some q)
asked_for ms m e =
    let t = by_message m (request_of ms) (values_of ms) e.expected in
    (t.0, request_of-push ms m ∙ t.1)
  where
    by_request : (r : Option HostMessage) (vs : List (List ℕ)) (v : List ℕ) → is_unexpected (is_readying r && is_some (slice_get settings (length vs))) (Value v) ≡ false
        → (q : HostMessage) × (r ≡ Some q)
    by_request (Some q) vs v h = (q, refl)
    by_request None vs v h = absurd cc

    by_message : (x : HostMessage) (r : Option HostMessage) (vs : List (List ℕ)) → is_unexpected (is_readying r && is_some (slice_get settings (length vs))) x ≡ false
        → (q : HostMessage) × (request_pushed r x ≡ Some q)
    by_message (Value v) r vs h = by_request r vs v h
    by_message x r vs h = (x, refl)
