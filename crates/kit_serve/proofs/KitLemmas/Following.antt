-- One message more, by where the kit stands, and by all that was heard: they are the same.
use Rattle.std.proofs.Common.{ℕ, ◌≡◌, ◌&&◌, ◌||◌, Bool, true, false, List, [], ◌∷◌, ◌++◌, length, map, slice_get, Option, Some, None, option_map, is_some, refl, sym, ap, ◌∙◌, subst, inl, inr}
use Rattle.annex_model.specs.Messages.{HostMessage, Prepare, Initremote, Value, remote_line}
use Rattle.kit_serve.specs.declared.kit.call.Call.{Call}
use Rattle.kit_serve.specs.declared.kit.kit.Stage.{Stage}
use Rattle.kit_serve.specs.declared.kit.kit.Stage.TheVariants.{Waiting, Readying, Over}
use Rattle.kit_serve.specs.Kit.Kits.{Heard, messages, is_over, ends_kit, is_error, request_of, values_of, next_setting, awaits_value, is_prepare, is_readying, is_prepared, prepares, said_yes, is_unexpected, work_due, expected_due, live_due, Due, Silence, due_of, asked_by, said_by, IsAskedBy}
use Rattle.kit_serve.specs.Kit.Stages.{KitValue, Follows, stage_by, stage_of, stage_due, stage_after, request_after, values_after, ready_stage, is_last, is_awaiting, prepare_of, Answers, Tries, Steps, Stops}
use Rattle.kit_serve.proofs.KitLemmas.Answering.{no_more}
use Rattle.kit_serve.proofs.KitLemmas.Behind.{request_pushed, values_pushed, some_behind-push, request_of-push, values_of-push, messages-push, IsServedBehind-push}

-- ---- where the kit stands, in variables

-- what is due, by what was heard
abbrev heard_due : List (List ℕ) → Bool → Bool → Bool → List (List ℕ) → HostMessage → Due
heard_due settings prepared over awaits values m =
    live_due over (expected_due (is_unexpected awaits m)
    (work_due (slice_get settings (length (values_pushed values m))) (values_pushed values m) prepared m))

due_same : (settings : List (List ℕ)) (prepared over awaits : Bool) (request : Option HostMessage) (values : List (List ℕ)) (m : HostMessage)
    → stage_due settings prepared (stage_by over awaits request values) m ≡ heard_due settings prepared over awaits values m
due_same settings prepared true awaits request values m = refl
due_same settings prepared false true request values (Value value) = refl
due_same settings prepared false true request values m = refl
due_same settings prepared false false request values (Value value) = refl
due_same settings prepared false false request values m = refl

-- a call that wasn't due wasn't made
no_call : (call : Option Call) (b : Bool) → None ≡ option_map (λ (c : Call). c.asked) call → b && said_yes call ≡ false
no_call None true asked = refl
no_call None false asked = refl
no_call (Some call) b asked = cc

-- a request that awaits values is PREPARE or INITREMOTE
kept_request : (request : Option HostMessage) → is_readying request ≡ true → Some (prepare_of (is_prepare request)) ≡ request
kept_request (Some Prepare) ready = refl
kept_request (Some Initremote) ready = refl
kept_request None ready = cc
kept_request (Some m) ready = cc

-- the lines
said_same : (settings : List (List ℕ)) (prepared over awaits : Bool) (request : Option HostMessage) (values : List (List ℕ)) (m : HostMessage) (call : Option Call)
    → (awaits ≡ true → is_readying request ≡ true)
    → said_by (heard_due settings prepared over awaits values m) (request_after (stage_by over awaits request values) m) call
    ≡ said_by (heard_due settings prepared over awaits values m) (request_pushed request m) call
said_same settings prepared true awaits request values m call ready = refl
said_same settings prepared false true request values (Value value) call ready =
    ap (λ r. said_by (heard_due settings prepared false true values (Value value)) r call) (kept_request request (ready refl))
said_same settings prepared false true request values m call ready = refl
said_same settings prepared false false request values (Value value) call ready = refl
said_same settings prepared false false request values m call ready = refl

-- whether it is prepared
prepared_same : (settings : List (List ℕ)) (prepared over awaits : Bool) (request : Option HostMessage) (values : List (List ℕ)) (m : HostMessage) (call : Option Call)
    → (awaits ≡ true → is_readying request ≡ true)
    → IsAskedBy (heard_due settings prepared over awaits values m) call
    → (is_prepare (request_after (stage_by over awaits request values) m) && said_yes call) ≡ (is_prepare (request_pushed request m) && said_yes call)
prepared_same settings prepared true awaits request values m call ready asked =
    no_call call (is_prepare (request_after Over m)) asked ∙ sym (no_call call (is_prepare (request_pushed request m)) asked)
prepared_same settings prepared false true request values (Value value) call ready asked =
    ap (λ r. is_prepare r && said_yes call) (kept_request request (ready refl))
prepared_same settings prepared false true request values m call ready asked = refl
prepared_same settings prepared false false request values (Value value) call ready asked =
    no_call call false asked ∙ sym (no_call call (is_prepare request) asked)
prepared_same settings prepared false false request values m call ready asked = refl

-- where it stands then
ready_same : (next : Option (List ℕ)) (request : Option HostMessage) (values : List (List ℕ)) → is_readying request ≡ true
    → ready_stage next (is_prepare request) values ≡ stage_by false (is_readying request && is_some next) request values
ready_same (Some name) (Some Prepare) values ready = refl
ready_same (Some name) (Some Initremote) values ready = refl
ready_same None (Some Prepare) values ready = refl
ready_same None (Some Initremote) values ready = refl
ready_same next None values ready = cc
ready_same next (Some m) values ready = cc

stage_same : (settings : List (List ℕ)) (over awaits : Bool) (request : Option HostMessage) (values : List (List ℕ)) (m : HostMessage)
    → (awaits ≡ true → is_readying request ≡ true)
    → stage_after settings (stage_by over awaits request values) m
    ≡ stage_by (over || (is_error m || is_unexpected awaits m)) (is_readying (request_pushed request m) && is_some (slice_get settings (length (values_pushed values m))))
    (request_pushed request m) (values_pushed values m)
stage_same settings true awaits request values m ready = refl
stage_same settings false true request values (Value value) ready =
    ready_same (slice_get settings (length (values ++ value ∷ []))) request (values ++ value ∷ []) (ready refl)
stage_same settings false true request values m ready = refl
stage_same settings false false request values Prepare ready = ready_same (slice_get settings 0) (Some Prepare) [] refl
stage_same settings false false request values Initremote ready = ready_same (slice_get settings 0) (Some Initremote) [] refl
stage_same settings false false request values m ready = refl

-- ---- what was heard

awaits_ready : (request : Option HostMessage) (next : Option (List ℕ)) → is_readying request && is_some next ≡ true → is_readying request ≡ true
awaits_ready (Some Prepare) next both = refl
awaits_ready (Some Initremote) next both = refl
awaits_ready None next both = cc
awaits_ready (Some m) next both = cc

-- what is due by where the kit stands is due by what was heard
pub due_followed : {R : Type 0} (settings : List (List ℕ)) (kit : KitValue R) (h : List Heard) (m : HostMessage)
    → Follows settings kit h → stage_due settings kit.prepared kit.stage m ≡ due_of settings h m
due_followed settings kit h m f =
    ap (λ s. stage_due settings kit.prepared s m) f.stage
    ∙ due_same settings kit.prepared (is_over settings (messages h)) (awaits_value settings (messages h)) (request_of (messages h)) (values_of (messages h)) m
    ∙ ap (λ p. heard_due settings p (is_over settings (messages h)) (awaits_value settings (messages h)) (values_of (messages h)) m) f.prepared
    ∙ ap (λ vs. live_due (is_over settings (messages h)) (expected_due (is_unexpected (awaits_value settings (messages h)) m)
    (work_due (slice_get settings (length vs)) vs (is_prepared h) m))) (sym (values_of-push (messages h) m))

-- and so are the lines
pub said_followed : {R : Type 0} (settings : List (List ℕ)) (kit : KitValue R) (h : List Heard) (m : HostMessage) (call : Option Call)
    → Follows settings kit h
    → said_by (stage_due settings kit.prepared kit.stage m) (request_after kit.stage m) call
    ≡ said_by (due_of settings h m) (request_of (messages h ++ m ∷ [])) call
said_followed settings kit h m call f =
    ap (λ s. said_by (stage_due settings kit.prepared s m) (request_after s m) call) f.stage
    ∙ ap (λ d. said_by d (request_after (stage_of settings (messages h)) m) call)
    (due_same settings kit.prepared (is_over settings (messages h)) (awaits_value settings (messages h)) (request_of (messages h)) (values_of (messages h)) m)
    ∙ said_same settings kit.prepared (is_over settings (messages h)) (awaits_value settings (messages h)) (request_of (messages h)) (values_of (messages h)) m call
    (awaits_ready (request_of (messages h)) (next_setting settings (messages h)))
    ∙ ap (λ r. said_by (heard_due settings kit.prepared (is_over settings (messages h)) (awaits_value settings (messages h)) (values_of (messages h)) m) r call) (sym (request_of-push (messages h) m))
    ∙ ap (λ d. said_by d (request_of (messages h ++ m ∷ [])) call)
    (ap (λ p. heard_due settings p (is_over settings (messages h)) (awaits_value settings (messages h)) (values_of (messages h)) m) f.prepared
    ∙ ap (λ vs. live_due (is_over settings (messages h)) (expected_due (is_unexpected (awaits_value settings (messages h)) m)
    (work_due (slice_get settings (length vs)) vs (is_prepared h) m))) (sym (values_of-push (messages h) m)))

-- the kit's end, by what was heard with the message
pub over_pushed : (settings : List (List ℕ)) (h : List Heard) (e : Heard)
    → is_over settings (messages (h ++ e ∷ [])) ≡ is_over settings (messages h) || (is_error e.message || is_unexpected (awaits_value settings (messages h)) e.message)
over_pushed settings h e =
    ap (is_over settings) (messages-push h e) ∙ some_behind-push (ends_kit settings) [] (messages h) e.message

stage_pushed : (settings : List (List ℕ)) (h : List Heard) (e : Heard)
    → stage_after settings (stage_of settings (messages h)) e.message ≡ stage_of settings (messages (h ++ e ∷ []))
stage_pushed settings h e =
    let ms = messages h in
    stage_same settings (is_over settings ms) (awaits_value settings ms) (request_of ms) (values_of ms) e.message (awaits_ready (request_of ms) (next_setting settings ms))
    ∙ ap (λ o. stage_by o (is_readying (request_pushed (request_of ms) e.message) && is_some (slice_get settings (length (values_pushed (values_of ms) e.message))))
    (request_pushed (request_of ms) e.message) (values_pushed (values_of ms) e.message)) (sym (some_behind-push (ends_kit settings) [] ms e.message))
    ∙ ap (λ vs. stage_by (is_over settings (ms ++ e.message ∷ [])) (is_readying (request_pushed (request_of ms) e.message) && is_some (slice_get settings (length vs)))
    (request_pushed (request_of ms) e.message) vs) (sym (values_of-push ms e.message))
    ∙ ap (λ r. stage_by (is_over settings (ms ++ e.message ∷ [])) (is_readying r && is_some (next_setting settings (ms ++ e.message ∷ []))) r (values_of (ms ++ e.message ∷ []))) (sym (request_of-push ms e.message))
    ∙ ap (stage_of settings) (sym (messages-push h e))

prepared_pushed : (settings : List (List ℕ)) (prepared : Bool) (h : List Heard) (e : Heard)
    → prepared ≡ is_prepared h
    → IsAskedBy (due_of settings h e.message) e.call
    → prepared || (is_prepare (request_after (stage_of settings (messages h)) e.message) && said_yes e.call) ≡ is_prepared (h ++ e ∷ [])
prepared_pushed settings prepared h e same asked =
    let ms = messages h in
    ap (λ b. prepared || b) (prepared_same settings (is_prepared h) (is_over settings ms) (awaits_value settings ms) (request_of ms) (values_of ms) e.message e.call
    (awaits_ready (request_of ms) (next_setting settings ms))
    (subst (λ (vs : List (List ℕ)). IsAskedBy (live_due (is_over settings ms) (expected_due (is_unexpected (awaits_value settings ms) e.message)
    (work_due (slice_get settings (length vs)) vs (is_prepared h) e.message))) e.call) (values_of-push ms e.message) asked))
    ∙ ap (λ p. p || (is_prepare (request_pushed (request_of ms) e.message) && said_yes e.call)) same
    ∙ ap (λ r. is_prepared h || (is_prepare r && said_yes e.call)) (sym (request_of-push ms e.message))
    ∙ ap (λ l. is_prepared h || (is_prepare (request_of l) && said_yes e.call)) (sym (messages-push h e))
    ∙ sym (some_behind-push prepares [] h e)

last_by : (over awaits : Bool) (request : Option HostMessage) (values : List (List ℕ)) → is_last (stage_by over awaits request values) ≡ over
last_by true awaits request values = refl
last_by false true request values = refl
last_by false false request values = refl

pub last_over : (settings : List (List ℕ)) (ms : List HostMessage) → is_last (stage_of settings ms) ≡ is_over settings ms
last_over settings ms = last_by (is_over settings ms) (awaits_value settings ms) (request_of ms) (values_of ms)

-- ---- the step

pub answers_step : {R : Type 0} (calls : R → Option (List Call)) (settings : List (List ℕ)) (old new : KitValue R) (m : HostMessage) (say : List (List ℕ))
    → Answers calls old new (stage_due settings old.prepared old.stage m) (request_after old.stage m) say
    → new.stage ≡ stage_after settings old.stage m
    → Steps calls settings old new m say (is_last new.stage)
answers_step calls settings old new m say a stage = record {
  call = a.call;
  gained = a.gained;
  step = λ h f. record {
    asks = ap asked_by (sym (due_followed settings old h m f)) ∙ a.asks;
    says = a.says ∙ ap (map remote_line) (said_followed settings old h m a.call f);
    ends = ap is_last (stage ∙ ap (λ s. stage_after settings s m) f.stage ∙ stage_pushed settings h (record { message = m; call = a.call }))
        ∙ last_over settings (messages (h ++ record { message = m; call = a.call } ∷ []));
  };
  follows = λ h f. record {
    served = IsServedBehind-push settings [] h (record { message = m; call = a.call }) f.served (ap asked_by (sym (due_followed settings old h m f)) ∙ a.asks);
    prepared = a.prepared
        ∙ ap (λ s. old.prepared || (is_prepare (request_after s m) && said_yes a.call)) f.stage
        ∙ prepared_pushed settings old.prepared h (record { message = m; call = a.call }) f.prepared (ap asked_by (sym (due_followed settings old h m f)) ∙ a.asks);
    stage = stage ∙ ap (λ s. stage_after settings s m) f.stage ∙ stage_pushed settings h (record { message = m; call = a.call });
  };
}

pub tries_stop : {R : Type 0} (calls : R → Option (List Call)) (settings : List (List ℕ)) (old new : KitValue R) (m : HostMessage)
    → Tries calls old new (stage_due settings old.prepared old.stage m)
    → new.stage ≡ Over
    → Stops calls settings old new m
tries_stop calls settings old new m t stage = record {
  call = t.call;
  gained = t.gained;
  asks = λ h f. elim t.asks [ inl none ↦ inl none | inr asked ↦ inr (ap asked_by (sym (due_followed settings old h m f)) ∙ asked) ];
  over = ap is_last stage;
}

-- ---- a kit that is over

over_stays : (settings : List (List ℕ)) (stage : Stage) (m : HostMessage) → is_last stage ≡ true → stage ≡ stage_after settings stage m
over_stays settings Over m over = refl
over_stays settings Waiting m over = cc
over_stays settings (Readying by_prepare values) m over = cc

silent_answers : {R : Type 0} (calls : R → Option (List Call)) (settings : List (List ℕ)) (k : KitValue R) (m : HostMessage) (say : List (List ℕ))
    → is_last k.stage ≡ true → say ≡ []
    → Answers calls k k (stage_due settings k.prepared k.stage m) (request_after k.stage m) say
silent_answers calls settings k m say over silent =
    let due : stage_due settings k.prepared k.stage m ≡ Silence =
    ap (λ b. live_due b (expected_due (is_unexpected (is_awaiting k.stage) m)
    (work_due (slice_get settings (length (values_after k.stage m))) (values_after k.stage m) k.prepared m))) over in
    record {
      call = None;
      asks = ap asked_by due;
      says = silent ∙ sym (ap (λ d. map remote_line (said_by d (request_after k.stage m) None)) due);
      gained = refl;
      prepared = sym (no_more k.prepared (is_prepare (request_after k.stage m)));
    }

pub silent_step : {R : Type 0} (calls : R → Option (List Call)) (settings : List (List ℕ)) (k : KitValue R) (m : HostMessage) (say : List (List ℕ))
    → is_last k.stage ≡ true → say ≡ []
    → Steps calls settings k k m say true
silent_step calls settings k m say over silent =
    subst (λ (b : Bool). Steps calls settings k k m say b) over
    (answers_step calls settings k k m say (silent_answers calls settings k m say over silent) (over_stays settings k.stage m over))
