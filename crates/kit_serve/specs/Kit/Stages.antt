-- How a kit stands, as it keeps it between two messages, and how that follows from what it heard.
use Rattle.std.specs.Prelude.{ℕ, ◌≡◌, ◌+◌, ◌<◌, ◌^◌, ◌⊎◌, ◌&&◌, ◌||◌, Bool, true, false, List, [], ◌∷◌, ◌++◌, map, length, slice_get, Option, Some, None, IsTrue}
use Rattle.annex_model.specs.Messages.{HostMessage, Prepare, Initremote, Value, Creds, HostError, remote_line}
use Rattle.kit_serve.specs.declared.kit.call.Call.{Call}
use Rattle.kit_serve.specs.declared.kit.kit.Stage.{Stage}
use Rattle.kit_serve.specs.declared.kit.kit.Stage.TheVariants.{Waiting, Readying, Over}
use Rattle.kit_serve.specs.Kit.Calls.{are_lines}
use Rattle.kit_serve.specs.Kit.Kits.{Heard, messages, is_over, awaits_value, is_prepare, request_of, values_of, is_prepared, said_yes, Due, IsServed, IsAskedBy, said_by, with_call, work_due, expected_due, live_due, is_unexpected, due_of, IsStep}

-- what contracts see of a kit: its remote, whether it is prepared, and where it stands
pub record KitValue (R : Type 0) : Type 0 where
  pub remote : R
  pub prepared : Bool
  pub stage : Stage

abbrev pub is_last : Stage → Bool
is_last Over = true
is_last stage = false

-- any request may come
abbrev pub is_free : Stage → Bool
is_free Waiting = true
is_free stage = false

-- the values may be handed to the remote, and one more may be counted
abbrev pub IsSound : Stage → Type 0
IsSound (Readying by_prepare values) = (length values + 1 < 2 ^ 32) × IsTrue (are_lines values)
IsSound stage = Unit {0}

-- where a kit stands: it is over, or awaits a value for the request, or neither
abbrev pub stage_by : Bool → Bool → Option HostMessage → List (List ℕ) → Stage
stage_by true awaits request values = Over
stage_by false true request values = Readying (is_prepare request) values
stage_by false false request values = Waiting

-- where it stands after these messages
abbrev pub stage_of : List (List ℕ) → List HostMessage → Stage
stage_of settings ms = stage_by (is_over settings ms) (awaits_value settings ms) (request_of ms) (values_of ms)

-- the kit stands as what was heard makes it stand, and each call was made that was due
pub record Follows {R : Type 0} (settings : List (List ℕ)) (kit : KitValue R) (h : List Heard) : Type 0 where
  pub served : IsServed settings h
  pub prepared : kit.prepared ≡ is_prepared h
  pub stage : kit.stage ≡ stage_of settings (messages h)

-- ---- one message, by where the kit stands

abbrev pub is_awaiting : Stage → Bool
is_awaiting (Readying by_prepare values) = true
is_awaiting stage = false

abbrev pub kept_values : Stage → List (List ℕ)
kept_values (Readying by_prepare values) = values
kept_values stage = []

-- the values with the message's own
abbrev pub values_after : Stage → HostMessage → List (List ℕ)
values_after stage (Value value) = kept_values stage ++ value ∷ []
values_after stage m = []

abbrev pub prepare_of : Bool → HostMessage
prepare_of true = Prepare
prepare_of false = Initremote

abbrev pub request_kept : Stage → Option HostMessage
request_kept (Readying by_prepare values) = Some (prepare_of by_prepare)
request_kept stage = None

-- the request that the message belongs to
abbrev pub request_after : Stage → HostMessage → Option HostMessage
request_after stage (Value value) = request_kept stage
request_after stage m = Some m

abbrev pub stage_due : List (List ℕ) → Bool → Stage → HostMessage → Due
stage_due settings prepared stage m =
    live_due (is_last stage)
    (expected_due (is_unexpected (is_awaiting stage) m)
    (work_due (slice_get settings (length (values_after stage m))) (values_after stage m) prepared m))

-- the next setting is awaited, or none is left
abbrev pub ready_stage : Option (List ℕ) → Bool → List (List ℕ) → Stage
ready_stage (Some name) by_prepare values = Readying by_prepare values
ready_stage None by_prepare values = Waiting

abbrev pub stage_after_request : List (List ℕ) → HostMessage → Stage
stage_after_request settings Prepare = ready_stage (slice_get settings 0) true []
stage_after_request settings Initremote = ready_stage (slice_get settings 0) false []
stage_after_request settings (Value value) = Over
stage_after_request settings (Creds user password) = Over
stage_after_request settings (HostError text) = Over
stage_after_request settings m = Waiting

abbrev pub stage_after_value : List (List ℕ) → Bool → List (List ℕ) → HostMessage → Stage
stage_after_value settings by_prepare values (Value value) =
    ready_stage (slice_get settings (length (values ++ value ∷ []))) by_prepare (values ++ value ∷ [])
stage_after_value settings by_prepare values m = Over

abbrev pub stage_after : List (List ℕ) → Stage → HostMessage → Stage
stage_after settings Waiting m = stage_after_request settings m
stage_after settings (Readying by_prepare values) m = stage_after_value settings by_prepare values m
stage_after settings Over m = Over

-- What is due was done: the remote was asked for it, and these lines are to be said. A PREPARE to which the remote said Yes
-- leaves the kit prepared.
pub record Answers {R : Type 0} (calls : R → Option (List Call)) (old new : KitValue R) (due : Due) (request : Option HostMessage) (say : List (List ℕ)) : Type 0 where
  pub call : Option Call
  pub asks : IsAskedBy due call
  pub says : say ≡ map remote_line (said_by due request call)
  pub gained : calls new.remote ≡ with_call (calls old.remote) call
  pub prepared : new.prepared ≡ (old.prepared || (is_prepare request && said_yes call))

-- The remote may have been asked for what is due, and for nothing else.
pub record Tries {R : Type 0} (calls : R → Option (List Call)) (old new : KitValue R) (due : Due) : Type 0 where
  pub call : Option Call
  pub asks : (call ≡ None) ⊎ IsAskedBy due call
  pub gained : calls new.remote ≡ with_call (calls old.remote) call

-- what is due on the message was done where the kit stands so
abbrev pub AnswersAt : {R : Type 0} → (R → Option (List Call)) → (R → List (List ℕ)) → Stage → HostMessage → KitValue R → KitValue R → List (List ℕ) → Type 0
AnswersAt calls settings stage m old new = Answers calls old new (stage_due (settings old.remote) old.prepared stage m) (request_after stage m)

abbrev pub TriesAt : {R : Type 0} → (R → Option (List Call)) → (R → List (List ℕ)) → Stage → HostMessage → KitValue R → KitValue R → Type 0
TriesAt calls settings stage m old new = Tries calls old new (stage_due (settings old.remote) old.prepared stage m)

-- what is due on a request that needs no value was done
abbrev pub WorksOn : {R : Type 0} → (R → Option (List Call)) → HostMessage → KitValue R → KitValue R → List (List ℕ) → Type 0
WorksOn calls m old new = Answers calls old new (work_due None [] old.prepared m) (Some m)

-- ---- one step

-- The message had one call made, or none, and it is the one that is due after whatever the kit followed; these lines are said,
-- and the kit is over or not. It follows what was heard with this message.
pub record Steps {R : Type 0} (calls : R → Option (List Call)) (settings : List (List ℕ)) (old new : KitValue R) (m : HostMessage) (say : List (List ℕ)) (over : Bool) : Type 0 where
  pub call : Option Call
  pub gained : calls new.remote ≡ with_call (calls old.remote) call
  pub step : (h : List Heard) → Follows settings old h → IsStep settings h m call say over
  pub follows : (h : List Heard) → Follows settings old h → Follows settings new (h ++ record { message = m; call = call } ∷ [])

-- Out of memory: no line is said, and the kit is over. The remote may have been asked for what is due, and for nothing else.
pub record Stops {R : Type 0} (calls : R → Option (List Call)) (settings : List (List ℕ)) (old new : KitValue R) (m : HostMessage) : Type 0 where
  pub call : Option Call
  pub gained : calls new.remote ≡ with_call (calls old.remote) call
  pub asks : (h : List Heard) → Follows settings old h → (call ≡ None) ⊎ IsAskedBy (due_of settings h m) call
  pub over : is_last new.stage ≡ true
