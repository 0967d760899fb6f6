-- By which call a remote gets ready.
use Rattle.std.proofs.Common.{◌≡◌, ℕ, List, refl, sym, ap, ◌∙◌, Bool, true, false, cond, Some, None, Option}
use Rattle.std.specs.Prelude.{option_map, codes}
use Rattle.std.specs.Str.{is_utf8}
use Rattle.annex_model.specs.Messages.{HostMessage, Prepare, Initremote, Transfer, Checkpresent, Remove, Value}
use Rattle.kit_serve.specs.declared.kit.call.Asked.{Asked}
use Rattle.kit_serve.specs.declared.kit.call.Asked.TheVariants.{Prepare as AskPrepare}
use Rattle.kit_serve.specs.Kit.Calls.{plain}
use Rattle.kit_serve.specs.Kit.Kits.{Asks, asked_by, readying, refusal, transfer_asked}
use Rattle.kit_async_model.specs.declared.setup.Setup.{Setup}
use Rattle.kit_async_model.specs.declared.job.Job.{Job}
use Rattle.kit_async_model.specs.Jobs.{asked_as, due_in, next_name, request_due, request_of, work_asked}

-- what is asked for is what a list of calls tells of it
abbrev IsPlain : Option Asked → Type 0
IsPlain None = Unit {0}
IsPlain (Some asked) = plain asked ≡ asked

ready_plain : (next : Option (List ℕ)) (values : List (List ℕ)) → IsPlain (asked_by (readying next values))
ready_plain None values = refl
ready_plain (Some name) values = tt

transfer_plain : (store : Bool) (key file : List ℕ) → IsPlain (asked_by (cond (is_utf8 file) (Asks (transfer_asked store key file)) (refusal (Transfer store key file) (codes "not text"))))
transfer_plain store key file = go (is_utf8 file) store
  where
    go : (t s : Bool) → IsPlain (asked_by (cond t (Asks (transfer_asked s key file)) (refusal (Transfer s key file) (codes "not text"))))
    go true true = refl
    go true false = refl
    go false s = tt

due_plain : (next : Option (List ℕ)) (values : List (List ℕ)) (prepared : Bool) (r : Option HostMessage) → IsPlain (asked_by (request_due next values prepared r))
due_plain next values prepared None = tt
due_plain next values prepared (Some Prepare) = ready_plain next values
due_plain next values prepared (Some Initremote) = ready_plain next values
due_plain next values prepared (Some (Value value)) = ready_plain next values
due_plain next values true (Some (Transfer store key file)) = transfer_plain store key file
due_plain next values false (Some (Transfer store key file)) = tt
due_plain next values true (Some (Checkpresent key)) = refl
due_plain next values false (Some (Checkpresent key)) = tt
due_plain next values true (Some (Remove key)) = refl
due_plain next values false (Some (Remove key)) = tt
due_plain next values prepared (Some m) = tt

as_plain : (r : Option HostMessage) (asked : Asked) → plain (asked_as r asked) ≡ plain asked
as_plain None asked = refl
as_plain (Some Initremote) (AskPrepare values) = refl
as_plain (Some Initremote) asked = refl
as_plain (Some m) asked = refl

-- what a remote is called for is told as what is due
pub work_plain : (setup : Setup) (job : Job) (asked : Asked) → work_asked setup job ≡ Some asked → asked_by (due_in setup job) ≡ Some (plain asked)
work_plain setup job asked h = go (asked_by (due_in setup job)) (due_plain (next_name setup job) job.values job.prepared (request_of job)) h
  where
    go : (o : Option Asked) → IsPlain o → option_map (asked_as (request_of job)) o ≡ Some asked → o ≡ Some (plain asked)
    go None p e = absurd cc
    go (Some a) p e =
        let same : asked_as (request_of job) a ≡ asked = cc in
        ap (λ (x : Asked). Some x) (sym (ap plain (sym same) ∙ as_plain (request_of job) a ∙ p))
