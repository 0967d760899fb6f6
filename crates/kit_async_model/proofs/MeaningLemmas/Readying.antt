-- A job to get ready: the settings that are left of it.
use Rattle.std.proofs.Common.{◌≡◌, ℕ, zero, suc, List, [], ◌∷◌, ◌++◌, refl, ap, ◌∙◌, true, false, Some, None, Option, length, drop, length-append, arith}
use Rattle.std.specs.Prelude.{slice_get}
use Rattle.annex_model.specs.Messages.{HostMessage}
use Rattle.kit_serve.specs.declared.kit.call.Asked.TheVariants.{Prepare as AskPrepare}
use Rattle.kit_serve.specs.Kit.Kits.{asked_by}
use Rattle.kit_async_model.specs.declared.setup.Setup.{Setup}
use Rattle.kit_async_model.specs.declared.job.Job.{Job}
use Rattle.kit_async_model.specs.Jobs.{due_in, request_of, request_due, is_awaiting, next_name, if_prepared, lines_in}
use Rattle.kit_async_model.specs.Standings.{with_value, with_taken}
use Rattle.kit_async_model.proofs.MeaningLemmas.Requests.{asked_lines, ready_lines, ready_asked}
use Rattle.kit_async_model.proofs.MeaningLemmas.Stands.{IsReadying}

abbrev pub first_of_names : List (List ℕ) → Option (List ℕ)
first_of_names [] = None
first_of_names (name ∷ names) = Some name

get_left : (xs : List (List ℕ)) (k : ℕ) → slice_get xs k ≡ first_of_names (drop k xs)
get_left [] zero = refl
get_left [] (suc k) = refl
get_left (x ∷ xs) zero = refl
get_left (x ∷ xs) (suc k) = get_left xs k

drop_next : (xs : List (List ℕ)) (k : ℕ) (name : List ℕ) (names : List (List ℕ)) → drop k xs ≡ name ∷ names → drop (suc k) xs ≡ names
drop_next [] zero name names h = absurd cc
drop_next [] (suc k) name names h = absurd cc
drop_next (x ∷ xs) zero name names h = let is : xs ≡ names = cc in is
drop_next (x ∷ xs) (suc k) name names h = drop_next xs k name names h

pub next_of : (setup : Setup) (request : Option HostMessage) (job : Job) (values left : List (List ℕ)) (calls : ℕ) → IsReadying setup request job values left calls → next_name setup job ≡ first_of_names left
next_of setup request job values left calls r = get_left setup.settings (length job.values) ∙ ap first_of_names r.left_is

-- the next of them is asked for
pub readying_lines : (setup : Setup) (told : List (List ℕ)) (request : Option HostMessage) (job : Job) (values left : List (List ℕ)) (calls : ℕ) → IsReadying setup request job values left calls
    → lines_in setup told job ≡ asked_lines (first_of_names left)
readying_lines setup told request job values left calls r =
    ready_lines setup.about (if_prepared job.prepared told) (next_name setup job) job.values job.prepared (request_of job) r.ready
    ∙ ap asked_lines (next_of setup request job values left calls r)

pub readying_awaits : (setup : Setup) (request : Option HostMessage) (job : Job) (values : List (List ℕ)) (name : List ℕ) (names : List (List ℕ)) (calls : ℕ) → IsReadying setup request job values (name ∷ names) calls
    → is_awaiting setup job ≡ true
readying_awaits setup request job values name names calls r = rw (r.ready, next_of setup request job values (name ∷ names) calls r) refl

pub readying_told : (setup : Setup) (request : Option HostMessage) (job : Job) (values : List (List ℕ)) (calls : ℕ) → IsReadying setup request job values [] calls → is_awaiting setup job ≡ false
readying_told setup request job values calls r = rw (r.ready, next_of setup request job values [] calls r) refl

-- a value is told
pub readying_value : (setup : Setup) (request : Option HostMessage) (job : Job) (values : List (List ℕ)) (value name : List ℕ) (names : List (List ℕ)) (calls : ℕ) → IsReadying setup request job values (name ∷ names) calls
    → IsReadying setup request (with_value value job) (values ++ value ∷ []) names calls
readying_value setup request job values value name names calls r = record {
  request_is = r.request_is;
  ready = r.ready;
  values_are = ap (λ (vs : List (List ℕ)). vs ++ value ∷ []) r.values_are;
  left_is = ap (λ (k : ℕ). drop k setup.settings) one_more ∙ drop_next setup.settings (length job.values) name names r.left_is;
  calls_are = r.calls_are;
  unsettled = r.unsettled;
}
  where
    one_more : length (job.values ++ value ∷ []) ≡ suc (length job.values)
    one_more = let l = length-append job.values (value ∷ []) in omega (arith, l)

-- a remote that takes it up changes nothing
pub readying_taken : (setup : Setup) (request : Option HostMessage) (job : Job) (remote : ℕ) (values left : List (List ℕ)) (calls : ℕ) → IsReadying setup request job values left calls
    → IsReadying setup request (with_taken remote job) values left calls
readying_taken setup request job remote values left calls r =
    record { request_is = r.request_is; ready = r.ready; values_are = r.values_are; left_is = r.left_is; calls_are = r.calls_are; unsettled = r.unsettled }

-- with all values, the remotes are called for them
pub readying_asked : (setup : Setup) (request : Option HostMessage) (job : Job) (values : List (List ℕ)) (calls : ℕ) → IsReadying setup request job values [] calls
    → asked_by (due_in setup job) ≡ Some (AskPrepare values)
readying_asked setup request job values calls r =
    ap (λ (next : Option (List ℕ)). asked_by (request_due next job.values job.prepared (request_of job))) (next_of setup request job values [] calls r)
    ∙ ready_asked job.values job.prepared (request_of job) r.ready ∙ ap (λ (vs : List (List ℕ)). Some (AskPrepare vs)) r.values_are
