-- How an open job stands in a journal, and what comes next of it.
use Rattle.std.proofs.Common.{◌≡◌, ◌⊎◌, inl, inr, ℕ, ◌-◌, ◌≤◌, List, [], ◌∷◌, ap, Bool, true, false, ◌==◌, Some, Option, length, drop}
use Rattle.std.specs.Prelude.{nat_lt, map}
use Rattle.std.specs.List.{list_any}
use Rattle.annex_model.specs.Messages.{HostMessage, Getconfig, remote_line}
use Rattle.kit_serve.specs.declared.kit.call.Asked.{Asked}
use Rattle.kit_serve.specs.Kit.Kits.{asked_by}
use Rattle.kit_async_model.specs.declared.setup.Setup.{Setup}
use Rattle.kit_async_model.specs.declared.job.Job.{Job}
use Rattle.kit_async_model.specs.Jobs.{due_in, request_of, is_making_ready, is_awaiting, is_number, job_of}
use Rattle.kit_async_model.specs.Legality.{is_called}
use Rattle.kit_async_model.specs.Standings.{Standing}
use Rattle.kit_async_model.proofs.MeaningLemmas.Phases.{Phase, Saying, Working, Asking, Awaiting, Calling, Within}
use Rattle.ann_key.proofs.Booleans.{both_false as neither}
use Rattle.std.proofs.lemmas.Bool.{eq-eqb as is_same}

-- ---- what is due

-- these lines of this number are due, or nothing more is said
abbrev pub IsOwed : ℕ → List (List ℕ) → List (ℕ × List ℕ) → Bool → Type 0
IsOwed n lines due over = (over ≡ true) ⊎ (due ≡ map (λ line. (n, line)) lines)

abbrev pub is_due_of : ℕ → List (ℕ × List ℕ) → Bool
is_due_of n due = list_any (λ d. d.0 == n) due

-- no line of this number is due, or nothing more is said
abbrev pub IsQuiet : ℕ → List (ℕ × List ℕ) → Bool → Type 0
IsQuiet n due over = (over ≡ true) ⊎ (is_due_of n due ≡ false)

-- ---- each phase

-- a job to get ready, with these values, of which these settings are left
pub record IsReadying (setup : Setup) (request : Option HostMessage) (job : Job) (values left : List (List ℕ)) (calls : ℕ) : Type 0 where
  pub request_is : request_of job ≡ request
  pub ready : is_making_ready job ≡ true
  pub values_are : job.values ≡ values
  pub left_is : drop (length job.values) setup.settings ≡ left
  pub calls_are : job.calls ≡ calls
  pub unsettled : job.settled ≡ false

-- it isn't awaited, and no remote is to be called for it
pub record IsLast (setup : Setup) (job : Job) : Type 0 where
  pub told : is_awaiting setup job ≡ false
  pub uncalled : (jobs : List Job) (remote : ℕ) → is_called setup jobs remote job ≡ false

pub record IsWork (setup : Setup) (asked : Asked) (request : Option HostMessage) (job : Job) : Type 0 where
  pub request_is : request_of job ≡ request
  pub asks : asked_by (due_in setup job) ≡ Some asked
  pub unready : is_making_ready job ≡ false
  pub among : (remote : ℕ) → is_number remote job.taken ≡ true → nat_lt remote setup.remotes ≡ true

abbrev pub AwaitsSome : Setup → Option HostMessage → Job → List (List ℕ) → List (List ℕ) → Type 0
AwaitsSome setup request job values names = (name : List ℕ) × IsReadying setup request job values (name ∷ names) 0

-- the job, with what is due and whether the kit is over
abbrev pub IsIn : Setup → ℕ → Option HostMessage → Job → List (ℕ × List ℕ) → Bool → Phase → Type 0
IsIn setup n request job due over (Saying line lines) = IsLast setup job × IsOwed n (line ∷ lines) due over
IsIn setup n request job due over (Working asked) = IsWork setup asked request job × IsQuiet n due over
IsIn setup n request job due over (Asking values name names) = IsReadying setup request job values (name ∷ names) 0 × IsOwed n (remote_line (Getconfig name) ∷ []) due over
IsIn setup n request job due over (Awaiting values names) = AwaitsSome setup request job values names × IsQuiet n due over
IsIn setup n request job due over (Calling values remote) = IsReadying setup request job values [] remote × (remote ≤ setup.remotes - 1) × IsQuiet n due over

pub record At (setup : Setup) (s : Standing) (n : ℕ) (request : Option HostMessage) (p : Phase) : Type 0 where
  pub job : Job
  pub found : job_of s.jobs n ≡ Some job
  pub is : IsIn setup n request job s.due s.over p

pub within_of : (setup : Setup) (n : ℕ) (request : Option HostMessage) (job : Job) (due : List (ℕ × List ℕ)) (over : Bool) (p : Phase) → IsIn setup n request job due over p → Within setup p
within_of setup n request job due over (Calling values remote) k = k.1
within_of setup n request job due over (Saying line lines) k = tt
within_of setup n request job due over (Working asked) k = tt
within_of setup n request job due over (Asking values name names) k = tt
within_of setup n request job due over (Awaiting values names) k = tt

-- ---- what others do

-- a kit that is over says nothing
pub is_in_over : (setup : Setup) (n : ℕ) (request : Option HostMessage) (job : Job) (due next : List (ℕ × List ℕ)) (over now : Bool) (p : Phase) → now ≡ true → IsIn setup n request job due over p
    → IsIn setup n request job next now p
is_in_over setup n request job due next over now (Saying line lines) h k = (k.0, inl h)
is_in_over setup n request job due next over now (Working asked) h k = (k.0, inl h)
is_in_over setup n request job due next over now (Asking values name names) h k = (k.0, inl h)
is_in_over setup n request job due next over now (Awaiting values names) h k = (k.0, inl h)
is_in_over setup n request job due next over now (Calling values remote) h k = (k.0, k.1, inl h)

-- nothing is due, and then none or another's
owed_never : (n : ℕ) (line : List ℕ) (lines : List (List ℕ)) (due next : List (ℕ × List ℕ)) (over : Bool) → due ≡ [] → IsOwed n (line ∷ lines) due over → IsOwed n (line ∷ lines) next over
owed_never n line lines due next over h (inl e) = inl e
owed_never n line lines due next over h (inr e) = absurd cc

quiet_still : (n : ℕ) (due next : List (ℕ × List ℕ)) (over : Bool) → is_due_of n next ≡ false → IsQuiet n due over → IsQuiet n next over
quiet_still n due next over h (inl e) = inl e
quiet_still n due next over h (inr e) = inr h

pub is_in_still : (setup : Setup) (n : ℕ) (request : Option HostMessage) (job : Job) (due next : List (ℕ × List ℕ)) (over : Bool) (p : Phase) → due ≡ [] → is_due_of n next ≡ false
    → IsIn setup n request job due over p → IsIn setup n request job next over p
is_in_still setup n request job due next over (Saying line lines) d e k = (k.0, owed_never n line lines due next over d k.1)
is_in_still setup n request job due next over (Working asked) d e k = (k.0, quiet_still n due next over e k.1)
is_in_still setup n request job due next over (Asking values name names) d e k = (k.0, owed_never n (remote_line (Getconfig name)) [] due next over d k.1)
is_in_still setup n request job due next over (Awaiting values names) d e k = (k.0, quiet_still n due next over e k.1)
is_in_still setup n request job due next over (Calling values remote) d e k = (k.0, k.1, quiet_still n due next over e k.2)

-- another's line is said, and the rest is due
owed_other : (n : ℕ) (line : List ℕ) (lines : List (List ℕ)) (d : ℕ × List ℕ) (rest : List (ℕ × List ℕ)) (over : Bool) → (d.0 == n) ≡ false → IsOwed n (line ∷ lines) (d ∷ rest) over
    → IsOwed n (line ∷ lines) rest over
owed_other n line lines d rest over h (inl e) = inl e
owed_other n line lines d rest over h (inr e) =
    let same : d ≡ (n, line) = cc in
    let it : (d.0 == n) ≡ true = is_same d.0 n (ap (λ (t : ℕ × List ℕ). t.0) same) in
    absurd cc

quiet_rest : (n : ℕ) (d : ℕ × List ℕ) (rest : List (ℕ × List ℕ)) (over : Bool) → IsQuiet n (d ∷ rest) over → IsQuiet n rest over
quiet_rest n d rest over (inl e) = inl e
quiet_rest n d rest over (inr e) = inr (neither (d.0 == n) (is_due_of n rest) e).1

pub is_in_rest : (setup : Setup) (n : ℕ) (request : Option HostMessage) (job : Job) (d : ℕ × List ℕ) (rest : List (ℕ × List ℕ)) (over : Bool) (p : Phase) → (d.0 == n) ≡ false
    → IsIn setup n request job (d ∷ rest) over p → IsIn setup n request job rest over p
is_in_rest setup n request job d rest over (Saying line lines) h k = (k.0, owed_other n line lines d rest over h k.1)
is_in_rest setup n request job d rest over (Working asked) h k = (k.0, quiet_rest n d rest over k.1)
is_in_rest setup n request job d rest over (Asking values name names) h k = (k.0, owed_other n (remote_line (Getconfig name)) [] d rest over h k.1)
is_in_rest setup n request job d rest over (Awaiting values names) h k = (k.0, quiet_rest n d rest over k.1)
is_in_rest setup n request job d rest over (Calling values remote) h k = (k.0, k.1, quiet_rest n d rest over k.2)
