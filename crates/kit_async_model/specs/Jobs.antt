-- One job of a kit that serves several at once: what its request makes due, by what was told and called in it so far.
use Rattle.std.specs.Prelude.{ℕ, ◌+◌, ◌==◌, ◌&&◌, ◌||◌, not, Bool, true, false, if◌then◌else◌, List, [], ◌∷◌, map, filter, find, length, slice_get, slice_index, Option, Some, None, option_map, is_some, codes, bytes_eq}
use Rattle.annex_model.specs.Messages.{Extensions, UnsupportedRequest, HostMessage, AskExtensions, Initremote, Transfer, Checkpresent, Remove, host_reading, remote_line}
use Rattle.annex_model.specs.Tags.{names_async, untag, tagged_line}
use Rattle.kit_serve.specs.declared.kit.call.Said.{Said}
use Rattle.kit_serve.specs.declared.kit.call.Asked.{Asked}
use Rattle.kit_serve.specs.declared.kit.call.Asked.TheVariants.{Prepare as AskPrepare, Initialize as AskInitialize}
use Rattle.kit_serve.specs.Kit.Kits.{Due, Line, is_readying, is_prepare, is_yes, work_due, final_lines, asked_by}
use Rattle.kit_async_model.specs.declared.setup.Setup.{Setup}
use Rattle.kit_async_model.specs.declared.job.Job.{Job}
use Rattle.kit_async_model.specs.Abouts.{lines_about}

-- ---- its request

abbrev pub request_of : Job → Option HostMessage
request_of job = host_reading job.text

-- it asks the remotes to get ready
abbrev pub is_making_ready : Job → Bool
is_making_ready job = is_readying (request_of job)

-- the setting whose value comes next
abbrev pub next_name : Setup → Job → Option (List ℕ)
next_name setup job = slice_get setup.settings (length job.values)

-- a VALUE is awaited
abbrev pub is_awaiting : Setup → Job → Bool
is_awaiting setup job = is_making_ready job && is_some (next_name setup job)

-- the key that a request names which a remote works on
abbrev pub key_in : Option HostMessage → Option (List ℕ)
key_in (Some (Transfer store key file)) = Some key
key_in (Some (Checkpresent key)) = Some key
key_in (Some (Remove key)) = Some key
key_in request = None

abbrev pub is_key : List ℕ → Option (List ℕ) → Bool
is_key key None = false
is_key key (Some other) = bytes_eq other key

abbrev pub names_key : List ℕ → Job → Bool
names_key key job = is_key key (key_in (request_of job))

abbrev pub names_it : Option (List ℕ) → Job → Bool
names_it None job = false
names_it (Some key) job = names_key key job

-- both name one key
abbrev pub share_key : Job → Job → Bool
share_key one other = names_it (key_in (request_of other)) one

-- ---- what is due in it

-- the extensions that the kit speaks with a host that names these
abbrev pub spoken : List ℕ → List ℕ
spoken names = if names_async (Some (Extensions names)) then codes "ASYNC" else []

-- As in a kit that serves one job at a time, but for EXTENSIONS: with the next setting, the values so far, and whether the kit was
-- prepared when the request was heard. A line that spells no message is a request that isn't supported.
abbrev pub request_due : Option (List ℕ) → List (List ℕ) → Bool → Option HostMessage → Due
request_due next values prepared None = Line UnsupportedRequest
request_due next values prepared (Some (AskExtensions names)) = Line (Extensions (spoken names))
request_due next values prepared (Some m) = work_due next values prepared m

abbrev pub due_in : Setup → Job → Due
due_in setup job = request_due (next_name setup job) job.values job.prepared (request_of job)

-- by which call: a remote is told INITREMOTE from PREPARE, which what is asked of it doesn't say
abbrev pub asked_as : Option HostMessage → Asked → Asked
asked_as (Some Initremote) (AskPrepare values) = AskInitialize values
asked_as request asked = asked

-- what a remote is called for in the job
abbrev pub work_asked : Setup → Job → Option Asked
work_asked setup job = option_map (asked_as (request_of job)) (asked_by (due_in setup job))

-- Any one remote is to be asked for it. To get ready, each of them is, in its turn.
abbrev pub is_for_any : Setup → Job → Bool
is_for_any setup job = not (is_making_ready job) && is_some (asked_by (due_in setup job))

-- the values that may be told of, once the kit is prepared
abbrev pub if_prepared : Bool → List (List ℕ) → List (List ℕ)
if_prepared true told = told
if_prepared false told = []

-- The lines that are to be said next in the job without a call, where the host told these values to the last PREPARE that succeeded. All
-- lines here are without tags.
abbrev pub lines_in : Setup → List (List ℕ) → Job → List (List ℕ)
lines_in setup told job = lines_about setup.about (if_prepared job.prepared told) (due_in setup job) (request_of job)

-- The remote's word settles the job. Where all are to get ready, it is the first that isn't Yes, or else the last one's.
abbrev pub settles : Setup → Job → Said → Bool
settles setup job said = not (is_making_ready job) || not (is_yes said) || (job.calls + 1 == setup.remotes)

-- the lines for it
abbrev pub finals_in : Job → Said → List (List ℕ)
finals_in job said = map remote_line (final_lines (request_of job) said)

-- the kit is prepared by it
abbrev pub prepares : Setup → Job → Said → Bool
prepares setup job said = is_prepare (request_of job) && is_yes said && settles setup job said

-- whether it is so then: once a remote didn't get ready it isn't, since the others have values of their own
abbrev pub prepared_after : Setup → Job → Said → Bool → Bool
prepared_after setup job said prepared = if is_making_ready job && not (is_yes said) then false else prepared || prepares setup job said

-- ---- its lines

-- the line that is said for it: job 0 is that of a host that doesn't tag its lines
abbrev pub job_line : ℕ → List ℕ → List ℕ
job_line number text = if number == 0 then text else tagged_line number text

abbrev pub is_tagged_as : ℕ → List ℕ → Option (ℕ × List ℕ) → Bool
is_tagged_as number text None = false
is_tagged_as number text (Some t) = t.0 == number && bytes_eq t.1 text

-- the same as a test, which computes: the tag has no leading zeros
abbrev pub is_job_line : ℕ → List ℕ → List ℕ → Bool
is_job_line number text line =
    if number == 0 then bytes_eq line text else is_tagged_as number text (untag line) && not (slice_index line 2 == 48)

-- ---- its remote

abbrev pub is_number : ℕ → Option ℕ → Bool
is_number n None = false
is_number n (Some k) = k == n

-- the remote took it up, and hasn't answered yet
abbrev pub is_worked_by : ℕ → Job → Bool
is_worked_by remote job = is_number remote job.taken && job.calls == 0

-- ---- several jobs

abbrev pub has_number : ℕ → Job → Bool
has_number number job = job.number == number

abbrev pub job_of : List Job → ℕ → Option Job
job_of jobs number = find (has_number number) jobs

-- what is done to the job of that number
abbrev pub with_job : ℕ → (Job → Job) → List Job → List Job
with_job number change jobs = map (λ job. if has_number number job then change job else job) jobs

abbrev pub without_job : ℕ → List Job → List Job
without_job number jobs = filter (λ job. not (has_number number job)) jobs

-- of these jobs, none that was heard before this one names its key
abbrev pub is_first_of_key : List Job → Job → Bool
is_first_of_key [] job = true
is_first_of_key (other ∷ jobs) job = has_number job.number other || (not (share_key other job) && is_first_of_key jobs job)
