-- What a line of the host is to a kit, by the jobs that are open.
use Rattle.std.specs.Prelude.{ℕ, ◌==◌, ◌&&◌, ◌||◌, Bool, true, false, if◌then◌else◌, List, [], ◌∷◌, Option, Some, None, codes, take, drop, bytes_eq}
use Rattle.annex_model.specs.Messages.{HostMessage, Value, host_reading, is_space}
use Rattle.annex_model.specs.Tags.{untag}
use Rattle.kit_serve.specs.Kit.Kits.{is_error, is_unexpected, is_readying}
use Rattle.kit_async_model.specs.declared.setup.Setup.{Setup}
use Rattle.kit_async_model.specs.declared.job.Job.{Job}
use Rattle.kit_async_model.specs.declared.hearing.Hearing.{Hearing}
use Rattle.kit_async_model.specs.declared.hearing.Hearing.TheVariants.{Foul, Unexpected, Aside, Asks, Replies}
use Rattle.kit_async_model.specs.Jobs.{job_of, is_awaiting}

-- ---- the number and the message of a line

-- no job has the tag 0
abbrev pub nonzero : Option (ℕ × List ℕ) → Option (ℕ × List ℕ)
nonzero None = None
nonzero (Some t) = if t.0 == 0 then None else Some t

-- where lines are tagged, each has a tag; else all are of job 0
abbrev pub parted : Bool → List ℕ → Option (ℕ × List ℕ)
parted false line = Some (0, line)
parted true line = nonzero (untag line)

abbrev pub text_by : Option (ℕ × List ℕ) → List ℕ
text_by None = []
text_by (Some t) = t.1

-- the message without its tag
abbrev pub text_in : Bool → List ℕ → List ℕ
text_in tagged line = text_by (parted tagged line)

-- the value that a message tells
abbrev pub value_told : Option HostMessage → List ℕ
value_told (Some (Value value)) = value
value_told message = []

-- ---- EXPORT

abbrev pub ends_word : List ℕ → Bool
ends_word [] = true
ends_word (b ∷ bs) = is_space b

-- EXPORT names the file of the request that follows. It is no request, and asks for nothing
abbrev pub is_export : List ℕ → Bool
is_export text = bytes_eq (take 6 text) (codes "EXPORT") && ends_word (drop 6 text)

-- ---- what it is

-- A message for a job that awaits a value, or doesn't; that is open, or not; while some job is open, or none is. A request with an open
-- number can't stand there, nor one to get ready while another request is open.
abbrev pub message_heard : Bool → Bool → Bool → ℕ → HostMessage → Hearing
message_heard awaiting opened busy number m =
    if is_error m then Foul
    else if is_unexpected awaiting m then Unexpected
    else if awaiting then Replies number
    else if opened || (is_readying (Some m) && busy) then Unexpected
    else Asks number

-- A line that spells no message is a request that isn't supported. Where a job with its number is open it can't stand there, and where
-- that job awaits a value it ends the kit with no word.
abbrev pub strange_heard : Bool → Bool → ℕ → Hearing
strange_heard awaiting opened number = if awaiting then Foul else if opened then Unexpected else Asks number

abbrev pub reading_heard : Bool → Bool → Bool → ℕ → Option HostMessage → Hearing
reading_heard awaiting opened busy number None = strange_heard awaiting opened number
reading_heard awaiting opened busy number (Some m) = message_heard awaiting opened busy number m

abbrev pub text_heard : Bool → Bool → Bool → ℕ → List ℕ → Hearing
text_heard awaiting opened busy number text =
    if is_export text then (if awaiting then Unexpected else Aside)
    else reading_heard awaiting opened busy number (host_reading text)

abbrev pub awaits_in : Setup → Option Job → Bool
awaits_in setup None = false
awaits_in setup (Some job) = is_awaiting setup job

abbrev pub is_open : Option Job → Bool
is_open None = false
is_open (Some job) = true

abbrev pub has_some : List Job → Bool
has_some [] = false
has_some (job ∷ jobs) = true

abbrev pub part_heard : Setup → List Job → Option (ℕ × List ℕ) → Hearing
part_heard setup jobs None = Foul
part_heard setup jobs (Some t) = text_heard (awaits_in setup (job_of jobs t.0)) (is_open (job_of jobs t.0)) (has_some jobs) t.0 t.1

-- the line, by the open jobs and whether lines are tagged
abbrev pub hearing_of : Setup → List Job → Bool → List ℕ → Hearing
hearing_of setup jobs tagged line = part_heard setup jobs (parted tagged line)
