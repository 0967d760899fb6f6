-- How a kit stands after the entries of its journal.
use Rattle.std.specs.Prelude.{ℕ, ◌+◌, ◌&&◌, ◌||◌, not, Bool, true, false, if◌then◌else◌, List, [], ◌∷◌, ◌++◌, drop, map, fold, Option, Some, None, codes}
use Rattle.annex_model.specs.Messages.{Error, Extensions, HostMessage, AskExtensions, host_reading, remote_line}
use Rattle.annex_model.specs.Tags.{names_async}
use Rattle.kit_serve.specs.declared.kit.call.Said.{Said}
use Rattle.kit_serve.specs.Kit.Kits.{is_prepare}
use Rattle.kit_async_model.specs.declared.setup.Setup.{Setup}
use Rattle.kit_async_model.specs.declared.job.Job.{Job}
use Rattle.kit_async_model.specs.declared.entry.Entry.{Entry}
use Rattle.kit_async_model.specs.declared.entry.Entry.TheVariants.{Heard, Take, Call, Say, Wrote, Close, Lack}
use Rattle.kit_async_model.specs.declared.hearing.Hearing.{Hearing}
use Rattle.kit_async_model.specs.declared.hearing.Hearing.TheVariants.{Foul, Unexpected, Aside, Asks, Replies}
use Rattle.kit_async_model.specs.Jobs.{request_of, is_awaiting, lines_in, settles, finals_in, prepared_after, job_of, with_job, without_job}
use Rattle.kit_async_model.specs.Hearings.{text_in, value_told, hearing_of}

pub record Standing : Type 0 where
  -- the lines that have to be said next, before anything else: the job of each, and it without a tag
  pub due : List (ℕ × List ℕ)
  -- lines are tagged
  pub tagged : Bool
  -- all remotes said Yes to a PREPARE, and none anything else to one since
  pub prepared : Bool
  -- the values of that PREPARE
  pub told : List (List ℕ)
  -- the requests that aren't settled, in the order in which they were heard
  pub jobs : List Job
  -- what was heard last ended it, or no memory was found for what it had to say
  pub over : Bool
  -- no more is heard
  pub closed : Bool
  -- what was said and isn't written yet
  pub unwritten : List (List ℕ)

-- it has to say its version
abbrev pub opening : Standing
opening = record {
  due = (0, codes "VERSION 1") ∷ [];
  tagged = false;
  prepared = false;
  told = [];
  jobs = [];
  over = false;
  closed = false;
  unwritten = [];
}

-- ---- a line that was heard

abbrev pub unexpected_line : List ℕ
unexpected_line = remote_line (Error (codes "unexpected message"))

-- EXTENSIONS with ASYNC is the last line without a tag
abbrev pub starts_tags : Option HostMessage → Bool
starts_tags (Some (AskExtensions names)) = names_async (Some (Extensions names))
starts_tags request = false

-- a job that was just heard
abbrev pub new_job : ℕ → List ℕ → Bool → Job
new_job number text prepared = record { number = number; text = text; prepared = prepared; values = []; taken = None; calls = 0; settled = false }

abbrev pub with_value : List ℕ → Job → Job
with_value value job = record job { values = job.values ++ value ∷ [] }

abbrev pub due_of_job : Setup → List (List ℕ) → Job → List (ℕ × List ℕ)
due_of_job setup told job = map (λ line. (job.number, line)) (lines_in setup told job)

abbrev pub due_of : Setup → List (List ℕ) → Option Job → List (ℕ × List ℕ)
due_of setup told None = []
due_of setup told (Some job) = due_of_job setup told job

abbrev pub with_request : Setup → Standing → Job → Standing
with_request setup s job = record s { due = due_of_job setup s.told job; tagged = s.tagged || starts_tags (request_of job); jobs = s.jobs ++ job ∷ [] }

abbrev pub with_told : Setup → Standing → ℕ → List ℕ → Standing
with_told setup s number value =
    record s { due = due_of setup s.told (job_of (with_job number (with_value value) s.jobs) number); jobs = with_job number (with_value value) s.jobs }

abbrev pub heard_as : Setup → Standing → List ℕ → Hearing → Standing
heard_as setup s text Foul = record s { over = true }
heard_as setup s text Unexpected = record s { over = true; due = (0, unexpected_line) ∷ [] }
heard_as setup s text Aside = s
heard_as setup s text (Asks number) = with_request setup s (new_job number text s.prepared)
heard_as setup s text (Replies number) = with_told setup s number (value_told (host_reading text))

-- ---- a line that was said

abbrev pub said_line : Standing → List ℕ → Standing
said_line s line = record s { due = drop 1 s.due; unwritten = s.unwritten ++ line ∷ [] }

abbrev pub is_some_due : List (ℕ × List ℕ) → Bool
is_some_due [] = false
is_some_due (due ∷ rest) = true

-- the values that are told of from then on: those of a PREPARE, if it left the kit prepared
abbrev pub told_by : Bool → Job → List (List ℕ) → List (List ℕ)
told_by prepared job told = if prepared && is_prepare (request_of job) then job.values else told

-- it settles the job, unless more lines are due, it asks for a value, or it was the kit's last word
abbrev pub said_in : Setup → Standing → Option Job → Standing
said_in setup s None = s
said_in setup s (Some job) =
    if is_some_due s.due || s.over || is_awaiting setup job then s
    else record s { told = told_by s.prepared job s.told; jobs = without_job job.number s.jobs }

-- ---- a call

abbrev pub with_taken : ℕ → Job → Job
with_taken remote job = record job { taken = Some remote }

abbrev pub with_call : Bool → Job → Job
with_call settled job = record job { calls = job.calls + 1; settled = settled }

-- what a call makes due, unless the kit is over
abbrev pub answer_due : Setup → Job → Said → Bool → List (ℕ × List ℕ)
answer_due setup job said over = if not over && settles setup job said then map (λ line. (job.number, line)) (finals_in job said) else []

abbrev pub called_in : Setup → Standing → Said → Option Job → Standing
called_in setup s said None = s
called_in setup s said (Some job) = record s {
  due = answer_due setup job said s.over;
  prepared = prepared_after setup job said s.prepared;
  jobs = with_job job.number (with_call (settles setup job said)) s.jobs;
}

-- ---- each entry

abbrev pub after : Setup → Standing → Entry → Standing
after setup s (Heard line) = heard_as setup s (text_in s.tagged line) (hearing_of setup s.jobs s.tagged line)
after setup s (Take job remote) = record s { jobs = with_job job (with_taken remote) s.jobs }
after setup s (Call job remote said) = called_in setup s said (job_of s.jobs job)
after setup s (Say job line) = said_in setup (said_line s line) (job_of s.jobs job)
after setup s Wrote = record s { unwritten = drop 1 s.unwritten }
after setup s Close = record s { closed = true }
after setup s Lack = record s { due = []; over = true }

abbrev pub standing : Setup → List Entry → Standing
standing setup journal = fold (after setup) opening journal
