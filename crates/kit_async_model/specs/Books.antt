-- A journal that is being written, with how a kit stands after it, and what a step does to both.
use Rattle.std.specs.Prelude.{ℕ, ◌≡◌, ◌⊎◌, ◌+◌, ◌-◌, ◌*◌, ◌≤◌, ◌<◌, Bool, true, false, if◌then◌else◌, List, [], ◌∷◌, ◌++◌, fold, find, map, set, length, slice_get, Option, Some, None, IfSome}
use Rattle.std.specs.List.{list_any}
use Rattle.annex_model.specs.Messages.{host_reading}
use Rattle.kit_serve.specs.declared.kit.call.Said.{Said}
use Rattle.kit_serve.specs.Kit.Calls.{is_line_said}
use Rattle.kit_async_model.specs.declared.setup.Setup.{Setup}
use Rattle.kit_async_model.specs.declared.job.Job.{Job}
use Rattle.kit_async_model.specs.declared.entry.Entry.{Entry}
use Rattle.kit_async_model.specs.declared.entry.Entry.TheVariants.{Call}
use Rattle.kit_async_model.specs.declared.event.Event.{Event}
use Rattle.kit_async_model.specs.declared.event.Reply.{Reply}
use Rattle.kit_async_model.specs.declared.hearing.Hearing.TheVariants.{Asks, Replies}
use Rattle.kit_async_model.specs.Jobs.{is_making_ready, has_number, settles, prepared_after, finals_in, job_line}
use Rattle.kit_async_model.specs.Hearings.{hearing_of, text_in, value_told}
use Rattle.kit_async_model.specs.Standings.{Standing, new_job, with_call, after, standing}
use Rattle.kit_async_model.specs.Legality.{Legal, is_called}
use Rattle.kit_async_model.specs.Events.{Stepped, IsUnsaid, event_step, is_call}

-- whether the entries are kept, they, for how many more there is room, and how a kit stands after them
pub record BookValue : Type 0 where
  pub kept : Bool
  pub journal : List Entry
  pub room : ℕ
  pub stands : Standing

-- what contracts see of a core: what doesn't change, its journal, and whether it is broken off
pub record CoreValue : Type 0 where
  pub setup : Setup
  pub journal : List Entry
  pub broken : Bool

-- no two open jobs have one number
abbrev pub AreApart : List Job → Type 0
AreApart [] = Unit {0}
AreApart (job ∷ jobs) = (list_any (has_number job.number) jobs ≡ false) × AreApart jobs

-- ---- room

-- how many calls a job has in the end
abbrev pub most_calls : Setup → Job → ℕ
most_calls setup job = if is_making_ready job then setup.remotes else 1

abbrev pub calls_owed : Setup → List Job → ℕ
calls_owed setup [] = 0
calls_owed setup (job ∷ jobs) = (most_calls setup job - job.calls) + calls_owed setup jobs

-- The entries that must not fail when memory runs out: each call that may come, what is said to it, and that it is written; and each
-- line that is to be written.
abbrev pub room_owed : Setup → Standing → ℕ
room_owed setup s = 3 * calls_owed setup s.jobs + length s.unwritten

-- what a core keeps true of its book: the journal is legal, the standing is the one after it, and there is room for what is owed
pub record IsBook (setup : Setup) (book : BookValue) : Type 0 where
  pub legal : Legal setup book.journal
  pub stands : book.stands ≡ standing setup book.journal
  pub room : room_owed setup book.stands ≤ book.room

-- ---- steps

-- The step was done, and answered so.
pub record Took (setup : Setup) (old new : BookValue) (step : Stepped) (reply : Reply) : Type 0 where
  pub reply_is : reply ≡ step.reply
  pub journal : new.journal ≡ old.journal ++ step.group
  pub stands : new.stands ≡ fold (after setup) old.stands step.group
  pub room : room_owed setup old.stands ≤ old.room → room_owed setup new.stands ≤ new.room

-- The call is noted, and no memory was found for what is to be said to it.
pub record Lacked (setup : Setup) (old new : BookValue) (step : Stepped) (reply : Reply) : Type 0 where
  pub group : List Entry
  pub unsaid : IsUnsaid step group reply
  pub journal : new.journal ≡ old.journal ++ group
  pub stands : new.stands ≡ fold (after setup) old.stands group
  pub room : room_owed setup old.stands ≤ old.room → room_owed setup new.stands ≤ new.room

-- an event was taken
abbrev pub TookEvent : Setup → BookValue → BookValue → ℕ → Event → Reply → Type 0
TookEvent setup old new by event reply =
    Took setup old new (event_step setup old.stands by event) reply
    ⊎ ((is_call event ≡ true) × Lacked setup old new (event_step setup old.stands by event) reply)

-- nothing was done, but that there may be more room
pub record BookIsAsBefore (old new : BookValue) : Type 0 where
  pub journal : new.journal ≡ old.journal
  pub stands : new.stands ≡ old.stands
  pub room : old.room ≤ new.room

-- ---- a line of the host

-- The line is a request that may stand there, and the job is what it begins.
pub record IsRequest (setup : Setup) (s : Standing) (line : List ℕ) (job : Job) : Type 0 where
  pub hearing : hearing_of setup s.jobs s.tagged line ≡ Asks job.number
  pub job_is : job ≡ new_job job.number (text_in s.tagged line) s.prepared

-- The line tells a value to the job at that place, which has these values then.
pub record IsValue (setup : Setup) (s : Standing) (line : List ℕ) (place : ℕ) (values : List (List ℕ)) : Type 0 where
  pub job : Job
  pub there : slice_get s.jobs place ≡ Some job
  pub hearing : hearing_of setup s.jobs s.tagged line ≡ Replies job.number
  pub values_are : values ≡ job.values ++ value_told (host_reading (text_in s.tagged line)) ∷ []

-- ---- a call

-- The remote was called for the job at that place, and may say so.
pub record IsCalledAt (setup : Setup) (s : Standing) (remote : ℕ) (said : Said) (place : ℕ) : Type 0 where
  pub job : Job
  pub there : slice_get s.jobs place ≡ Some job
  pub called : find (is_called setup s.jobs remote) s.jobs ≡ Some job
  pub line : is_line_said said ≡ true
  pub few : job.calls < most_calls setup job

-- The call is noted for the job at that place, and what is due then isn't said yet.
pub record CallNoted (setup : Setup) (old new : BookValue) (remote : ℕ) (said : Said) (place : ℕ) : Type 0 where
  pub job : Job
  pub there : slice_get old.stands.jobs place ≡ Some job
  pub journal : new.journal ≡ old.journal ++ Call job.number remote said ∷ []
  pub room : new.room + 1 ≡ old.room
  pub stands : new.stands ≡ record old.stands {
    prepared = prepared_after setup job said old.stands.prepared;
    jobs = set old.stands.jobs place (with_call (settles setup job said) job);
  }

-- the lines are the answer to the job
abbrev pub IsAnswer : List Job → ℕ → Said → List (List ℕ) → Type 0
IsAnswer jobs place said lines = IfSome (slice_get jobs place) (λ job. lines ≡ map (job_line job.number) (finals_in job said))

-- There is room for one line of each answer; each further one takes more, to be said and to be written.
pub record AnswerKept (old new : BookValue) (place : ℕ) (said : Said) (lines : List (List ℕ)) : Type 0 where
  pub answer : IsAnswer old.stands.jobs place said lines
  pub journal : new.journal ≡ old.journal
  pub room : new.room ≡ old.room + 2 * (length lines - 1)
  pub stands : new.stands ≡ record old.stands { unwritten = old.stands.unwritten ++ lines }

-- The answer to the job is among the lines that are to be written; or no memory was found for it.
abbrev pub AnswerBegun : BookValue → BookValue → ℕ → Said → Option (List (List ℕ)) → Type 0
AnswerBegun old new place said None = BookIsAsBefore old new
AnswerBegun old new place said (Some lines) = AnswerKept old new place said lines
