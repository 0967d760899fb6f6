-- What comes of an event, and the line that a value is answered by.
use Rattle.std.specs.Prelude.{ℕ, ◌≡◌, List, ◌++◌, All, Some, IfSome, length, option_map, slice_get}
use Rattle.annex_model.specs.Messages.{Getconfig, remote_line}
use Rattle.kit_async_model.specs.declared.setup.Setup.{Setup}
use Rattle.kit_async_model.specs.declared.job.Job.{Job}
use Rattle.kit_async_model.specs.declared.entry.Entry.{Entry}
use Rattle.kit_async_model.specs.declared.event.Event.{Event}
use Rattle.kit_async_model.specs.declared.event.Reply.{Reply}
use Rattle.kit_async_model.specs.Events.{IsMadeBy, MayStep}
use Rattle.kit_async_model.specs.Jobs.{job_line}

-- the event of that number came to this reply, and appended a group that it may append
abbrev pub Comes : Setup → List Entry → List Entry → ℕ → Event → Reply → Type 0
Comes setup old new by event reply = (group : List Entry) × (new ≡ old ++ group) × All (IsMadeBy by) group × MayStep setup old by event group reply

-- after these values the line asks for the next setting, for the job at that place
abbrev pub AsksNext : Setup → List Job → ℕ → List (List ℕ) → List ℕ → Type 0
AsksNext setup jobs place values line =
    IfSome (slice_get jobs place) (λ job. option_map (λ name. job_line job.number (remote_line (Getconfig name))) (slice_get setup.settings (length values)) ≡ Some line)
