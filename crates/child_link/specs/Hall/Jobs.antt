-- One job, asked through a door that others have too.
use Rattle.std.specs.Prelude.{ℕ}
use Rattle.journal_model.specs.declared.verdict.Verdict.{Verdict}
use Rattle.host_talk.specs.declared.request.request.Request.{Request}
use Rattle.host_talk.specs.Request.Requests.{message_of, name_of}
use Rattle.child_link.specs.Asks.{HasAsked, never}
use Rattle.child_link.specs.Doors.{DoorView}

-- from the one value of the door to the other the request was asked of the child, and settled so; nothing else was made
abbrev pub HasAskedJob : {H : Type 0} → DoorView H → DoorView H → ℕ → ℕ → Request → Verdict → Type 0
HasAskedJob old new child task request =
    HasAsked old.opening old.number old.alone never old.seen new.seen child task (name_of request) (message_of request) (λ job. Unit {0})
