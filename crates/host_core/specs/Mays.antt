-- What a core that several threads step may do at one event, for all that its journal says.
use Rattle.std.specs.Prelude.{ℕ, ◌≡◌, Bool, true, List, ◌++◌}
use Rattle.journal_model.specs.declared.entry.Entry.{Entry}
use Rattle.journal_model.specs.declared.opening.Opening.{Opening}
use Rattle.journal_model.specs.Legality.{Legal}
use Rattle.host_core.specs.declared.event.Event.{Event}
use Rattle.host_core.specs.declared.event.Reply.{Reply}
use Rattle.host_core.specs.Steps.{step_of, told, takes_no_memory}

-- the group and the reply are the event's, of a core that is shut or not, and what stands then is legal
pub record MayStep (o : Opening) (past : List Entry) (by : ℕ) (event : Event) (group : List Entry) (reply : Reply) : Type 0 where
  pub shut : Bool
  pub reply_is : reply ≡ told past shut event (step_of o past by event).reply
  pub group_is : group ≡ (step_of o past by event).group
  pub legal : Legal o (past ++ group)

-- the entry has this number
abbrev pub IsMadeBy : ℕ → Entry → Type 0
IsMadeBy number entry = entry.by ≡ number

-- the event never wants memory
abbrev pub IsFree : Event → Type 0
IsFree event = takes_no_memory event ≡ true
