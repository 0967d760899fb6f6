-- What values of the code are, in the words of the definitions.
use Rattle.std.specs.Prelude.{ℕ, ◌≡◌, List, []}
use Rattle.annex_model.specs.Messages.{HostMessage, Transfer, IsSayable}
use Rattle.wire_msg.specs.Shown.{remote_shown}
use Rattle.kit_serve.specs.Kit.Kits.{Due, Silence, Line, Asks}
use Rattle.kit_async_model.specs.declared.due.Due.{Due as CodeDue}
use Rattle.kit_async_model.specs.declared.due.Due.TheVariants.{Silence as NoDue, Line as LineDue, Call as CallDue}

-- ---- what is due

-- the same; a line has fields of their classes
abbrev pub DueOf : CodeDue → Due → Type 0
DueOf NoDue Silence = Unit {0}
DueOf (LineDue message) (Line line) = (remote_shown message ≡ line) × IsSayable line
DueOf CallDue (Asks asked) = Unit {0}
DueOf due other = ⊥

-- the file that a transfer names, which is empty in any other request
abbrev pub file_of : HostMessage → List ℕ
file_of (Transfer store key file) = file
file_of request = []
