-- Which of a child's jobs may ask a message: job 0 asks for its extensions, job 1 gets it ready or sets it up, and any other
-- request is later.
use Rattle.std.specs.Prelude.{ℕ, ◌==◌, nat_lt, Bool, false}
use Rattle.annex_model.specs.declared.turn.Turn.{Turn}
use Rattle.annex_model.specs.declared.turn.Turn.TheVariants.{First, Second, Later, Never}
use Rattle.annex_model.specs.Messages.{HostMessage, AskExtensions, Prepare, Initremote, Transfer, Checkpresent, Remove, Listconfigs, Getcost, Getavailability, Getinfo, Whereis, Exportsupported, Export, Transferexport, Checkpresentexport, Removeexport, Renameexport, Value, Creds, HostError}

abbrev pub turn_of : HostMessage → Turn
turn_of (AskExtensions names) = First
turn_of Prepare = Second
turn_of Initremote = Second
turn_of (Transfer store key file) = Later
turn_of (Checkpresent key) = Later
turn_of (Remove key) = Later
turn_of Listconfigs = Later
turn_of Getcost = Later
turn_of Getavailability = Later
turn_of Getinfo = Later
turn_of (Whereis key) = Later
turn_of Exportsupported = Later
turn_of (Transferexport store key file) = Later
turn_of (Checkpresentexport key) = Later
turn_of (Removeexport key) = Later
turn_of (Renameexport key onto) = Later
-- a name alone asks nothing
turn_of (Export name) = Never
turn_of (Value value) = Never
turn_of (Creds user password) = Never
turn_of (HostError text) = Never

-- the job of that number may
abbrev pub is_at : Turn → ℕ → Bool
is_at First job = job == 0
is_at Second job = job == 1
is_at Later job = nat_lt 1 job
is_at Never job = false
