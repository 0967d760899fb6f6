-- What the asker tells.
use Rattle.std.specs.Prelude.{ℕ, Bool, true, false, Some}
use Rattle.annex_model.specs.Messages.{HostMessage, Transfer, Checkpresent, Remove, Transferexport, Checkpresentexport, Removeexport, Renameexport}
use Rattle.journal_model.specs.declared.verdict.Verdict.{Verdict}
use Rattle.journal_model.specs.declared.verdict.Verdict.TheVariants.{Done, Absent, Unsent}
use Rattle.host_talk.specs.declared.request.request.Request.{Request}
use Rattle.host_talk.specs.Request.Requests.{message_of, name_of}
use Rattle.task_model.specs.Askers.{Asking, Noting}

abbrev pub pair_of : Request × Verdict → Asking
pair_of pair = record { request = Some (message_of pair.0); name = name_of pair.0; verdict = pair.1 }

abbrev pub note_of : ℕ × ℕ × ℕ → Noting
note_of note = record { chunk = note.0; count = note.1; behind = note.2 }

-- a transfer, a removal and a new name are done, a question is answered no, and nothing else is answered
abbrev pub can_have : HostMessage → Verdict → Bool
can_have (Transfer store key file) (Done at) = true
can_have (Remove key) (Done at) = true
can_have (Checkpresent key) (Absent at) = true
can_have (Transferexport store key file) (Done at) = true
can_have (Removeexport key) (Done at) = true
can_have (Renameexport key onto) (Done at) = true
can_have (Checkpresentexport key) (Absent at) = true
can_have q Unsent = true
can_have q v = false
