-- What an audit finds of a journal.
use Rattle.std.specs.Prelude.{◌≡◌, ◌⊎◌, List, None, length}
use Rattle.journal_model.specs.declared.entry.Entry.{Entry}
use Rattle.journal_model.specs.declared.opening.Opening.{Opening}
use Rattle.journal_model.specs.Legality.{Legal as IsLegal, FirstWrong, Unfinished, kind_of}
use Rattle.journal_audit.specs.Replays.{IsReplayed}
use Rattle.journal_audit.specs.declared.found.Audit.{Audit}
use Rattle.journal_audit.specs.declared.found.Audit.TheVariants.{Legal, Wrong}
use Rattle.journal_audit.specs.declared.found.Misplaced.{Misplaced}
use Rattle.journal_audit.specs.declared.replay.Replayed.{Replayed}
use Rattle.journal_audit.specs.declared.replay.Replayed.TheVariants.{Whole, Wrong as WrongAt}

-- the first entry that may not stand there, with its kind's number
abbrev pub IsMisplaced : Opening → List Entry → Misplaced → Type 0
IsMisplaced o journal m = (e : Entry) × FirstWrong o journal m.entry e × (m.kind ≡ kind_of e.what)

-- Legal exactly where the journal is; else the first entry that may not stand there, with its kind's number, or the
-- journal's length and 0 where entries are still due at the end
abbrev pub IsAudit : Opening → List Entry → Audit → Type 0
IsAudit o journal Legal = IsLegal o journal
IsAudit o journal (Wrong entry kind) =
    IsMisplaced o journal (record { entry = entry; kind = kind })
    ⊎ (Unfinished o journal × (entry ≡ length journal) × (kind ≡ 0))

-- a core of that opening has made the journal again, and what is due after its last entry; or this is its first wrong entry
abbrev pub ReplaysTo : Opening → List Entry → Replayed → Type 0
ReplaysTo o journal (Whole core) = (core.opening ≡ o) × IsReplayed o journal None core.journal
ReplaysTo o journal (WrongAt m) = IsMisplaced o journal m
