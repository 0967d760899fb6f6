-- What a line that is served sets, and the registers after a journal.
use Rattle.std.specs.Prelude.{ℕ, ◌≡◌, ◌&&◌, not, Bool, true, false, if◌then◌else◌, List, Option, Some, None, IsTrue}
use Rattle.annex_model.specs.Lines.{has_newline}
use Rattle.annex_model.specs.Messages.{RemoteMessage, remote_reading}
use Rattle.annex_model.specs.Talks.{is_aside}
use Rattle.annex_model.specs.Hearings.{Hearing, Aside}
use Rattle.registers.specs.Registers.{RegisterFile, IsKept}
use Rattle.journal_model.specs.declared.entry.What.{What}
use Rattle.journal_model.specs.declared.entry.What.TheVariants.{Got}
use Rattle.journal_model.specs.declared.entry.Entry.{Entry}
use Rattle.journal_model.specs.declared.opening.Opening.{Opening}
use Rattle.journal_model.specs.Journal.{is_open, has_spoken, addressed}
use Rattle.journal_model.specs.Due.{is_error}
use Rattle.journal_model.specs.Replies.{IsLineIdentity, set_by_all}
use Rattle.journal_model.specs.Registers.{settings, if_setting}
use Rattle.host_core.specs.declared.due.Due.{Due}
use Rattle.host_core.specs.declared.due.Due.TheVariants.{Replies}

-- what the registers hold after the journal: what they held at first, with each setting in turn
abbrev pub registers_after : Opening → List Entry → RegisterFile
registers_after o journal = set_by_all o.registers (settings journal)

-- these are the registers after the journal, and all that they and the identity hold can be said on a line
pub record IsServed (o : Opening) (journal : List Entry) (registers : RegisterFile) : Type 0 where
  pub given : registers ≡ registers_after o journal
  pub kept : IsKept o.registers
  pub identity : IsLineIdentity o.identity

-- ---- which lines are served

abbrev pub is_aside_heard : Hearing → Bool
is_aside_heard Aside = true
is_aside_heard h = false

-- an aside in an open job
abbrev pub serves_message : List Entry → ℕ → Option ℕ → RemoteMessage → Bool
serves_message past c None m = false
serves_message past c (Some j) m = is_open past c j && is_aside m

abbrev pub serves_line : List Entry → ℕ → Option ℕ → Option RemoteMessage → Bool
serves_line past c job None = false
serves_line past c job (Some m) = serves_message past c job m

-- the line is for that job and has that text
abbrev pub serves : List Entry → ℕ → Option ℕ × List ℕ → Bool
serves past c to =
    if is_error (remote_reading to.1) then false
    else if not (has_spoken past c) then false
    else serves_line past c to.0 (remote_reading to.1)

-- ---- what the group sets

abbrev pub is_reply : Due → Bool
is_reply (Replies child job lines) = true
is_reply due = false

abbrev pub set_in_line : List Entry → What → Option RemoteMessage
set_in_line past (Got child line) = if_setting (remote_reading (addressed past child line).1)
set_in_line past w = None

abbrev pub set_in_first : List Entry → Option What → Option RemoteMessage
set_in_first past None = None
set_in_first past (Some w) = set_in_line past w

abbrev pub set_in : List Entry → Option What → Due → Option RemoteMessage
set_in past what due = if is_reply due then set_in_first past what else None

-- replies are due after a line that is served, and after no other
abbrev pub is_due_reply : List Entry → What → Due → Type 0
is_due_reply past (Got child line) due = is_reply due ≡ serves past child (addressed past child line)
is_due_reply past w due = Unit {0}

abbrev pub IsDueReply : List Entry → Option What → Due → Type 0
IsDueReply past None due = Unit {0}
IsDueReply past (Some w) due = is_due_reply past w due

-- a line that was got has no byte 10
abbrev pub is_line : What → Bool
is_line (Got child line) = not (has_newline line)
is_line w = true

abbrev pub IsLine : Option What → Type 0
IsLine None = Unit {0}
IsLine (Some w) = IsTrue (is_line w)
