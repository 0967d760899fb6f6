-- What the events of roles find and leave.
use Rattle.std.specs.Prelude.{ℕ, ◌≡◌, IsTrue, Bool, true, false, List, [], ◌∷◌, ◌++◌, Option}
use Rattle.journal_model.specs.declared.verdict.Why.{Why}
use Rattle.journal_model.specs.declared.verdict.Why.TheVariants.{Eof, ReadFault, LongLine, Memory}
use Rattle.annex_model.specs.Messages.{HostMessage}
use Rattle.journal_model.specs.declared.entry.What.TheVariants.{Lost as LostEntry}
use Rattle.journal_model.specs.declared.entry.Entry.{Entry}
use Rattle.journal_model.specs.declared.opening.Opening.{Opening}
use Rattle.journal_model.specs.Journal.{is_ended, is_mute, unsent, why_of}
use Rattle.journal_model.specs.Wires.{may_hear}
use Rattle.host_core.specs.declared.event.Event.{Event}
use Rattle.host_core.specs.declared.event.Event.TheVariants.{Listen, Fetch}
use Rattle.host_core.specs.declared.event.Reply.{Reply}
use Rattle.host_core.specs.declared.event.Reply.TheVariants.{Wait, Over as OverReply}
use Rattle.host_core.specs.Steps.{step_of, told, is_gone, next_job, may_request, asking}
use Rattle.child_link.specs.declared.events.Listening.{Listening}
use Rattle.child_link.specs.declared.events.Listening.TheVariants.{Read, Rest, Over}
use Rattle.child_link.specs.declared.events.Fetched.{Fetched}
use Rattle.child_link.specs.declared.events.Fetched.TheVariants.{Line, Rest as NoLine, Over as NoMore}
use Rattle.child_link.specs.declared.events.Asked.{Asked}
use Rattle.child_link.specs.declared.events.Asked.TheVariants.{Job, Lost, Odd}
use Rattle.child_link.specs.Doors.{Passed, Stands, Appended}

-- what a link finds by itself: nothing of these asks for more than a child that was started
abbrev pub can_end : Why → Bool
can_end Eof = true
can_end ReadFault = true
can_end LongLine = true
can_end Memory = true
can_end why = false

-- the core, shut or not, answers so where this is the journal
abbrev pub Says : Opening → ℕ → List Entry → Event → Reply → Type 0
Says o number journal event reply = (shut : Bool) × (reply ≡ told journal shut event (step_of o journal number event).reply)

abbrev pub IsListening : Opening → ℕ → List Entry → ℕ → Listening → Type 0
IsListening o number journal c Read = (is_ended journal c ≡ false) × (may_hear journal c ≡ true)
IsListening o number journal c Rest = Says o number journal (Listen c) Wait
IsListening o number journal c Over = Says o number journal (Listen c) OverReply

abbrev pub is_read : Listening → Bool
is_read Read = true
is_read Rest = false
is_read Over = false

-- the line is the next that no Sent covers, of a child that is neither ended nor mute
pub record IsNextLine (journal : List Entry) (c : ℕ) (line : List ℕ) : Type 0 where
  pub next : Option ℕ × List ℕ
  pub more : List (Option ℕ × List ℕ)
  pub unsent : unsent journal c ≡ next ∷ more
  pub whole : line ≡ next.1 ++ 10 ∷ []
  pub live : is_ended journal c ≡ false
  pub loud : is_mute journal c ≡ false

abbrev pub IsFetched : Opening → ℕ → List Entry → ℕ → Fetched → Type 0
IsFetched o number journal c (Line line) = IsNextLine journal c line
IsFetched o number journal c NoLine = Says o number journal (Fetch c) Wait
IsFetched o number journal c NoMore = Says o number journal (Fetch c) OverReply

-- the request might be asked, of a child that was neither ended nor mute, and it is this job
pub record IsJob (number : ℕ) (c t : ℕ) (q : HostMessage) (job : ℕ) (past : List Entry) : Type 0 where
  pub may : may_request past number t c q ≡ true
  pub live : is_ended past c ≡ false
  pub loud : is_mute past c ≡ false
  pub next : job ≡ next_job past c

-- The request stands in the journal as the child's next job, with the name before it where one is said, or as lost where the child
-- is gone; or it might not be asked.
abbrev pub IsAsked : Opening → ℕ → Bool → List Entry → List Entry → ℕ → ℕ → Option (List ℕ) → HostMessage → Asked → Type 0
IsAsked o number alone old new c t name q (Job job) = Stands o number alone old new (λ past. asking past t c name q) (IsJob number c t q job)
IsAsked o number alone old new c t name q (Lost why) =
    Appended o number alone old new (LostEntry c t) (λ past. IsTrue (is_gone past c) × (why ≡ why_of past c))
IsAsked o number alone old new c t name q Odd = Passed number alone old new
