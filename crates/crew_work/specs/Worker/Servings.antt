-- How a number stands that serves a task over a child, and what serving makes.
use Rattle.std.specs.Prelude.{ℕ, ◌≡◌, ◌==◌, ◌&&◌, Bool, true, false, List, [], Option, Some, None}
use Rattle.std.specs.Str.{is_utf8}
use Rattle.annex_model.specs.Messages.{HostMessage, Transfer, Transferexport, Renameexport}
use Rattle.journal_model.specs.declared.entry.What.{What}
use Rattle.journal_model.specs.declared.entry.What.TheVariants.{Lead, Ask, Lost, Note}
use Rattle.journal_model.specs.declared.entry.Entry.{Entry}
use Rattle.journal_model.specs.declared.opening.Opening.{Opening}
use Rattle.journal_model.specs.Journal.{is_started, open_jobs}
use Rattle.journal_model.specs.Legality.{is_prepared, is_busy_with}
use Rattle.journal_model.specs.Shares.{Moved, by_link, is_of_child}
use Rattle.journal_model.specs.Halves.{EarValue, MouthValue}
use Rattle.child_link.specs.Writings.{LoneWired}
use Rattle.child_link.specs.Doors.{DoorView, IsSameDoor}
use Rattle.child_link.specs.Moves.{IsSameLink}
use Rattle.crew_work.specs.Worker.AtTasks.{AtTask}
use Rattle.crew_work.specs.Worker.KnownLayouts.{IsBook}

-- task t is the child's, which is prepared and has no open job
pub record HasTurn (seen : List Entry) (c t : ℕ) : Type 0 where
  pub prepared : is_prepared seen c ≡ true
  pub busy : is_busy_with seen c t ≡ true
  pub idle : open_jobs seen c ≡ []

-- the number holds task t, no job of which is open, over a child that was started, in a run that began with a book; where nobody
-- else steps the core, it is the child's turn
pub record Serves (o : Opening) (number : ℕ) (alone : Bool) (c t : ℕ) (seen : List Entry) : Type 0 where
  pub at : AtTask o number t seen
  pub started : is_started seen c ≡ true
  pub book : IsBook o.notes
  pub turn : alone ≡ true → HasTurn seen c t

-- requests for t over c, with the names before them, which may be lost, notes of t, and what c's link does
abbrev pub by_server : ℕ → ℕ → What → Bool
by_server c t (Lead child job line) = child == c
by_server c t (Ask child job task line) = child == c && task == t
by_server c t (Lost child task) = child == c && task == t
by_server c t (Note task chunk count) = task == t
by_server c t w = by_link c w

-- requests for t of c, with the names before them, which may be lost, and notes of t
abbrev pub by_jobs : ℕ → ℕ → What → Bool
by_jobs c t (Lead child job line) = child == c
by_jobs c t (Ask child job task line) = child == c && task == t
by_jobs c t (Lost child task) = child == c && task == t
by_jobs c t (Note task chunk count) = task == t
by_jobs c t w = false

-- it serves the task still, and made nothing else
pub record ServesOn (o : Opening) (number : ℕ) (alone : Bool) (c t : ℕ) (old new : List Entry) (Before After : Type 0) : Type 0 where
  pub serves : Serves o number alone c t new
  pub moved : Moved number alone (by_server c t) (is_of_child c) old new Before After

-- the files that the message names are named by text
abbrev pub names_text : HostMessage → Bool
names_text (Transfer store key file) = is_utf8 file
names_text (Transferexport store key file) = is_utf8 file
names_text (Renameexport key onto) = is_utf8 onto
names_text q = true

-- the name that is said before a request, if one is, is text
abbrev pub is_said_in_text : Option (List ℕ) → Bool
is_said_in_text None = true
is_said_in_text (Some name) = is_utf8 name

-- what an asker over a link and a door made of both: they are the same, and it serves the same task still
pub record AskerGoes {H : Type 0} (old new : DoorView H) (ear ear' : EarValue) (mouth mouth' : MouthValue) (t u : ℕ) : Type 0 where
  pub door : IsSameDoor old new
  pub link : IsSameLink ear ear' mouth mouth'
  pub task : u ≡ t
  pub on : ServesOn old.opening old.number old.alone ear.child t old.seen new.seen (LoneWired old.seen ear mouth) (LoneWired new.seen ear' mouth')
