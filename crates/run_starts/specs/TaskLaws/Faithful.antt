-- What a STORE sent, and when a remote is faithful in a run.
use Rattle.std.specs.Prelude.{ℕ, ◌≡◌, Bool, false, if◌then◌else◌, List, [], ◌∷◌, Option, Some, None, unwrap_or}
use Rattle.ann_key.specs.Keys.{Parts, key_reading}
use Rattle.ann_outside.specs.Files.{Files, content, AllStay}
use Rattle.ann_outside.specs.Played.{Played}
use Rattle.ann_outside.specs.declared.file_desk.Call.{Call}
use Rattle.annex_model.specs.Messages.{HostMessage, Transfer}
use Rattle.journal_model.specs.declared.entry.Entry.{Entry}
use Rattle.journal_model.specs.declared.opening.Opening.{Opening}
use Rattle.journal_model.specs.Legality.{task_of}
use Rattle.task_text.specs.declared.task.Task.{Task}
use Rattle.task_model.specs.Askers.{Asking}
use Rattle.task_model.specs.declared.setup.Setup.{Setup}
use Rattle.task_model.specs.declared.turn.TaskTurn.{TaskTurn}
use Rattle.task_model.specs.Reads.{holds}
use Rattle.task_model.specs.Runs.{is_chunked}
use Rattle.run_starts.specs.TaskLaws.Changes.{Request, Retrieves}
use Rattle.run_starts.specs.TaskLaws.Contents.{Shows}

-- What is told of the desks of a run's tasks: the calls of each turn of a task, the files of its desk before the first of them, and those
-- after the last.
pub record Told : Type 0 where
  pub calls : TaskTurn → List Call
  pub before : TaskTurn → Files
  pub after : TaskTurn → Files

-- the turn's calls made the files after them of those before them
abbrev pub IsPlayed : Told → TaskTurn → Type 0
IsPlayed told t = Played (told.calls t) (told.before t) (told.after t)

-- At a desk that had these files at first and those at last, these turns of tasks were run, one after the other, and nothing else.
abbrev pub AreInTurn : Told → List TaskTurn → Files → Files → Type 0
AreInTurn told [] old new = AllStay old new
AreInTurn told (t ∷ more) old new = AllStay old (told.before t) × IsPlayed told t × AreInTurn told more (told.after t) new

-- the file that a request names
abbrev pub file_named : HostMessage → List ℕ
file_named (Transfer store key file) = file
file_named q = []

-- the task stores its content in chunks
abbrev pub is_chunking : Setup → Option Task → Bool
is_chunking setup None = false
is_chunking setup (Some task) = of_key (key_reading task.key)
  where
    of_key : Option Parts → Bool
    of_key None = false
    of_key (Some key) = is_chunked setup key

-- What a STORE sent: of a chunk what the file that it names holds by the calls of its task's turn, and nothing where they don't say; else
-- what that turn's desk held as that file before them.
abbrev pub sent : Opening → Setup → Told → Request → List ℕ
sent o setup told s =
    if is_chunking setup (task_of o s.turn.task) then unwrap_or (holds (file_named s.asks) None (told.calls s.turn)) []
    else unwrap_or (content (file_named s.asks) (told.before s.turn)) []

-- What each retrieved key's file shows is what the STORE before it sent.
abbrev pub IsFaithful : Opening → Setup → Told → List Entry → Type 0
IsFaithful o setup told journal =
    (r s : Request) (key file : List ℕ) → Retrieves journal r s key file → Shows file (sent o setup told s) (told.calls r.turn)

-- a request of this turn retrieved a key that s stored
abbrev pub IsStoredFor : List Entry → TaskTurn → Option HostMessage → Request → Type 0
IsStoredFor journal t (Some (Transfer false key file)) s = (r : Request) × (r.turn ≡ t) × Retrieves journal r s key file
IsStoredFor journal t request s = ⊥

-- these requests of the turn retrieved keys that those stored, one by one
abbrev pub AreStoredFor : List Entry → TaskTurn → List Asking → List Request → Type 0
AreStoredFor journal t [] [] = Unit {0}
AreStoredFor journal t (a ∷ more) (s ∷ stores) = IsStoredFor journal t a.request s × AreStoredFor journal t more stores
AreStoredFor journal t asked stores = ⊥
