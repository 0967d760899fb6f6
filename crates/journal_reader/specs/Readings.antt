-- How far a reader has come, and which line may stand next.
use Rattle.std.specs.Prelude.{ℕ, ◌≡◌, ◌+◌, ◌<◌, ◌≤◌, ◌^◌, ◌⊎◌, Bool, true, false, List, [], ◌∷◌, ◌++◌, Result, Ok, Err, length, codes, IsTrue}
use Rattle.ann_key.specs.declared.bytes.NoMemory.{NoMemory as OutOfMemory}
use Rattle.task_text.specs.TaskLines.{IsTask}
use Rattle.task_text.specs.declared.task.Task.{Task}
use Rattle.journal_model.specs.declared.entry.Entry.{Entry}
use Rattle.journal_text.specs.Entries.Entries.{entry_line, IsEntry}
use Rattle.journal_text.specs.Lines.JournalTexts.{Told, worded, head, begin, stamp_line, again_line, task_line, keep_line, end_line}
use Rattle.journal_reader.specs.RunTexts.{is_uuid, may_be_kept, may_stand}
use Rattle.journal_reader.specs.declared.place.Place.{Place}
use Rattle.journal_reader.specs.declared.place.Place.TheVariants.{Head, Uuid, Name, Gitdir, Stamp, Again, Given, Entries, Over, Refused}
use Rattle.journal_reader.specs.declared.error.JournalError.{JournalError}
use Rattle.journal_reader.specs.declared.error.JournalError.TheVariants.{BadLine, Cut, NoMemory}
use Rattle.journal_model.specs.Legality.{is_text}

-- what a reader awaits, how many lines it took, and what they tell
pub record Reading : Type 0 where
  pub place : Place
  pub taken : ℕ
  pub told : Told

abbrev pub nothing_told : Told
nothing_told = record { early = false; uuid = []; name = []; gitdir = []; stamp = 0; again = 0; tasks = []; kept = []; entries = [] }

abbrev pub start : Reading
start = record { place = Head; taken = 0; told = nothing_told }

-- ---- the lines after the stamp

-- a task's line, where no kept line stands before it
pub record TakesTask (t : Told) (line : List ℕ) (new : Told) : Type 0 where
  pub task : Task
  pub spelled : line ≡ task_line task
  pub class : IsTask task
  pub first : t.kept ≡ []
  pub few : length t.tasks < 65536
  pub told : new ≡ record t { tasks = t.tasks ++ task ∷ [] }

pub record TakesKept (t : Told) (line : List ℕ) (new : Told) : Type 0 where
  pub text : List ℕ
  pub spelled : line ≡ keep_line text
  pub class : may_be_kept t.kept text ≡ true
  pub told : new ≡ record t { kept = t.kept ++ text ∷ [] }

pub record TakesEntry (t : Told) (line : List ℕ) (new : Told) : Type 0 where
  pub entry : Entry
  pub spelled : line ≡ entry_line entry
  pub class : IsEntry entry
  pub stands : IsTrue (may_stand t.early entry.what)
  pub told : new ≡ record t { entries = t.entries ++ entry ∷ [] }

-- ---- each line

-- what is awaited after the stamp: an early text doesn't say how often a task may be run again
abbrev pub after_stamp : Bool → Place
after_stamp false = Again
after_stamp true = Given

-- Where this is awaited after what is told, the line may stand next; that is awaited then, and so much told.
abbrev pub Goes : Place → Told → List ℕ → Place → Told → Type 0
Goes Head t line place new = (line ≡ head new.early) × (place ≡ Uuid) × (new ≡ record t { early = new.early })
Goes Uuid t line place new = (line ≡ worded (codes "uuid") new.uuid) × IsTrue (is_uuid new.uuid) × (place ≡ Name) × (new ≡ record t { uuid = new.uuid })
Goes Name t line place new = (line ≡ worded (codes "name") new.name) × IsTrue (is_text new.name) × (place ≡ Gitdir) × (new ≡ record t { name = new.name })
Goes Gitdir t line place new = (line ≡ worded (codes "gitdir") new.gitdir) × IsTrue (is_text new.gitdir) × (place ≡ Stamp) × (new ≡ record t { gitdir = new.gitdir })
Goes Stamp t line place new = (line ≡ stamp_line new.stamp) × (new.stamp < 2 ^ 64) × (place ≡ after_stamp t.early) × (new ≡ record t { stamp = new.stamp })
Goes Again t line place new = (line ≡ again_line new.again) × (new.again ≤ 8) × (place ≡ Given) × (new ≡ record t { again = new.again })
Goes Given t line place new =
    (((line ≡ begin) × (place ≡ Entries) × (new ≡ t)) ⊎ ((place ≡ Given) × TakesTask t line new)) ⊎ ((place ≡ Given) × TakesKept t line new)
Goes Entries t line place new = ((line ≡ end_line (length t.entries)) × (place ≡ Over) × (new ≡ t)) ⊎ ((place ≡ Entries) × TakesEntry t line new)
Goes Over t line place new = ⊥
Goes (Refused number) t line place new = ⊥

abbrev pub CannotGo : Place → Told → List ℕ → Type 0
CannotGo at t line = (place : Place) (new : Told) → Goes at t line place new → ⊥

-- the line may stand next, and was taken
pub record Follows (old : Reading) (line : List ℕ) (new : Reading) : Type 0 where
  pub goes : Goes old.place old.told line new.place new.told
  pub taken : new.taken ≡ old.taken + 1

-- what a taker of one line answers: it went on, or the line can't follow, or no memory was found
abbrev pub Took : Reading → List ℕ → Reading → Result Bool OutOfMemory → Type 0
Took old line new (Ok true) = Goes old.place old.told line new.place new.told × (new.taken ≡ old.taken)
Took old line new (Ok false) = CannotGo old.place old.told line × (new ≡ old)
Took old line new (Err error) = new ≡ old

-- no line was refused
abbrev pub is_open : Place → Bool
is_open (Refused number) = false
is_open place = true

-- the line is the first that can't follow, or there was one before
abbrev pub RefusedAs : Place → Reading → List ℕ → ℕ → Reading → Type 0
RefusedAs (Refused number) old line bad new = (bad ≡ number) × (new ≡ old)
RefusedAs place old line bad new = CannotGo place old.told line × (bad ≡ old.taken + 1) × (new ≡ record old { place = Refused bad })

-- what an error of `push` says
abbrev pub IsFault : Reading → List ℕ → Reading → JournalError → Type 0
IsFault old line new (BadLine bad) = RefusedAs old.place old line bad new
IsFault old line new (Cut number) = ⊥
IsFault old line new NoMemory = new ≡ old

-- what an error of `finish` says
abbrev pub IsEndAs : Place → ℕ → JournalError → Type 0
IsEndAs (Refused number) taken error = error ≡ BadLine number
IsEndAs Over taken error = error ≡ NoMemory
IsEndAs place taken error = error ≡ Cut taken

-- the line `begin` was taken
abbrev pub is_begun : Place → Bool
is_begun Entries = true
is_begun Over = true
is_begun place = false

-- what an error of `so_far` says
abbrev pub IsRefusalAs : Place → JournalError → Type 0
IsRefusalAs (Refused number) error = error ≡ BadLine number
IsRefusalAs Entries error = error ≡ NoMemory
IsRefusalAs Over error = error ≡ NoMemory
IsRefusalAs place error = ⊥
