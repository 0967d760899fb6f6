-- That a worker ran its tasks, as the laws of rounds take it.
use Rattle.ann_outside.specs.Told.{DeskTold}
use Rattle.std.specs.Prelude.{ℕ, ◌≡◌, ◌<◌, ◌==◌, ◌&&◌, Bool, true, false, if◌then◌else◌, List, [], ◌∷◌}
use Rattle.ann_outside.specs.declared.file_desk.Call.{Call}
use Rattle.threads.specs.Passes.{seen_of}
use Rattle.journal_model.specs.declared.entry.What.{What}
use Rattle.journal_model.specs.declared.opening.Opening.{Opening}
use Rattle.child_link.specs.Moves.{IsSameLink}
use Rattle.child_link.specs.Writings.{LoneWired, is_written_first}
use Rattle.crew_work.specs.Laws.Posts.{Post, Worker, Lone, makes}
use Rattle.crew_work.specs.Laws.Tasks.{IsThrough}
use Rattle.crew_work.specs.Laws.Rounds.{CorePass, LinkValue, IsWired, LoneEnds, WorkerEnds}
use Rattle.task_model.specs.declared.setup.Setup.{Setup}
use Rattle.crew_work.specs.Laws.JournalRuns.{HasJournalRun}
use Rattle.crew_work.specs.Worker.Works.{TaskDone, Worked}

-- a worker's post: over a child that others read and write, or that it has for itself
abbrev pub post_of : Bool → ℕ → Post
post_of true c = Lone c
post_of false c = Worker c

-- the calls of a run that was done
abbrev pub calls_of : List TaskDone → ℕ → ℕ → List Call
calls_of [] t k = []
calls_of (r ∷ rs) t k = if r.task == t && r.turn == k then r.calls else calls_of rs t k

-- What a worker over a child that others read and write did with its pass since the hall's begin, at a post that makes what it
-- makes, is what a worker promises at its end, where the calls that are told of its number are those of its desk.
abbrev pub WorkersEnd : Type 0
WorkersEnd =
    (o : Opening) (setup : Setup) (calls : ℕ → ℕ → ℕ → List Call) (c : ℕ) (crew : ℕ → Post) (p : CorePass) (desk desk' : DeskTold)
    → (w : Worked o setup false p.number false c p.start (seen_of p) (Unit {0}) (Unit {0}) desk desk') → IsThrough o (seen_of p) c → 0 < p.number → ((t k : ℕ) → calls p.number t k ≡ calls_of w.done t k)
    → ((w : What) → makes (post_of false c) w ≡ true → makes (crew p.number) w ≡ true)
    → WorkerEnds o (HasJournalRun o setup calls) crew c p

-- the same of a worker that has its child for itself
abbrev pub LonesEnd : Type 0
LonesEnd =
    (o : Opening) (setup : Setup) (calls : ℕ → ℕ → ℕ → List Call) (crew : ℕ → Post) (p : CorePass) (old new : LinkValue) (desk desk' : DeskTold)
    → (w : Worked o setup true p.number false old.ear.child p.start (seen_of p) (LoneWired p.start old.ear old.mouth) (LoneWired (seen_of p) new.ear new.mouth) desk desk')
    → IsSameLink old.ear new.ear old.mouth new.mouth → IsWired p.start old → is_written_first p.start old.ear.child ≡ true → IsThrough o (seen_of p) old.ear.child → 0 < p.number → ((t k : ℕ) → calls p.number t k ≡ calls_of w.done t k)
    → ((w : What) → makes (post_of true old.ear.child) w ≡ true → makes (crew p.number) w ≡ true)
    → LoneEnds o (HasJournalRun o setup calls) crew new p
