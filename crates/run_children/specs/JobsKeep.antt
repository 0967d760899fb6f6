-- What the gets of a run keep of what its stores sent, where the remote is faithful in it.
use Rattle.std.specs.Prelude.{ℕ, ◌≡◌, List, map, Some, None}
use Rattle.std.specs.List.{concat}
use Rattle.ann_key.specs.Keys.{Parts}
use Rattle.ann_outside.specs.Files.{content as held_in}
use Rattle.journal_model.specs.declared.entry.Entry.{Entry}
use Rattle.journal_model.specs.declared.opening.Opening.{Opening}
use Rattle.task_model.specs.declared.setup.Setup.{Setup}
use Rattle.task_model.specs.declared.turn.TaskTurn.{TaskTurn}
use Rattle.task_model.specs.Askings.{run_askings}
use Rattle.task_model.specs.RunLaws.{sizes_got}
use Rattle.run_starts.specs.TaskLaws.Changes.{Request}
use Rattle.run_starts.specs.TaskLaws.Faithful.{IsFaithful, IsPlayed, Told, sent}
use Rattle.run_starts.specs.TaskLaws.Kept.{Keeps}
use Rattle.run_starts.specs.TaskLaws.Retrieval.{GotStored, KeepsContent, StoredInChunks}

-- With a faithful remote, a get that began afresh and is answered Got keeps what the STOREs of its keys sent, one after the other; and
-- where one run of a task stored all chunks of its last layout, the content of that task's file. Where the get's calls were played on its desk's
-- files, these hold that as its file after it.
pub record JobsKeep (o : Opening) (setup : Setup) (journal : List Entry) : Type 0 where
  pub stored : (told : Told) (number : ℕ) (t : TaskTurn) (key : Parts) (stores : List Request) → IsFaithful o setup told journal → (got : GotStored o setup told journal number t key stores)
      → Keeps got.run.task.work setup t key (sizes_got got.run.task.work key got.run.layouts) got.run.task.file (run_askings got.run.run) (told.calls t) (map (sent o setup told) stores)
  pub content : (told : Told) (number : ℕ) (t u : TaskTurn) (key : Parts) (bytes : List ℕ) (stores : List Request) → IsFaithful o setup told journal → (got : GotStored o setup told journal number t key stores)
      → key.chunk ≡ None → StoredInChunks o setup told journal u bytes stores → KeepsContent o setup told journal number t key got.run bytes
  pub stored_file : (told : Told) (number : ℕ) (t : TaskTurn) (key : Parts) (stores : List Request) → IsFaithful o setup told journal → IsPlayed told t → (got : GotStored o setup told journal number t key stores)
      → held_in got.run.task.file (told.after t) ≡ Some (concat (map (sent o setup told) stores))
  pub content_file : (told : Told) (number : ℕ) (t u : TaskTurn) (key : Parts) (bytes : List ℕ) (stores : List Request) → IsFaithful o setup told journal → IsPlayed told t → (got : GotStored o setup told journal number t key stores)
      → key.chunk ≡ None → StoredInChunks o setup told journal u bytes stores → held_in got.run.task.file (told.after t) ≡ Some bytes
