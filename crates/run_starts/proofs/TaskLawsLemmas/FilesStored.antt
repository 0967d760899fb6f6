-- The file that a get leaves holds what was stored, and goes on to.
use Rattle.std.proofs.Common.{◌≡◌, ◌∙◌, ℕ, List, [], ◌∷◌, ◌++◌, ap, subst}
use Rattle.std.specs.Prelude.{map, Some}
use Rattle.std.proofs.lemmas.List.{map-append}
use Rattle.ann_key.specs.Keys.{Parts}
use Rattle.ann_outside.specs.Files.{Files, content}
use Rattle.journal_model.specs.declared.answer.Answer.{Answer}
use Rattle.journal_model.specs.declared.answer.Answer.TheVariants as A
use Rattle.journal_model.specs.declared.entry.Entry.{Entry}
use Rattle.journal_model.specs.declared.opening.Opening.{Opening}
use Rattle.task_model.specs.declared.setup.Setup.{Setup}
use Rattle.task_model.specs.declared.turn.TaskTurn.{TaskTurn}
use Rattle.task_model.specs.Askings.{run_askings, run_notings}
use Rattle.task_model.specs.RunLaws.{sizes_got}
use Rattle.task_model.specs.Runs.{TaskRun}
use Rattle.run_starts.specs.TaskLaws.Changes.{Request}
use Rattle.run_starts.specs.TaskLaws.Faithful.{Told, IsPlayed, AreInTurn, sent}
use Rattle.run_starts.specs.TaskLaws.FilesKept.{HoldsChecked}
use Rattle.run_starts.specs.TaskLaws.Kept.{Keeps}
use Rattle.run_starts.specs.TaskLaws.Retrieval.{AllLeave, GotStored, KeepsContent, FileKeepsStored, FileKeepsContent, LastsToTheEnd}
use Rattle.run_starts.specs.TaskLaws.ToldDesks.{DeskHolds, turn_done}
use Rattle.run_starts.proofs.TaskLawsLemmas.GotFiles.{got_holds}
use Rattle.run_starts.proofs.TaskLawsLemmas.LeftFiles.{left_shows}
use Rattle.run_starts.proofs.TaskLawsLemmas.OneStore.{keeps_stored_content}
use Rattle.run_starts.proofs.TaskLawsLemmas.Retrieving.{keeps_stored, ran_in}

module _ (o : Opening) (setup : Setup) (told : Told) (journal : List Entry) (number : ℕ) (t : TaskTurn) (key : Parts) (stores : List Request) (played : IsPlayed told t) (got : GotStored o setup told journal number t key stores) where
  file_holds : HoldsChecked setup t key (sizes_got got.run.task.work key got.run.layouts) got.run.task.file (run_askings got.run.run) (told.calls t) (told.after t)
  file_holds =
      let P : Answer → Type 0 = λ x. TaskRun got.run.task t setup got.run.layouts (run_askings got.run.run) (told.calls t) (run_notings got.run.run) x in
      got_holds got.run.task t setup got.run.layouts (run_askings got.run.run) (told.calls t) (run_notings got.run.run) key (told.before t) (told.after t) got.keyed (subst P got.got (ran_in o setup (told.calls t) number t journal got.run)) played

pub file_keeps_stored : FileKeepsStored
file_keeps_stored o setup told journal number t key stores faithful played got =
    let kept : Keeps got.run.task.work setup t key (sizes_got got.run.task.work key got.run.layouts) got.run.task.file (run_askings got.run.run) (told.calls t) (map (sent o setup told) stores) = keeps_stored o setup told journal number t key stores faithful got in
    (file_holds o setup told journal number t key stores played got).holds ∙ ap (λ (bytes : List ℕ). Some bytes) kept.checked_are

pub file_keeps_content : FileKeepsContent
file_keeps_content o setup told journal number t u key bytes stores legal faithful played got base one =
    let kept : KeepsContent o setup told journal number t key got.run bytes = keeps_stored_content o setup told journal number t u key bytes stores legal faithful got base one in
    (file_holds o setup told journal number t key stores played got).holds ∙ ap (λ (held : List ℕ). Some held) kept.checked_are

-- ---- after the run

-- what is so of the files after the task, and of those in the end
later_tasks : (told : Told) (t : TaskTurn) (earlier later : List TaskTurn) (old new : Files) → AreInTurn told (earlier ++ t ∷ later) old new → AreInTurn told later (told.after t) new
later_tasks told t [] later old new h = h.2
later_tasks told t (u ∷ more) later old new h = later_tasks told t more later (told.after u) new h.2

lasts : (told : Told) (name bytes : List ℕ) (tasks : List TaskTurn) (old new : Files) → AreInTurn told tasks old new → content name old ≡ Some bytes → AllLeave told name tasks → content name new ≡ Some bytes
lasts told name bytes [] old new h is left = h name ∙ is
lasts told name bytes (u ∷ more) old new h is left =
    lasts told name bytes more (told.after u) new h.2 (left_shows name bytes (told.calls u) (told.before u) (told.after u) left.0 h.1 (h.0 name ∙ is)).1 left.1

pub lasts_to_the_end : LastsToTheEnd
lasts_to_the_end told name bytes t earlier later old new h is left = lasts told name bytes later (told.after t) new (later_tasks told t earlier later old new h) is left

played_one : (told : Told) (t : TaskTurn) (earlier later : List TaskTurn) (old new : Files) → AreInTurn told (earlier ++ t ∷ later) old new → IsPlayed told t
played_one told t [] later old new h = h.1
played_one told t (u ∷ more) later old new h = played_one told t more later (told.after u) new h.2

pub desk_holds : DeskHolds
desk_holds told earlier later r old new h =
    let turn : AreInTurn told (map turn_done earlier ++ turn_done r ∷ map turn_done later) old new =
    subst (λ (ts : List TaskTurn). AreInTurn told ts old new) (map-append turn_done earlier (r ∷ later)) h.turn in (
      played_one told (turn_done r) (map turn_done earlier) (map turn_done later) old new turn,
      λ name bytes is left. lasts_to_the_end told name bytes (turn_done r) (map turn_done earlier) (map turn_done later) old new turn is left,
    )
