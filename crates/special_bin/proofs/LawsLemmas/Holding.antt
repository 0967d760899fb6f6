-- What the files of a run's desks hold in the end.
use Rattle.ann_outside.specs.Told.{DeskTold}
use Rattle.std.proofs.Common.{◌≡◌, ℕ, ◌+◌, List, [], ◌∷◌, subst}
use Rattle.std.specs.Prelude.{map, Option, Some, None}
use Rattle.std.specs.List.{concat}
use Rattle.ann_key.specs.Keys.{Parts}
use Rattle.ann_outside.specs.Calls.{Log}
use Rattle.ann_outside.specs.Files.{Files}
use Rattle.run_children.specs.Desks.{DesksDid}
use Rattle.run_children.specs.ToldDesks.{AreBlank, ArePlayedNow, AreToldAt}
use Rattle.run_children.proofs.TaskFiles.{tasks_are_told}
use Rattle.journal_model.specs.declared.answer.Answer.{Answer}
use Rattle.journal_model.specs.declared.entry.Entry.{Entry}
use Rattle.journal_model.specs.declared.opening.Opening.{Opening}
use Rattle.journal_model.specs.Legality.{Legal}
use Rattle.crew_work.specs.Worker.Works.{TaskDone}
use Rattle.run_and_check.specs.Run.Inputs.{run_setup}
use Rattle.run_and_check.specs.Run.Runs.{AreFresh, ArePlayedAt}
use Rattle.special_bin.specs.Laws.FilesHold.{AllHold, FilesHold, FilesHoldAt, FilesHoldFrom, GotAnew, RunIsTold, RunKeeps}
use Rattle.run_starts.specs.TaskLaws.Changes.{Request}
use Rattle.run_starts.specs.TaskLaws.Faithful.{IsFaithful, IsPlayed, Told, sent}
use Rattle.run_starts.specs.TaskLaws.Retrieval.{GotStored}
use Rattle.run_starts.specs.TaskLaws.ToldDesks.{AreToldFrom, AreToldSo, IsToldAt, turn_done}
use Rattle.run_starts.proofs.TaskLawsLemmas.FilesStored.{desk_holds, file_keeps_content, file_keeps_stored}
use Rattle.run_starts.proofs.TaskLawsLemmas.NoPart.{no_part_is_afresh}
use Rattle.run_starts.proofs.TaskLawsLemmas.Retrieving.{ran_in}
use Rattle.task_model.specs.Askings.{run_askings, run_notings}
use Rattle.task_model.specs.Runs.{TaskRun}
use Rattle.task_model.specs.declared.setup.Setup.{Setup}
use Rattle.task_model.specs.declared.turn.TaskTurn.{TaskTurn}

-- ---- what is told

blank_desks : (desks : List DeskTold) → AreFresh desks → AreBlank desks
blank_desks [] fresh = tt
blank_desks (desk ∷ desks) fresh = (fresh.0.blank, blank_desks desks fresh.1)

played_desks : (tables : List DeskTold) → ArePlayedAt tables → ArePlayedNow tables (map (λ (table : DeskTold). table.files) tables)
played_desks [] played = tt
played_desks (table ∷ tables) played = (played.0, played_desks tables played.1)

pub run_is_told : RunIsTold
run_is_told words clock before input left end at run =
    let all : ArePlayedAt (at.table ∷ at.workers) = subst ArePlayedAt at.tables at.played in
    tasks_are_told run.opening (run_setup words run.stamp) words.starts left.journal run.before at.workers (map (λ (table : DeskTold). table.files) at.workers)
    run.ran.legal (blank_desks run.before run.fresh) run.ran.did (played_desks at.workers all.1)

-- ---- what the files hold

module _ (o : Opening) (setup : Setup) (told : Told) (journal : List Entry) (legal : Legal o journal) (faithful : IsFaithful o setup told journal) where
  got_afresh : (t : TaskTurn) (key : Parts) (stores : List Request) → IsPlayed told t → (got : GotAnew o setup told journal t key stores) → GotStored o setup told journal got.number t key stores
  got_afresh t key stores played got =
      let P : Answer → Type 0 = λ x. TaskRun got.run.task t setup got.run.layouts (run_askings got.run.run) (told.calls t) (run_notings got.run.run) x in
      record {
        run = got.run;
        keyed = got.keyed;
        got = got.got;
        afresh = no_part_is_afresh got.run.task t setup got.run.layouts (run_askings got.run.run) (told.calls t) (run_notings got.run.run) key (told.before t) (told.after t)
            got.keyed (subst P got.got (ran_in o setup (told.calls t) got.number t journal got.run)) played got.unheld;
        stored = got.stored;
      }

  files_hold : (done : List TaskDone) (old new : Files) → AreToldSo told done old new → FilesHold o setup told journal done new
  unfolding got_afresh
  files_hold done old new so = record {
    sent_is = λ earlier later r key stores is got leave.
        let holds = desk_holds told earlier later r old new (subst (λ (d : List TaskDone). AreToldSo told d old new) is so) in
        holds.1 got.run.task.file (concat (map (sent o setup told) stores))
        (file_keeps_stored o setup told journal got.number (turn_done r) key stores faithful holds.0 (got_afresh (turn_done r) key stores holds.0 got)) leave;
    content_is = λ earlier later r u key bytes stores is got base one leave.
        let holds = desk_holds told earlier later r old new (subst (λ (d : List TaskDone). AreToldSo told d old new) is so) in
        holds.1 got.run.task.file bytes
        (file_keeps_content o setup told journal got.number (turn_done r) u key bytes stores legal faithful holds.0 (got_afresh (turn_done r) key stores holds.0 got) base one) leave;
  }

  desk_keeps : (done : List TaskDone) (log : Option Log) (files : Option Files) → IsToldAt told done log files → FilesHoldAt o setup told journal done log files
  desk_keeps done None files so = tt
  desk_keeps done (Some log) files so = by_origin log.origin files so
    where
      by_origin : (origin now : Option Files) → AreToldFrom told done origin now → FilesHoldFrom o setup told journal done origin now
      by_origin (Some old) (Some new) x = files_hold done old new x
      by_origin (Some old) None x = tt
      by_origin None now x = tt

  all_hold : (limit : ℕ) (past entries : List Entry) (k : ℕ) (ds : List DeskTold) (tables : List DeskTold) (did : DesksDid o setup limit journal past entries k ds tables)
      → AreToldAt told o setup limit journal past entries k ds tables did (map (λ (table : DeskTold). table.files) tables) → AllHold told o setup limit journal past entries k ds tables did
  all_hold limit past entries k [] [] did so = tt
  all_hold limit past entries k [] (table ∷ tables) did so = tt
  all_hold limit past entries k (d ∷ ds) [] did so = tt
  all_hold limit past entries k (d ∷ ds) (table ∷ tables) did so =
      (desk_keeps did.0.done table.log table.files so.0, all_hold limit past entries (k + 1) ds tables did.1 so.1)

pub run_keeps : RunKeeps
run_keeps words clock before input left end at run told so faithful =
    all_hold run.opening (run_setup words run.stamp) told left.journal run.ran.legal faithful words.starts [] left.journal 1 run.before at.workers run.ran.did so
