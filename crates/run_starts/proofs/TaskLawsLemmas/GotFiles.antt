-- A get that is answered Got leaves in its file what it checked.
use Rattle.std.proofs.Common.{◌≡◌, ◌∙◌, List, [], ◌∷◌, refl, sym, subst}
use Rattle.std.specs.Prelude.{ℕ, not, Bool, true, false, Option, Some, None, IfSome, unwrap_or}
use Rattle.std.specs.List.{list_all, filter_map, cons_option}
use Rattle.std.proofs.lemmas.Bool.{and_parts}
use Rattle.ann_key.specs.Keys.{Parts, key_reading}
use Rattle.ann_outside.specs.Files.{Files, content}
use Rattle.ann_outside.specs.Played.{Played}
use Rattle.ann_outside.specs.declared.file_desk.Call.{Call}
use Rattle.journal_model.specs.declared.answer.Answer.{Answer}
use Rattle.journal_model.specs.declared.answer.Answer.TheVariants as A
use Rattle.task_text.specs.declared.task.Task.{Task}
use Rattle.task_model.specs.Askers.{Asking, Noting}
use Rattle.task_model.specs.declared.setup.Setup.{Setup}
use Rattle.task_model.specs.declared.turn.TaskTurn.{TaskTurn}
use Rattle.task_model.specs.Stops.{asking_stop, call_stop, stops_of, AnsweredBy}
use Rattle.task_model.specs.Names.{part_of}
use Rattle.task_model.specs.Gets.{checked, is_got}
use Rattle.task_model.specs.Runs.{RunOf, TaskRun, WorkAnswers}
use Rattle.task_model.specs.RunLaws.{sizes_got}
use Rattle.task_model.proofs.GotLaws.{get_fits, are_other, stops_other}
use Rattle.run_starts.specs.TaskLaws.FilesKept.{GotHolds, HoldsChecked}
use Rattle.run_starts.proofs.TaskLawsLemmas.FileHolds.{GoOn, found_so, renamed_holds}
use Rattle.run_starts.proofs.TaskLawsLemmas.GotEnds.{GotEnds, got_ends}
use Rattle.run_starts.proofs.TaskLawsLemmas.Keeping.{Decided, decided}
use Rattle.ann_key.proofs.Lists.{nil_back as nil_behind}
use Rattle.ann_key.proofs.Booleans.{false_is_true as apart}

-- no stop is Got, so there is none
unstopped : (stops : List Answer) (Finished : Type 0) → are_other stops ≡ true → AnsweredBy stops A.Got Finished → stops ≡ []
unstopped [] Finished h r = refl
unstopped (stop ∷ []) Finished h r = let P : Answer → Type 0 = λ a. not (is_got a) ≡ true in apart (subst P (sym r) (and_parts (not (is_got stop)) true h).0)
unstopped (stop ∷ another ∷ more) Finished h r = absurd r

goes_on : (part : List ℕ) (calls : List Call) → filter_map (call_stop part) calls ≡ [] → GoOn part calls
goes_on part [] e = tt
goes_on part (call ∷ more) e = by_case (call_stop part call) refl e (goes_on part more)
  where
    by_case : (o : Option Answer) → call_stop part call ≡ o → cons_option o (filter_map (call_stop part) more) ≡ [] → (filter_map (call_stop part) more ≡ [] → GoOn part more) → (call_stop part call ≡ None) × GoOn part more
    by_case None s e k = (s, k e)
    by_case (Some answer) s e k = absurd cc

pub got_goes_on : (task : Task) (t : TaskTurn) (setup : Setup) (layouts : List (ℕ × ℕ)) (asked : List Asking) (calls : List Call) (noted : List Noting) (key : Parts)
    → key_reading task.key ≡ Some key → TaskRun task t setup layouts asked calls noted A.Got → GoOn (part_of task.file) calls
got_goes_on task t setup layouts asked calls noted key e r =
    let P : Option Parts → Type 0 = λ o. IfSome o (λ k. RunOf setup t task k layouts asked calls noted A.Got) in
    let run : RunOf setup t task key layouts asked calls noted A.Got = subst P e r in
    let none : stops_of task.work (part_of task.file) asked calls ≡ [] =
    unstopped (stops_of task.work (part_of task.file) asked calls) (WorkAnswers setup t task key layouts task.work asked calls noted A.Got) (stops_other task.work (part_of task.file) asked calls) run.answered in
    goes_on (part_of task.file) calls (nil_behind (filter_map (asking_stop task.work) asked) (filter_map (call_stop (part_of task.file)) calls) none)

pub got_holds : GotHolds
got_holds task t setup layouts asked calls noted key old new e r p = record {
  holds =
      renamed_holds (part_of task.file) (part_of task.file) task.file (checked setup t task.file (sizes_got task.work key layouts) asked calls) calls old new go p d.kept.renamed
      (d.kept.held (unwrap_or (content (part_of task.file) old) []) (found_so (part_of task.file) (part_of task.file) calls old new go p));
  fits = get_fits setup t key (sizes_got task.work key layouts) task.file asked calls ends.answers;
}
  where
    ends : GotEnds setup t task.work task.file key layouts asked calls
    ends = got_ends task t setup layouts asked calls noted key e r

    d : Decided setup t key (sizes_got task.work key layouts) task.file asked calls
    d = decided setup t key (sizes_got task.work key layouts) task.file asked calls ends.answers

    go : GoOn (part_of task.file) calls
    go = got_goes_on task t setup layouts asked calls noted key e r
