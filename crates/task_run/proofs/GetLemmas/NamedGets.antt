-- Gets under a name, by what holds of gets of the plain layout alone.
use Rattle.std.proofs.Common.{◌≡◌, ℕ, true, false, List, [], ◌∷◌, refl, sym, subst, arith, append-nil}
use Rattle.std.specs.Prelude.{Bool, Option, Some, Result, Ok, Err, unwrap_or}
use Rattle.std.specs.Bool.{MatchBool}
use Rattle.ann_key.specs.Keys.{Parts, key_reading}
use Rattle.ann_key.specs.declared.bytes.NoMemory.{NoMemory}
use Rattle.annex_model.specs.Messages.{HostMessage, Transfer, Transferexport}
use Rattle.ann_outside.specs.Calls.{Log, Gained}
use Rattle.ann_outside.specs.declared.file_desk.Call.{Call}
use Rattle.task_model.proofs.CopyingLemmas.CopyLaws.{gained_nothing}
use Rattle.journal_model.specs.declared.answer.Answer.{Answer}
use Rattle.journal_model.specs.declared.answer.Answer.TheVariants as A
use Rattle.journal_model.specs.declared.verdict.Verdict.{Verdict}
use Rattle.journal_model.specs.declared.verdict.Verdict.TheVariants as V
use Rattle.task_text.specs.declared.task.Task.{Task}
use Rattle.task_text.specs.declared.task.Work.TheVariants as W
use Rattle.task_model.specs.Askers.{Asking, AsksOne}
use Rattle.task_model.specs.declared.setup.Setup.{Setup}
use Rattle.task_model.specs.declared.turn.TaskTurn.{TaskTurn}
use Rattle.task_model.specs.Stops.{AnsweredBy, is_done_at}
use Rattle.task_model.specs.Names.{part_of, fetch_file}
use Rattle.task_model.specs.Reads.{is_removed}
use Rattle.task_model.specs.Gets.{is_got, DecidesBy, Decides, IsChecked, IsFetchKept, GetAnswers}
use Rattle.task_model.specs.Exports.{AsksOfName, fetch_export}
use Rattle.task_model.specs.Runs.{RunOf}
use Rattle.task_model.specs.Ran.{RanGet, answered, is_verdict_of, undone_answer}
use Rattle.task_model.specs.Fetching.{Fetches}
use Rattle.task_model.proofs.ExportRuns.{with_work, export_run, named, asks_of_name, asks_nothing}
use Rattle.task_run.specs.Get.Fronts.{Ended}
use Rattle.task_run.specs.Get.LayoutRuns.{place_at, WholeRan}
use Rattle.task_run.specs.Get.WholeFetches.{TakesWhole}
use Rattle.task_run.proofs.GetLemmas.GetRuns.{done}
use Rattle.task_run.proofs.GetLemmas.GetAlls.{between_first}
use Rattle.task_run.proofs.GetLemmas.GetWholes.{whole_fetched}
use Rattle.ann_key.proofs.Booleans.{false_is_true as apart}

abbrev GetRun : Setup → TaskTurn → Task → Parts → List (ℕ × ℕ) → List Asking → List Call → Answer → Type 0
GetRun setup t task key layouts asked calls answer = RunOf setup t (with_work W.XGet task) key layouts asked calls [] answer

-- ---- nothing is called

get_nothing : (setup : Setup) (t : TaskTurn) (task : Task) (key : Parts) (layouts : List (ℕ × ℕ)) → GetRun setup t task key layouts [] [] A.Memory
get_nothing setup t task key layouts = record {
  asked_till_stop = refl;
  calls_till_stop = refl;
  found = refl;
  work = (record { calls_made = record { names = refl; changes = refl; lengths = refl }; asks = asks_nothing _ _ task.name; fetched_read = refl }, refl);
  answered = tt;
}

pub get_nothing_ran : (task : Task) (t : TaskTurn) (setup : Setup) (layouts : List (ℕ × ℕ)) (pairs : List Asking) (log : Option Log) (e : NoMemory) → task.work ≡ W.XGet → RanGet task t setup layouts pairs pairs log log (Err e)
get_nothing_ran task t setup layouts pairs log e w = record {
  asked = [];
  calls = [];
  pairs_are = sym (append-nil pairs);
  log_is = gained_nothing log;
  run = export_run W.XGet task t setup layouts [] [] A.Memory w (λ key r. get_nothing setup t task key layouts);
}

-- the request isn't done
get_undone : (setup : Setup) (t : TaskTurn) (task : Task) (key : Parts) (layouts : List (ℕ × ℕ)) (request : Option HostMessage) (v : Verdict) → AsksOfName (fetch_export setup t) (key ∷ []) task.name (named task.name request v ∷ [])
    → is_verdict_of (Transferexport false task.key (fetch_file setup t 1)) v ≡ true → is_done_at v ≡ false → GetRun setup t task key layouts (named task.name request v ∷ []) [] (unwrap_or (undone_answer v) A.Memory)
get_undone setup t task key layouts request (V.Failed at) h k d = record {
  asked_till_stop = refl;
  calls_till_stop = refl;
  found = refl;
  work = (record { calls_made = record { names = refl; changes = refl; lengths = refl }; asks = h; fetched_read = refl }, refl);
  answered = record { answered = refl };
}
get_undone setup t task key layouts request (V.Unsupported at) h k d = record {
  asked_till_stop = refl;
  calls_till_stop = refl;
  found = refl;
  work = (record { calls_made = record { names = refl; changes = refl; lengths = refl }; asks = h; fetched_read = refl }, refl);
  answered = refl;
}
get_undone setup t task key layouts request (V.Ended why) h k d = record {
  asked_till_stop = refl;
  calls_till_stop = refl;
  found = refl;
  work = (record { calls_made = record { names = refl; changes = refl; lengths = refl }; asks = h; fetched_read = refl }, refl);
  answered = refl;
}
get_undone setup t task key layouts request V.Unsent h k d = record {
  asked_till_stop = refl;
  calls_till_stop = refl;
  found = refl;
  work = (record { calls_made = record { names = refl; changes = refl; lengths = refl }; asks = h; fetched_read = refl }, refl);
  answered = refl;
}
get_undone setup t task key layouts request (V.Done at) h k d = apart (sym d)
get_undone setup t task key layouts request (V.Absent at) h k d = apart k
get_undone setup t task key layouts request (V.Unknown at) h k d = apart k

-- ---- the file was fetched

by_lengths : (lengths : List ℕ) (AllDone Said Says : Type 0) (answer : Answer) → (Said → Says) → DecidesBy lengths AllDone Said answer → DecidesBy lengths AllDone Says answer
by_lengths [] AllDone Said Says answer f h = (h.0, f h.1)
by_lengths (n ∷ more) AllDone Said Says answer f h = h

by_end : (b : Bool) (Kept Keeps Gone : Type 0) → (Kept → Keeps) → MatchBool b Kept Gone → MatchBool b Keeps Gone
by_end true Kept Keeps Gone f h = f h
by_end false Kept Keeps Gone f h = h

by_stops : (stops : List Answer) (answer : Answer) (Finished Finishes : Type 0) → (Finished → Finishes) → AnsweredBy stops answer Finished → AnsweredBy stops answer Finishes
by_stops (stop ∷ []) answer Finished Finishes f h = h
by_stops (stop ∷ another ∷ more) answer Finished Finishes f h = h
by_stops [] A.Memory Finished Finishes f h = tt
by_stops [] A.Stored Finished Finishes f h = f h
by_stops [] A.Got Finished Finishes f h = f h
by_stops [] A.Present Finished Finishes f h = f h
by_stops [] A.Dropped Finished Finishes f h = f h
by_stops [] A.Renamed Finished Finishes f h = f h
by_stops [] A.Absent Finished Finishes f h = f h
by_stops [] A.Unsupported Finished Finishes f h = f h
by_stops [] A.Unsent Finished Finishes f h = f h
by_stops [] A.StartFault Finished Finishes f h = f h
by_stops [] A.NoChild Finished Finishes f h = f h
by_stops [] A.FileFault Finished Finishes f h = f h
by_stops [] A.NoFile Finished Finishes f h = f h
by_stops [] (A.Failed at) Finished Finishes f h = f h
by_stops [] (A.Unknown at) Finished Finishes f h = f h
by_stops [] (A.NotPrepared at) Finished Finishes f h = f h
by_stops [] (A.Ended why) Finished Finishes f h = f h
by_stops [] (A.Size n) Finished Finishes f h = f h
by_stops [] (A.Hash digest) Finished Finishes f h = f h

-- what is decided of the fetched file goes by the verdict of its request, and not by what was said before it
module _ (setup : Setup) (t : TaskTurn) (key : Parts) (file name : List ℕ) (plain request : Option HostMessage) (at : ℕ) (calls : List Call) (answer : Answer) where
  is_checked : IsChecked setup t key (0 ∷ []) file (done plain at ∷ []) calls answer → IsChecked setup t key (0 ∷ []) file (named name request (V.Done at) ∷ []) calls answer
  is_checked h = record { said = h.said; held_whole = h.held_whole; fetched_whole = h.fetched_whole }

  is_kept : IsFetchKept setup t (0 ∷ []) file (done plain at ∷ []) calls → IsFetchKept setup t (0 ∷ []) file (named name request (V.Done at) ∷ []) calls
  is_kept h = record { moved = h.moved; held = h.held; renamed = h.renamed }

  decides : Decides setup t key (0 ∷ []) file (done plain at ∷ []) calls answer → Decides setup t key (0 ∷ []) file (named name request (V.Done at) ∷ []) calls answer
  decides h = record { begun = h.begun; by_length = by_lengths _ _ _ _ answer is_checked h.by_length; part = by_end (is_got answer) _ _ (is_removed (part_of file) calls ≡ true) is_kept h.part }

  answers : GetAnswers setup t key (0 ∷ []) file (done plain at ∷ []) calls answer → GetAnswers setup t key (0 ∷ []) file (named name request (V.Done at) ∷ []) calls answer
  answers h = record { answered = decides h.answered }

get_done : (setup : Setup) (t : TaskTurn) (task : Task) (key : Parts) (layouts : List (ℕ × ℕ)) (plain request : Option HostMessage) (at : ℕ) (calls : List Call) (answer : Answer)
    → AsksOfName (fetch_export setup t) (key ∷ []) task.name (named task.name request (V.Done at) ∷ []) → Ended (place_at setup t key task.file (0 ∷ [])) (done plain at ∷ []) calls answer
    → GetRun setup t task key layouts (named task.name request (V.Done at) ∷ []) calls answer
get_done setup t task key layouts plain request at calls answer h e = record {
  asked_till_stop = refl;
  calls_till_stop = e.calls_till_stop;
  found = e.found;
  work = (record { calls_made = record { names = e.get_calls.names; changes = e.get_calls.changes; lengths = e.get_calls.lengths }; asks = h; fetched_read = e.get_asks.fetched_read }, refl);
  answered = by_stops _ answer _ _ (answers setup t key task.file task.name plain request at calls answer) e.answered;
}

-- ---- what the code promises

read_once : (text : List ℕ) (p q : Parts) → key_reading text ≡ Some p → key_reading text ≡ Some q → p ≡ q
read_once text p q e f = cc

fetched_ran : (task : Task) (t : TaskTurn) (setup : Setup) (layouts : List (ℕ × ℕ)) (key : Parts) (part fetch : List ℕ) (pairs later : List Asking) (old new : Option Log) (at : ℕ) (result : Result Answer NoMemory) → task.work ≡ W.XGet
    → key_reading task.key ≡ Some key → AsksOne pairs later (Some task.name) (Transferexport false task.key (fetch_file setup t 1)) (V.Done at) → part ≡ part_of task.file → fetch ≡ fetch_file setup t 1
    → Fetches (record { file = task.file; part = part; fetch = fetch }) key old new result → RanGet task t setup layouts pairs later old new result
fetched_ran task t setup layouts key part fetch pairs later old new at result w r a p q f = record {
  asked = named task.name a.request (V.Done at) ∷ [];
  calls = as_plain.grown.made;
  pairs_are = a.added;
  log_is = as_plain.grown.log_is;
  run = export_run W.XGet task t setup layouts (named task.name a.request (V.Done at) ∷ []) as_plain.grown.made (answered result) w (λ k d.
      let P : Parts → Type 0 = λ k. GetRun setup t task k layouts (named task.name a.request (V.Done at) ∷ []) as_plain.grown.made (answered result) in
      subst P (read_once task.key key k r d)
      (get_done setup t task key layouts (Some plain) a.request at as_plain.grown.made (answered result) (asks_of_name (fetch_export setup t) task.key task.name key a.request (V.Done at) r refl a.kept) ended));
}
  where
    -- the same without the name
    plain : HostMessage
    plain = Transfer false task.key (fetch_file setup t 1)

    none : List Asking
    none = []

    as_plain : WholeRan setup t key task.file 0 none (done (Some plain) at ∷ []) old new result
    as_plain = whole_fetched setup t key task.file part fetch 0 none (done (Some plain) at ∷ []) old new task.key (V.Done at) result (omega arith) r (record { request = Some plain; kept = refl; added = refl }) refl p q f

    ended : Ended (place_at setup t key task.file (0 ∷ [])) (done (Some plain) at ∷ []) as_plain.grown.made (answered result)
    ended =
        let P : List Asking → Type 0 = λ l. Ended (place_at setup t key task.file (0 ∷ [])) l as_plain.grown.made (answered result) in
        subst P (sym as_plain.grown.pairs_are) (as_plain.goes (0 ∷ []) [] [] [] [] refl (between_first (place_at setup t key task.file (0 ∷ []))))

undone_ran : (task : Task) (t : TaskTurn) (setup : Setup) (layouts : List (ℕ × ℕ)) (pairs later : List Asking) (old new : Option Log) (v : Verdict) (result : Result Answer NoMemory) → task.work ≡ W.XGet
    → AsksOne pairs later (Some task.name) (Transferexport false task.key (fetch_file setup t 1)) v → is_verdict_of (Transferexport false task.key (fetch_file setup t 1)) v ≡ true → is_done_at v ≡ false
    → new ≡ old → result ≡ Ok (unwrap_or (undone_answer v) A.Memory) → RanGet task t setup layouts pairs later old new result
undone_ran task t setup layouts pairs later old new v result w a k d n e = record {
  asked = named task.name a.request v ∷ [];
  calls = [];
  pairs_are = a.added;
  log_is = let P : Option Log → Type 0 = λ l. Gained old l [] in subst P (sym n) (gained_nothing old);
  run = export_run W.XGet task t setup layouts (named task.name a.request v ∷ []) [] (answered result) w (λ key r.
      let P : Result Answer NoMemory → Type 0 = λ x. GetRun setup t task key layouts (named task.name a.request v ∷ []) [] (answered x) in
      subst P (sym e) (get_undone setup t task key layouts a.request v (asks_of_name (fetch_export setup t) task.key task.name key a.request v r refl a.kept) k d));
}

pub taken_ran : (task : Task) (t : TaskTurn) (setup : Setup) (layouts : List (ℕ × ℕ)) (key : Parts) (part fetch : List ℕ) (pairs later : List Asking) (old new : Option Log) (v : Verdict) (result : Result Answer NoMemory) → task.work ≡ W.XGet
    → key_reading task.key ≡ Some key → AsksOne pairs later (Some task.name) (Transferexport false task.key (fetch_file setup t 1)) v → is_verdict_of (Transferexport false task.key (fetch_file setup t 1)) v ≡ true
    → part ≡ part_of task.file → fetch ≡ fetch_file setup t 1 → TakesWhole (record { file = task.file; part = part; fetch = fetch }) key v old new result → RanGet task t setup layouts pairs later old new result
taken_ran task t setup layouts key part fetch pairs later old new (V.Done at) result w r a k p q h = fetched_ran task t setup layouts key part fetch pairs later old new at result w r a p q h
taken_ran task t setup layouts key part fetch pairs later old new (V.Failed at) result w r a k p q h = undone_ran task t setup layouts pairs later old new (V.Failed at) result w a k refl h.0 h.1
taken_ran task t setup layouts key part fetch pairs later old new (V.Unsupported at) result w r a k p q h = undone_ran task t setup layouts pairs later old new (V.Unsupported at) result w a k refl h.0 h.1
taken_ran task t setup layouts key part fetch pairs later old new (V.Ended why) result w r a k p q h = undone_ran task t setup layouts pairs later old new (V.Ended why) result w a k refl h.0 h.1
taken_ran task t setup layouts key part fetch pairs later old new V.Unsent result w r a k p q h = undone_ran task t setup layouts pairs later old new V.Unsent result w a k refl h.0 h.1
taken_ran task t setup layouts key part fetch pairs later old new (V.Absent at) result w r a k p q h = apart k
taken_ran task t setup layouts key part fetch pairs later old new (V.Unknown at) result w r a k p q h = apart k
