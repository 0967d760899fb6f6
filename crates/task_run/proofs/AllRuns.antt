-- A run of a task of any work.
use Rattle.std.proofs.Common.{◌≡◌, ◌∙◌, ℕ, List, [], sym, subst, append-nil}
use Rattle.std.specs.Prelude.{Option, Some, None, IfSome, Result, true, false, Bool}
use Rattle.ann_key.specs.Keys.{Parts, key_reading}
use Rattle.ann_key.specs.declared.bytes.NoMemory.{NoMemory}
use Rattle.task_text.specs.declared.task.Task.{Task}
use Rattle.task_text.specs.declared.task.Work.{Work}
use Rattle.task_text.specs.declared.task.Work.TheVariants as W
use Rattle.ann_outside.specs.Calls.{Log}
use Rattle.ann_outside.specs.declared.file_desk.Call.{Call}
use Rattle.task_model.proofs.CopyingLemmas.CopyLaws.{gained_nothing}
use Rattle.task_model.specs.Askers.{Asking, Noting}
use Rattle.journal_model.specs.declared.answer.Answer.{Answer}
use Rattle.task_model.specs.declared.setup.Setup.{Setup}
use Rattle.task_model.specs.declared.turn.TaskTurn.{TaskTurn}
use Rattle.task_model.specs.Runs.{RunOf, TaskRun, WorkAsks, WorkAnswers, is_chunked}
use Rattle.task_model.specs.Stops.{AnsweredBy, stops_of}
use Rattle.task_model.specs.Names.{part_of}
use Rattle.task_model.specs.Ran.{Ran, RanAsking, RanPlain, RanStore, RanGet, IsInChunks, IsWhole, answered}
use Rattle.task_run.specs.Rounds.{RanNoting}

pub from_asking : (task : Task) (t : TaskTurn) (setup : Setup) (layouts : List (ℕ × ℕ)) (before after : List Asking) (notes later : List Noting) (log : Option Log) (result : Result Answer NoMemory)
    → RanAsking task t layouts before after result → later ≡ notes → Ran task t setup layouts before after notes later log log result
from_asking task t setup layouts before after notes later log result r n = record {
  asked = r.asked;
  calls = [];
  noted = [];
  pairs_are = r.pairs_are;
  notes_are = n ∙ sym (append-nil notes);
  log_is = gained_nothing log;
  run = r.run setup;
}

pub from_noting : (task : Task) (t : TaskTurn) (setup : Setup) (layouts : List (ℕ × ℕ)) (before after : List Asking) (notes later : List Noting) (log : Option Log) (result : Result Answer NoMemory)
    → RanNoting task t layouts before after notes later result → Ran task t setup layouts before after notes later log log result
from_noting task t setup layouts before after notes later log result r = record {
  asked = r.asked;
  calls = [];
  noted = r.noted;
  pairs_are = r.pairs_are;
  notes_are = r.notes_are;
  log_is = gained_nothing log;
  run = r.run setup;
}

pub from_get : (task : Task) (t : TaskTurn) (setup : Setup) (layouts : List (ℕ × ℕ)) (before after : List Asking) (notes later : List Noting) (old new : Option Log) (result : Result Answer NoMemory)
    → RanGet task t setup layouts before after old new result → later ≡ notes → Ran task t setup layouts before after notes later old new result
from_get task t setup layouts before after notes later old new result r n = record {
  asked = r.asked;
  calls = r.calls;
  noted = [];
  pairs_are = r.pairs_are;
  notes_are = n ∙ sym (append-nil notes);
  log_is = r.log_is;
  run = r.run;
}

pub from_store : (task : Task) (t : TaskTurn) (setup : Setup) (layouts : List (ℕ × ℕ)) (before after : List Asking) (notes later : List Noting) (old new : Option Log) (result : Result Answer NoMemory)
    → RanStore task t setup before after notes later old new result → Ran task t setup layouts before after notes later old new result
from_store task t setup layouts before after notes later old new result r = record {
  asked = r.asked;
  calls = r.calls;
  noted = r.noted;
  pairs_are = r.pairs_are;
  notes_are = r.notes_are;
  log_is = r.log_is;
  run = r.run layouts;
}

-- ---- stores

-- of a task that stores, the layouts that the remote has say nothing
other_layouts : (setup : Setup) (t : TaskTurn) (task : Task) (key : Parts) (layouts others : List (ℕ × ℕ)) (asked : List Asking) (calls : List Call) (noted : List Noting) (answer : Answer)
    → task.work ≡ W.Store → RunOf setup t task key layouts asked calls noted answer → RunOf setup t task key others asked calls noted answer
other_layouts setup t task key layouts others asked calls noted answer w r = record {
  asked_till_stop = r.asked_till_stop;
  calls_till_stop = r.calls_till_stop;
  found = r.found;
  work = let P : Work → Type 0 = λ x. WorkAsks setup t task key others x asked calls noted in
      let Q : Work → Type 0 = λ x. WorkAsks setup t task key layouts x asked calls noted in
      subst P (sym w) (subst Q w r.work);
  answered = let P : Work → Type 0 = λ x. AnsweredBy (stops_of task.work (part_of task.file) asked calls) answer (WorkAnswers setup t task key others x asked calls noted answer) in
      let Q : Work → Type 0 = λ x. AnsweredBy (stops_of task.work (part_of task.file) asked calls) answer (WorkAnswers setup t task key layouts x asked calls noted answer) in
      subst P (sym w) (subst Q w r.answered);
}

any_layouts : (setup : Setup) (t : TaskTurn) (task : Task) (layouts others : List (ℕ × ℕ)) (asked : List Asking) (calls : List Call) (noted : List Noting) (answer : Answer)
    → task.work ≡ W.Store → TaskRun task t setup layouts asked calls noted answer → TaskRun task t setup others asked calls noted answer
any_layouts setup t task layouts others asked calls noted answer w r = by_case (key_reading task.key) r
  where
    by_case : (o : Option Parts) → IfSome o (λ key. RunOf setup t task key layouts asked calls noted answer) → IfSome o (λ key. RunOf setup t task key others asked calls noted answer)
    by_case None h = tt
    by_case (Some key) h = other_layouts setup t task key layouts others asked calls noted answer w h

pub from_plain : (task : Task) (t : TaskTurn) (setup : Setup) (before after : List Asking) (notes later : List Noting) (old new : Option Log) (result : Result Answer NoMemory)
    → task.work ≡ W.Store → IsWhole setup task → RanPlain task t [] before after old new result → later ≡ notes → RanStore task t setup before after notes later old new result
from_plain task t setup before after notes later old new result k w r n = record {
  asked = r.asked;
  calls = r.calls;
  noted = [];
  pairs_are = r.pairs_are;
  notes_are = n ∙ sym (append-nil notes);
  log_is = r.log_is;
  run = λ layouts. any_layouts setup t task [] layouts r.asked r.calls [] (answered result) k (r.run setup w);
}

-- ---- whether a store is in chunks

of_key : (text : List ℕ) (P : Parts → Type 0) (key : Parts) → IfSome (key_reading text) P → key_reading text ≡ Some key → P key
of_key text P key h e = let Q : Option Parts → Type 0 = λ o. IfSome o P in subst Q e h

pub in_chunks : (setup : Setup) (task : Task) (b : Bool) → b ≡ true → IfSome (key_reading task.key) (λ key. b ≡ is_chunked setup key) → IsInChunks setup task
in_chunks setup task b t h = λ key e. sym (of_key task.key (λ key. b ≡ is_chunked setup key) key h e) ∙ t

pub is_whole : (setup : Setup) (task : Task) (b : Bool) → b ≡ false → IfSome (key_reading task.key) (λ key. b ≡ is_chunked setup key) → IsWhole setup task
is_whole setup task b t h = λ key e. sym (of_key task.key (λ key. b ≡ is_chunked setup key) key h e) ∙ t
