-- A get of its task's own names, and one that did nothing.
use Rattle.std.proofs.Common.{◌≡◌, ℕ, List, [], sym, ap, subst, append-nil}
use Rattle.std.specs.Prelude.{true, nat_le, Option, Err}
use Rattle.std.proofs.lemmas.Bool.Decides.{nat_tests}
use Rattle.ann_key.specs.Keys.{Parts}
use Rattle.ann_key.specs.declared.bytes.NoMemory.{NoMemory}
use Rattle.task_text.specs.declared.task.Task.{Task}
use Rattle.task_text.specs.declared.task.Work.TheVariants as W
use Rattle.ann_outside.specs.Calls.{Log}
use Rattle.task_model.proofs.CopyingLemmas.CopyLaws.{gained_nothing}
use Rattle.task_model.specs.Askers.{Asking}
use Rattle.journal_model.specs.declared.answer.Answer.TheVariants as A
use Rattle.task_model.specs.declared.setup.Setup.{Setup}
use Rattle.task_model.specs.declared.turn.TaskTurn.{TaskTurn}
use Rattle.task_model.specs.Names.{part_of, fetch_file}
use Rattle.task_model.specs.Runs.{RunOf, TaskRun}
use Rattle.task_model.specs.Ran.{RanGet}
use Rattle.task_model.proofs.Texts.{longer_differs}
use Rattle.task_model.proofs.PlainRuns.{of_reading}
use Rattle.task_model.proofs.FileNames.{fetch_differs}
use Rattle.task_model.proofs.GetCallsLaws.{Apart}
use Rattle.task_run.proofs.GetLemmas.GetRuns.{get_task}
use Rattle.std.proofs.Common.{refl, arith}
use Rattle.task_model.proofs.NamedRuns.{nameless, with_names}
use Rattle.task_text.specs.Works.{has_name}
use Rattle.ann_key.proofs.Lists.{other_name}

pub names_apart : (setup : Setup) (t : TaskTurn) (n : ℕ) (file : List ℕ) → Apart file (fetch_file setup t n)
names_apart setup t n file = record {
  fetch_part = other_name (fetch_file setup t n) (part_of file) (fetch_differs setup t n file);
  part_fetch = other_name (part_of file) (fetch_file setup t n) (λ e. fetch_differs setup t n file (sym e));
  file_part = other_name file (part_of file) (longer_differs file _ _);
  part_file = other_name (part_of file) file (λ e. longer_differs file _ _ (sym e));
}

from_zero : (n : ℕ) → nat_le 0 n ≡ true
from_zero n = grind (arith, nat_tests)

get_nothing : (setup : Setup) (t : TaskTurn) (key : Parts) (text file : List ℕ) (layouts : List (ℕ × ℕ)) → RunOf setup t (get_task text file) key layouts [] [] [] A.Memory
get_nothing setup t key text file layouts = record {
  asked_till_stop = refl;
  calls_till_stop = refl;
  found = refl;
  work = (record { names = refl; changes = refl; lengths = refl }, record { in_order = tt; each_failed = refl; each_begun = from_zero _; each_right = refl; held_read = refl; fetched_read = refl }, refl);
  answered = tt;
}

pub get_nothing_ran : (task : Task) (t : TaskTurn) (setup : Setup) (layouts : List (ℕ × ℕ)) (pairs : List Asking) (log : Option Log) (e : NoMemory) → task.work ≡ W.Get → RanGet task t setup layouts pairs pairs log log (Err e)
get_nothing_ran task t setup layouts pairs log e w = record {
  asked = [];
  calls = [];
  pairs_are = sym (append-nil pairs);
  log_is = gained_nothing log;
  run =
      let as_get : nameless task ≡ get_task task.key task.file = ap (λ x. record { work = x; key = task.key; file = task.file; name = []; onto = [] }) w in
      let P : Task → Type 0 = λ j. TaskRun j t setup layouts [] [] [] A.Memory in
      with_names task t setup layouts [] [] [] A.Memory (ap has_name w)
      (subst P (sym as_get) (of_reading task.key (λ key. RunOf setup t (get_task task.key task.file) key layouts [] [] [] A.Memory) (λ key r. get_nothing setup t key task.key task.file layouts)));
}
