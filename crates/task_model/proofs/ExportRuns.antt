-- Runs of tasks of exports, which ask one request after their name.
use Rattle.std.proofs.Common.{◌≡◌, ℕ, List, [], ◌∷◌, refl, sym, subst}
use Rattle.std.specs.Prelude.{Bool, true, false, ◌&&◌, not, nat_lt, length, Option, Some, None}
use Rattle.std.specs.List.{list_any}
use Rattle.std.specs.Str.{is_utf8}
use Rattle.ann_key.specs.Keys.{Parts, key_reading}
use Rattle.annex_model.specs.Lines.{has_newline}
use Rattle.annex_model.specs.Messages.{HostMessage}
use Rattle.ann_outside.specs.declared.file_desk.Call.{Call}
use Rattle.journal_model.specs.declared.answer.Answer.{Answer}
use Rattle.journal_model.specs.declared.verdict.Verdict.{Verdict}
use Rattle.task_text.specs.TaskLines.{is_name, is_tab}
use Rattle.task_text.specs.declared.task.Task.{Task}
use Rattle.task_text.specs.declared.task.Work.{Work}
use Rattle.task_model.specs.Askers.{Asking, KeepsRequest, said_with}
use Rattle.task_model.specs.declared.setup.Setup.{Setup}
use Rattle.task_model.specs.declared.turn.TaskTurn.{TaskTurn}
use Rattle.task_model.specs.Requests.{AsksFor, key_named}
use Rattle.task_model.specs.Exports.{AsksOfName}
use Rattle.task_model.specs.Runs.{RunOf, TaskRun}
use Rattle.task_model.proofs.PlainRuns.{of_reading}
use Rattle.ann_key.proofs.Booleans.{false_is_true as apart}

abbrev pub with_work : Work → Task → Task
with_work work task = record { work = work; key = task.key; file = task.file; name = task.name; onto = task.onto }

-- a run of the task as one of its work is one of the task
pub export_run : (work : Work) (task : Task) (t : TaskTurn) (setup : Setup) (layouts : List (ℕ × ℕ)) (asked : List Asking) (calls : List Call) (answer : Answer) → task.work ≡ work
    → ((key : Parts) → key_reading task.key ≡ Some key → RunOf setup t (with_work work task) key layouts asked calls [] answer) → TaskRun task t setup layouts asked calls [] answer
export_run work task t setup layouts asked calls answer w h =
    let P : Work → Type 0 = λ x. TaskRun (with_work x task) t setup layouts asked calls [] answer in
    subst P (sym w) (of_reading task.key (λ key. RunOf setup t (with_work work task) key layouts asked calls [] answer) h)

-- the asking of a request after a name
abbrev pub named : List ℕ → Option HostMessage → Verdict → Asking
named name request v = record { request = request; name = said_with (Some name) request; verdict = v }

asks_for_named : (ask : ℕ → List ℕ → HostMessage) (text name : List ℕ) (key : Parts) (request : Option HostMessage) (v : Verdict) → key_reading text ≡ Some key → key_named (ask 1 text) ≡ text
    → KeepsRequest (ask 1 text) request v → AsksFor ask 1 key (named name request v)
asks_for_named ask text name key None v r n k = k
asks_for_named ask text name key (Some q) v r n k = rw (k, n) (refl, r)

-- the one request, of the task's key, follows the task's name
pub asks_of_name : (ask : ℕ → List ℕ → HostMessage) (text name : List ℕ) (key : Parts) (request : Option HostMessage) (v : Verdict) → key_reading text ≡ Some key → key_named (ask 1 text) ≡ text
    → KeepsRequest (ask 1 text) request v → AsksOfName ask (key ∷ []) name (named name request v ∷ [])
asks_of_name ask text name key request v r n k = record { in_order = (asks_for_named ask text name key request v r n k, tt); named = refl }

pub asks_nothing : (ask : ℕ → List ℕ → HostMessage) (keys : List Parts) (name : List ℕ) → AsksOfName ask keys name []
asks_nothing ask keys name = record { in_order = tt; named = refl }

-- the name of a task is one line
pub name_in_line : (name : List ℕ) → is_name name ≡ true → has_newline name ≡ false
name_in_line name h = by_parts (nat_lt 0 (length name)) (is_utf8 name) (has_newline name) (list_any is_tab name) h
  where
    by_parts : (a b c d : Bool) → ((a && (b && not c)) && not d) ≡ true → c ≡ false
    by_parts true true true d h = apart h
    by_parts true true false d h = refl
    by_parts true false c d h = apart h
    by_parts false b c d h = apart h
