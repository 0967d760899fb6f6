-- What ends a task of any work, and how it is answered then.
use Rattle.std.specs.Prelude.{ℕ, ◌≡◌, ◌-◌, ◌&&◌, Bool, true, false, if◌then◌else◌, List, [], ◌∷◌, ◌++◌, length, take, Option, Some, None, is_none, Result, Ok, Err, bytes_eq}
use Rattle.std.specs.List.{filter_map, list_all, last_or}
use Rattle.journal_model.specs.declared.verdict.Verdict.{Verdict}
use Rattle.journal_model.specs.declared.verdict.Verdict.TheVariants.{Done as DoneAt, Failed as FailedAt, Unsupported as UnsupportedAt, Ended, Unsent}
use Rattle.annex_model.specs.Messages.{HostMessage, Checkpresent}
use Rattle.task_text.specs.declared.task.Work.{Work}
use Rattle.task_text.specs.declared.task.Work.TheVariants.{Store}
use Rattle.ann_outside.specs.declared.file_desk.DeskError.{DeskError}
use Rattle.ann_outside.specs.declared.file_desk.DeskError.TheVariants.{Failed, Missing, NoMemory}
use Rattle.ann_outside.specs.declared.file_desk.Call.{Call}
use Rattle.ann_outside.specs.declared.file_desk.Call.TheVariants.{Size, ReadAt, Create, Append, Cut, Rename, Remove}
use Rattle.task_model.specs.Askers.{Asking}
use Rattle.journal_model.specs.declared.answer.Answer.{Answer}
use Rattle.journal_model.specs.declared.answer.Answer.TheVariants.{Unsupported as UnsupportedAnswer, Unsent as UnsentAnswer, Ended as EndedAnswer, FileFault, NoFile, Memory, Failed as FailedAnswer}

-- the request asks whether a key is there
abbrev pub is_question : Asking → Bool
is_question a = of_request a.request
  where
    of_request : Option HostMessage → Bool
    of_request (Some (Checkpresent key)) = true
    of_request _ = false

abbrev pub is_store : Work → Bool
is_store Store = true
is_store _ = false

-- A child that is gone ends the task as it went. So does a remote that doesn't know the request, but of a store's question.
abbrev pub verdict_stop : Bool → Verdict → Option Answer
verdict_stop asks (Ended why) = Some (EndedAnswer why)
verdict_stop asks Unsent = Some UnsentAnswer
verdict_stop asks (UnsupportedAt at) = if asks then None else Some UnsupportedAnswer
verdict_stop asks _ = None

abbrev pub asking_stop : Work → Asking → Option Answer
asking_stop work a = verdict_stop (is_store work && is_question a) a.verdict

-- A call that fails ends the task. So does one that misses its file, but where part is looked for or removed.
abbrev pub error_stop : Bool → DeskError → Option Answer
error_stop may_miss Failed = Some FileFault
error_stop may_miss Missing = if may_miss then None else Some NoFile
error_stop may_miss NoMemory = None

abbrev pub result_stop : {T : Type 0} → Bool → Result T DeskError → Option Answer
result_stop may_miss (Ok x) = None
result_stop may_miss (Err e) = error_stop may_miss e

abbrev pub call_stop : List ℕ → Call → Option Answer
call_stop part (Size name answer) = result_stop (bytes_eq name part) answer
call_stop part (ReadAt name from answer) = result_stop false answer
call_stop part (Create name answer) = result_stop false answer
call_stop part (Append name piece answer) = result_stop false answer
call_stop part (Cut name size answer) = result_stop false answer
call_stop part (Rename from to answer) = result_stop false answer
call_stop part (Remove name answer) = result_stop (bytes_eq name part) answer

abbrev pub all_but_last : {X : Type 0} → List X → List X
all_but_last xs = take (length xs - 1) xs

-- nothing follows what stops
abbrev pub is_stop_last : {X : Type 0} → (X → Option Answer) → List X → Bool
is_stop_last stop xs = list_all (λ x. is_none (stop x)) (all_but_last xs)

abbrev pub stops_of : Work → List ℕ → List Asking → List Call → List Answer
stops_of work part asked calls = filter_map (asking_stop work) asked ++ filter_map (call_stop part) calls

-- The answer is that of the one stop. Where nothing stopped the task, running out of memory may end it early, and else its work is finished.
abbrev pub AnsweredBy : List Answer → Answer → Type 0 → Type 0
AnsweredBy (stop ∷ []) answer Finished = answer ≡ stop
AnsweredBy (stop ∷ another ∷ more) answer Finished = ⊥
AnsweredBy [] Memory Finished = Unit {0}
AnsweredBy [] _ Finished = Finished

-- ---- small words of verdicts

abbrev pub is_done_at : Verdict → Bool
is_done_at (DoneAt at) = true
is_done_at _ = false

abbrev pub is_done : Asking → Bool
is_done a = is_done_at a.verdict

abbrev pub failed_at : Verdict → Option Answer
failed_at (FailedAt at) = Some (FailedAnswer at)
failed_at _ = None

-- the answer of a task that its last request failed
abbrev pub last_failed : List Asking → Option Answer
last_failed asked = last_or None (filter_map (λ a. failed_at a.verdict) asked)
