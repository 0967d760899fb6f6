-- How a check that is not run again is answered, over a child and without one.
use Rattle.std.specs.Prelude.{ℕ, zero, suc, ◌≡◌, ◌==◌, ◌⊎◌, if◌then◌else◌, List, [], ◌∷◌, ◌++◌, Option, Some, None, option_and_then}
use Rattle.std.specs.List.{last_or}
use Rattle.journal_model.specs.declared.verdict.Why.{Why}
use Rattle.journal_model.specs.declared.verdict.Why.TheVariants.{Closed}
use Rattle.journal_model.specs.declared.verdict.Verdict.{Verdict}
use Rattle.journal_model.specs.declared.verdict.Verdict.TheVariants.{Done as DoneAt, Failed as FailedAt, Absent as AbsentAt, Unknown as UnknownAt, Unsupported as UnsupportedAt, Ended, Unsent}
use Rattle.annex_model.specs.Messages.{HostMessage, Checkpresent}
use Rattle.journal_model.specs.declared.answer.Answer.{Answer}
use Rattle.journal_model.specs.declared.answer.Answer.TheVariants.{Present, Absent, Unsupported, Unsent as UnsentAnswer, StartFault, Memory, Unknown, NotPrepared, Ended as EndedAnswer}
use Rattle.journal_model.specs.declared.entry.What.{What}
use Rattle.journal_model.specs.declared.entry.What.TheVariants.{Claim, Start, NoStart}
use Rattle.journal_model.specs.declared.entry.Entry.{Entry}
use Rattle.journal_model.specs.Journal.{each_of, first_of, is_ended, is_mute, verdict_of, why_of}
use Rattle.journal_model.specs.Legality.{is_done}
pub use Rattle.task_model.specs.Askers.{Asking}
pub use Rattle.task_model.specs.Askings.{lost_verdict, asking_of, askings_from, askings}

-- the asking is of that request; the request is left out only where its child had ended or was mute
abbrev pub IsAskedOr : HostMessage → Asking → Type 0
IsAskedOr q a = asked a.request a.verdict
  where
    asked : Option HostMessage → Verdict → Type 0
    asked (Some r) v = r ≡ q
    asked None (Ended why) = Unit {0}
    asked None Unsent = Unit {0}
    asked None _ = ⊥

-- ---- a check

-- what the verdict of its request makes of a check. No line says that a check failed
abbrev pub check_answer : Verdict → Option Answer
check_answer (DoneAt at) = Some Present
check_answer (FailedAt at) = None
check_answer (AbsentAt at) = Some Absent
check_answer (UnknownAt at) = Some (Unknown at)
check_answer (UnsupportedAt at) = Some Unsupported
check_answer (Ended why) = Some (EndedAnswer why)
check_answer Unsent = Some UnsentAnswer

-- A check asks for its key once, and the verdict gives its answer. Running out of memory may end it early.
abbrev pub CheckRun : List ℕ → List Asking → Answer → Type 0
CheckRun key [] answer = answer ≡ Memory
CheckRun key (a ∷ []) answer = IsAskedOr (Checkpresent key) a × ((answer ≡ Memory) ⊎ (check_answer a.verdict ≡ Some answer))
CheckRun key (a ∷ b ∷ more) answer = ⊥

-- ---- a task without a child

-- the child that the entry claims task t for
abbrev pub child_claimed : ℕ → What → Option ℕ
child_claimed t (Claim task child) = if task == t then Some child else None
child_claimed t _ = None

-- what a start in the slot came to: a child, or none
abbrev pub came_of : ℕ → What → Option (Option ℕ)
came_of slot (Start child s offer) = if s == slot then Some (Some child) else None
came_of slot (NoStart s) = if s == slot then Some None else None
came_of slot _ = None

-- the place of the line that refused to get ready
abbrev pub refused_at : Verdict → Option ℕ
refused_at (FailedAt at) = Some at
refused_at (UnsupportedAt at) = Some at
refused_at _ = None

abbrev pub refusal_of : List Entry → ℕ → Option ℕ
refusal_of past c = option_and_then refused_at (verdict_of past c 1)

abbrev pub or_refusal : Option Answer → Option ℕ → Option Answer
or_refusal answer None = answer
or_refusal answer (Some at) = Some (NotPrepared at)

-- what a child's end stands for. That of a child which the host closed stands for nothing
abbrev pub ended_answer : Option Why → Option Answer
ended_answer None = None
ended_answer (Some Closed) = None
ended_answer (Some why) = Some (EndedAnswer why)

-- what a child that is gone stands for: its end, or else its mute
abbrev pub gone_answer : List Entry → ℕ → Option Answer
gone_answer past c =
    if is_ended past c then ended_answer (why_of past c)
    else if is_mute past c then Some UnsentAnswer
    else None

-- what a child whose job 1 is not done stands for: its refusal, or else its end or its mute
abbrev pub unready_answer : List Entry → ℕ → Option Answer
unready_answer past c =
    if is_done (verdict_of past c 1) then None
    else or_refusal (gone_answer past c) (refusal_of past c)

-- what the last start stands for where it gave no child that is prepared
abbrev pub failed_start : List Entry → Option (Option ℕ) → Option Answer
failed_start past None = None
failed_start past (Some None) = Some StartFault
failed_start past (Some (Some c)) = unready_answer past c

-- The task is claimed without a child after a start of slot 0 that failed, or whose child was not ready, and is answered so.
pub record ChildZero (journal : List Entry) (t : ℕ) (answer : Answer) : Type 0 where
  pub past : List Entry
  pub rest : List Entry
  pub by : ℕ
  pub claim : journal ≡ past ++ record { by = by; what = Claim t 0 } ∷ rest
  pub why : failed_start past (last_or None (each_of (came_of 0) past)) ≡ Some answer

-- Over a child a check asks for its key; without one it asks nothing. Running out of memory may end either.
abbrev pub CheckOver : List ℕ → List Entry → ℕ → Answer → Option ℕ → Type 0
CheckOver key journal t answer None = ⊥
CheckOver key journal t answer (Some zero) = (askings journal t ≡ []) × ((answer ≡ Memory) ⊎ ChildZero journal t answer)
CheckOver key journal t answer (Some (suc c)) = CheckRun key (askings journal t) answer

-- the run of a check that is task t, from the task's entries
abbrev pub CheckTask : List ℕ → List Entry → ℕ → Answer → Type 0
CheckTask key journal t answer = CheckOver key journal t answer (first_of (each_of (child_claimed t) journal))
