-- What a journal has of one run of a task: what it asked, what it noted, and how it was closed.
use Rattle.std.specs.Prelude.{ℕ, ◌≡◌, ◌+◌, ◌-◌, ◌==◌, ◌&&◌, not, nat_le, Bool, true, false, if◌then◌else◌, List, [], ◌∷◌, ◌++◌, length, Option, Some, None, option_and_then, option_map}
use Rattle.std.specs.List.{cons_option, last_or}
use Rattle.annex_model.specs.Messages.{HostMessage, Export, host_reading}
use Rattle.journal_model.specs.declared.answer.Answer.{Answer}
use Rattle.journal_model.specs.declared.verdict.Why.{Why}
use Rattle.journal_model.specs.declared.verdict.Verdict.{Verdict}
use Rattle.journal_model.specs.declared.verdict.Verdict.TheVariants.{Ended, Unsent}
use Rattle.journal_model.specs.declared.entry.What.{What}
use Rattle.journal_model.specs.declared.entry.What.TheVariants.{Claim, Lead, Ask, Lost, Note, Answer as Answered, Again}
use Rattle.journal_model.specs.declared.entry.Entry.{Entry}
use Rattle.journal_model.specs.Journal.{any, verdict_of, why_of, addressed, is_tagged}
use Rattle.journal_model.specs.Legality.{claims, turn_of_task}
use Rattle.task_model.specs.declared.turn.TaskTurn.{TaskTurn}
use Rattle.task_model.specs.Askers.{Asking, Noting}

-- ---- what a task asked

-- what a Lost stands for: the end of its child, or else its mute
abbrev pub lost_verdict : Option Why → Verdict
lost_verdict None = Unsent
lost_verdict (Some why) = Ended why

-- the name that an EXPORT says
abbrev pub name_in : Option HostMessage → Option (List ℕ)
name_in (Some (Export name)) = Some name
name_in q = None

-- the name that the entry says for this job
abbrev pub name_said : List Entry → ℕ → ℕ → What → Option (List ℕ)
name_said past child job (Lead c j line) = if c == child && j == job then name_in (host_reading (addressed past child line).1) else None
name_said past child job w = None

-- the name that stands just before the request of this job
abbrev pub name_before : List Entry → ℕ → ℕ → Option (List ℕ)
name_before past child job = option_and_then (λ e. name_said past child job e.what) (last_or None past)

-- What the entry asks for task t, where it stands after past: the request that an Ask spells with its tag taken off, and the name before
-- it, if its job was settled; or a request that found its child ended or mute.
abbrev pub asking_of : List Entry → ℕ → List Entry → What → Option Asking
asking_of journal t past (Ask child job task line) =
    if task == t
    then option_map (λ v. record { request = host_reading (addressed past child line).1; name = name_before past child job; verdict = v }) (verdict_of journal child job)
    else None
asking_of journal t past (Lost child task) =
    if task == t then Some (record { request = None; name = None; verdict = lost_verdict (why_of past child) }) else None
asking_of journal t past _ = None

-- the askings of the entries in order, by recursion with what stands before
abbrev pub askings_from : List Entry → ℕ → List Entry → List Entry → List Asking
askings_from journal t past [] = []
askings_from journal t past (e ∷ rest) = cons_option (asking_of journal t past e.what) (askings_from journal t (past ++ e ∷ []) rest)

-- the settled requests of task t
abbrev pub askings : List Entry → ℕ → List Asking
askings journal t = askings_from journal t [] journal

-- ---- what it noted

-- what the entry notes for task t, after so many of its requests
abbrev pub noting_of : ℕ → ℕ → What → Option Noting
noting_of t behind (Note task chunk count) = if task == t then Some (record { chunk = chunk; count = count; behind = behind }) else None
noting_of t behind _ = None

-- the notes of the entries in order, each after the requests before it
abbrev pub notings_from : List Entry → ℕ → List Entry → ℕ → List Entry → List Noting
notings_from journal t past behind [] = []
notings_from journal t past behind (e ∷ rest) =
    cons_option (noting_of t behind e.what)
    (notings_from journal t (past ++ e ∷ []) (behind + length (cons_option (asking_of journal t past e.what) [])) rest)

-- ---- a run

-- the entry claims task t, answers it, or says that it is to be run again
abbrev pub bounds_run : ℕ → What → Bool
bounds_run t (Claim task child) = task == t
bounds_run t (Answered task answer) = task == t
bounds_run t (Again task answer) = task == t
bounds_run t _ = false

-- what closes a run of task t: where the task is renewed it is to be run again, and else it is answered
abbrev pub closing : Bool → ℕ → Answer → What
closing true t answer = Again t answer
closing false t answer = Answered t answer

-- One run of task t: the entries from one that claims it to the next that closes the run. What stands between may be other tasks'.
pub record TaskStretch (journal : List Entry) (t : ℕ) : Type 0 where
  pub past : List Entry
  pub by : ℕ
  pub child : ℕ
  pub within : List Entry
  pub closed_by : ℕ
  pub renewed : Bool
  pub answer : Answer
  pub rest : List Entry
  pub is : journal ≡ past ++ record { by = by; what = Claim t child } ∷ within ++ record { by = closed_by; what = closing renewed t answer } ∷ rest
  pub one : any (bounds_run t) within ≡ false

-- the turn of the run, by which its files are named
abbrev pub run_turn : {journal : List Entry} → {t : ℕ} → TaskStretch journal t → TaskTurn
run_turn {journal} {t} run = record { task = t; turn = turn_of_task run.past t }

-- it is the task's last run: the task is claimed no more after it
abbrev pub is_last_run : {journal : List Entry} → {t : ℕ} → TaskStretch journal t → Bool
is_last_run {journal} {t} run = not (any (claims t) run.rest)

-- what stands before its first entry after the claim
abbrev pub past_claim : {journal : List Entry} → {t : ℕ} → TaskStretch journal t → List Entry
past_claim {journal} {t} run = run.past ++ record { by = run.by; what = Claim t run.child } ∷ []

-- its settled requests, and its notes
abbrev pub run_askings : {journal : List Entry} → {t : ℕ} → TaskStretch journal t → List Asking
run_askings {journal} {t} run = askings_from journal t (past_claim run) run.within

abbrev pub run_notings : {journal : List Entry} → {t : ℕ} → TaskStretch journal t → List Noting
run_notings {journal} {t} run = notings_from journal t (past_claim run) 0 run.within

-- The number of the desk of a number that claims for this child. The main thread uses the first worker's. Over a tagged child the
-- numbers 1 to 3 are the main thread's, the ear's and the mouth's, and in a pool number 1 is the main thread's.
abbrev pub desk_of : List Entry → ℕ → ℕ → ℕ
desk_of journal by child = if nat_le by 1 then 1 else if is_tagged journal child then by - 3 else by - 1
