-- What an info comes to: what its child was asked, and what is made of it.
use Rattle.ann_outside.specs.Told.{ProgramsTold}
use Rattle.std.specs.Prelude.{ℕ, ◌≡◌, ◌⊎◌, ◌≤◌, true, false, List, [], ◌∷◌, take, map, codes, Option, Some, None, IsSome}
use Rattle.registers.specs.Registers.{nothing_set}
use Rattle.annex_model.specs.Messages.{host_line}
use Rattle.cli_words.specs.Identities.{nobody}
use Rattle.cli_words.specs.declared.refusals.Reason.{Reason}
use Rattle.journal_model.specs.declared.verdict.Why.{Why}
use Rattle.journal_model.specs.declared.entry.What.TheVariants.{Start, NoStart}
use Rattle.journal_model.specs.declared.entry.Entry.{Entry}
use Rattle.journal_model.specs.declared.opening.Opening.{Opening}
use Rattle.journal_model.specs.Journal.{any, is_live, is_mute, open_jobs, why_of}
use Rattle.journal_model.specs.Due.{replies_at}
use Rattle.journal_model.specs.Legality.{Legal, count}
use Rattle.journal_model.specs.Projection.{JobFits}
use Rattle.journal_model.specs.Shares.{are_by, is_closed}
use Rattle.task_model.specs.TaskRuns.{refusal_of}
use Rattle.child_link.specs.Wires.{WireValue}
use Rattle.child_life.specs.Start.Greetings.{loses}
use Rattle.child_life.specs.End.Programs.{Leaves, is_failed_start}
use Rattle.run_starts.specs.Once.Once.{is_of_task, starts_in}
use Rattle.info_and_init.specs.Info.Infos.{questions}
use Rattle.info_and_init.specs.Info.Askings.{asked_lines}
use Rattle.info_and_init.specs.declared.info.doing.Ready.{Ready}
use Rattle.info_and_init.specs.declared.info.made.InfoEnd.{InfoEnd}
use Rattle.info_and_init.specs.declared.info.made.InfoEnd.TheVariants.{Refused, Memory, Asked}

-- ---- what it begins with

-- no task, and no stamp
abbrev pub info_opening : Opening
info_opening = record { tasks = []; registers = nothing_set; notes = []; identity = nobody; stamp = 0; again = 0 }

-- what an info of the key is made with
pub record IsReady (key : Option (List ℕ)) (r : Ready) : Type 0 where
  pub opening : r.core.opening ≡ info_opening
  pub empty : r.core.journal ≡ []
  pub told : r.key ≡ key

-- ---- the journal

-- the lines of the greeting, and then those of the questions
abbrev pub info_requests : Option (List ℕ) → List (List ℕ)
info_requests key = codes "EXTENSIONS INFO GETGITREMOTENAME" ∷ codes "PREPARE" ∷ map host_line (questions key)

-- There is one start at most, in slot 0, and ASYNC is not offered. The child was asked the first of the requests, in order, and
-- nothing else; at most one request to it was lost, no job of it is open, and it has ended. Nothing is of a task. All
-- entries are the main thread's.
pub record IsAsked (key : Option (List ℕ)) (journal : List Entry) : Type 0 where
  pub once : (starts_in journal ≡ []) ⊎ (starts_in journal ≡ Start 1 0 false ∷ []) ⊎ (starts_in journal ≡ NoStart 0 ∷ [])
  pub asked : (n : ℕ) × (asked_lines journal 1 ≡ take n (info_requests key))
  pub lost : count (loses 1) journal ≤ 1
  pub settled : open_jobs journal 1 ≡ []
  pub ended : is_live journal 1 ≡ false
  pub taskless : any is_of_task journal ≡ false
  pub main : are_by 0 journal ≡ true

-- so it is, the journal is legal, and each job's part fits
pub record IsInformed (key : Option (List ℕ)) (journal : List Entry) : Type 0 where
  pub legal : Legal info_opening journal
  pub parts : (c j : ℕ) → JobFits (replies_at info_opening journal) journal c j
  pub run : IsAsked key journal

-- all was asked; or a start failed, or the child refused to get ready, ended before it was closed, or is mute
abbrev pub IsComplete : Option (List ℕ) → List Entry → Type 0
IsComplete key journal =
    (asked_lines journal 1 ≡ info_requests key)
    ⊎ (any is_failed_start journal ≡ true)
    ⊎ IsSome (refusal_of journal 1)
    ⊎ ((why : Why) × (why_of journal 1 ≡ Some why) × (is_closed why ≡ false))
    ⊎ (is_mute journal 1 ≡ true)

-- ---- its end

-- what an info leaves, as contracts see it
pub record InfoValue : Type 0 where
  pub journal : List Entry
  pub wires : List WireValue
  pub end : InfoEnd

-- all was asked, or there is a cause, or no memory was found
abbrev pub EndsInfo : Option (List ℕ) → List Entry → InfoEnd → Type 0
EndsInfo key journal (Asked k) = (k ≡ key) × IsComplete key journal
EndsInfo key journal Memory = Unit {0}
EndsInfo key journal (Refused reason) = ⊥

-- The child was asked so, and this is left of its programs.
pub record HasInformed (program : List ℕ) (key : Option (List ℕ)) (before after : ProgramsTold) (made : InfoValue) : Type 0 where
  pub informed : IsInformed key made.journal
  pub ends : EndsInfo key made.journal made.end
  pub objects : Leaves (made.end ≡ Memory) program made.journal before after made.wires

-- a key that is refused ends an info before anything is started
abbrev pub InformsUnless : Option Reason → List ℕ → Option (List ℕ) → ProgramsTold → ProgramsTold → InfoValue → Type 0
InformsUnless None program key before after made = HasInformed program key before after made
InformsUnless (Some reason) program key before after made = (made ≡ record { journal = []; wires = []; end = Refused reason }) × (after ≡ before)
