-- All that is told of a call, in one record.
use Rattle.std.specs.Prelude.{ℕ, ◌≡◌, ◌⊎◌, List, [], Option, Some, None, IfSome, IsSome, Result}
use Rattle.ann_outside.specs.Causes.{Rose}
use Rattle.ann_outside.specs.Desks.{Made}
use Rattle.ann_outside.specs.Told.{ProgramsTold, SinkTold, SourceTold}
use Rattle.journal_model.specs.Legality.{count}
use Rattle.audit_command.specs.declared.error.AuditError.{AuditError}
use Rattle.journal_audit.specs.declared.found.Audit.{Audit}
use Rattle.cli_words.specs.declared.command.Command.{Command}
use Rattle.cli_words.specs.declared.command.Command.TheVariants.{Audit as AuditWord}
use Rattle.special_cli.specs.Endings.{refused_in, check_in, info_in, init_in, run_in, tasks_in, IsTold, LacksMemory}
use Rattle.run_and_check.specs.Check.Checks.{IsChecked}
use Rattle.info_and_init.specs.Info.Informs.{IsInformed}
use Rattle.special_cli.specs.Informs.{IsInfoTold}
use Rattle.child_life.specs.End.Outsides.{OutsideValue}
use Rattle.special_cli.specs.Left.{Left, IsIdle}
use Rattle.child_life.specs.End.Wires.{AreWires, came}
use Rattle.child_life.specs.End.Programs.{HaveStarted, RoseBy, is_failed_start}
use Rattle.child_life.specs.End.Outsides.{HaveMade}
use Rattle.special_cli.specs.Commands.{Runs}
use Rattle.special_cli.specs.Setups.{HasSetUp}
use Rattle.special_cli.specs.Doings.{end_of, made_in}
use Rattle.special_cli.specs.Audits.{IsAuditOf, end_of_audit}
use Rattle.special_cli.specs.Recoveries.{HasRecovered, recover_in}
use Rattle.audit_command.specs.Recoveries.{RecoverNames}
use Rattle.special_cli.specs.Rehearsals.{IsUntouched, end_of_rehearsal, rehearsal_in}
use Rattle.special_cli.specs.Walks.{end_of_walk, walk_in}
use Rattle.rehearse_command.specs.Walk.Walks.{EndsWalk}
use Rattle.rehearse_command.specs.declared.walk.made.WalkEnd.{WalkEnd}
use Rattle.rehearse_command.specs.Rehearsals.{HasRehearsed as HasMade}
use Rattle.rehearse_command.specs.declared.made.RehearsalEnd.{RehearsalEnd}
use Rattle.run_and_check.specs.Run.Inputs.{InputFlow, IsUnread, input_flow}
use Rattle.run_and_check.specs.Run.Runs.{HasDone}
use Rattle.run_and_check.specs.declared.run.made.RunEnd.{RunEnd}
use Rattle.special_cli.specs.Tells.{Flow, IsToldOf, flow}
use Rattle.special_cli.specs.declared.end.End.{End}
use Rattle.cli_words.specs.declared.command.InitWords.{InitWords}
use Rattle.cli_words.specs.declared.command.RunWords.{RunWords}

-- an init came to an end that was told so
abbrev pub IsInitCalled : InitWords → OutsideValue → ℕ → Flow → Flow → Left → Type 0
IsInitCalled words before status out err left = (end : End) × HasSetUp words before (record { left = left; end = end }) × IsToldOf left status out err end

-- the tasks of a run were done, and the end of it was told so
abbrev pub IsRunCalled : RunWords → Option ℕ → OutsideValue → InputFlow → ℕ → Flow → Flow → Left → Type 0
IsRunCalled words clock before input status out err left =
    (end : RunEnd) × HasDone words clock before input left.outside (made_in left end) × IsToldOf left status out err (end_of end)

-- the input was audited, nothing is left but as before, and what came of it was told so
abbrev pub IsAuditCalled : OutsideValue → InputFlow → ℕ → Flow → Flow → Left → Type 0
IsAuditCalled before input status out err left =
    (outcome : Result Audit AuditError) × IsAuditOf input outcome × IsIdle before left × IsToldOf left status out err (end_of_audit outcome)

-- a text was recovered, the input is as before, and what came of it was told so
abbrev pub IsRecoveryCalled : RecoverNames → OutsideValue → InputFlow → ℕ → Flow → Flow → Left → Type 0
IsRecoveryCalled names before input status out err left =
    (end : End) × HasRecovered names before (record { left = left; end = end }) × IsUnread input × IsToldOf left status out err end

-- the tasks of a rehearsal were done over remotes of its own, nothing that was handed in was touched, and what came of them was told so
abbrev pub IsRehearsalCalled : ℕ → ℕ → OutsideValue → InputFlow → ℕ → Flow → Flow → Left → Type 0
IsRehearsalCalled seed tasks before input status out err left =
    (end : RehearsalEnd) × HasMade seed tasks left.journal left.answers end × IsUntouched before left × IsUnread input × IsToldOf left status out err (end_of_rehearsal end)

-- the tasks of a walk were done in a world of its own, nothing that was handed in was touched, and what came of them was told so
abbrev pub IsWalkCalled : ℕ → ℕ → OutsideValue → InputFlow → ℕ → Flow → Flow → Left → Type 0
IsWalkCalled seed tasks before input status out err left =
    (end : WalkEnd) × EndsWalk seed tasks left.journal left.answers end × IsUntouched before left × IsUnread input × IsToldOf left status out err (end_of_walk tasks end)

-- what a call of the program is lent, before and after, as far as that is told: what the clock answers, what was handed in, what was read,
-- and what was printed
pub record World : Type 0 where
  pub clock : Option ℕ
  pub before : OutsideValue
  pub input : InputFlow
  pub out : Flow
  pub err : Flow

abbrev pub world : Option ℕ → ProgramsTold → Option (List Made) → SourceTold → SourceTold → SinkTold → SinkTold → SinkTold → SinkTold → World
world clock programs made input input' out out' err err' =
    record { clock = clock; before = record { programs = programs; made = made }; input = input_flow input input'; out = flow out out'; err = flow err err' }

-- what the words ask for was done, and what came of it was told so
abbrev pub IsDone : World → Option Command → ℕ → Left → Type 0
IsDone w wish status left = (end : End) × Runs w.clock w.before w.input wish (record { left = left; end = end }) × IsToldOf left status w.out w.err end

-- what follows of it, and what each status says
pub record IsCalled (w : World) (wish : Option Command) (status : ℕ) (left : Left) : Type 0 where
  pub usage : status ≡ 2 → wish ≡ None
  pub words : wish ≡ None → (status ≡ 2) ⊎ (status ≡ 5) ⊎ (status ≡ 7)
  pub refused : status ≡ 3 → IsSome (refused_in wish) ⊎ IsSome (tasks_in wish) ⊎ (wish ≡ Some AuditWord) ⊎ IsSome (recover_in wish)
  pub key : IsSome (refused_in wish) → (status ≡ 3) ⊎ (status ≡ 5) ⊎ (status ≡ 7)
  pub early : run_in wish ≡ None → rehearsal_in wish ≡ None → walk_in wish ≡ None → recover_in wish ≡ None → IsIdle w.before left
  pub output : status ≡ 5 → Rose w.out.faults w.out.faults' ⊎ Rose w.err.faults w.err.faults'
  pub checked : IfSome (check_in wish) (λ c. IsChecked w.clock c.1 left.journal)
  pub told : IfSome (check_in wish) (λ c. IsTold status (Rose w.err.faults w.err.faults') w.out.taken w.out.taken' left.journal left.answers)
  pub informed : IfSome (info_in wish) (λ c. IsInformed c.1 left.journal)
  pub info_told : IfSome (info_in wish) (λ c. IsInfoTold status w.out.taken w.out.taken' c.1 left.journal × (left.answers ≡ []))
  pub init : IfSome (init_in wish) (λ words. IsInitCalled words w.before status w.out w.err left)
  pub run : IfSome (tasks_in wish) (λ words. IsRunCalled words w.clock w.before w.input status w.out w.err left)
  pub audit : wish ≡ Some AuditWord → IsAuditCalled w.before w.input status w.out w.err left
  pub recovery : IfSome (recover_in wish) (λ names. IsRecoveryCalled names w.before w.input status w.out w.err left)
  pub rehearsal : IfSome (rehearsal_in wish) (λ r. IsRehearsalCalled r.0 r.1 w.before w.input status w.out w.err left)
  pub walk : IfSome (walk_in wish) (λ x. IsWalkCalled x.0 x.1 w.before w.input status w.out w.err left)
  pub wires : IfSome (run_in wish) (λ program. AreWires w.before.programs.starts left.journal 0 (came left.journal) left.wires)
  pub starts : IfSome (run_in wish) (λ program. HaveStarted (LacksMemory status (Rose w.err.faults w.err.faults')) program left.journal w.before.programs.starts left.outside.programs.starts)
  pub faults : IfSome (run_in wish) (λ program. RoseBy (count is_failed_start left.journal) w.before.programs.faults left.outside.programs.faults)
  pub desks : HaveMade w.before.made left.outside.made left.tables

-- whatever was done is called so
abbrev pub DoneIsCalled : Type 0
DoneIsCalled = (w : World) (wish : Option Command) (status : ℕ) (left : Left) → IsDone w wish status left → IsCalled w wish status left
