-- A round over one tagged child: where it may begin, and what its roles leave.
use Rattle.ann_outside.specs.Told.{DeskTold}
use Rattle.std.specs.Prelude.{ℕ, ◌≡◌, ◌+◌, List, [], ◌∷◌, Some, slice_get}
use Rattle.threads.specs.Passes.{HallValue, seen_of}
use Rattle.journal_model.specs.declared.entry.Entry.{Entry}
use Rattle.journal_model.specs.declared.opening.Opening.{Opening}
use Rattle.journal_model.specs.Halves.{EarValue, MouthValue, EarWired, MouthWired}
use Rattle.crew_work.specs.Laws.Posts.{tagged_crew}
use Rattle.crew_work.specs.Laws.Tasks.{IsThrough}
use Rattle.crew_work.specs.Laws.Rounds.{CorePass, LinkValue, KeepsPost, EarEnds, MouthEnds, IsAtRest}
use Rattle.crew_work.specs.Laws.Laws.{MayBeginTagged}
use Rattle.task_model.specs.declared.setup.Setup.{Setup}
use Rattle.task_text.specs.declared.task.Task.{Task}
use Rattle.crew_work.specs.Worker.Works.{CanServe}
use Rattle.crew_rounds.specs.Tagged.Coming.{IsFresh}
use Rattle.crew_rounds.specs.Tagged.Crewing.{AllManned, WorkerTells}
use Rattle.crew_rounds.specs.Tagged.Roles.{CanRunTasks}
use Rattle.crew_rounds.specs.Tagged.TaggedRounds.{passes_of, desks_of}

abbrev pub link_of : EarValue → MouthValue → LinkValue
link_of ear mouth = record { ear = ear; mouth = mouth }

-- A round over this link may begin: no task is busy and no job is open; the child is tagged, was got ready and not closed; and the
-- link is wired to the journal.
pub record TaggedCan (o : Opening) (journal : List Entry) (l : LinkValue) : Type 0 where
  pub calm : IsAtRest journal
  pub begins : MayBeginTagged journal l.ear.child
  pub serves : CanServe o l.ear.child journal
  pub ear : EarWired journal l.ear
  pub mouth : MouthWired journal l.mouth

-- the passes have seen nothing since the hall's begin, and have the numbers from `first` on
abbrev pub AreFresh : HallValue Entry Opening → ℕ → List CorePass → Type 0
AreFresh h first [] = Unit {0}
AreFresh h first (p ∷ ps) = (IsFresh h p × (p.number ≡ first)) × AreFresh h (first + 1) ps

-- The roles of a round over this link may play by these passes: those of the hall's begin, where the round may begin and the tasks can be
-- run.
pub record MayPlay (h : HallValue Entry Opening) (tasks : List Task) (setup : Setup) (l : LinkValue) (passes : List CorePass) : Type 0 where
  pub fresh : AreFresh h 1 passes
  pub can : TaggedCan h.fixed h.start l
  pub run : CanRunTasks h.fixed tasks setup

-- one of the passes has seen that there is nothing more to do for the child
pub record HasThrough (h : HallValue Entry Opening) (c : ℕ) (passes : List CorePass) : Type 0 where
  pub place : ℕ
  pub pass : CorePass
  pub there : slice_get passes place ≡ Some pass
  pub through : IsThrough h.fixed (seen_of pass) c

-- The passes of the main thread, of the ear, the mouth and the workers of c, as they end, and the desks of the workers; and the link,
-- as the ear and the mouth left it.
pub record CrewLeft (h : HallValue Entry Opening) (setup : Setup) (c : ℕ) (l : LinkValue) (passes : List CorePass) (desks desks' : List DeskTold) : Type 0 where
  pub main : CorePass
  pub ear : CorePass
  pub mouth : CorePass
  pub workers : List WorkerTells
  pub passes_are : passes ≡ main ∷ ear ∷ mouth ∷ passes_of workers
  pub desks_are : desks' ≡ desks_of workers
  pub numbers : (main.number ≡ 1) × (ear.number ≡ 2) × (mouth.number ≡ 3)
  pub one_child : (l.ear.child ≡ c) × (l.mouth.child ≡ c)
  pub keeps : KeepsPost (tagged_crew c) main
  pub hears : EarEnds (tagged_crew c) l.ear ear
  pub speaks : MouthEnds (tagged_crew c) l.mouth mouth
  pub manned : AllManned h setup c 4 desks workers
  pub through : HasThrough h c passes
