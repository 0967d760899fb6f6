-- What each stage of a greeting leaves.
use Rattle.std.specs.Prelude.{ℕ, ◌≡◌, ◌⊎◌, ◌≤◌, ◌+◌, Bool, true, false, List, [], ◌∷◌, ◌++◌, Option, Some, None}
use Rattle.std.specs.List.{list_all}
use Rattle.ann_outside.specs.declared.Sink.{Ghosts as SinkGhosts}
use Rattle.ann_outside.specs.declared.Source.{Ghosts as SourceGhosts}
use Rattle.journal_model.specs.declared.verdict.Verdict.{Verdict}
use Rattle.journal_model.specs.declared.verdict.Verdict.TheVariants.{Done as DoneAt, Failed as FailedAt, Unsupported as UnsupportedAt}
use Rattle.annex_model.specs.Messages.{HostMessage, AskExtensions, Prepare, Initremote}
use Rattle.journal_model.specs.declared.entry.What.TheVariants.{Start}
use Rattle.journal_model.specs.declared.entry.Entry.{Entry}
use Rattle.journal_model.specs.Journal.{any, is_started, is_ended, has_spoken, verdict_of, asked_jobs, open_jobs}
use Rattle.journal_model.specs.Legality.{count, is_start, said_version, offered_names, is_done}
use Rattle.annex_model.specs.Extensions.{names_of}
use Rattle.host_core.specs.declared.event.Reply.{Reply}
use Rattle.host_core.specs.declared.event.Reply.TheVariants.{Child}
use Rattle.journal_model.specs.Shares.{are_by}
use Rattle.host_core.specs.Steps.{is_gone, next_job, may_request}
use Rattle.child_life.specs.declared.start.greeting.Mode.{Mode}
use Rattle.child_life.specs.declared.start.greeting.Mode.TheVariants.{Serve, Init}
use Rattle.child_life.specs.declared.start.greeting.Greeting.{Greeting}
use Rattle.child_life.specs.declared.start.greeting.Greeting.TheVariants.{Child as GreetedChild}
use Rattle.child_life.specs.declared.start.greeting.Came.{Came}
use Rattle.child_life.specs.declared.start.starting.RequestOutcome.{RequestOutcome}
use Rattle.child_life.specs.declared.start.starting.RequestOutcome.TheVariants.{Done, Refused, Gone}
use Rattle.child_life.specs.Start.Greetings.{is_of_greeting_for, is_refusal, loses, CameTo, IsReadyFor, IsRefused}

-- the child that the core numbers
abbrev pub child_of : Reply → Option ℕ
child_of (Child child) = Some child
child_of _ = None

-- the next child's start in that slot is noted; None where nothing is
abbrev pub NotesStart : List Entry → List Entry → ℕ → Bool → Option ℕ → Type 0
NotesStart old new slot offer None = new ≡ old
NotesStart old new slot offer (Some c) = (c ≡ count is_start old + 1) × (new ≡ old ++ record { by = 0; what = Start c slot offer } ∷ [])

-- a request of the greeting. It has no answer that says absent or unknown
abbrev pub is_greeting : HostMessage → Bool
is_greeting (AskExtensions names) = true
is_greeting Prepare = true
is_greeting Initremote = true
is_greeting q = false

-- what a child is asked after its extensions
abbrev pub last_request : Mode → HostMessage
last_request Serve = Prepare
last_request Init = Initremote

-- such a child is asked it
abbrev pub is_asked_for : HostMessage → Mode → Bool
is_asked_for (AskExtensions names) mode = true
is_asked_for Prepare Serve = true
is_asked_for Initremote Init = true
is_asked_for q mode = false

-- what the verdict of a request of the greeting is to it
abbrev pub asked_as : Verdict → RequestOutcome
asked_as (DoneAt at) = Done
asked_as (FailedAt at) = Refused (FailedAt at)
asked_as (UnsupportedAt at) = Refused (UnsupportedAt at)
asked_as v = Gone

-- the child was started and has not ended, has said nothing and was asked nothing, and no request to it was lost; ASYNC is offered
-- to it or not
pub record HasBegun (journal : List Entry) (c : ℕ) (offer : Bool) : Type 0 where
  pub started : is_started journal c ≡ true
  pub live : is_ended journal c ≡ false
  pub silent : has_spoken journal c ≡ false
  pub jobs : asked_jobs journal c ≡ []
  pub unlost : any (loses c) journal ≡ false
  pub names : offered_names journal c ≡ names_of offer

-- the child has said its version, and may be asked for its extensions
pub record MayAsk (journal : List Entry) (c : ℕ) (offer : Bool) : Type 0 where
  pub started : is_started journal c ≡ true
  pub version : said_version journal c ≡ true
  pub jobs : asked_jobs journal c ≡ []
  pub unlost : any (loses c) journal ≡ false
  pub names : offered_names journal c ≡ names_of offer

-- it is the main thread's way to a core that nobody else steps
pub record IsMain (number : ℕ) (alone : Bool) : Type 0 where
  pub first : number ≡ 0
  pub lone : alone ≡ true

-- the child, which has no open job, may be asked this request of the greeting
pub record MayGreet (journal : List Entry) (number c : ℕ) (q : HostMessage) : Type 0 where
  pub started : is_started journal c ≡ true
  pub may : may_request journal number 0 c q ≡ true
  pub kind : is_greeting q ≡ true
  pub idle : open_jobs journal c ≡ []

-- what was seen before is followed by the child's greeting alone, the main thread's own, none of its jobs is open, and at most one
-- request was lost
pub record GreetsOn (mode : Mode) (old new : List Entry) (c : ℕ) : Type 0 where
  pub more : List Entry
  pub is : new ≡ old ++ more
  pub own : list_all (λ e. is_of_greeting_for mode c e.what) more ≡ true
  pub main : are_by 0 more ≡ true
  pub idle : open_jobs new c ≡ []
  pub lost : count (loses c) more ≤ 1

-- the child's next job is done, and no request was lost
pub record IsDoneNext (old new : List Entry) (c : ℕ) : Type 0 where
  pub done : is_done (verdict_of new c (next_job old c)) ≡ true
  pub jobs : asked_jobs new c ≡ asked_jobs old c ++ next_job old c ∷ []
  pub unlost : any (loses c) new ≡ any (loses c) old

-- a line refused the child's next job, and no request was lost
pub record IsRefusedNext (old new : List Entry) (c : ℕ) (verdict : Verdict) : Type 0 where
  pub settled : verdict_of new c (next_job old c) ≡ Some verdict
  pub place : ℕ
  pub refusal : (verdict ≡ FailedAt place) ⊎ (verdict ≡ UnsupportedAt place)
  pub jobs : asked_jobs new c ≡ asked_jobs old c ++ next_job old c ∷ []
  pub unlost : any (loses c) new ≡ any (loses c) old

-- the child is gone, and its next job was not asked, or no line settled it
pub record IsGoneNext (old new : List Entry) (c : ℕ) : Type 0 where
  pub gone : is_gone new c ≡ true
  pub undone : is_done (verdict_of new c (next_job old c)) ≡ false
  pub unrefused : is_refusal (verdict_of new c (next_job old c)) ≡ false
  pub jobs : (asked_jobs new c ≡ asked_jobs old c) ⊎ (asked_jobs new c ≡ asked_jobs old c ++ next_job old c ∷ [])

abbrev pub AsksNext : List Entry → List Entry → ℕ → RequestOutcome → Type 0
AsksNext old new c Done = IsDoneNext old new c
AsksNext old new c (Refused verdict) = IsRefusedNext old new c verdict
AsksNext old new c Gone = IsGoneNext old new c

-- the child is gone, and its job 1 is not done and was not refused
pub record IsGoneUnready (journal : List Entry) (c : ℕ) : Type 0 where
  pub gone : is_gone journal c ≡ true
  pub undone : is_done (verdict_of journal c 1) ≡ false
  pub unrefused : is_refusal (verdict_of journal c 1) ≡ false

abbrev pub Prepares : Mode → List Entry → ℕ → RequestOutcome → Type 0
Prepares mode journal c Done = IsReadyFor mode journal c
Prepares mode journal c (Refused verdict) = IsRefused journal c verdict
Prepares mode journal c Gone = IsGoneUnready journal c

-- what the journal says of a greeting that came to this; None where the child is ready, with tags or without
abbrev pub ComesTo : Mode → List Entry → ℕ → Option Came → Type 0
ComesTo mode journal c None = IsReadyFor mode journal c
ComesTo mode journal c (Some came) = CameTo mode journal c came

-- what a greeting says of the child, which was started
abbrev pub TellsOf : {I O S : Type 0} {sinks : SinkGhosts I} {sources : SourceGhosts O} → Mode → List Entry → ℕ → Greeting I O S sinks sources → Type 0
TellsOf mode new c (GreetedChild link stub came) = (link.ear.child ≡ c) × CameTo mode new c came
TellsOf mode new c greeting = ⊥
