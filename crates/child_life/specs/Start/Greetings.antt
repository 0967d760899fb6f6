-- What a greeting leaves: in the journal, in the link, and of the programs.
-- https://git-annex.branchable.com/design/external_special_remote_protocol/
use Rattle.std.specs.Prelude.{ℕ, ◌≡◌, ◌⊎◌, ◌≤◌, ◌+◌, ◌==◌, ◌&&◌, ◌||◌, Bool, true, false, List, [], ◌∷◌, ◌++◌, Option, Some}
use Rattle.std.specs.List.{list_all}
use Rattle.ann_outside.specs.declared.Sink.{Ghosts as SinkGhosts}
use Rattle.ann_outside.specs.declared.Source.{Ghosts as SourceGhosts}
use Rattle.ann_outside.specs.Starts.{Starts, IsNumbered}
use Rattle.ann_outside.specs.Causes.{AddsOne, Stays}
use Rattle.journal_model.specs.declared.verdict.Why.{Why}
use Rattle.journal_model.specs.declared.verdict.Verdict.{Verdict}
use Rattle.journal_model.specs.declared.verdict.Verdict.TheVariants.{Failed as FailedAt, Unsupported as UnsupportedAt}
use Rattle.journal_model.specs.declared.entry.What.{What}
use Rattle.journal_model.specs.declared.entry.What.TheVariants.{Start, NoStart, Ask, Lost}
use Rattle.journal_model.specs.declared.entry.Entry.{Entry}
use Rattle.annex_model.specs.Messages.{HostMessage, Initremote, host_reading}
use Rattle.annex_model.specs.Tags.{untag, without_tag}
use Rattle.journal_model.specs.Journal.{any, is_ended, is_mute, is_tagged, why_of, verdict_of, asked_jobs, open_jobs}
use Rattle.journal_model.specs.Legality.{count, is_start, is_done, asks_prepare, is_prepared}
use Rattle.journal_model.specs.Shares.{are_by, by_link, is_closed}
use Rattle.journal_model.specs.Halves.{EarValue, MouthValue}
use Rattle.child_life.specs.declared.start.greeting.Mode.{Mode}
use Rattle.child_life.specs.declared.start.greeting.Mode.TheVariants.{Serve, Init}
use Rattle.child_life.specs.declared.start.greeting.Greeting.{Greeting}
use Rattle.child_life.specs.declared.start.greeting.Greeting.TheVariants.{Child, StartFault, NoMemory}
use Rattle.child_life.specs.declared.start.greeting.Came.{Came}
use Rattle.child_life.specs.declared.start.greeting.Came.TheVariants.{Ready, Refused, Ended, Unsent}

-- it asks to be set up
abbrev pub is_initremote : Option HostMessage → Bool
is_initremote (Some Initremote) = true
is_initremote q = false

-- the line asks what such a child is asked: to get ready, or to be set up
abbrev pub asks_for : Mode → List ℕ → Bool
asks_for Serve line = asks_prepare line
asks_for Init line = is_initremote (host_reading (without_tag line (untag line)))

-- the line is that of job 0, or of job 1 and asks that
abbrev pub is_greeting_line_for : Mode → ℕ → List ℕ → Bool
is_greeting_line_for mode job line = job == 0 || (job == 1 && asks_for mode line)

-- the entry is of c's greeting: its link's own, or a request that is no task's, as job 0 or job 1
abbrev pub is_of_greeting_for : Mode → ℕ → What → Bool
is_of_greeting_for mode c (Ask child job task line) = child == c && (task == 0 && is_greeting_line_for mode job line)
is_of_greeting_for mode c (Lost child task) = child == c && task == 0
is_of_greeting_for mode c w = by_link c w

-- the entry says that a request to c was lost
abbrev pub loses : ℕ → What → Bool
loses c (Lost child task) = child == c
loses c w = false

-- the child was started in that slot, and after its start stands its greeting alone, the main thread's own, with each of its
-- jobs settled, and at most one request lost
pub record GreetedFor (mode : Mode) (old new : List Entry) (slot : ℕ) (offer : Bool) (c : ℕ) : Type 0 where
  pub next : c ≡ count is_start old + 1
  pub more : List Entry
  pub grown : new ≡ old ++ record { by = 0; what = Start c slot offer } ∷ more
  pub own : list_all (λ e. is_of_greeting_for mode c e.what) more ≡ true
  pub main : are_by 0 more ≡ true
  pub idle : open_jobs new c ≡ []
  pub lost : count (loses c) more ≤ 1

-- the same of a child that is to serve
abbrev pub is_greeting_line : ℕ → List ℕ → Bool
is_greeting_line job line = is_greeting_line_for Serve job line

abbrev pub is_of_greeting : ℕ → What → Bool
is_of_greeting c w = is_of_greeting_for Serve c w

abbrev pub Greeted : List Entry → List Entry → ℕ → Bool → ℕ → Type 0
Greeted old new slot offer c = GreetedFor Serve old new slot offer c

-- the child is prepared, after EXTENSIONS and PREPARE alone, and no request to it was lost
pub record IsReady (journal : List Entry) (c : ℕ) : Type 0 where
  pub prepared : is_prepared journal c ≡ true
  pub jobs : asked_jobs journal c ≡ 0 ∷ 1 ∷ []
  pub unlost : any (loses c) journal ≡ false

-- the child's job 1 is done, after jobs 0 and 1 alone, and no request to it was lost. That it asked INITREMOTE is its greeting's
-- to say
pub record IsSetUp (journal : List Entry) (c : ℕ) : Type 0 where
  pub done : is_done (verdict_of journal c 1) ≡ true
  pub jobs : asked_jobs journal c ≡ 0 ∷ 1 ∷ []
  pub unlost : any (loses c) journal ≡ false

abbrev pub IsReadyFor : Mode → List Entry → ℕ → Type 0
IsReadyFor Serve journal c = IsReady journal c
IsReadyFor Init journal c = IsSetUp journal c

-- the verdict is that of a request that a line refused: it failed, or the remote doesn't know it
abbrev pub is_refusal : Option Verdict → Bool
is_refusal (Some (FailedAt at)) = true
is_refusal (Some (UnsupportedAt at)) = true
is_refusal v = false

-- the child refused job 1 by the line at that place, after job 0 and job 1 alone
pub record IsRefused (journal : List Entry) (c : ℕ) (verdict : Verdict) : Type 0 where
  pub undone : is_done (verdict_of journal c 1) ≡ false
  pub settled : verdict_of journal c 1 ≡ Some verdict
  pub place : ℕ
  pub refusal : (verdict ≡ FailedAt place) ⊎ (verdict ≡ UnsupportedAt place)
  pub jobs : asked_jobs journal c ≡ 0 ∷ 1 ∷ []

-- the child has ended so, and its job 1 is not done and was not refused. The host did not close it
pub record HasEnded (journal : List Entry) (c : ℕ) (why : Why) : Type 0 where
  pub undone : is_done (verdict_of journal c 1) ≡ false
  pub unrefused : is_refusal (verdict_of journal c 1) ≡ false
  pub ended : why_of journal c ≡ Some why
  pub kept : is_closed why ≡ false

-- the child is mute and has not ended, and its job 1 is not done and was not refused
pub record IsUnsent (journal : List Entry) (c : ℕ) : Type 0 where
  pub undone : is_done (verdict_of journal c 1) ≡ false
  pub unrefused : is_refusal (verdict_of journal c 1) ≡ false
  pub live : is_ended journal c ≡ false
  pub mute : is_mute journal c ≡ true

-- what the journal says of a child that was greeted
abbrev pub CameTo : Mode → List Entry → ℕ → Came → Type 0
CameTo mode journal c (Ready tagged) = IsReadyFor mode journal c × (tagged ≡ is_tagged journal c)
CameTo mode journal c (Refused verdict) = IsRefused journal c verdict
CameTo mode journal c (Ended why) = HasEnded journal c why
CameTo mode journal c Unsent = IsUnsent journal c

-- what the journal says of a greeting
abbrev pub TellsFor : {I O S : Type 0} {sinks : SinkGhosts I} {sources : SourceGhosts O} → Mode → List Entry → List Entry → ℕ → Bool → Greeting I O S sinks sources → Type 0
TellsFor mode old new slot offer (Child link stub came) = GreetedFor mode old new slot offer link.ear.child × CameTo mode new link.ear.child came
TellsFor mode old new slot offer StartFault = new ≡ old ++ record { by = 0; what = NoStart slot } ∷ []
TellsFor mode old new slot offer NoMemory = new ≡ old

-- the halves of the link of a greeting that has one
abbrev pub IfHasLink : {I O S : Type 0} {sinks : SinkGhosts I} {sources : SourceGhosts O} → (EarValue → MouthValue → Type 0) → Greeting I O S sinks sources → Type 0
IfHasLink P (Child link stub came) = P link.ear link.mouth
IfHasLink P greeting = Unit {0}

-- Where programs tell, they were asked for the program once, which gave a child or not. Without memory they may not have
-- been asked, or it may have been for nothing.
abbrev pub StartsOnce : {I O S : Type 0} {sinks : SinkGhosts I} {sources : SourceGhosts O} → Option Starts → Option Starts → List ℕ → Greeting I O S sinks sources → Type 0
StartsOnce old new program (Child link stub came) = AddsOne old new (program, true)
StartsOnce old new program StartFault = AddsOne old new (program, false)
StartsOnce old new program NoMemory = Stays old new ⊎ ((b : Bool) × AddsOne old new (program, b))

-- both halves are those of the last start, where they tell it
abbrev pub AreNumbered : Option Starts → EarValue → MouthValue → Type 0
AreNumbered starts ear mouth = IsNumbered starts mouth.number × IsNumbered starts ear.number
