-- What a host that was served said, what it was told, and how it ended.
use Rattle.std.specs.Prelude.{ℕ, ◌≡◌, ◌<◌, ◌&&◌, ◌⊎◌, true, false, List, [], ◌∷◌, ◌++◌, map, length, Option, Some, None, option_map, IsTrue, codes}
use Rattle.std.specs.List.{list_all}
use Rattle.std.specs.Io.KnownBytes.{Appends}
use Rattle.ann_outside.specs.Causes.{StaysUntold}
use Rattle.ann_outside.specs.Told.{SinkTold, SourceTold}
use Rattle.annex_model.specs.Lines.{text, has_newline, Cut}
use Rattle.annex_model.specs.Messages.{HostMessage, host_reading}
use Rattle.kit_serve.specs.declared.kit.call.Call.{Call}
use Rattle.kit_serve.specs.declared.kit.kit.Step.{Step}
use Rattle.kit_serve.specs.Kit.Kits.{Heard, messages, calls_of, is_over, awaits_value, due_of, IsAskedBy}
use Rattle.kit_serve.specs.Kit.Stages.{KitValue, Follows, Stops, is_free}
use Rattle.kit_serve.specs.Kit.Descriptions.{Description, aside_lines}
use Rattle.kit_serve.specs.Kit.Described.{Answered, ByKit, read_as, kit_heard, is_about, described_lines, AreAnswered}
use Rattle.kit_serve.specs.Limits.{longest_line, is_short, next_line}
use Rattle.kit_serve.specs.Voices.{IsWritten, IsEndless}
use Rattle.kit_serve.specs.Ends.{status_of}
use Rattle.kit_serve.specs.declared.end.End.{End}
use Rattle.kit_serve.specs.declared.end.End.TheVariants.{Eof, Bad, ReadFault, WriteFault, Memory}

-- ---- what was heard and said

-- a remote of this kind gives the description at some time
abbrev pub IsGiven : {R : Type 0} → (R → Description) → Description → Type 0
IsGiven describes about = (remote : _) × (describes remote ≡ about)

-- The bytes are cut into these lines and a rest. Each line is short and was answered, by the kit or aside, as it has to be; and the
-- kit had exactly the calls that are due.
pub record IsHeard (gives : Description → Type 0) (settings : List (List ℕ)) (bytes : List ℕ) (lines : List (List ℕ)) (rest : List ℕ) (t : List Answered) : Type 0 where
  pub cut : Cut bytes lines rest
  pub short : IsTrue (list_all is_short lines)
  pub read : map host_reading lines ≡ map read_as t
  pub answered : AreAnswered gives settings t

-- the version, and what is said to these
abbrev pub said_to : List (List ℕ) → List Answered → List ℕ
said_to settings t = text (codes "VERSION 1" ∷ described_lines settings t)

-- ---- the end

-- what the kit heard leaves it awaiting a value
abbrev pub Awaits : List (List ℕ) → List Answered → Type 0
Awaits settings t = awaits_value settings (messages (kit_heard t)) ≡ true

-- a line that is too long, or a whole line that spells no message while a value is awaited
abbrev pub IsBadNext : List (List ℕ) → List Answered → List ℕ → Type 0
IsBadNext settings t rest = (longest_line < length (next_line rest)) ⊎ ((has_newline rest ≡ true) × (host_reading (next_line rest) ≡ None) × Awaits settings t)

abbrev pub IsLive : List (List ℕ) → List Answered → Type 0
IsLive settings t = is_over settings (messages (kit_heard t)) ≡ false

-- the last message ended the kit, and none before it
pub record EndsKit (settings : List (List ℕ)) (t : List Answered) : Type 0 where
  pub front : List Answered
  pub last : Heard
  pub whole : t ≡ front ++ ByKit last ∷ []
  pub live : IsLive settings front
  pub over : is_over settings (messages (kit_heard t)) ≡ true

-- where the host's lines came to an end or reading failed, all whole lines were heard
abbrev pub IsEnd : End → List (List ℕ) → List Answered → List ℕ → Type 0
IsEnd Eof settings t rest = IsLive settings t × (has_newline rest ≡ false)
IsEnd ReadFault settings t rest = IsLive settings t × (has_newline rest ≡ false)
IsEnd Bad settings t rest = EndsKit settings t ⊎ (IsLive settings t × IsBadNext settings t rest)
IsEnd WriteFault settings t rest = IsLive settings t ⊎ EndsKit settings t
IsEnd Memory settings t rest = IsLive settings t

abbrev pub as_list : Option Call → List Call
as_list None = []
as_list (Some call) = call ∷ []

-- a whole line comes next, and something is to be said to it
pub record IsNextLine (settings : List (List ℕ)) (t : List Answered) (rest : List ℕ) : Type 0 where
  pub whole : has_newline rest ≡ true
  pub owed : host_reading (next_line rest) ≡ None → awaits_value settings (messages (kit_heard t)) ≡ false

-- memory ran out for a read, with no whole line left, or for the next line; or there were more turns than a counter counts
abbrev pub IsMemoryCause : List (List ℕ) → List Answered → List (List ℕ) → List ℕ → List ℕ → Type 0
IsMemoryCause settings t lines bytes rest = (has_newline rest ≡ false) ⊎ (IsEndless lines bytes ⊎ IsNextLine settings t rest)

-- where memory ran out, the call that the next message makes due may have been made, and its line wasn't said
pub record IsLastCall (settings : List (List ℕ)) (t : List Answered) (rest : List ℕ) (call : Call) : Type 0 where
  pub m : HostMessage
  pub whole : has_newline rest ≡ true
  pub reads : host_reading (next_line rest) ≡ Some m
  pub asks : IsAskedBy (due_of settings (kit_heard t) m) (Some call)

abbrev pub MayBeLast : List (List ℕ) → List Answered → List ℕ → Option Call → Type 0
MayBeLast settings t rest None = Unit {0}
MayBeLast settings t rest (Some call) = IsLastCall settings t rest call

-- the calls that were made
abbrev pub AreMade : End → List Call → List (List ℕ) → List Answered → List ℕ → Type 0
AreMade Memory made settings t rest = (last : Option Call) × (made ≡ calls_of (kit_heard t) ++ as_list last) × MayBeLast settings t rest last
AreMade end made settings t rest = made ≡ calls_of (kit_heard t)

-- ---- what is told

-- what a source gave, a sink took and a remote was called for, where they tell it
pub record Told : Type 0 where
  pub given : Option (List ℕ)
  pub taken : Option (List ℕ)
  pub calls : Option (List Call)

abbrev pub told_of : SourceTold → SinkTold → Option (List Call) → Told
told_of source sink calls = record { given = source.given; taken = sink.taken; calls = calls }

pub record Gains (old new : Told) (bytes out : List ℕ) (made : List Call) : Type 0 where
  pub gave : Appends old.given new.given bytes
  pub gave_silent : StaysUntold old.given new.given
  pub took : Appends old.taken new.taken out
  pub took_silent : StaysUntold old.taken new.taken
  pub called : new.calls ≡ option_map (λ calls. calls ++ made) old.calls

-- From one place to a later one a host was served to this end.
pub record Ended (gives : Description → Type 0) (settings : List (List ℕ)) (old new : Told) (end : End) : Type 0 where
  pub bytes : List ℕ
  pub lines : List (List ℕ)
  pub rest : List ℕ
  pub t : List Answered
  pub out : List ℕ
  pub made : List Call
  pub gains : Gains old new bytes out made
  pub heard : IsHeard gives settings bytes lines rest t
  pub written : IsWritten end out (said_to settings t)
  pub calls : AreMade end made settings t rest
  pub ends : IsEnd end settings t rest
  pub memory : end ≡ Memory → IsMemoryCause settings t lines bytes rest

-- A host was served a remote of which this is said, and the status is that of the end.
pub record Serves {R : Type 0} (describes : R → Description) (settings : List (List ℕ)) (old new : Told) (status : ℕ) : Type 0 where
  pub end : End
  pub is : status ≡ status_of end
  pub ended : Ended (IsGiven describes) settings old new end

-- ---- a kit as a voice

-- from the first kit to the second these lines were heard, and those said to them, by the kit or aside
pub record Spoke {R : Type 0} (settings_of : R → List (List ℕ)) (calls : R → Option (List Call)) (describes : R → Description) (old new : KitValue R) (lines said : List (List ℕ)) : Type 0 where
  pub t : List Answered
  pub read : map host_reading lines ≡ map read_as t
  pub says : said ≡ described_lines (settings_of old.remote) t
  pub answered : AreAnswered (IsGiven describes) (settings_of old.remote) t
  pub follows : Follows (settings_of old.remote) new (kit_heard t)
  pub called : calls new.remote ≡ option_map (λ told. told ++ calls_of (kit_heard t)) (calls old.remote)
  pub same : settings_of new.remote ≡ settings_of old.remote
  pub live : IsLive (settings_of old.remote) t ⊎ EndsKit (settings_of old.remote) t

-- a line that spells nothing while a value is awaited
pub record IsFoul {R : Type 0} (kit : KitValue R) (line : List ℕ) : Type 0 where
  pub busy : is_free kit.stage ≡ false
  pub reads : host_reading line ≡ None

-- a line that goes aside is answered by what is said of the remote now
abbrev pub SaysAside : {R : Type 0} → (R → Description) → KitValue R → List ℕ → Option Step → Type 0
SaysAside describes kit line None = (is_free kit.stage && is_about (host_reading line)) ≡ false
SaysAside describes kit line (Some step) = (is_free kit.stage && is_about (host_reading line)) ≡ true → step.say ≡ aside_lines (describes kit.remote) (host_reading line)

-- the kit found no memory for the message of the line
pub record KitLacks {R : Type 0} (settings_of : R → List (List ℕ)) (calls : R → Option (List Call)) (old new : KitValue R) (line : List ℕ) : Type 0 where
  pub m : HostMessage
  pub reads : host_reading line ≡ Some m
  pub stops : Stops calls (settings_of old.remote) old new m
  pub same : settings_of new.remote ≡ settings_of old.remote

-- no memory was found for the kit's answer, or for one aside, which changes nothing
abbrev pub Lacks : {R : Type 0} → (R → List (List ℕ)) → (R → Option (List Call)) → KitValue R → KitValue R → List ℕ → Type 0
Lacks settings_of calls old new line =
    KitLacks settings_of calls old new line ⊎ ((is_free old.stage ≡ true) × (is_about (host_reading line) ≡ true) × (new ≡ old))
