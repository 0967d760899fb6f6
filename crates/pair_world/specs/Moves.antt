-- The table of moves: when one can be made, and what it does.
use Rattle.std.specs.Prelude.{ℕ, ◌≡◌, ◌==◌, ◌&&◌, ◌||◌, not, nat_lt, nat_le, Bool, true, false, if◌then◌else◌, List, [], ◌∷◌, ◌++◌, length, Option, Some, None}
use Rattle.annex_model.specs.Lines.{has_newline}
use Rattle.annex_model.specs.Messages.{HostMessage}
use Rattle.wire_line.specs.HeldBytes.{first_line, after_line}
use Rattle.journal_model.specs.declared.verdict.Why.{Why}
use Rattle.journal_model.specs.declared.verdict.Why.TheVariants.{Eof, LongLine, Closed}
use Rattle.journal_model.specs.Journal.{is_started, is_ended, unsent}
use Rattle.journal_model.specs.Legality.{is_empty}
use Rattle.journal_model.specs.Limits.{longest_line as longest_of_child}
use Rattle.kit_serve.specs.declared.kit.call.Asked.{Asked}
use Rattle.host_core.specs.declared.event.Event.{Event}
use Rattle.host_core.specs.declared.event.Event.TheVariants.{Got as GotEvent, Stop as StopEvent, Sent as SentEvent, Mute as MuteEvent}
use Rattle.host_core.specs.declared.event.Reply.{Reply}
use Rattle.host_core.specs.declared.event.Reply.TheVariants.{Child, Gone, Done, Odd}
use Rattle.host_core.specs.Steps.{step_of, told, shut_by}
use Rattle.pair_world.specs.declared.step.Move.{Move}
use Rattle.pair_world.specs.declared.step.Move.TheVariants.{Event as EventMove, Write, ToKit, Work, ToHost, Hear, End}
use Rattle.pair_world.specs.declared.step.Moved.{Moved}
use Rattle.pair_world.specs.declared.step.Moved.TheVariants.{Did, Not}
use Rattle.pair_kit.specs.Pairs.{PairValue, new_pair, pair_of, with_pair, moved_to_kit, moved_to_host, written_to}
use Rattle.pair_kit.specs.Works.{is_waiting, next_message, keys_after, files_after, bytes_put, answered, Takes}
use Rattle.pair_kit.specs.Worlds.{WorldValue}

-- Where the move can't be made nothing changes; else the reply and the new world are so.
abbrev pub IsMade : Bool → WorldValue → (Reply → WorldValue → Type 0) → Moved → WorldValue → Type 0
IsMade true old Does Not new = new ≡ old
IsMade true old Does (Did reply) new = ⊥
IsMade false old Does Not new = ⊥
IsMade false old Does (Did reply) new = Does reply new

-- ---- the core

abbrev pub reply_to : WorldValue → ℕ → Event → Reply
reply_to w by event = told w.journal w.shut event (step_of w.opening w.journal by event).reply

-- the world after an event of its core
abbrev pub stepped : WorldValue → ℕ → Event → WorldValue
stepped w by event = record w { journal = w.journal ++ (step_of w.opening w.journal by event).group; shut = shut_by by event w.shut }

abbrev pub is_closed : Why → Bool
is_closed Closed = true
is_closed why = false

-- events that other moves bring, or none
abbrev pub is_barred : Event → Bool
is_barred (GotEvent child line) = true
is_barred (SentEvent child) = true
is_barred (MuteEvent child) = true
is_barred (StopEvent child why) = not (is_closed why)
is_barred event = false

abbrev pub is_odd : Reply → Bool
is_odd Odd = true
is_odd reply = false

-- a child that was started has a kit
abbrev pub begun_by : Reply → List PairValue
begun_by (Child number) = new_pair ∷ []
begun_by reply = []

-- ---- bytes

-- so many bytes can't be moved
abbrev pub is_amiss : ℕ → List ℕ → Bool
is_amiss n pipe = n == 0 || nat_lt (length pipe) n

abbrev pub line_of : List (Option ℕ × List ℕ) → List ℕ
line_of [] = []
line_of (w ∷ ws) = w.1

-- ---- the host's side

-- there is nothing to hear: no whole line, and no more bytes than a line of a child may have
abbrev pub is_silent : List ℕ → Bool
is_silent side = not (has_newline side) && nat_le (length side) longest_of_child

-- the first line is longer than it may be
abbrev pub is_long : List ℕ → Bool
is_long side = nat_lt longest_of_child (length (first_line side))

abbrev pub is_gone : Reply → Bool
is_gone (Gone why) = true
is_gone reply = false

-- what is heard: the end of a child whose line is too long, or its first line
abbrev pub heard_event : ℕ → List ℕ → Event
heard_event c side = if is_long side then StopEvent c LongLine else GotEvent c (first_line side)

-- the line that was heard is gone from the side, unless the child was
abbrev pub left_at : Reply → List ℕ → List ℕ
left_at reply side = if is_long side || is_gone reply then side else after_line side

-- ---- what each move does

pub record DoesEvent (old : WorldValue) (by : ℕ) (event : Event) (reply : Reply) (new : WorldValue) : Type 0 where
  pub reply_is : reply ≡ reply_to old by event
  pub goes : new ≡ record (stepped old by event) { pairs = old.pairs ++ begun_by reply }

-- the next line goes into the pipe, and is covered
pub record DoesWrite (old : WorldValue) (c : ℕ) (reply : Reply) (new : WorldValue) : Type 0 where
  pub reply_is : reply ≡ reply_to old 0 (SentEvent c)
  pub goes : new ≡ record (stepped old 0 (SentEvent c)) { pairs = with_pair old.pairs c (written_to (line_of (unsent old.journal c)) (pair_of old.pairs c)) }

pub record DoesToKit (old : WorldValue) (c n : ℕ) (reply : Reply) (new : WorldValue) : Type 0 where
  pub reply_is : reply ≡ Done
  pub goes : new ≡ record old { pairs = with_pair old.pairs c (moved_to_kit n (pair_of old.pairs c)) }

pub record DoesToHost (old : WorldValue) (c n : ℕ) (reply : Reply) (new : WorldValue) : Type 0 where
  pub reply_is : reply ≡ Done
  pub goes : new ≡ record old { pairs = with_pair old.pairs c (moved_to_host n (pair_of old.pairs c)) }

-- the kit takes a line: its remote does what it is asked for, and it may have answered
pub record DoesTake (old : WorldValue) (c : ℕ) (m : HostMessage) (new : WorldValue) : Type 0 where
  pub pair : PairValue
  pub asked : Option Asked
  pub line : Option (List ℕ)
  pub takes : Takes old.keys old.files (pair_of old.pairs c) pair m asked line
  pub goes : new ≡ record old {
    keys = keys_after old.keys old.files asked;
    files = files_after old.keys old.files asked;
    pairs = with_pair old.pairs c pair;
    answers = old.answers ++ answered c pair.request line (bytes_put old.keys old.files asked);
  }

-- a kit that is over takes nothing
abbrev pub DoesWork : WorldValue → ℕ → Option HostMessage → Reply → WorldValue → Type 0
DoesWork old c None reply new = (reply ≡ Done) × (new ≡ old)
DoesWork old c (Some m) reply new = (reply ≡ Done) × DoesTake old c m new

pub record DoesHear (old : WorldValue) (c : ℕ) (reply : Reply) (new : WorldValue) : Type 0 where
  pub reply_is : reply ≡ reply_to old 0 (heard_event c (pair_of old.pairs c).at_host)
  pub goes : new ≡ record (stepped old 0 (heard_event c (pair_of old.pairs c).at_host)) {
    pairs = with_pair old.pairs c (record (pair_of old.pairs c) { at_host = left_at reply (pair_of old.pairs c).at_host });
  }

pub record DoesEnd (old : WorldValue) (c : ℕ) (reply : Reply) (new : WorldValue) : Type 0 where
  pub reply_is : reply ≡ reply_to old 0 (StopEvent c Eof)
  pub goes : new ≡ stepped old 0 (StopEvent c Eof)

-- ---- the table

-- something of the child isn't used up, or it isn't there
abbrev pub is_unended : WorldValue → ℕ → Bool
is_unended w c =
    not (is_started w.journal c) || is_ended w.journal c || not (is_empty (pair_of w.pairs c).to_host) || has_newline (pair_of w.pairs c).at_host

abbrev pub Moves : WorldValue → Move → Moved → WorldValue → Type 0
Moves old (EventMove by event) = IsMade (is_barred event || is_odd (reply_to old by event)) old (DoesEvent old by event)
Moves old (Write c) = IsMade (is_empty (unsent old.journal c) || is_ended old.journal c) old (DoesWrite old c)
Moves old (ToKit c n) = IsMade (is_amiss n (pair_of old.pairs c).to_kit) old (DoesToKit old c n)
Moves old (Work c) = IsMade (is_waiting (pair_of old.pairs c).at_kit) old (DoesWork old c (next_message (pair_of old.pairs c).at_kit))
Moves old (ToHost c n) = IsMade (is_amiss n (pair_of old.pairs c).to_host) old (DoesToHost old c n)
Moves old (Hear c) = IsMade (is_ended old.journal c || is_silent (pair_of old.pairs c).at_host) old (DoesHear old c)
Moves old (End c) = IsMade (is_unended old c) old (DoesEnd old c)
