-- What a journal keeps of each child, so that a question about one needn't go through the entries.
use Rattle.std.specs.Prelude.{ℕ, ◌≡◌, ◌+◌, ◌||◌, Bool, true, false, List, [], length, Option, Some, None, filter, is_some, slice_index_or, IsTrue}
use Rattle.journal_model.specs.declared.entry.What.{What}
use Rattle.journal_model.specs.declared.entry.What.TheVariants.{Start, Lead, Ask, Put, Sent, Mute, Got, End, Verdict as Settled}
use Rattle.journal_model.specs.declared.entry.Entry.{Entry}
use Rattle.journal_model.specs.Journal.{starts, ends, mutes, got_from, offers, sends, asks, end_why, verdict_in, any, each_of, asked_jobs, is_started, is_ended, is_mute, has_spoken, why_of, verdict_of}
use Rattle.journal_model.specs.Legality.{count, is_start, prepares}
use Rattle.journal_scan.specs.Looks.{written_to, is_no_start}
use Rattle.journal_look.specs.declared.life.Life.{Life}
use Rattle.journal_look.specs.declared.life.Lives.{Lives}

-- what the entries say of the child
abbrev pub life_of : List Entry → ℕ → Life
life_of past c = record {
  started = is_started past c;
  offered = any (offers c) past;
  spoken = has_spoken past c;
  mute = is_mute past c;
  ended = is_ended past c;
  why = why_of past c;
  first = verdict_of past c 0;
  second = verdict_of past c 1;
  prepares = any (prepares c) past;
  asked = length (asked_jobs past c);
  written = length (each_of (written_to c) past);
  sent = length (filter (λ e. sends c e.what) past);
}

-- the first of two that is there
abbrev pub or_else : {X : Type 0} → Option X → Option X → Option X
or_else None later = later
or_else (Some x) later = Some x

abbrev pub counted : Bool → ℕ → ℕ
counted true n = n + 1
counted false n = n

abbrev pub kept : {X : Type 0} → Option X → Option X → Option X
kept None o = o
kept (Some new) o = or_else o (Some new)

-- the same after one more entry
abbrev pub lived : ℕ → What → Life → Life
lived c w life = record {
  started = starts c w || life.started;
  offered = offers c w || life.offered;
  spoken = got_from c w || life.spoken;
  mute = mutes c w || life.mute;
  ended = ends c w || life.ended;
  why = kept (end_why c w) life.why;
  first = kept (verdict_in c 0 w) life.first;
  second = kept (verdict_in c 1 w) life.second;
  prepares = prepares c w || life.prepares;
  asked = counted (is_some (asks c w)) life.asked;
  written = counted (is_some (written_to c w)) life.written;
  sent = counted (sends c w) life.sent;
}

-- that of a child of which nothing is said
abbrev pub unlived : Life
unlived = life_of [] 0

-- the child of which the entry says something
abbrev pub about : What → Option ℕ
about (Start child slot offer) = Some child
about (Lead child job line) = Some child
about (Ask child job task line) = Some child
about (Put child job line) = Some child
about (Sent child) = Some child
about (Mute child) = Some child
about (Got child line) = Some child
about (End child why) = Some child
about (Settled child job verdict) = Some child
about w = None

-- The table is right: the life of child k + 1 stands at k, and of each child after the last, as of child 0, nothing is said.
pub record AreLives (past : List Entry) (lives : List Life) : Type 0 where
  pub none : life_of past 0 ≡ unlived
  pub each : (k : ℕ) → life_of past (k + 1) ≡ slice_index_or lives k unlived

-- so are the counts beside it
pub record AreLived (past : List Entry) (lives : Lives) : Type 0 where
  pub each : AreLives past lives.each.items
  pub starts : lives.starts ≡ count is_start past
  pub no_start : lives.no_start ≡ any is_no_start past

-- where they are known
pub record AreKnown (past : List Entry) (lives : Lives) : Type 0 where
  pub lived : IsTrue lives.known → AreLived past lives
