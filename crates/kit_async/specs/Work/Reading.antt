-- What a reader of a kit promises: of what it read and of its own pass, whatever the others do.
use Rattle.std.specs.Prelude.{ℕ, ◌≡◌, ◌<◌, ◌⊎◌, Bool, true, false, List, [], ◌++◌, length, Option, Some, None, IfSome, IsTrue}
use Rattle.std.specs.List.{list_all}
use Rattle.std.specs.Io.KnownBytes.{Appends}
use Rattle.ann_outside.specs.Causes.{StaysUntold}
use Rattle.ann_outside.specs.Told.{SourceTold}
use Rattle.annex_model.specs.Lines.{has_newline, Cut}
use Rattle.threads.specs.Passes.{seen_of}
use Rattle.wire_line.specs.HeldBytes.{first_line, has_line}
use Rattle.kit_serve.specs.Limits.{longest_line, is_short, next_line}
use Rattle.kit_serve.specs.declared.end.End.{End}
use Rattle.kit_serve.specs.declared.end.End.TheVariants.{Eof as EndEof, ReadFault as EndReadFault}
use Rattle.kit_serve.specs.Turns.{Half, Leaves, source_half}
use Rattle.kit_async_model.specs.declared.entry.Entry.{Entry}
use Rattle.kit_async_model.specs.declared.event.Reply.{Reply}
use Rattle.kit_async_model.specs.declared.event.Reply.TheVariants.{Done, Last}
use Rattle.kit_async_model.specs.Lines.{heard_lines}
use Rattle.kit_async_core.specs.Halls.{KitHall, KitPass}
use Rattle.kit_async.specs.declared.work.why.Why.{Why}
use Rattle.kit_async.specs.declared.work.why.Why.TheVariants.{Eof, ReadFault, Long}
use Rattle.kit_async.specs.declared.work.why.Why.TheVariants.{Memory}
use Rattle.kit_async.specs.declared.work.reader.First.{First}
use Rattle.kit_async.specs.declared.work.reader.First.TheVariants.{Line, Long as LongFirst, More}
use Rattle.kit_async.specs.Work.Passes.{Stands}

-- what is seen of a source, and what is held of its bytes
pub record EarValue : Type 0 where
  pub given : Option (List ℕ)
  pub left : Option (List ℕ)
  pub half : Half
  pub held : List ℕ

abbrev pub ear_of : SourceTold → List ℕ → EarValue
ear_of source held = record { given = source.given; left = source.left; half = source_half source; held = held }

-- ---- one line

-- a line that isn't too long, more bytes than such a line has, or no whole line
abbrev pub IsFirst : List ℕ → First → Type 0
IsFirst held (Line line) = IsTrue (has_line longest_line held) × (line ≡ first_line held)
IsFirst held LongFirst = longest_line < length (next_line held)
IsFirst held More = has_newline held ≡ false

-- the core took the line
abbrev pub is_taken : Reply → Bool
is_taken Done = true
is_taken Last = true
is_taken reply = false

-- These lines were heard, which stood first in what was held.
pub record Hears (h : KitHall) (p q : KitPass) (held held' : List ℕ) : Type 0 where
  pub stands : Stands h 1 q
  pub lines : List (List ℕ)
  pub heard : heard_lines (seen_of q) ≡ heard_lines (seen_of p) ++ lines
  pub cut : (bytes : List ℕ) (before : List (List ℕ)) → Cut bytes before held → Cut bytes (before ++ lines) held'
  pub short : IsTrue (list_all is_short lines)

-- it goes on, or ends because no memory was found
abbrev pub IsQuiet : Option Why → Type 0
IsQuiet why = (why ≡ None) ⊎ (why ≡ Some Memory)

-- ---- many

-- what was given since the begin is the lines that were heard, none of them too long, and what is held
pub record Reads (begun : Option (List ℕ)) (journal : List Entry) (ear : EarValue) : Type 0 where
  pub bytes : List ℕ
  pub gave : Appends begun ear.given bytes
  pub silent : StaysUntold begun ear.given
  pub cut : Cut bytes (heard_lines journal) ear.held
  pub short : IsTrue (list_all is_short (heard_lines journal))

-- Why no more is read: at the end of the host's lines nothing is left and no whole line is held, after a failed read no whole line
-- is held, and a line that is too long stands first.
abbrev pub ReadingEnds : Option Why → EarValue → Type 0
ReadingEnds (Some Eof) ear = (has_newline ear.held ≡ false) × IfSome ear.left (λ bytes. bytes ≡ [])
ReadingEnds (Some ReadFault) ear = has_newline ear.held ≡ false
ReadingEnds (Some Long) ear = longest_line < length (next_line ear.held)
ReadingEnds why ear = Unit {0}

-- why no more is read, by what a read came to
abbrev pub why_ended : End → Why
why_ended EndEof = Eof
why_ended EndReadFault = ReadFault
why_ended end = Memory

-- it read and told the core what it read, and ended for this reason, if it ended for one
pub record ReaderRan (h : KitHall) (p q : KitPass) (e f : EarValue) (why : Option Why) : Type 0 where
  pub stands : Stands h 1 q
  pub reads : (begun : Option (List ℕ)) → Reads begun (seen_of p) e → Reads begun (seen_of q) f
  pub source : Leaves e.half f.half (why ≡ Some ReadFault)
  pub ends : ReadingEnds why f
