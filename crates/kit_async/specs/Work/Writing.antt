-- What a writer of a kit promises: of what it wrote and of its own pass, whatever the others do.
use Rattle.std.specs.Prelude.{ℕ, ◌≡◌, List, [], ◌∷◌, ◌++◌, take, slice_get, Option, Some, None}
use Rattle.std.specs.Io.KnownBytes.{Appends}
use Rattle.ann_outside.specs.Causes.{StaysUntold}
use Rattle.ann_outside.specs.Told.{SinkTold}
use Rattle.annex_model.specs.Lines.{text}
use Rattle.threads.specs.Passes.{seen_of}
use Rattle.kit_serve.specs.Turns.{Half, Leaves, sink_half}
use Rattle.kit_async_model.specs.declared.entry.Entry.{Entry}
use Rattle.kit_async_model.specs.Lines.{count_wrotes, said_lines}
use Rattle.kit_async_core.specs.Halls.{KitHall, KitPass}
use Rattle.kit_async.specs.declared.work.why.Why.{Why}
use Rattle.kit_async.specs.declared.work.why.Why.TheVariants.{WriteFault}
use Rattle.kit_async.specs.Work.Passes.{Stands}

-- what is seen of a sink
pub record MouthValue : Type 0 where
  pub taken : Option (List ℕ)
  pub half : Half

abbrev pub mouth_of : SinkTold → MouthValue
mouth_of sink = record { taken = sink.taken; half = sink_half sink }

-- the lines that were said and are written
abbrev pub written_lines : List Entry → List (List ℕ)
written_lines journal = take (count_wrotes journal) (said_lines journal)

-- the line that is to be written next
abbrev pub IsNextLine : List Entry → List ℕ → Type 0
IsNextLine journal line = slice_get (said_lines journal) (count_wrotes journal) ≡ Some line

-- all that was said is written
abbrev pub AllWritten : List Entry → Type 0
AllWritten journal = written_lines journal ≡ said_lines journal

-- these bytes are the text of the written lines, and the first bytes of the next
pub record IsFaltered (journal : List Entry) (bytes : List ℕ) : Type 0 where
  pub line : List ℕ
  pub n : ℕ
  pub next : IsNextLine journal line
  pub are : bytes ≡ text (written_lines journal) ++ take n (line ++ 10 ∷ [])

-- these bytes are the text of the written lines; where writing failed, the first bytes of the next line come after it
abbrev pub IsWritten : Option Why → List Entry → List ℕ → Type 0
IsWritten (Some WriteFault) journal bytes = IsFaltered journal bytes
IsWritten why journal bytes = bytes ≡ text (written_lines journal)

-- what was taken since the begin is so
pub record Writes (begun : Option (List ℕ)) (why : Option Why) (journal : List Entry) (mouth : MouthValue) : Type 0 where
  pub bytes : List ℕ
  pub took : Appends begun mouth.taken bytes
  pub silent : StaysUntold begun mouth.taken
  pub written : IsWritten why journal bytes

-- it wrote what the core gave it, and told the core so, and ended for this reason, if it ended for one
pub record WriterRan (h : KitHall) (p q : KitPass) (m w : MouthValue) (why : Option Why) : Type 0 where
  pub stands : Stands h 2 q
  pub writes : (begun : Option (List ℕ)) → Writes begun None (seen_of p) m → Writes begun why (seen_of q) w
  pub sink : Leaves m.half w.half (why ≡ Some WriteFault)
