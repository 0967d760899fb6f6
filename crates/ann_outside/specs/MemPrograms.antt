-- What programs in memory hold, and the children that they start.
use Rattle.std.specs.Prelude.{◌≡◌, ℕ, ◌-◌, ◌^◌, List, [], ◌∷◌, Result, Ok, Err, true, false}
use Rattle.std.specs.Vec.Iter.{into_iter_items}
use Rattle.ann_outside.specs.Fails.{Begins, IsCall, fails_next}
use Rattle.ann_outside.specs.MemSink.{sink_most, sink_fails}
use Rattle.ann_outside.specs.MemSource.{source_rest, source_fails}
use Rattle.ann_outside.specs.declared.StartError.{StartError}
use Rattle.ann_outside.specs.declared.StartError.TheVariants.{Failed, NoMemory}
use Rattle.ann_outside.specs.declared.mem.fails.Fails.{Fails}
use Rattle.ann_outside.specs.declared.mem.programs.MemChild.{MemChild}
use Rattle.ann_outside.specs.declared.mem.programs.MemPrograms.{MemPrograms}
use Rattle.ann_outside.specs.declared.mem.sink.MemSink.{MemSink}
use Rattle.ann_outside.specs.declared.mem.source.MemSource.{MemSource}

-- the children that aren't started yet
abbrev pub children_of : MemPrograms → List MemChild
children_of p = into_iter_items p.children

-- its starts and finishes so far, and which fail
abbrev pub program_fails : MemPrograms → Fails
program_fails p = p.fails

-- the halves of a child: what it says, which reads and writes fail, and whole pieces taken
pub record AreHalves (inlet : MemSink) (outlet : MemSource) (pieces : List (List ℕ)) (read_fails write_fails : List ℕ) : Type 0 where
  pub says : source_rest outlet ≡ pieces
  pub reads : Begins (source_fails outlet) read_fails
  pub writes : Begins (sink_fails inlet) write_fails
  pub whole : sink_most inlet ≡ 2 ^ 64 - 1

-- what the first of the children says, and which of its reads and writes fail; none says nothing
abbrev pub says_next : List MemChild → List (List ℕ)
says_next [] = []
says_next (child ∷ later) = child.says.items

abbrev pub reads_next : List MemChild → List ℕ
reads_next [] = []
reads_next (child ∷ later) = child.read_fails.items

abbrev pub writes_next : List MemChild → List ℕ
writes_next [] = []
writes_next (child ∷ later) = child.write_fails.items

-- a start is a call that fails where it is listed; without memory no call was made
abbrev pub StartIsCall : {T : Type 0} → Fails → Fails → Result T StartError → Type 0
StartIsCall old new (Ok s) = (fails_next old ≡ false) × IsCall old new false
StartIsCall old new (Err Failed) = (fails_next old ≡ true) × IsCall old new true
StartIsCall old new (Err NoMemory) = new ≡ old
