use Rattle.std.proofs.Common.{◌≡◌, map, take}
use Rattle.task_text.specs.ChunkLog.Current.{layout_of}
use Rattle.task_text.proofs.chunk_log.current.pairs.Given as goal

abbrev pub invariant-loop-one : goal.invariant-loop-one
invariant-loop-one l = l.items.items ≡ map layout_of (take l.one-index l.ranks)
