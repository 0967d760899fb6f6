use Rattle.std.proofs.Common.{◌≡◌, ◌+◌, ◌++◌, length, map, vec_len, vec_capacity}
use Rattle.std.specs.Vec.Iter.{into_iter_items}
use Rattle.mirror_remote.proofs.starts.stopped.add_journals.Given as goal

-- the journals so far are those of the cores so far
abbrev pub invariant-loop-core : goal.invariant-loop-core
invariant-loop-core l = record {
  all : l.fn.cores.items ≡ l.yielded ++ into_iter_items l.core-iterator;
  made : map (λ j. j.entries) l.journals.items ≡ map (λ j. j.entries) l.fn.journals.items ++ map (λ c. c.journal) l.yielded;
  many : vec_len l.journals ≡ vec_len l.fn.journals + length l.yielded;
  room : vec_capacity l.journals ≡ vec_capacity l.fn.journals;
}
