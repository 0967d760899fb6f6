use Rattle.std.proofs.Common.{◌≡◌, ◌+◌, ◌++◌, length, map}
use Rattle.std.specs.Vec.Iter.{into_iter_items}
use Rattle.kit_async_model.specs.declared.entry.Entry.TheVariants.{Say}
use Rattle.kit_async_core.proofs.lines.say_all.Given as goal

-- those so far, and those that are left
abbrev pub invariant-loop-line : goal.invariant-loop-line
invariant-loop-line l = record {
  kept : l.journal.kept ≡ l.initial.journal.kept;
  all : l.fn.said.items ≡ l.yielded ++ into_iter_items l.line-iterator;
  entries : l.journal.entries ≡ l.initial.journal.entries ++ map (λ line. Say l.number line) l.yielded;
  room : l.journal.room + length l.yielded ≡ l.initial.journal.room;
}
