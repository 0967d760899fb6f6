use Rattle.std.proofs.Common.{◌≡◌, ◌++◌}
use Rattle.std.specs.Vec.Iter.{into_iter_items}
use Rattle.pair_kit.specs.Shelves.{items_of}
use Rattle.pair_kit.proofs.shelf.Shelf.of_files.Given as goal

-- those so far were put
abbrev pub invariant-loop-file : goal.invariant-loop-file
invariant-loop-file l = (l.fn.files.items ≡ l.yielded ++ into_iter_items l.file-iterator) × (l.shelf ≡ items_of l.yielded)
