-- What a source in memory holds.
use Rattle.std.specs.Prelude.{ℕ, List}
use Rattle.ann_outside.specs.Pieces.{given_of, joined, rest_from}
use Rattle.ann_outside.specs.declared.mem.fails.Fails.{Fails}
use Rattle.ann_outside.specs.declared.mem.source.MemSource.{MemSource}

-- the pieces that it has still to give
abbrev pub source_rest : MemSource → List (List ℕ)
source_rest s = rest_from s.pieces.items s.piece s.at

-- the bytes of them, and those that it gave so far
abbrev pub source_left : MemSource → List ℕ
source_left s = joined (source_rest s)

abbrev pub source_given : MemSource → List ℕ
source_given s = given_of s.pieces.items s.piece s.at

-- its reads so far, and which fail
abbrev pub source_fails : MemSource → Fails
source_fails s = s.fails
