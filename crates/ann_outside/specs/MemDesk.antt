-- Which calls of a desk in memory fail.
use Rattle.ann_outside.specs.declared.mem.fails.Fails.{Fails}
use Rattle.ann_outside.specs.declared.mem.desk.MemDesk.{MemDesk}

-- its calls so far, and which fail
abbrev pub desk_fails : MemDesk → Fails
desk_fails d = d.state.fails
