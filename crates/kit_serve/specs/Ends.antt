-- The exit status of each end.
use Rattle.std.specs.Prelude.{ℕ}
use Rattle.kit_serve.specs.declared.end.End.{End}
use Rattle.kit_serve.specs.declared.end.End.TheVariants.{Eof, Bad, ReadFault, WriteFault, Memory}

abbrev pub status_of : End → ℕ
status_of Eof = 0
status_of Bad = 1
status_of ReadFault = 4
status_of WriteFault = 5
status_of Memory = 7
