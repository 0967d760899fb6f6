-- What a sink in memory holds.
use Rattle.std.specs.Prelude.{ℕ, ◌-◌, vec_len, vec_capacity}
use Rattle.ann_outside.specs.declared.mem.fails.Fails.{Fails}
use Rattle.ann_outside.specs.declared.mem.sink.MemSink.{MemSink}

-- how many bytes it takes at most in one write
abbrev pub sink_most : MemSink → ℕ
sink_most s = s.most

-- how many bytes it can take before it has to grow
abbrev pub sink_room : MemSink → ℕ
sink_room s = vec_capacity s.bytes - vec_len s.bytes

-- its writes and flushes so far, and which fail
abbrev pub sink_fails : MemSink → Fails
sink_fails s = s.fails
