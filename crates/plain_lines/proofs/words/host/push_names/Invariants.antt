use Rattle.std.proofs.Common.{◌≡◌, ◌++◌, map, take}
use Rattle.std.specs.List.{join_with_byte}
use Rattle.plain_lines.proofs.words.host.push_names.Given as goal

-- the names so far were appended
abbrev pub invariant-loop-i : goal.invariant-loop-i
invariant-loop-i l = l.text.items ≡ l.initial.text.items ++ join_with_byte 32 (take l.i (map (λ name. name.now) l.fn.names))
