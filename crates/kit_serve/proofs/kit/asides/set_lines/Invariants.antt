use Rattle.std.proofs.Common.{◌≡◌, map, take, IsTrue}
use Rattle.annex_model.specs.Messages.{remote_line}
use Rattle.kit_serve.specs.Kit.Calls.{are_lines}
use Rattle.kit_serve.specs.Kit.Descriptions.{all_messages, set_message}
use Rattle.kit_serve.proofs.kit.asides.set_lines.Given as goal

-- those of the pairs so far
abbrev pub invariant-loop-pair : goal.invariant-loop-pair
invariant-loop-pair l = record {
  line : l.say.items ≡ map remote_line (all_messages set_message (take l.pair-index l.pairs));
  lines : IsTrue (are_lines l.say.items);
}
