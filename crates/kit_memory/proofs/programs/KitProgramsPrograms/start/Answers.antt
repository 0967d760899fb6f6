use Rattle.std.proofs.Common.{ap, ◌∙◌}
use Rattle.kit_serve.specs.Kit.Stages.{is_last}
use Rattle.kit_memory.specs.Children.{ChattyValue}
use Rattle.kit_memory.proofs.Children.{chats_begin}
use Rattle.kit_serve.proofs.KitVoices.{begins_live}
use Rattle.kit_memory.proofs.programs.KitProgramsPrograms.start.Goals as goal

pub new-requires-clause-live : goal.new-requires-clause-live
new-requires-clause-live g c =
    ap (λ (v : ChattyValue g.row.M-Remote.Denot). is_last v.kit.stage) c.new-voice.ensures ∙ begins_live c.new-kit.result c.new-kit.ensures.follows

pub new-requires-clause-begins : goal.new-requires-clause-begins
new-requires-clause-begins g c =
    rw c.new-voice.ensures (chats_begin g.M.Remote.Remote.settings g.M.Remote.Remote.calls c.new-kit.result c.args.self.now.progress c.new-kit.ensures.follows)
