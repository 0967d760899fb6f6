use Rattle.annex_model.specs.Messages.{RemoteSpells, remote_reading}
use Rattle.annex_model.proofs.Readings.{read_of_spelled, spelled_of_read}
use Rattle.wire_msg.specs.Shown.{remote_shown}
use Rattle.wire_msg.proofs.Spelled.{read_spells}
use Rattle.wire_msg.proofs.remote.read_remote.Goals as goal

pub returns-clause-spelled : goal.returns-clause-spelled
returns-clause-spelled c =
    let line = c.args.line.now in
    read_spells remote_shown (λ m. RemoteSpells m line) c.scan.result (remote_reading line)
    (λ m. spelled_of_read m line) (λ m. read_of_spelled m line) c.scan.ensures
