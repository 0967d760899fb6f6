use Rattle.annex_model.specs.Messages.{HostSpells, host_reading}
use Rattle.annex_model.proofs.Readings.{host_of_spelled, spelled_of_host}
use Rattle.wire_msg.specs.Shown.{host_shown}
use Rattle.wire_msg.proofs.Spelled.{read_spells}
use Rattle.wire_msg.proofs.host.read_host.Goals as goal

pub returns-clause-spelled : goal.returns-clause-spelled
returns-clause-spelled c =
    let line = c.args.line.now in
    read_spells host_shown (λ m. HostSpells m line) c.scan.result (host_reading line)
    (λ m. spelled_of_host m line) (λ m. host_of_spelled m line) c.scan.ensures
