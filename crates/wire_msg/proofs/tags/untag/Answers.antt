use Rattle.wire_msg.proofs.Spelled.{tag_read}
use Rattle.wire_msg.proofs.tags.untag.Goals as goal

pub returns-clause-tagged : goal.returns-clause-tagged
returns-clause-tagged c = tag_read (λ t. t.0) (λ t. t.1.now) c.scan.result c.args.line.now c.scan.ensures
