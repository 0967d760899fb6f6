use Rattle.std.proofs.Common.{◌∙◌, ap, arith}
use Rattle.annex_model.specs.Tags.{untag}
use Rattle.annex_model.proofs.TagReadings.{untag_of_tagged}
use Rattle.wire_msg.proofs.tags.tag.Goals as goal

pub returns-clause-untagged : goal.returns-clause-untagged
returns-clause-untagged c = ap untag c.in_ok-line.ensures ∙ untag_of_tagged c.args.job c.args.message.now (omega arith)
