use Rattle.journal_model.specs.Parts.{item_at}
use Rattle.host_core.proofs.Replaying.{said_item}
use Rattle.info_and_init.proofs.info.printing.push_place.Goals as goal

pub returns-in-Some : goal.returns-in-Some
returns-in-Some c =
    rw (said_item (item_at c.args.journal.now.entries c.args.child c.args.job c.args.at) c.in-Some.line.now c.in-Some.ensures) c.hear.ensures
