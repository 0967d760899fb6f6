use Rattle.annex_model.specs.Messages.{remote_reading}
use Rattle.annex_model.specs.Talks.{said}
use Rattle.host_talk.specs.Request.Requests.{message_of}
use Rattle.journal_model.specs.Parts.{part}
use Rattle.host_core.proofs.Replaying.{no_last}
use Rattle.host_core.proofs.talks.replayed.Goals as goal

pub unreachable-requires : goal.unreachable-requires
unreachable-requires c =
    no_last (message_of c.args.request) (remote_reading c.in-Some.text.now) (said (part c.args.journal.now.entries c.args.child c.args.job)) c.in-Some.ensures c.in-None.ensures.reading c.requires
