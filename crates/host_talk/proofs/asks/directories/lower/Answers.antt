use Rattle.journal_model.specs.Replies.{lower_at, base_text}
use Rattle.ann_key.specs.KeyRefs.{text_of}
use Rattle.host_talk.proofs.AsksLemmas.KeyDirectories.{base_spelled}
use Rattle.host_talk.proofs.asks.directories.lower.Goals as goal

pub returns : goal.returns
unfolding lower_at
returns c = c.lower.ensures (base_text (text_of c.args.key)) (base_spelled c.args.key)
