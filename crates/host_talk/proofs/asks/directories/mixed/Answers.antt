use Rattle.journal_model.specs.Replies.{mixed_at, base_text}
use Rattle.ann_key.specs.KeyRefs.{text_of}
use Rattle.host_talk.proofs.AsksLemmas.KeyDirectories.{base_spelled}
use Rattle.host_talk.proofs.asks.directories.mixed.Goals as goal

pub returns : goal.returns
unfolding mixed_at
returns c = c.mixed.ensures (base_text (text_of c.args.key)) (base_spelled c.args.key)
