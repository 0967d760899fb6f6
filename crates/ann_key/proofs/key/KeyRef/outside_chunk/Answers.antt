use Rattle.std.proofs.Common.{◌++◌}
use Rattle.ann_key.specs.Keys.{without_chunk}
use Rattle.ann_key.specs.KeyRefs.{parts_of}
use Rattle.ann_key.proofs.Spelling.{spelled_of_read}
use Rattle.ann_key.proofs.key.KeyRef.outside_chunk.Goals as goal

pub returns : goal.returns
returns c = let key = c.args.self.now in spelled_of_read (key.head.now ++ key.tail.now) (without_chunk (parts_of key)) key.outside
