use Rattle.std.proofs.Common.{◌≡◌, ◌++◌, [], ap, ◌∙◌}
use Rattle.ann_key.specs.Keys.{without_chunk}
use Rattle.ann_key.specs.KeyRefs.{parts_of}
use Rattle.ann_key.proofs.Unique.{spelling_unique}
use Rattle.md5.specs.Md5.{md5}
use Rattle.ann_digest.proofs.directories.base_digest.Goals as goal

pub returns : goal.returns
returns c = λ base spelled.
    let head = c.outside_chunk.result.0.now in
    let tail = c.outside_chunk.result.1.now in
    let same : head ++ tail ≡ base = spelling_unique (without_chunk (parts_of c.args.key)) (head ++ tail) base c.outside_chunk.ensures spelled in
    c.finalize.ensures (head ++ tail) (c.update-2.ensures head (c.update.ensures [] c.new-hash.ensures)) ∙ ap md5 same
