use Rattle.std.proofs.Common.{◌∙◌, arith}
use Rattle.ann_outside.proofs.FileLaws.{content-remove}
use Rattle.ann_outside.proofs.mem.files.take_away.Goals as goal

pub loop-at-preserved : goal.loop-at-preserved
loop-at-preserved c =
    let found = rw c.as_slice.ensures.value at c.in-Some.ensures in
    record {
      others = λ other d. rw c.remove.ensures.items (content-remove other c.loop-at.files.items c.in-Some.at found.file found.at_place (λ e. d (e ∙ found.name_is)) ∙ c.loop-at.invariant.others other d);
      capacity = c.remove.ensures.capacity ∙ c.loop-at.invariant.capacity;
      len = omega (arith, c.remove.ensures.len, c.loop-at.invariant.len);
    }
