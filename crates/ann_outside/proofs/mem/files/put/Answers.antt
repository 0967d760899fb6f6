use Rattle.std.proofs.Common.{◌∙◌}
use Rattle.ann_outside.proofs.FileLaws.{content-snoc, others-snoc}
use Rattle.ann_outside.proofs.mem.files.put.Goals as goal

pub returns-clause-there : goal.returns-clause-there
returns-clause-there c =
    rw c.push_reserved.ensures.items (content-snoc c.args.name c.args.bytes c.take_away.new.files.items (rw c.view.ensures at c.take_away.ensures.gone))

pub returns-clause-others : goal.returns-clause-others
returns-clause-others c = λ other d.
    let others = rw c.view.ensures at c.take_away.ensures.others in
    rw c.push_reserved.ensures.items (others-snoc c.args.name c.args.bytes other c.take_away.new.files.items d ∙ others other d)
