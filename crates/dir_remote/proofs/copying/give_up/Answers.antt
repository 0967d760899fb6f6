use Rattle.std.proofs.Common.{refl}
use Rattle.ann_outside.specs.declared.file_desk.Call.TheVariants.{Remove}
use Rattle.dir_remote.specs.Traces.{IsClearing}
use Rattle.dir_remote.proofs.TraceLaws.{traced_one}
use Rattle.dir_remote.proofs.copying.give_up.Goals as goal

pub returns-then-clears-clause-traced : goal.returns-then-clears-clause-traced
returns-then-clears-clause-traced g c =
    traced_one (IsClearing c.args.clears c.args.name.now) _ _ (Remove c.args.name.now c.remove.result) c.remove.ensures.log (c.if-clears.true, refl)
