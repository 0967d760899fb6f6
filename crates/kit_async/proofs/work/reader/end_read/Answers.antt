use Rattle.std.proofs.Common.{◌∙◌, ap, Some}
use Rattle.kit_async.specs.declared.work.why.Why.{Why}
use Rattle.kit_async.specs.declared.work.turn.Turn.TheVariants.{Over}
use Rattle.kit_async.proofs.WorkLemmas.Groups.{numbered}
use Rattle.kit_async.proofs.WorkLemmas.Readers.{broken}
use Rattle.kit_async.proofs.work.reader.end_read.Goals as goal

pub stop_for-requires : goal.stop_for-requires
stop_for-requires g c = numbered c.args.hall.now 1 c.args.pass.now c.requires

pub returns-in-Memory-clause-heard : goal.returns-in-Memory-clause-heard
returns-in-Memory-clause-heard g c = λ held. broken c.args.hall.now c.args.pass.now c.stop_for.new.pass held c.requires c.stop_for.ensures.stands c.stop_for.ensures.broken
