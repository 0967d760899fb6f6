use Rattle.std.proofs.Common.{subst}
use Rattle.kit_async.specs.Work.Passes.{why_of}
use Rattle.kit_async.specs.Work.Reading.{IsFirst}
use Rattle.kit_async.proofs.WorkLemmas.Groups.{numbered}
use Rattle.kit_async.proofs.WorkLemmas.Readers.{broken, ran_long, ran_quiet, ran_stopped}
use Rattle.kit_async.proofs.work.reader.read_turn.Goals as goal

pub returns-in-Ok-Line-clause-ran : goal.returns-in-Ok-Line-clause-ran
returns-in-Ok-Line-clause-ran g c =
    let s = g.S.Source in
    ran_quiet c.args.hall.now c.args.pass.now c.hear.new.pass (s.told c.args.source.now) c.args.splitter.now.bytes c.hear.new.splitter.bytes (why_of c.hear.result)
    c.hear.ensures.heard c.requires.open c.hear.ensures.quiet

pub returns-in-Ok-Long-clause-ran : goal.returns-in-Ok-Long-clause-ran
returns-in-Ok-Long-clause-ran g c =
    let s = g.S.Source in
    ran_long c.args.hall.now c.args.pass.now c.close.new.pass (s.told c.args.source.now) c.args.splitter.now.bytes c.close.result c.close.ensures.heard c.requires.open c.close.ensures.ends (subst (IsFirst c.args.splitter.now.bytes) c.in-Ok-Long.field-0-is c.in-Ok-Long.ensures)

pub stop_for-requires : goal.stop_for-requires
stop_for-requires g c = numbered c.args.hall.now 1 c.args.pass.now c.requires.stands

pub returns-in-Err-clause-ran : goal.returns-in-Err-clause-ran
returns-in-Err-clause-ran g c =
    let s = g.S.Source in
    ran_stopped c.args.hall.now c.args.pass.now c.stop_for.new.pass (s.told c.args.source.now) c.args.splitter.now.bytes c.stop_for.result
    (broken c.args.hall.now c.args.pass.now c.stop_for.new.pass c.args.splitter.now.bytes c.requires.stands c.stop_for.ensures.stands c.stop_for.ensures.broken) c.requires.open c.stop_for.ensures.over
