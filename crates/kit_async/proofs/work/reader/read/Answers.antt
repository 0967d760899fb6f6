use Rattle.kit_async.proofs.WorkLemmas.Readers.{ran_ended, ran_on, read_on}
use Rattle.kit_async.proofs.work.reader.read.Goals as goal

pub returns-in-Ok-clause-ran : goal.returns-in-Ok-clause-ran
returns-in-Ok-clause-ran g c =
    let s = g.S.Source in
    ran_on c.args.hall.now c.args.pass.now (s.told c.args.source.now) (s.told c.fill.new.source)
    c.args.splitter.now.bytes c.fill.new.splitter.bytes c.fill.result c.requires.stands c.fill.ensures.reads c.fill.ensures.source.leaves (read_on c.fill.result _ c.in-Ok.is)

pub returns-in-Err-clause-ran : goal.returns-in-Err-clause-ran
returns-in-Err-clause-ran g c =
    let s = g.S.Source in
    ran_ended c.args.hall.now c.args.pass.now c.end_read.new.pass (s.told c.args.source.now) (s.told c.fill.new.source)
    c.args.splitter.now.bytes c.fill.new.splitter.bytes c.fill.result c.in-Err.end c.end_read.result c.end_read.ensures.heard c.end_read.ensures.ends c.in-Err.is c.fill.ensures.reads c.fill.ensures.source.leaves
    c.in-Err.ensures.kept c.requires.none c.fill.ensures.source.spent
