use Rattle.std.proofs.Common.{subst, sym}
use Rattle.ann_outside.specs.Told.{SourceTold}
use Rattle.kit_async.specs.Work.Passes.{why_of}
use Rattle.kit_async.specs.Work.Reading.{ReaderRan, ear_of}
use Rattle.kit_async.proofs.WorkLemmas.Readers.{ran_quiet}
use Rattle.kit_async.proofs.work.reader.timed_turn.Goals as goal

pub returns-then-would_wait-clause-ran : goal.returns-then-would_wait-clause-ran
returns-then-would_wait-clause-ran g c =
    let tells = g.S.Source.told c.args.source.now in
    let held = c.args.splitter.now.bytes in
    let why = why_of c.look.result in
    subst (λ (t : SourceTold). ReaderRan c.args.hall.now c.args.pass.now c.look.new.pass (ear_of tells held) (ear_of t held) why) (sym c.would_wait.ensures)
    (ran_quiet c.args.hall.now c.args.pass.now c.look.new.pass tells held held why (c.look.ensures.heard held) c.requires.open c.look.ensures.quiet)
