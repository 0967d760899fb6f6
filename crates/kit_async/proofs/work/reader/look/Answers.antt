use Rattle.std.proofs.Common.{inl, refl}
use Rattle.kit_async.proofs.WorkLemmas.Readers.{looked, untold}
use Rattle.kit_async.proofs.work.reader.look.Goals as goal

pub returns-in-Some-Broken-clause-heard : goal.returns-in-Some-Broken-clause-heard
returns-in-Some-Broken-clause-heard g c = λ held. looked c.args.hall.now c.args.pass.now c.enter.new.pass _ held c.requires c.enter.ensures.stands c.in-Some-Broken.ensures.some

pub returns-in-Some : goal.returns-in-Some
returns-in-Some g c = record {
  heard = λ held. looked c.args.hall.now c.args.pass.now c.enter.new.pass _ held c.requires c.enter.ensures.stands c.in-Some.ensures.some;
  quiet = inl refl;
}

pub returns-clause-heard : goal.returns-clause-heard
returns-clause-heard g c = λ held.
    untold c.args.hall.now c.args.pass.now c.enter.new.pass c.stop_for.new.pass held c.requires c.in-None.ensures.none c.stop_for.ensures.stands c.stop_for.ensures.broken
