use Rattle.std.proofs.Common.{◌∙◌, subst, sym}
use Rattle.std.proofs.lemmas.List.Elements.{All-more}
use Rattle.rehearse_command.specs.Rehearsals.{IsQuiet}
use Rattle.rehearse_command.proofs.rehearsing.look_at.Goals as goal

pub looks-preserved : goal.looks-preserved
looks-preserved g c =
    let told = c.halves.ensures.faults in
    let quiet : IsQuiet c.wire-item.result = (sym told.1 ∙ c.requires.1 c.halves.result.1.now, sym told.0 ∙ c.requires.0 c.halves.result.0.now) in
    All-more IsQuiet c.args.wires.now c.looks.wire-index c.wire-item.result c.looks-test.true c.looks.invariant (subst IsQuiet c.wire-item.is quiet)
