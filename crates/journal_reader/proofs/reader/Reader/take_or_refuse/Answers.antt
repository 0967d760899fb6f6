use Rattle.std.proofs.Common.{◌+◌, ap, ◌∙◌}
use Rattle.journal_reader.specs.Readings.{Reading}
use Rattle.journal_reader.specs.declared.place.Place.TheVariants.{Refused}
use Rattle.journal_reader.proofs.Going.{untaken, refused_as}
use Rattle.journal_reader.proofs.reader.Reader.take_or_refuse.Goals as goal

pub returns-else-branch-clause-fault : goal.returns-else-branch-clause-fault
returns-else-branch-clause-fault c =
    let old = c.args.self.now in
    let no = untaken old c.take.new.self c.args.line.now c.in_ok-take.field-0 c.in_ok-take.ensures c.if-branch.false in
    refused_as old.place old c.args.line.now c.in-Some.number _ c.requires no.0 (c.in-Some.ensures.1 ∙ ap (λ (r : Reading). r.taken + 1) c.self.view_is)
    (ap (λ (r : Reading). record r { place = Refused c.in-Some.number }) (c.self-2.view_is ∙ no.1))
