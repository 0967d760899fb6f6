use Rattle.std.proofs.Common.{ap, ◌∙◌}
use Rattle.child_link.proofs.Roles.{moved_then, same_both, started_on}
use Rattle.journal_model.specs.Shares.{is_of_child, by_link}
use Rattle.journal_model.specs.Journal.{is_started}
use Rattle.child_link.proofs.Linked.{link_on}
use Rattle.child_link.proofs.Versions.{version_where_none}
use Rattle.journal_model.specs.Journal.{why_of}
use Rattle.child_link.proofs.lone.Lone.hear_version.Goals as goal

pub why_ended-requires : goal.why_ended-requires
why_ended-requires g c = record { started = ap (is_started (g.D.Door.view c.hear_line.new.door).seen) c.child-child.ensures ∙ started_on c.args.self.now.ear.child c.hear_line.ensures.moved c.requires.started }

pub returns-clause-why : goal.returns-clause-why
returns-clause-why g c = c.why_ended.ensures.why ∙ ap (why_of (g.D.Door.view c.why_ended.new.door).seen) c.child-child.ensures

pub returns-clause-moved : goal.returns-clause-moved
returns-clause-moved g c = moved_then by_link is_of_child c.hear_line.ensures.door.number c.hear_line.ensures.door.alone c.hear_line.ensures.same.0.0 c.hear_line.ensures.moved
    (link_on c.hear_line.new.self.ear c.hear_line.new.self.mouth c.hear_line.new.self.one_child c.why_ended.ensures.passed)

pub returns-clause-door : goal.returns-clause-door
returns-clause-door g c = same_both c.hear_line.ensures.door c.why_ended.ensures.door

pub returns-clause-version : goal.returns-clause-version
returns-clause-version g c =
    version_where_none (g.D.Door.view c.why_ended.new.door).opening (g.D.Door.view c.hear_line.new.door).seen (g.D.Door.view c.why_ended.new.door).seen c.why_ended.ensures.passed.others c.args.self.now.ear.child c.why_ended.result
    ((same_both c.hear_line.ensures.door c.why_ended.ensures.door).legal c.requires.legal) c.why_ended.ensures.passed.is c.hear_line.ensures.begun
    (c.why_ended.ensures.why ∙ ap (why_of (g.D.Door.view c.why_ended.new.door).seen) c.child-child.ensures)
