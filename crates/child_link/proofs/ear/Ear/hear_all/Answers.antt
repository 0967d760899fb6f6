use Rattle.std.proofs.Common.{ap, ◌∙◌}
use Rattle.child_link.proofs.Roles.{moved_then, same_both, started_on}
use Rattle.journal_model.specs.Shares.{by_ear, is_heard}
use Rattle.journal_model.specs.Journal.{is_started}
use Rattle.child_link.proofs.ear.Ear.hear_all.Goals as goal
use Rattle.child_link.proofs.Hearing.{fed_all, long_grows, line_not_long, short_not_long}
use Rattle.std.proofs.Common.{inl}

pub feed_all-requires : goal.feed_all-requires
feed_all-requires g c = record { started = ap (is_started (g.D.Door.view c.hear.new.door).seen) c.hear.ensures.same.0 ∙ started_on c.args.self.now.child c.hear.ensures.moved c.requires.started }

pub returns-in-Fed-clause-moved : goal.returns-in-Fed-clause-moved
returns-in-Fed-clause-moved g c = moved_then by_ear is_heard c.hear.ensures.door.number c.hear.ensures.door.alone c.hear.ensures.same.0 c.hear.ensures.moved c.feed_all.ensures.moved

pub returns-in-Fed-clause-door : goal.returns-in-Fed-clause-door
returns-in-Fed-clause-door g c = same_both c.hear.ensures.door c.feed_all.ensures.door

pub returns-in-Fed-clause-turned : goal.returns-in-Fed-clause-turned
returns-in-Fed-clause-turned g c = inl (fed_all c.args.self.now c.hear.new.self c.feed_all.new.self (g.D.Door.view c.feed_all.new.door).seen c.in-Fed.ensures.heard.1 c.feed_all.ensures.all)

pub returns-in-Fed-clause-long : goal.returns-in-Fed-clause-long
returns-in-Fed-clause-long g c = λ long. line_not_long c.args.self.now.held c.in-Fed.ensures.heard.1.line long

pub returns-in-Read-clause-long : goal.returns-in-Read-clause-long
returns-in-Read-clause-long g c = λ long. short_not_long c.args.self.now.held c.in-Read.ensures.heard.1.0 long

pub returns-in-Over-clause-long : goal.returns-in-Over-clause-long
returns-in-Over-clause-long g c = long_grows (g.D.Door.view c.args.door.now).opening (g.D.Door.view c.args.door.now).number (g.D.Door.view c.args.door.now).alone (g.D.Door.view c.args.door.now).seen (g.D.Door.view c.hear.new.door).seen c.args.self.now c.hear.new.self c.hear.result c.hear.ensures.heard
