use Rattle.std.proofs.Common.{refl, sym, ◌∙◌}
use Rattle.child_life.specs.declared.start.starting.RequestOutcome.TheVariants.{Done, Refused, Gone}
use Rattle.child_link.proofs.Roles.{same_both}
use Rattle.child_link.proofs.Solo.{keeps_both, keeps_first, keeps_still}
use Rattle.child_life.proofs.StartLemmas.Requests.{greets_goes}
use Rattle.child_life.proofs.StartLemmas.Preparing.{main_on, started_after, unasked_idle, may_ask_first, ended_first, ended_told, unsent_told, greets_started, prepares_as, greets_heard}
use Rattle.child_life.proofs.start.starting.hear_and_ask.Goals as goal

pub returns-in-Some-clause-on : goal.returns-in-Some-clause-on
returns-in-Some-clause-on g c =
    greets_goes (g.D.Door.view c.args.door.now).seen (g.D.Door.view c.hear_version_alone.new.door).seen c.args.link.now.ear.child c.requires.main.first c.hear_version_alone.ensures.goes
    (unasked_idle (g.D.Door.view c.args.door.now).seen c.args.link.now.ear.child c.requires.begun.jobs)

pub returns-in-Some-clause-comes : goal.returns-in-Some-clause-comes
returns-in-Some-clause-comes g c =
    ended_first (g.D.Door.view c.hear_version_alone.new.door).opening (g.D.Door.view c.args.door.now).seen (g.D.Door.view c.hear_version_alone.new.door).seen c.args.link.now.ear.child c.args.offer c.in-Some.why
    c.requires.main.first (c.hear_version_alone.ensures.door.legal c.requires.legal) c.requires.begun c.hear_version_alone.ensures.goes c.in-Some.ensures.why

pub returns-in-Some-clause-link : goal.returns-in-Some-clause-link
returns-in-Some-clause-link g c = keeps_first c.requires.begun.jobs c.hear_version_alone.ensures.link

pub ask_both-requires-clause-asks : goal.ask_both-requires-clause-asks
ask_both-requires-clause-asks g c =
    may_ask_first (g.D.Door.view c.args.door.now).seen (g.D.Door.view c.hear_version_alone.new.door).seen c.args.link.now.ear.child c.hear_version_alone.new.self.ear.child c.args.offer
    c.hear_version_alone.ensures.link.same_ear.0 c.requires.begun c.hear_version_alone.ensures.goes c.in_default.ensures.version

pub returns-in-Done-clause-on : goal.returns-in-Done-clause-on
returns-in-Done-clause-on g c =
    greets_heard (g.D.Door.view c.args.door.now).seen (g.D.Door.view c.hear_version_alone.new.door).seen (g.D.Door.view c.ask_both.new.door).seen (g.D.Door.view c.ask_both.new.door).seen
    c.args.link.now.ear.child c.hear_version_alone.new.self.ear.child c.args.offer c.requires.main.first c.hear_version_alone.ensures.link.same_ear.0 c.requires.begun c.hear_version_alone.ensures.goes c.ask_both.ensures.on refl

pub returns-in-Done-clause-comes : goal.returns-in-Done-clause-comes
returns-in-Done-clause-comes g c =
    prepares_as c.args.mode (g.D.Door.view c.ask_both.new.door).seen c.args.link.now.ear.child c.hear_version_alone.new.self.ear.child Done c.ask_both.result c.hear_version_alone.ensures.link.same_ear.0 c.in-Done.is c.ask_both.ensures.prepares

pub returns-in-Refused-clause-on : goal.returns-in-Refused-clause-on
returns-in-Refused-clause-on g c =
    greets_heard (g.D.Door.view c.args.door.now).seen (g.D.Door.view c.hear_version_alone.new.door).seen (g.D.Door.view c.ask_both.new.door).seen (g.D.Door.view c.ask_both.new.door).seen
    c.args.link.now.ear.child c.hear_version_alone.new.self.ear.child c.args.offer c.requires.main.first c.hear_version_alone.ensures.link.same_ear.0 c.requires.begun c.hear_version_alone.ensures.goes c.ask_both.ensures.on refl

pub returns-in-Refused-clause-comes : goal.returns-in-Refused-clause-comes
returns-in-Refused-clause-comes g c =
    prepares_as c.args.mode (g.D.Door.view c.ask_both.new.door).seen c.args.link.now.ear.child c.hear_version_alone.new.self.ear.child (Refused c.in-Refused.verdict) c.ask_both.result c.hear_version_alone.ensures.link.same_ear.0 c.in-Refused.is c.ask_both.ensures.prepares

pub why_ended_alone-requires-clause-started : goal.why_ended_alone-requires-clause-started
why_ended_alone-requires-clause-started g c =
    greets_started (g.D.Door.view c.hear_version_alone.new.door).seen (g.D.Door.view c.ask_both.new.door).seen c.hear_version_alone.new.self.ear.child c.ask_both.new.link.ear.child c.ask_both.ensures.link.same_ear.0 c.ask_both.ensures.on
    (started_after (g.D.Door.view c.args.door.now).seen (g.D.Door.view c.hear_version_alone.new.door).seen c.args.link.now.ear.child c.hear_version_alone.new.self.ear.child c.hear_version_alone.ensures.link.same_ear.0 c.hear_version_alone.ensures.goes c.requires.begun.started)

pub returns-in-Some-why_ended_alone-clause-on : goal.returns-in-Some-why_ended_alone-clause-on
returns-in-Some-why_ended_alone-clause-on g c =
    greets_heard (g.D.Door.view c.args.door.now).seen (g.D.Door.view c.hear_version_alone.new.door).seen (g.D.Door.view c.ask_both.new.door).seen (g.D.Door.view c.why_ended_alone.new.door).seen
    c.args.link.now.ear.child c.hear_version_alone.new.self.ear.child c.args.offer c.requires.main.first c.hear_version_alone.ensures.link.same_ear.0 c.requires.begun c.hear_version_alone.ensures.goes c.ask_both.ensures.on c.why_ended_alone.ensures.seen

pub returns-in-Some-why_ended_alone-clause-comes : goal.returns-in-Some-why_ended_alone-clause-comes
returns-in-Some-why_ended_alone-clause-comes g c =
    ended_told (g.D.Door.view c.args.door.now).seen (g.D.Door.view c.ask_both.new.door).seen (g.D.Door.view c.why_ended_alone.new.door).seen c.args.link.now.ear.child c.ask_both.new.link.ear.child c.args.offer c.in-Some-why_ended_alone.why
    c.why_ended_alone.ensures.seen (c.ask_both.ensures.link.same_ear.0 ∙ c.hear_version_alone.ensures.link.same_ear.0) c.requires.begun
    (greets_heard (g.D.Door.view c.args.door.now).seen (g.D.Door.view c.hear_version_alone.new.door).seen (g.D.Door.view c.ask_both.new.door).seen (g.D.Door.view c.why_ended_alone.new.door).seen
    c.args.link.now.ear.child c.hear_version_alone.new.self.ear.child c.args.offer c.requires.main.first c.hear_version_alone.ensures.link.same_ear.0 c.requires.begun c.hear_version_alone.ensures.goes c.ask_both.ensures.on c.why_ended_alone.ensures.seen)
    (prepares_as c.args.mode (g.D.Door.view c.ask_both.new.door).seen c.args.link.now.ear.child c.hear_version_alone.new.self.ear.child Gone c.ask_both.result c.hear_version_alone.ensures.link.same_ear.0 c.in-Gone.is c.ask_both.ensures.prepares)
    (sym c.in-Some-why_ended_alone.is ∙ c.why_ended_alone.ensures.why)

pub returns-in-None-clause-on : goal.returns-in-None-clause-on
returns-in-None-clause-on g c =
    greets_heard (g.D.Door.view c.args.door.now).seen (g.D.Door.view c.hear_version_alone.new.door).seen (g.D.Door.view c.ask_both.new.door).seen (g.D.Door.view c.why_ended_alone.new.door).seen
    c.args.link.now.ear.child c.hear_version_alone.new.self.ear.child c.args.offer c.requires.main.first c.hear_version_alone.ensures.link.same_ear.0 c.requires.begun c.hear_version_alone.ensures.goes c.ask_both.ensures.on c.why_ended_alone.ensures.seen

pub returns-in-None-clause-comes : goal.returns-in-None-clause-comes
returns-in-None-clause-comes g c =
    unsent_told (g.D.Door.view c.ask_both.new.door).seen (g.D.Door.view c.why_ended_alone.new.door).seen c.args.link.now.ear.child c.ask_both.new.link.ear.child
    c.why_ended_alone.ensures.seen (c.ask_both.ensures.link.same_ear.0 ∙ c.hear_version_alone.ensures.link.same_ear.0)
    (prepares_as c.args.mode (g.D.Door.view c.ask_both.new.door).seen c.args.link.now.ear.child c.hear_version_alone.new.self.ear.child Gone c.ask_both.result c.hear_version_alone.ensures.link.same_ear.0 c.in-Gone.is c.ask_both.ensures.prepares)
    (sym c.in-None.is ∙ c.why_ended_alone.ensures.why)

pub ask_both-requires-clause-main : goal.ask_both-requires-clause-main
ask_both-requires-clause-main g c = main_on c.hear_version_alone.ensures.door.number c.hear_version_alone.ensures.door.alone c.requires.main

pub returns-in-Done-clause-link : goal.returns-in-Done-clause-link
returns-in-Done-clause-link g c = keeps_both (keeps_first c.requires.begun.jobs c.hear_version_alone.ensures.link) c.ask_both.ensures.link

pub returns-in-Done-clause-door : goal.returns-in-Done-clause-door
returns-in-Done-clause-door g c = same_both c.hear_version_alone.ensures.door c.ask_both.ensures.door

pub returns-in-Refused-clause-link : goal.returns-in-Refused-clause-link
returns-in-Refused-clause-link g c = keeps_both (keeps_first c.requires.begun.jobs c.hear_version_alone.ensures.link) c.ask_both.ensures.link

pub returns-in-Refused-clause-door : goal.returns-in-Refused-clause-door
returns-in-Refused-clause-door g c = same_both c.hear_version_alone.ensures.door c.ask_both.ensures.door

pub returns-in-Some-why_ended_alone-clause-link : goal.returns-in-Some-why_ended_alone-clause-link
returns-in-Some-why_ended_alone-clause-link g c = keeps_still c.why_ended_alone.ensures.seen (keeps_both (keeps_first c.requires.begun.jobs c.hear_version_alone.ensures.link) c.ask_both.ensures.link)

pub returns-in-Some-why_ended_alone-clause-door : goal.returns-in-Some-why_ended_alone-clause-door
returns-in-Some-why_ended_alone-clause-door g c = same_both (same_both c.hear_version_alone.ensures.door c.ask_both.ensures.door) c.why_ended_alone.ensures.door

pub returns-in-None-clause-link : goal.returns-in-None-clause-link
returns-in-None-clause-link g c = keeps_still c.why_ended_alone.ensures.seen (keeps_both (keeps_first c.requires.begun.jobs c.hear_version_alone.ensures.link) c.ask_both.ensures.link)

pub returns-in-None-clause-door : goal.returns-in-None-clause-door
returns-in-None-clause-door g c = same_both (same_both c.hear_version_alone.ensures.door c.ask_both.ensures.door) c.why_ended_alone.ensures.door

pub why_ended_alone-requires-clause-alone : goal.why_ended_alone-requires-clause-alone
why_ended_alone-requires-clause-alone g c = c.ask_both.ensures.door.alone ∙ c.hear_version_alone.ensures.door.alone ∙ c.requires.main.lone
