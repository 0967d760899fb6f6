use Rattle.std.proofs.Common.{refl, ap, subst, ◌∙◌, ℕ}
use Rattle.journal_model.specs.Journal.{open_jobs}
use Rattle.child_link.proofs.Roles.{same_both}
use Rattle.child_link.proofs.Solo.{keeps_both}
use Rattle.child_life.specs.Start.Stages.{AsksNext}
use Rattle.child_life.proofs.StartLemmas.Requests.{greets_both}
use Rattle.child_life.proofs.StartLemmas.Preparing.{main_on, asked_for, kind_of, unprepared_first, greets_started, may_prepare, prepared_second, greets_as, unlost_first}
use Rattle.child_life.proofs.StartLemmas.Losing.{unlost_more}
use Rattle.child_life.proofs.start.starting.ask_both.Goals as goal

pub returns-in-Gone-clause-prepares : goal.returns-in-Gone-clause-prepares
returns-in-Gone-clause-prepares g c =
    unprepared_first (g.D.Door.view c.args.door.now).seen (g.D.Door.view c.ask_one.new.door).seen c.args.link.now.ear.child c.requires.asks.jobs (g.D.Door.view c.ask_one.new.door).opening (c.ask_one.ensures.door.legal c.requires.legal)
    c.in-Gone.ensures.asks

pub ask_one-requires-2-clause-main : goal.ask_one-requires-2-clause-main
ask_one-requires-2-clause-main g c = main_on c.ask_one.ensures.door.number c.ask_one.ensures.door.alone c.requires.main

pub ask_one-requires-2-clause-may : goal.ask_one-requires-2-clause-may
ask_one-requires-2-clause-may g c = record {
  started = greets_started (g.D.Door.view c.args.door.now).seen (g.D.Door.view c.ask_one.new.door).seen c.args.link.now.ear.child c.ask_one.new.link.ear.child c.ask_one.ensures.link.same_ear.0 (c.ask_one.ensures.on c.args.mode refl) c.requires.asks.started;
  may =
      rw c.last_request.ensures (may_prepare (g.D.Door.view c.args.door.now).seen (g.D.Door.view c.ask_one.new.door).seen c.args.link.now.ear.child c.requires.asks.jobs c.ask_one.result c.in_default.not-Gone c.ask_one.ensures.asks
      c.args.mode (g.D.Door.view c.ask_one.new.door).number c.ask_one.new.link.ear.child c.ask_one.ensures.link.same_ear.0
      (c.ask_one.ensures.door.number ∙ c.requires.main.first) c.requires.asks.started (c.ask_one.ensures.on c.args.mode refl));
  kind = kind_of _ c.args.mode c.last_request.ensures;
  idle = ap (open_jobs (g.D.Door.view c.ask_one.new.door).seen) c.ask_one.ensures.link.same_ear.0 ∙ (c.ask_one.ensures.on c.args.mode refl).idle;
}

pub returns-clause-on : goal.returns-clause-on
returns-clause-on g c =
    let seen = (g.D.Door.view c.args.door.now).seen in
    let mid = (g.D.Door.view c.ask_one.new.door).seen in
    let new = (g.D.Door.view c.ask_one-2.new.door).seen in
    let first = c.ask_one.ensures.on c.args.mode refl in
    greets_both seen mid new c.args.link.now.ear.child first (greets_as mid new c.args.link.now.ear.child c.ask_one.new.link.ear.child c.ask_one.ensures.link.same_ear.0 (c.ask_one-2.ensures.on c.args.mode (asked_for _ c.args.mode c.last_request.ensures)))
    (unlost_more c.args.link.now.ear.child seen mid first.more first.is (unlost_first seen mid c.args.link.now.ear.child c.requires.asks.jobs c.ask_one.result c.in_default.not-Gone c.ask_one.ensures.asks) c.requires.asks.unlost)

pub returns-clause-prepares : goal.returns-clause-prepares
returns-clause-prepares g c =
    let mid = (g.D.Door.view c.ask_one.new.door).seen in
    let new = (g.D.Door.view c.ask_one-2.new.door).seen in
    prepared_second (g.D.Door.view c.args.door.now).seen mid c.args.link.now.ear.child c.requires.asks.jobs c.ask_one.result c.in_default.not-Gone c.ask_one.ensures.asks c.args.mode new c.ask_one-2.result c.requires.asks.unlost
    (greets_as mid new c.args.link.now.ear.child c.ask_one.new.link.ear.child c.ask_one.ensures.link.same_ear.0 (c.ask_one-2.ensures.on c.args.mode (asked_for _ c.args.mode c.last_request.ensures)))
    (subst (λ (k : ℕ). AsksNext mid new k c.ask_one-2.result) c.ask_one.ensures.link.same_ear.0 c.ask_one-2.ensures.asks)

pub returns-clause-link : goal.returns-clause-link
returns-clause-link g c = keeps_both c.ask_one.ensures.link c.ask_one-2.ensures.link

pub returns-clause-door : goal.returns-clause-door
returns-clause-door g c = same_both c.ask_one.ensures.door c.ask_one-2.ensures.door
