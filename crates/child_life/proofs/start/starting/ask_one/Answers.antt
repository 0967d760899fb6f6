use Rattle.std.proofs.Common.{◌≡◌, true, sym, ap, subst, ◌∙◌, ℕ, List}
use Rattle.journal_model.specs.declared.entry.Entry.{Entry}
use Rattle.journal_model.specs.Journal.{is_started, is_ended}
use Rattle.host_talk.specs.Request.Requests.{message_of}
use Rattle.child_link.proofs.Roles.{same_both}
use Rattle.child_link.proofs.Solo.{keeps_both}
use Rattle.child_life.specs.declared.start.starting.RequestOutcome.{RequestOutcome}
use Rattle.child_life.specs.Start.Stages.{AsksNext}
use Rattle.child_life.proofs.StartLemmas.Jobs.{goes_as}
use Rattle.child_life.proofs.StartLemmas.Requests.{greets_goes, greets_asked, asked_plain, early_job, asked_next, given_up_next, greeting_named}
use Rattle.child_life.proofs.start.starting.ask_one.Goals as goal

pub ask_alone-requires-clause-named : goal.ask_alone-requires-clause-named
ask_alone-requires-clause-named g c = greeting_named c.args.request.now c.requires.may.kind

pub give_up_alone-requires-clause-started : goal.give_up_alone-requires-clause-started
give_up_alone-requires-clause-started g c =
    ap (is_started (g.D.Door.view c.ask_alone.new.door).seen) c.ask_alone.ensures.link.same_ear.0 ∙ ap (λ (j : List Entry). is_started j c.args.link.now.ear.child) c.in-Err.ensures.none ∙ c.requires.may.started

pub returns-in-Ok-clause-on : goal.returns-in-Ok-clause-on
returns-in-Ok-clause-on g c = λ mode asked.
    let seen = (g.D.Door.view c.args.door.now).seen in
    let by = (g.D.Door.view c.args.door.now).number in
    let q = message_of c.args.request.now in
    greets_asked (g.D.Door.view c.args.door.now).opening seen (g.D.Door.view c.ask_alone.new.door).seen by c.args.link.now.ear.child q c.in-Ok.verdict c.requires.main.first c.requires.may.idle
    (early_job seen by c.args.link.now.ear.child q mode asked c.requires.may.may)
    (asked_plain (g.D.Door.view c.args.door.now).opening seen (g.D.Door.view c.ask_alone.new.door).seen by c.args.link.now.ear.child c.args.request.now c.in-Ok.verdict c.requires.may.kind c.in-Ok.ensures.asked)

pub returns-in-Ok-clause-asks : goal.returns-in-Ok-clause-asks
returns-in-Ok-clause-asks g c =
    let seen = (g.D.Door.view c.args.door.now).seen in
    let new = (g.D.Door.view c.ask_alone.new.door).seen in
    subst (λ (a : RequestOutcome). AsksNext seen new c.args.link.now.ear.child a) (sym c.asked_as.ensures)
    (asked_next (g.D.Door.view c.args.door.now).opening (g.D.Door.view c.ask_alone.new.door).opening seen new (g.D.Door.view c.args.door.now).number c.args.link.now.ear.child (message_of c.args.request.now) c.in-Ok.verdict
    (c.ask_alone.ensures.door.legal c.requires.legal) c.requires.may.kind c.in-Ok.ensures.named
    (asked_plain (g.D.Door.view c.args.door.now).opening seen new (g.D.Door.view c.args.door.now).number c.args.link.now.ear.child c.args.request.now c.in-Ok.verdict c.requires.may.kind c.in-Ok.ensures.asked))

pub returns-in-Err-clause-on : goal.returns-in-Err-clause-on
returns-in-Err-clause-on g c = λ mode asked.
    greets_goes (g.D.Door.view c.args.door.now).seen (g.D.Door.view c.give_up_alone.new.door).seen c.args.link.now.ear.child c.requires.main.first
    (goes_as c.ask_alone.ensures.door.number c.ask_alone.ensures.link.same_ear.0 c.in-Err.ensures.none c.give_up_alone.ensures.goes) c.requires.may.idle

pub returns-in-Err-clause-asks : goal.returns-in-Err-clause-asks
returns-in-Err-clause-asks g c =
    given_up_next (g.D.Door.view c.args.door.now).opening (g.D.Door.view c.give_up_alone.new.door).opening (g.D.Door.view c.args.door.now).seen (g.D.Door.view c.give_up_alone.new.door).seen (g.D.Door.view c.args.door.now).number c.args.link.now.ear.child (message_of c.args.request.now)
    ((same_both c.ask_alone.ensures.door c.give_up_alone.ensures.door).legal c.requires.legal)
    (goes_as c.ask_alone.ensures.door.number c.ask_alone.ensures.link.same_ear.0 c.in-Err.ensures.none c.give_up_alone.ensures.goes)
    (subst (λ (k : ℕ). is_ended (g.D.Door.view c.give_up_alone.new.door).seen k ≡ true) c.ask_alone.ensures.link.same_ear.0 c.give_up_alone.ensures.over)

pub returns-in-Err-clause-link : goal.returns-in-Err-clause-link
returns-in-Err-clause-link g c = keeps_both c.ask_alone.ensures.link c.give_up_alone.ensures.link

pub returns-in-Err-clause-door : goal.returns-in-Err-clause-door
returns-in-Err-clause-door g c = same_both c.ask_alone.ensures.door c.give_up_alone.ensures.door

pub give_up_alone-requires-clause-alone : goal.give_up_alone-requires-clause-alone
give_up_alone-requires-clause-alone g c = c.ask_alone.ensures.door.alone ∙ c.requires.main.lone
