use Rattle.std.proofs.lemmas.Result.{IfOk-weaker, on_err_weaker}
use Rattle.child_link.proofs.Solo.{still_alone, asked_alone, keeps_alone}
use Rattle.host_talk.specs.Request.Requests.{message_of, name_of}
use Rattle.child_link.proofs.lone.Lone.ask_alone.Goals as goal

pub returns-clause-asked : goal.returns-clause-asked
returns-clause-asked g c =
    IfOk-weaker c.ask.result _ _
    (λ verdict. asked_alone (g.D.Door.view c.args.door.now).opening (g.D.Door.view c.args.door.now).number (g.D.Door.view c.args.door.now).alone (g.D.Door.view c.args.door.now).seen (g.D.Door.view c.ask.new.door).seen c.args.self.now.ear.child c.args.task (name_of c.args.request.now) (message_of c.args.request.now) verdict
    c.requires.alone)
    c.ask.ensures.asked

pub returns-clause-link : goal.returns-clause-link
returns-clause-link g c = keeps_alone c.requires.alone c.ask.ensures.moved c.ask.ensures.same

pub returns-clause-none : goal.returns-clause-none
returns-clause-none g c = on_err_weaker c.ask.result (λ passed. still_alone c.requires.alone passed) c.ask.ensures.none
