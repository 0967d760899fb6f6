use Rattle.kit_serve.specs.declared.kit.kit.Stage.TheVariants.{Waiting, Readying}
use Rattle.kit_serve.proofs.KitLemmas.Answering.{answers_at, tries_at}
use Rattle.kit_serve.proofs.kit.kit.Kit.answer.Goals as goal

pub returns-in-Waiting-clause-ok : goal.returns-in-Waiting-clause-ok
returns-in-Waiting-clause-ok g c =
    answers_at g.R.Remote.calls g.R.Remote.settings c.self.inside.remote c.self.inside.prepared c.self.inside.stage c.replace.new.dest Waiting c.args.self.now c.request.new.self
    _ c.request.result c.self.view_is c.in-Waiting.ensures.value c.request.ensures.ok

pub returns-in-Waiting-clause-err : goal.returns-in-Waiting-clause-err
returns-in-Waiting-clause-err g c =
    tries_at g.R.Remote.calls g.R.Remote.settings c.self.inside.remote c.self.inside.prepared c.self.inside.stage c.replace.new.dest Waiting c.args.self.now c.request.new.self
    _ c.request.result c.self.view_is c.in-Waiting.ensures.value c.request.ensures.err

pub returns-in-Readying-clause-ok : goal.returns-in-Readying-clause-ok
returns-in-Readying-clause-ok g c =
    answers_at g.R.Remote.calls g.R.Remote.settings c.self.inside.remote c.self.inside.prepared c.self.inside.stage c.replace.new.dest (Readying c.in-Readying.by_prepare c.in-Readying.values) c.args.self.now c.reply.new.self
    _ c.reply.result c.self.view_is c.in-Readying.ensures.value c.reply.ensures.ok

pub returns-in-Readying-clause-err : goal.returns-in-Readying-clause-err
returns-in-Readying-clause-err g c =
    tries_at g.R.Remote.calls g.R.Remote.settings c.self.inside.remote c.self.inside.prepared c.self.inside.stage c.replace.new.dest (Readying c.in-Readying.by_prepare c.in-Readying.values) c.args.self.now c.reply.new.self
    _ c.reply.result c.self.view_is c.in-Readying.ensures.value c.reply.ensures.err
