use Rattle.run_starts.proofs.Stinting.{may_close, one_idle, one_rests, one_wired}
use Rattle.run_starts.proofs.serving.turn_away.Goals as goal

pub close_child-requires-clause-idle : goal.close_child-requires-clause-idle
close_child-requires-clause-idle g c =
    may_close c.answer_one.new.core.journal c.args.link.now.ear.child
    (one_idle c.args.core.now.opening c.args.core.now.journal c.answer_one.new.core.journal (λ t. c.args.answer) c.args.link.now.ear.child c.answer_one.result c.answer_one.ensures.answers c.requires.idle)
    (one_rests c.args.core.now.opening c.args.core.now.journal c.answer_one.new.core.journal (λ t. c.args.answer) c.answer_one.result c.answer_one.ensures.answers c.requires.rest)

pub returns-clause-wired : goal.returns-clause-wired
returns-clause-wired g c = λ before.
    c.close_child.ensures.wired (one_wired c.args.core.now.opening c.args.core.now.journal c.answer_one.new.core.journal (λ t. c.args.answer) c.args.link.now.ear c.args.link.now.mouth c.args.link.now.one_child c.answer_one.result c.answer_one.ensures.answers before)
