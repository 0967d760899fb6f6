use Rattle.info_and_init.proofs.InfoLemmas.Asked.{may_begin}
use Rattle.info_and_init.proofs.info.asking.ask_all.Goals as goal

pub ask_over-requires-clause-begins : goal.ask_over-requires-clause-begins
ask_over-requires-clause-begins g c = may_begin c.args.core.now.journal c.args.link.now.ear.child c.requires.greeted c.requires.ready

pub returns-in_err-requests-clause-asks : goal.returns-in_err-requests-clause-asks
returns-in_err-requests-clause-asks g c = (0, (may_begin c.args.core.now.journal c.args.link.now.ear.child c.requires.greeted c.requires.ready).asks)
