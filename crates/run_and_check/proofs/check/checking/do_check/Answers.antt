use Rattle.ann_key.specs.KeyRefs.{text_of}
use Rattle.run_and_check.proofs.CheckLemmas.Checked.{nothing_checked}
use Rattle.run_and_check.proofs.check.checking.do_check.Goals as goal

pub returns-in_default : goal.returns-in_default
returns-in_default g c = nothing_checked (g.C.Clock.answer c.args.clock.now) c.args.program.now (text_of c.args.key) (g.P.Programs.told c.args.programs.now) c.nothing_made.result c.nothing_made.ensures

pub returns-in-Err : goal.returns-in-Err
returns-in-Err g c = nothing_checked (g.C.Clock.answer c.args.clock.now) c.args.program.now (text_of c.args.key) (g.P.Programs.told c.args.programs.now) c.nothing_made-in-Err.result c.nothing_made-in-Err.ensures

pub do_task-requires-clause-ready : goal.do_task-requires-clause-ready
do_task-requires-clause-ready g c = λ κs lives. (c.args.program.now, text_of c.args.key, c.now-stamp.result, c.in-Ok-prepare.ensures.prepared)

pub returns-in-Ok-prepare : goal.returns-in-Ok-prepare
returns-in-Ok-prepare g c = c.do_task.ensures (g.C.Clock.answer c.args.clock.now) c.args.program.now (text_of c.args.key) c.now-stamp.result c.now-stamp.ensures.told c.in-Ok-prepare.ensures.prepared
