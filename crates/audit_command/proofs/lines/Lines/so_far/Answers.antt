use Rattle.audit_command.proofs.Refusing.{all_taken, one_refused}
use Rattle.audit_command.proofs.lines.Lines.so_far.Goals as goal

pub returns-in-Some-clause-comes : goal.returns-in-Some-clause-comes
returns-in-Some-clause-comes c = λ lines rest h. one_refused lines rest c.args.self.reader c.args.self.held.items c.args.self.bad c.in-Some.line c.in-Some.is h

pub returns-in-None-clause-comes : goal.returns-in-None-clause-comes
returns-in-None-clause-comes c = λ lines rest h. c.run_so_far.ensures lines (all_taken lines rest c.args.self.reader c.args.self.held.items c.args.self.bad c.in-None.is h)
