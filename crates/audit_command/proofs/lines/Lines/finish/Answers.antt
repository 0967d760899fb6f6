use Rattle.std.proofs.Common.{[]}
use Rattle.audit_command.proofs.Refusing.{all_taken, one_refused}
use Rattle.audit_command.proofs.lines.Lines.finish.Goals as goal

pub returns-in-Some-clause-ends : goal.returns-in-Some-clause-ends
returns-in-Some-clause-ends c = λ lines h. one_refused lines [] c.args.self.reader c.args.self.held.items c.args.self.bad c.in-Some.line c.in-Some.is h

pub returns-in-None-clause-ends : goal.returns-in-None-clause-ends
returns-in-None-clause-ends c = λ lines h. c.run_of.ensures lines (all_taken lines [] c.args.self.reader c.args.self.held.items c.args.self.bad c.in-None.is h)
