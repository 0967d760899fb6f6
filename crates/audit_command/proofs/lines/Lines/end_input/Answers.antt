use Rattle.audit_command.proofs.Refusing.{input_refused}
use Rattle.audit_command.proofs.lines.Lines.end_input.Goals as goal

pub returns-in-Some : goal.returns-in-Some
returns-in-Some c = λ lines rest h. input_refused lines rest c.args.self.now.reader c.args.self.now.held.items c.args.self.now.bad _ c.in-Some.is h
