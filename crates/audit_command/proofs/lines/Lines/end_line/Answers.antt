use Rattle.audit_command.proofs.Refusing.{ended_refused}
use Rattle.audit_command.proofs.lines.Lines.end_line.Goals as goal

pub returns-in-Some : goal.returns-in-Some
returns-in-Some c = λ lines rest h. ended_refused lines rest c.args.self.now.reader c.args.self.now.held.items c.args.self.now.bad _ c.in-Some.is h
