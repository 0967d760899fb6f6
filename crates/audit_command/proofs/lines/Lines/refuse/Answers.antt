use Rattle.audit_command.proofs.Refusing.{refused_here, refused_next}
use Rattle.audit_command.proofs.lines.Lines.refuse.Goals as goal

pub returns-in-Some : goal.returns-in-Some
returns-in-Some c = λ lines rest h count. refused_here lines rest c.args.self.now.reader c.args.self.now.held.items c.args.self.now.bad _ c.in-Some.is h

pub returns-in-None : goal.returns-in-None
returns-in-None c = λ lines rest h count. refused_next lines rest c.args.self.now.reader c.args.self.now.held.items c.args.self.now.bad c.args.number c.in-None.is count h
