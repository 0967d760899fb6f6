use Rattle.std.proofs.Common.{[], ◌∷◌, ◌++◌}
use Rattle.audit_command.proofs.Refusing.{held_refused, byte_held}
use Rattle.audit_command.proofs.lines.Lines.hold.Goals as goal

pub returns-in-Some : goal.returns-in-Some
returns-in-Some c = λ lines rest h.
    held_refused lines rest c.args.self.now.reader c.args.self.now.held.items c.args.self.now.bad _ (rest ++ c.args.byte ∷ []) c.in-Some.is h

pub returns-in_ok-push-in-None : goal.returns-in_ok-push-in-None
returns-in_ok-push-in-None c = λ lines rest h.
    byte_held lines rest c.args.self.now.reader c.args.self.now.held.items c.args.self.now.bad _ c.args.byte c.in-None.is c.in_ok-push-in-None.ensures.items h
