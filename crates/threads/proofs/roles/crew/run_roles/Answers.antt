use Rattle.std.proofs.Common.{rules}
use denote.Param.Send.{sendable}
use Rattle.threads.proofs.roles.crew.run_roles.Goals as goal

-- The scope's closure asks for the bounds of what it calls.
pub scoped-requires : goal.scoped-requires
scoped-requires g c =
    let few = c.requires.few in let wide = c.requires.room in
    let sa = c.type_bounds.send-A in let sb = c.type_bounds.send-B in let sc = c.type_bounds.send-C in let sr = c.type_bounds.sync-R in
    record { at = λ a. (search rules, search sendable) }
