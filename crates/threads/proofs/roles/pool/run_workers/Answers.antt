use Rattle.std.proofs.Common.{rules}
use denote.Param.Send.{sendable}
use Rattle.threads.proofs.roles.pool.run_workers.Goals as goal

-- The scope's closure asks for the bounds of what it calls.
pub scoped-requires : goal.scoped-requires
scoped-requires g c =
    let few = c.requires.few in let wide = c.requires.room in
    let sc = c.type_bounds.send-C in let sr = c.type_bounds.sync-R in
    record { at = λ a. (search rules, search sendable) }
