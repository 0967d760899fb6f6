use Rattle.std.proofs.Common.{◌≡◌, true, false}
use Rattle.crew_work.proofs.beside.way.SharedWay.run.Goals as goal

-- a way to a shared child is never taken alone
pub returns-clause-turn : goal.returns-clause-turn
returns-clause-turn g c = λ lone. absurd (let bad : false ≡ true = (c.requires.turn lone).0 in cc)

pub returns-clause-moved : goal.returns-clause-moved
returns-clause-moved g c =
    let s = c.run_jobs.ensures.on.grows in
    record { more = s.more; is = s.is; own = s.own; lone = s.lone; kept = λ h u. u }
