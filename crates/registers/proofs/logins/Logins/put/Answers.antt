use Rattle.std.proofs.Common.{ap, ◌∙◌}
use Rattle.registers.specs.Tables.{put}
use Rattle.registers.specs.Logins.{pairs_of}
use Rattle.registers.proofs.PairLists.{put-pairs_of, Rises-pairs_of}
use Rattle.registers.proofs.logins.Logins.put.Goals as goal

pub returns-clause-ok : goal.returns-clause-ok
returns-clause-ok c =
    ap pairs_of c.in_ok-insert.ensures.entries
    ∙ put-pairs_of c.self.inside.entries.entries c.in_ok-name.name (record { user = c.in_ok-user.user; password = c.in_ok-password.password })
    ∙ (λ i. put (c.self.view_is i) (c.in_ok-name.ensures.items i) (c.in_ok-user.ensures.items i, c.in_ok-password.ensures.items i))

pub invariant_of-self-2 : goal.invariant_of-self-2
invariant_of-self-2 c = Rises-pairs_of _ c.in_ok-insert.ensures.ordered
