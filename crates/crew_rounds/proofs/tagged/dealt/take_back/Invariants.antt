use Rattle.std.proofs.Common.{◌≡◌, ◌≤◌, ◌+◌, ◌++◌, map, vec_len, vec_capacity}
use Rattle.std.specs.Prelude.{reverse}
use Rattle.crew_rounds.specs.Tagged.Backs.{roles_of}
use Rattle.crew_rounds.proofs.tagged.dealt.take_back.Given as goal

abbrev pub invariant-backs : goal.invariant-backs
invariant-backs g l = record {
  passes : l.passes.items ++ map (λ w. w.pass) (reverse (roles_of l.workers.items)) ≡ l.initial.passes.items ++ map (λ w. w.pass) (reverse (roles_of l.initial.workers.items));
  desks : l.desks.items ++ map (λ w. w.desk) (reverse (roles_of l.workers.items)) ≡ l.initial.desks.items ++ map (λ w. w.desk) (reverse (roles_of l.initial.workers.items));
  rooms : (vec_len l.passes + vec_len l.workers ≤ vec_capacity l.passes) × (vec_len l.desks + vec_len l.workers ≤ vec_capacity l.desks);
}

abbrev pub decreases-backs : goal.decreases-backs
decreases-backs g l = vec_len l.workers
