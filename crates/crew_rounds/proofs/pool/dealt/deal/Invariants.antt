use Rattle.std.proofs.Common.{◌≡◌, ◌≤◌, ◌+◌, ◌++◌, map, vec_len, vec_capacity}
use Rattle.std.specs.Prelude.{All, reverse}
use Rattle.crew_rounds.specs.Pool.Sites.{IsAt}
use Rattle.crew_rounds.proofs.pool.dealt.deal.Given as goal

abbrev pub invariant-deals : goal.invariant-deals
invariant-deals g l = record {
  passes : l.initial.passes.items ≡ l.passes.items ++ map (λ w. w.pass) (reverse l.workers.items);
  links : l.initial.links.items ≡ l.links.items ++ map (λ w. w.way) (reverse l.workers.items);
  desks : l.initial.desks.items ≡ l.desks.items ++ map (λ w. w.desk) (reverse l.workers.items);
  count : vec_len l.desks + vec_len l.workers ≡ vec_len l.initial.desks;
  many : (vec_len l.links ≡ vec_len l.desks) × (vec_len l.desks ≤ vec_len l.passes);
  room : vec_len l.desks + vec_len l.workers ≤ vec_capacity l.workers;
  rooms : (vec_capacity l.passes ≡ vec_capacity l.initial.passes) × (vec_capacity l.links ≡ vec_capacity l.initial.links) × (vec_capacity l.desks ≡ vec_capacity l.initial.desks);
  placed : All (IsAt l.site) l.workers.items;
}

abbrev pub decreases-deals : goal.decreases-deals
decreases-deals g l = vec_len l.desks
