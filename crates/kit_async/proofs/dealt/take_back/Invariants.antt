use Rattle.std.proofs.Common.{◌≡◌, ◌≤◌, ◌+◌, ◌++◌, map, vec_len, vec_capacity}
use Rattle.std.specs.Prelude.{reverse}
use Rattle.kit_async.proofs.dealt.take_back.Given as goal

abbrev pub invariant-backs : goal.invariant-backs
invariant-backs g l = record {
  passes : l.passes.items ++ map (λ w. w.pass) (reverse l.workers.items) ≡ l.initial.passes.items ++ map (λ w. w.pass) (reverse l.initial.workers.items);
  remotes : l.remotes.items ++ map (λ w. w.remote) (reverse l.workers.items) ≡ l.initial.remotes.items ++ map (λ w. w.remote) (reverse l.initial.workers.items);
  rooms : (vec_len l.passes + vec_len l.workers ≤ vec_capacity l.passes) × (vec_len l.remotes + vec_len l.workers ≤ vec_capacity l.remotes);
}

abbrev pub decreases-backs : goal.decreases-backs
decreases-backs g l = vec_len l.workers
