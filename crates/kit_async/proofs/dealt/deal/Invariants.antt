use Rattle.std.proofs.Common.{◌≡◌, ◌≤◌, ◌<◌, ◌^◌, ◌+◌, ◌++◌, map, vec_len, vec_capacity}
use Rattle.std.specs.Prelude.{All, reverse}
use Rattle.kit_async.specs.Dealt.{AreNumbered}
use Rattle.kit_async.proofs.dealt.deal.Given as goal

abbrev pub invariant-deals : goal.invariant-deals
invariant-deals g l = record {
  passes : l.initial.passes.items ≡ l.passes.items ++ map (λ w. w.pass) (reverse l.workers.items);
  remotes : l.initial.remotes.items ≡ l.remotes.items ++ map (λ w. w.remote) (reverse l.workers.items);
  count : vec_len l.remotes + vec_len l.workers ≡ vec_len l.initial.remotes;
  many : vec_len l.remotes ≤ vec_len l.passes;
  few : vec_len l.remotes < 2 ^ 32;
  room : vec_len l.remotes + vec_len l.workers ≤ vec_capacity l.workers;
  rooms : (vec_capacity l.remotes ≡ vec_capacity l.initial.remotes) × (vec_capacity l.passes ≡ vec_capacity l.initial.passes);
  numbers : AreNumbered (vec_len l.remotes) (map (λ w. w.number) (reverse l.workers.items));
  placed : All (λ w. w.hall.now ≡ l.site.hall.now) l.workers.items;
}

abbrev pub decreases-deals : goal.decreases-deals
decreases-deals g l = vec_len l.remotes
