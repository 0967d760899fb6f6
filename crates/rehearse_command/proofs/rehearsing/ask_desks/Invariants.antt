use Rattle.std.proofs.Common.{◌≡◌, map, replicate, vec_len, vec_capacity}
use Rattle.ann_outside.specs.Desks.{no_counts}
use Rattle.rehearse_command.proofs.rehearsing.ask_desks.Given as goal

-- so many were asked for
abbrev pub invariant-workers : goal.invariant-workers
invariant-workers g l = record {
  room : (vec_len l.crew ≡ l.before) × (vec_capacity l.crew ≡ vec_capacity l.initial.crew);
  fresh : map (λ k. (g.K.Desk.Desk.told k).counts) l.crew.items ≡ replicate l.before no_counts;
}
