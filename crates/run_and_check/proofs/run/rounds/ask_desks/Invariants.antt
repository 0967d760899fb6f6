use Rattle.std.proofs.Common.{◌≡◌, map, vec_len, vec_capacity}
use Rattle.run_and_check.specs.Run.Runs.{AreFresh}
use Rattle.run_and_check.specs.Run.Workings.{AddsWorkers}
use Rattle.run_and_check.proofs.run.rounds.ask_desks.Given as goal

-- so many were asked for
abbrev pub invariant-workers : goal.invariant-workers
invariant-workers g l = record {
  room : (vec_len l.crew ≡ l.before) × (vec_capacity l.crew ≡ vec_capacity l.initial.crew);
  adds : AddsWorkers l.before (g.K.Desks.made l.initial.desks) (g.K.Desks.made l.desks) (map g.K.Desk.Desk.told l.crew.items);
  fresh : AreFresh (map g.K.Desk.Desk.told l.crew.items);
}
