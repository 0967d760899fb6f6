-- A worked key that was stored and then got.
use Rattle.std.proofs.Common.{refl, arith}
use Rattle.task_model.specs.Rows.{fetched_2_1}
use Rattle.run_starts.specs.TaskLaws.Changes.{Retrieves}
use Rattle.run_starts.specs.TaskLaws.Rows.{hi, stored_then_got, the_store, the_retrieve}

pub retrieves : Retrieves stored_then_got the_retrieve the_store hi fetched_2_1
retrieves = record { there = (3, omega arith, refl); asks = refl; answered = 19; done = refl; stored = refl }
