use Rattle.task_model.specs.Rows.{fetched_2_1, got_hi}
use Rattle.run_starts.specs.TaskLaws.Contents.{Shows}
use Rattle.std.specs.Prelude.{codes}
use Rattle.run_starts.specs.TaskLaws.Rows.{hi, the_store, the_retrieve}
use Rattle.run_starts.proofs.task_laws.rows.faithful_remotes.Goals as goal
use Rattle.ann_key.proofs.Booleans.{false_is_true as apart}
use Rattle.run_starts.proofs.TaskLawsLemmas.StoredThenGot.{retrieves}

pub returns-clause-retrieves : goal.returns-clause-retrieves
returns-clause-retrieves c = retrieves

pub returns-clause-other : goal.returns-clause-other
returns-clause-other c = λ faithful. let shows : Shows fetched_2_1 (codes "ho") got_hi = faithful the_retrieve the_store hi fetched_2_1 retrieves in apart shows.reads
