use Rattle.std.proofs.Common.{refl}
use Rattle.std.specs.Fmt.{digits}
use Rattle.task_model.proofs.run_laws.turn_files.Goals as goal

pub returns-clause-fetched : goal.returns-clause-fetched
unfolding digits
returns-clause-fetched c = refl

pub returns-clause-fetched_again : goal.returns-clause-fetched_again
unfolding digits
returns-clause-fetched_again c = refl

pub returns-clause-chunk : goal.returns-clause-chunk
unfolding digits
returns-clause-chunk c = refl

pub returns-clause-chunk_again : goal.returns-clause-chunk_again
unfolding digits
returns-clause-chunk_again c = refl

pub returns-clause-last : goal.returns-clause-last
unfolding digits
returns-clause-last c = refl
