use Rattle.std.proofs.Common.{◌≡◌, ◌++◌, ◌∷◌, false, true, refl}
use Rattle.std.specs.Prelude.{codes}
use Rattle.task_text.proofs.ChunkLogLemmas.Uuids.{upper_not_written}
use Rattle.journal_model.proofs.Beginning.{check_begins, store_begins, nothing_begins, no_key, no_check_file, no_store_file, eight_times, no_more}
use Rattle.journal_model.proofs.opening_laws.worked_openings.Goals as goal

pub returns-clause-check : goal.returns-clause-check
returns-clause-check c = check_begins

pub returns-clause-store : goal.returns-clause-store
returns-clause-store c = store_begins

pub returns-clause-eight_times : goal.returns-clause-eight_times
returns-clause-eight_times c = eight_times

pub returns-clause-nine_times : goal.returns-clause-nine_times
returns-clause-nine_times c = no_more

pub returns-clause-nothing : goal.returns-clause-nothing
returns-clause-nothing c = nothing_begins

pub returns-clause-chunk_key : goal.returns-clause-chunk_key
returns-clause-chunk_key c = no_key (codes "WORM-s150-S100-C1--a") refl

pub returns-clause-spaced_key : goal.returns-clause-spaced_key
returns-clause-spaced_key c = no_key (codes "WORM--a b") refl

pub returns-clause-file_of_check : goal.returns-clause-file_of_check
returns-clause-file_of_check c = no_check_file

pub returns-clause-no_file : goal.returns-clause-no_file
returns-clause-no_file c = no_store_file

pub returns-clause-name : goal.returns-clause-name
returns-clause-name c = λ begins. (let right : false ≡ true = begins.lines.name in absurd cc)

pub returns-clause-upper : goal.returns-clause-upper
returns-clause-upper c = λ begins. upper_not_written begins.uuid
