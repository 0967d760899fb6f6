use Rattle.std.proofs.Common.{rules, refl}
use Rattle.std.specs.Fmt.{digits}
use Rattle.task_model.proofs.run_laws.chunk_store_runs.Goals as goal

pub returns-clause-stored : goal.returns-clause-stored
unfolding digits
returns-clause-stored c = record {
  asked_till_stop = refl;
  calls_till_stop = refl;
  found = refl;
  work = (
    record { names = refl; changes = refl; lengths = refl },
    record {
      size_first = refl;
      fits = λ some. refl;
      questions_in_order = search rules;
      each_found = refl;
      only_missing = refl;
      transfers_in_order = search rules;
      each_stored = refl;
      each_whole = refl;
      next_copied = refl;
      each_removed = refl;
      noted_once = refl;
      noted_last = λ some. refl;
    },
  );
  answered = record { last_removed = refl; answered = (refl, refl) };
}

pub returns-clause-empty : goal.returns-clause-empty
unfolding digits
returns-clause-empty c = record {
  asked_till_stop = refl;
  calls_till_stop = refl;
  found = refl;
  work = (
    record { names = refl; changes = refl; lengths = refl },
    record {
      size_first = refl;
      fits = λ some. refl;
      questions_in_order = search rules;
      each_found = refl;
      only_missing = refl;
      transfers_in_order = search rules;
      each_stored = refl;
      each_whole = refl;
      next_copied = refl;
      each_removed = refl;
      noted_once = refl;
      noted_last = λ some. refl;
    },
  );
  answered = record { last_removed = refl; answered = (refl, refl) };
}

pub returns-clause-short : goal.returns-clause-short
unfolding digits
returns-clause-short c = record {
  asked_till_stop = refl;
  calls_till_stop = refl;
  found = refl;
  work = (
    record { names = refl; changes = refl; lengths = refl },
    record {
      size_first = refl;
      fits = λ some. refl;
      questions_in_order = search rules;
      each_found = refl;
      only_missing = refl;
      transfers_in_order = search rules;
      each_stored = refl;
      each_whole = refl;
      next_copied = refl;
      each_removed = refl;
      noted_once = refl;
      noted_last = λ some. absurd (some refl);
    },
  );
  answered = record { last_removed = refl; answered = (refl, refl, refl) };
}

pub returns-clause-lost : goal.returns-clause-lost
unfolding digits
returns-clause-lost c = record {
  asked_till_stop = refl;
  calls_till_stop = refl;
  found = refl;
  work = (
    record { names = refl; changes = refl; lengths = refl },
    record {
      size_first = refl;
      fits = λ some. refl;
      questions_in_order = search rules;
      each_found = refl;
      only_missing = refl;
      transfers_in_order = search rules;
      each_stored = refl;
      each_whole = refl;
      next_copied = refl;
      each_removed = refl;
      noted_once = refl;
      noted_last = λ some. absurd (some refl);
    },
  );
  answered = refl;
}

pub returns-clause-memory : goal.returns-clause-memory
unfolding digits
returns-clause-memory c = record {
  asked_till_stop = refl;
  calls_till_stop = refl;
  found = refl;
  work = (
    record { names = refl; changes = refl; lengths = refl },
    record {
      size_first = refl;
      fits = λ some. refl;
      questions_in_order = search rules;
      each_found = refl;
      only_missing = refl;
      transfers_in_order = search rules;
      each_stored = refl;
      each_whole = refl;
      next_copied = refl;
      each_removed = refl;
      noted_once = refl;
      noted_last = λ some. absurd (some refl);
    },
  );
  answered = tt;
}
