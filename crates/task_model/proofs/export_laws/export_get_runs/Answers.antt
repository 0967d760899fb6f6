use Rattle.std.proofs.Common.{rules, refl}
use Rattle.std.specs.Fmt.{digits}
use Rattle.task_model.proofs.export_laws.export_get_runs.Goals as goal

pub returns-clause-wrong_length : goal.returns-clause-wrong_length
unfolding digits
returns-clause-wrong_length c = record {
  asked_till_stop = refl;
  calls_till_stop = refl;
  found = refl;
  work = (
    record {
      calls_made = record { names = refl; changes = refl; lengths = refl };
      asks = record { in_order = search rules; named = refl };
      fetched_read = refl;
    },
    refl,
  );
  answered = record { answered = record { begun = refl; by_length = refl; part = refl } };
}

pub returns-clause-failed : goal.returns-clause-failed
unfolding digits
returns-clause-failed c = record {
  asked_till_stop = refl;
  calls_till_stop = refl;
  found = refl;
  work = (
    record {
      calls_made = record { names = refl; changes = refl; lengths = refl };
      asks = record { in_order = search rules; named = refl };
      fetched_read = refl;
    },
    refl,
  );
  answered = record { answered = refl };
}

pub returns-clause-memory : goal.returns-clause-memory
unfolding digits
returns-clause-memory c = record {
  asked_till_stop = refl;
  calls_till_stop = refl;
  found = refl;
  work = (
    record {
      calls_made = record { names = refl; changes = refl; lengths = refl };
      asks = record { in_order = search rules; named = refl };
      fetched_read = refl;
    },
    refl,
  );
  answered = tt;
}
