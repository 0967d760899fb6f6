use Rattle.std.proofs.Common.{rules, refl}
use Rattle.std.specs.Fmt.{digits}
use Rattle.task_model.proofs.run_laws.plain_get_runs.Goals as goal

pub returns-clause-wrong_length : goal.returns-clause-wrong_length
unfolding digits
returns-clause-wrong_length c = record {
  asked_till_stop = refl;
  calls_till_stop = refl;
  found = refl;
  work = (
    record { names = refl; changes = refl; lengths = refl },
    record { in_order = search rules; each_failed = refl; each_begun = refl; each_right = refl; held_read = refl; fetched_read = refl },
    refl,
  );
  answered = record { answered = record { begun = refl; by_length = refl; part = refl } };
}

pub returns-clause-no_file : goal.returns-clause-no_file
unfolding digits
returns-clause-no_file c = record {
  asked_till_stop = refl;
  calls_till_stop = refl;
  found = refl;
  work = (
    record { names = refl; changes = refl; lengths = refl },
    record { in_order = search rules; each_failed = refl; each_begun = refl; each_right = refl; held_read = refl; fetched_read = refl },
    refl,
  );
  answered = refl;
}

pub returns-clause-failed : goal.returns-clause-failed
unfolding digits
returns-clause-failed c = record {
  asked_till_stop = refl;
  calls_till_stop = refl;
  found = refl;
  work = (
    record { names = refl; changes = refl; lengths = refl },
    record { in_order = search rules; each_failed = refl; each_begun = refl; each_right = refl; held_read = refl; fetched_read = refl },
    refl,
  );
  answered = record { answered = refl };
}

pub returns-clause-fault : goal.returns-clause-fault
unfolding digits
returns-clause-fault c = record {
  asked_till_stop = refl;
  calls_till_stop = refl;
  found = refl;
  work = (
    record { names = refl; changes = refl; lengths = refl },
    record { in_order = search rules; each_failed = refl; each_begun = refl; each_right = refl; held_read = refl; fetched_read = refl },
    refl,
  );
  answered = refl;
}

pub returns-clause-memory : goal.returns-clause-memory
unfolding digits
returns-clause-memory c = record {
  asked_till_stop = refl;
  calls_till_stop = refl;
  found = refl;
  work = (
    record { names = refl; changes = refl; lengths = refl },
    record { in_order = search rules; each_failed = refl; each_begun = refl; each_right = refl; held_read = refl; fetched_read = refl },
    refl,
  );
  answered = tt;
}
