use Rattle.std.proofs.Common.{rules, refl}
use Rattle.std.specs.Fmt.{digits}
use Rattle.task_model.proofs.run_laws.other_digest_runs.Goals as goal

pub returns-clause-hash : goal.returns-clause-hash
unfolding digits
returns-clause-hash c = record {
  asked_till_stop = refl;
  calls_till_stop = refl;
  found = refl;
  work = (
    record { names = refl; changes = refl; lengths = refl },
    record { in_order = search rules; each_failed = refl; each_begun = refl; each_right = refl; held_read = refl; fetched_read = refl },
    refl,
  );
  answered = record { answered = record { begun = refl; by_length = (refl, record { said = (refl, c.requires.other _ refl, c.requires.digest); held_whole = refl; fetched_whole = refl }); part = refl } };
}

pub returns-clause-plain : goal.returns-clause-plain
unfolding digits
returns-clause-plain c = record {
  asked_till_stop = refl;
  calls_till_stop = refl;
  found = refl;
  work = (
    record { names = refl; changes = refl; lengths = refl },
    record { in_order = search rules; each_failed = refl; each_begun = refl; each_right = refl; held_read = refl; fetched_read = refl },
    refl,
  );
  answered = record { answered = record { begun = refl; by_length = (refl, record { said = (refl, c.requires.other _ refl, c.requires.digest); held_whole = refl; fetched_whole = refl }); part = refl } };
}
