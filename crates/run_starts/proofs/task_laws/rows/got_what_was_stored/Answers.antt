use Rattle.std.proofs.Common.{refl, rules, arith, [], ◌∷◌, ◌++◌}
use Rattle.std.specs.Prelude.{codes, false}
use Rattle.std.specs.Fmt.{digits}
use Rattle.journal_model.specs.declared.answer.Answer.TheVariants.{Got}
use Rattle.annex_model.specs.Messages.{Transfer}
use Rattle.journal_model.specs.declared.verdict.Verdict.TheVariants.{Done}
use Rattle.journal_model.specs.Rows.{greeting}
use Rattle.task_text.specs.declared.task.Work.TheVariants.{Get}
use Rattle.task_model.specs.Askings.{TaskStretch}
use Rattle.task_model.specs.Rows.{task_of, setup_of, first_turn, asks, fetched_2_1, got_hi}
use Rattle.task_model.specs.Runs.{TaskRun}
use Rattle.crew_work.specs.Laws.JournalRuns.{JournalRun}
use Rattle.run_starts.specs.TaskLaws.Rows.{hi, store_then_get, storing, retrieving, stored_then_got, the_retrieve}
use Rattle.ann_digest.proofs.WormKeys.{no_digest}
use Rattle.run_starts.proofs.task_laws.rows.got_what_was_stored.Goals as goal
use Rattle.run_starts.proofs.TaskLawsLemmas.StoredThenGot.{retrieves}

ran : TaskRun (task_of Get hi (codes "o")) (first_turn 2) (setup_of 0) [] (asks (Transfer false hi fetched_2_1) (Done 19) ∷ []) got_hi [] Got
unfolding digits
ran = record {
  asked_till_stop = refl;
  calls_till_stop = refl;
  found = refl;
  work = (
    record { names = refl; changes = refl; lengths = refl },
    record { in_order = search rules; each_failed = refl; each_begun = refl; each_right = refl; held_read = refl; fetched_read = refl },
    refl,
  );
  answered = record { answered = record { begun = refl; by_length = (refl, record { said = record { size = refl; name = λ naming e. absurd (no_digest naming.kind naming.extended e) }; held_whole = refl; fetched_whole = refl }); part = record { moved = refl; held = λ before found. refl; renamed = refl } } };
}

abbrev stretch : TaskStretch stored_then_got 2
stretch = record {
  past = greeting ++ storing;
  by = 0;
  child = 1;
  within = retrieving;
  closed_by = 0;
  renewed = false;
  answer = Got;
  rest = [];
  is = refl;
  one = refl;
}

abbrev run : JournalRun store_then_get (setup_of 0) got_hi 0 2 1 stored_then_got
run = record {
  task = task_of Get hi (codes "o");
  is = refl;
  run = stretch;
  by_it = refl;
  turn = refl;
  layouts = [];
  known = record { book = []; order = refl; counts = λ k uuid chunk. refl; current = record { standing = []; those = record { moves = []; below = tt; is = refl }; order = λ k d low high. absurd (omega arith); pairs = refl } };
  ran = ran;
  shut = refl;
}

pub returns : goal.returns
unfolding digits
returns c = record {
  run = run;
  keyed = refl;
  got = refl;
  afresh = refl;
  stored = ((the_retrieve, refl, retrieves), tt);
}
