use Rattle.std.proofs.Common.{refl, rules, arith, [], ◌∷◌, ◌++◌}
use Rattle.std.specs.Prelude.{codes, false}
use Rattle.std.specs.Fmt.{digits}
use Rattle.journal_model.specs.declared.answer.Answer.TheVariants.{Got}
use Rattle.annex_model.specs.Messages.{Transfer}
use Rattle.journal_model.specs.declared.verdict.Verdict.TheVariants.{Done}
use Rattle.journal_model.specs.Rows.{greeting}
use Rattle.task_text.specs.declared.task.Work.TheVariants.{Get}
use Rattle.task_model.specs.Askings.{TaskStretch}
use Rattle.task_model.specs.Rows.{task_of, setup_of, second_turn, asks}
use Rattle.task_model.specs.Runs.{TaskRun}
use Rattle.task_model.specs.StretchRows.{next_greeting}
use Rattle.crew_work.specs.Laws.JournalRuns.{JournalRun}
use Rattle.run_starts.specs.TaskLaws.Changes.{Retrieves}
use Rattle.run_starts.specs.TaskLaws.Rows.{fetched_2_again, got_hi_again, hi, losing, lost_then_got, retrieving_again, storing, the_last_retrieve, the_store, with_again}
use Rattle.ann_digest.proofs.WormKeys.{no_digest}
use Rattle.run_starts.proofs.task_laws.rows.got_in_the_last_run.Goals as goal

ran : TaskRun (task_of Get hi (codes "o")) (second_turn 2) (setup_of 0) [] (asks (Transfer false hi fetched_2_again) (Done 35) ∷ []) got_hi_again [] Got
unfolding digits
ran = record {
  asked_till_stop = refl;
  calls_till_stop = refl;
  found = refl;
  work = (
    record { names = refl; changes = refl; lengths = refl },
    record { in_order = search rules; each_failed = refl; each_begun = refl; each_right = refl; held_read = refl; fetched_read = refl },
    refl,
  );
  answered = record { answered = record { begun = refl; by_length = (refl, record { said = record { size = refl; name = λ naming e. absurd (no_digest naming.kind naming.extended e) }; held_whole = refl; fetched_whole = refl }); part = record { moved = refl; held = λ before found. refl; renamed = refl } } };
}

abbrev stretch : TaskStretch lost_then_got 2
stretch = record {
  past = greeting ++ storing ++ losing ++ next_greeting 22;
  by = 0;
  child = 2;
  within = retrieving_again;
  closed_by = 0;
  renewed = false;
  answer = Got;
  rest = [];
  is = refl;
  one = refl;
}

abbrev run : JournalRun with_again (setup_of 0) got_hi_again 0 2 2 lost_then_got
run = record {
  task = task_of Get hi (codes "o");
  is = refl;
  run = stretch;
  by_it = refl;
  turn = refl;
  layouts = [];
  known = record { book = []; order = refl; counts = λ k uuid chunk. refl; current = record { standing = []; those = record { moves = []; below = tt; is = refl }; order = λ k d low high. absurd (omega arith); pairs = refl } };
  ran = ran;
  shut = refl;
}

retrieves : Retrieves lost_then_got the_last_retrieve the_store hi fetched_2_again
retrieves = record { there = (6, omega arith, refl); asks = refl; answered = 35; done = refl; stored = refl }

pub returns : goal.returns
unfolding digits
returns c = record {
  run = run;
  keyed = refl;
  got = refl;
  afresh = refl;
  stored = ((the_last_retrieve, refl, retrieves), tt);
}
