use Rattle.std.proofs.Common.{[], ◌++◌, refl}
use Rattle.std.specs.Prelude.{true, false}
use Rattle.journal_model.specs.declared.answer.Answer.TheVariants.{Dropped}
use Rattle.journal_model.specs.Rows.{greeting}
use Rattle.task_model.specs.StretchRows.{first_run, first_within, lost_answer, next_greeting, second_within, second_run}
use Rattle.task_model.proofs.run_laws.stretches.Goals as goal

pub returns-clause-first : goal.returns-clause-first
returns-clause-first c = (
  record {
    past = greeting;
    by = 0;
    child = 1;
    within = first_within;
    closed_by = 0;
    renewed = true;
    answer = lost_answer;
    rest = next_greeting 16 ++ second_run;
    is = refl;
    one = refl;
  },
  refl,
  refl,
  refl,
  refl,
  refl,
)

pub returns-clause-second : goal.returns-clause-second
returns-clause-second c = (
  record {
    past = greeting ++ first_run ++ next_greeting 16;
    by = 0;
    child = 2;
    within = second_within;
    closed_by = 0;
    renewed = false;
    answer = Dropped;
    rest = [];
    is = refl;
    one = refl;
  },
  refl,
  refl,
  refl,
  refl,
  refl,
)
