use Rattle.std.proofs.Common.{◌≡◌, ◌∙◌, true, List, Option, length, ap, sym, subst}
use Rattle.std.specs.Prelude.{is_some}
use Rattle.std.specs.List.{list_all}
use Rattle.task_text.specs.declared.task.Task.{Task}
use Rattle.journal_model.specs.declared.answer.Answer.{Answer}
use Rattle.journal_model.specs.declared.opening.Opening.{Opening}
use Rattle.run_answers.proofs.Answered.{all_full}
use Rattle.run_answers.proofs.answers.answers_of.Goals as goal

pub all_of-requires : goal.all_of-requires
all_of-requires c =
    subst (λ (places : List (Option Answer)). list_all is_some places ≡ true) (sym c.as_slice.ensures.value)
    (all_full c.args.core.now.opening c.args.core.now.journal c.journal.result.now.entries (length c.view-tasks.result.now) c.in_ok-places.places.items c.journal.ensures
    (ap (λ (tasks : List Task). length tasks) c.view-tasks.ensures ∙ ap (λ (o : Opening). length o.tasks) c.opening.ensures) c.in_ok-places.ensures c.requires)
