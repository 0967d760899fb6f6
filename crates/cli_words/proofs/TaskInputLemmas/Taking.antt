-- What taking the lines of an input one by one keeps.
use Rattle.std.proofs.Common.{◌≡◌, ℕ, ◌+◌, List, [], ◌∷◌, ◌++◌, length, map, Some, None, Err, refl, sym, ap, subst, ◌∙◌, append_assoc, append-nil, arith, length-append}
use Rattle.std.proofs.lemmas.List.{map-append}
use Rattle.std.proofs.lemmas.List.Elements.{All-nil, All-push}
use Rattle.task_text.specs.TaskLines.{line_of, IsTask, SpellsTask}
use Rattle.task_text.specs.declared.task.Task.{Task}
use Rattle.cli_words.specs.declared.refusals.Reason.{Reason}
use Rattle.cli_words.specs.TaskInput.Inputs.{first_refused, reason_of, refused_or, AreTasks}
use Rattle.cli_words.specs.TaskInput.Steps.{AreTaken, IsTaken}
use Rattle.cli_words.specs.declared.task_input.limits.Limits.{Limits}
use Rattle.cli_words.specs.declared.task_input.error.InputError.{InputError}
use Rattle.cli_words.specs.declared.task_input.error.InputError.TheVariants.{Refused, Failed, NoMemory}

-- the tasks are those of the lines that are done, and the lines that are left, from that number on, come to what all lines come to
pub record Taking (limits : Limits) (lines : List (List ℕ)) (tasks : List Task) (number : ℕ) (left : List (List ℕ)) : Type 0 where
  pub over : List (List ℕ)
  pub whole : lines ≡ over ++ left
  pub made : AreTasks tasks over
  pub right : first_refused limits number left ≡ first_refused limits 1 lines
  pub count : number ≡ length over + 1

pub taking_none : (limits : Limits) (lines : List (List ℕ)) → Taking limits lines [] 1 lines
taking_none limits lines =
    record { over = []; whole = refl; made = record { whole = refl; each = All-nil IsTask }; right = refl; count = refl }

module _ (limits : Limits) (lines : List (List ℕ)) (tasks : List Task) (number : ℕ) (left : List (List ℕ)) (so_far : Taking limits lines tasks number left) where
  -- a line that is a task, taken
  pub taking_more : (line : List ℕ) (more : List (List ℕ)) (task : Task) → left ≡ line ∷ more
      → reason_of limits number line ≡ None → SpellsTask task line → Taking limits lines (tasks ++ task ∷ []) (number + 1) more
  taking_more line more task first right spells = record {
    over = so_far.over ++ line ∷ [];
    whole = so_far.whole ∙ ap (λ rest. so_far.over ++ rest) first ∙ sym (append_assoc so_far.over (line ∷ []) more);
    made = record {
      whole = ap (λ ls. ls ++ line ∷ []) so_far.made.whole ∙ ap (λ l. map line_of tasks ++ l ∷ []) spells.whole ∙ sym (map-append line_of tasks (task ∷ []));
      each = All-push IsTask tasks task so_far.made.each spells.task_class;
    };
    right =
        ap (λ r. refused_or number r (first_refused limits (number + 1) more)) (sym right)
        ∙ ap (first_refused limits number) (sym first) ∙ so_far.right;
    count = let one = length-append so_far.over (line ∷ []) in let same = so_far.count in omega (arith, one);
  }

  -- a line that is refused is the first
  pub taking_fault : (line : List ℕ) (more : List (List ℕ)) (reason : Reason) → left ≡ line ∷ more
      → reason_of limits number line ≡ Some reason → first_refused limits 1 lines ≡ Some (number, reason)
  taking_fault line more reason first fault =
      sym so_far.right ∙ ap (first_refused limits number) first ∙ ap (λ r. refused_or number r (first_refused limits (number + 1) more)) fault

  -- where no line is left, none was refused
  pub taking_end : left ≡ [] → (first_refused limits 1 lines ≡ None) × AreTasks tasks lines × (number ≡ length lines + 1)
  taking_end none =
      let whole : lines ≡ so_far.over = so_far.whole ∙ ap (λ rest. so_far.over ++ rest) none ∙ append-nil so_far.over in (
        sym so_far.right ∙ ap (first_refused limits number) none,
        subst (AreTasks tasks) (sym whole) so_far.made,
        so_far.count ∙ ap (λ ls. length ls + 1) (sym whole),
      )

  -- so is it where the error says so
  pub taking_refused : (line : List ℕ) (more : List (List ℕ)) (fault : InputError) → left ≡ line ∷ more
      → IsTaken limits number line (Err fault) → AreTaken limits lines (Err fault)
  taking_refused line more (Refused at reason) first h = taking_fault line more reason first h.1 ∙ ap (λ n. Some (n, reason)) (sym h.0)
  taking_refused line more Failed first h = tt
  taking_refused line more NoMemory first h = tt
