-- Worked openings.
use Rattle.std.specs.Prelude.{ℕ, List, [], ◌∷◌, ◌++◌, codes}
use Rattle.task_text.specs.declared.task.Task.{Task}
use Rattle.task_text.specs.declared.task.Work.{Work}
use Rattle.task_text.specs.declared.task.Work.TheVariants.{Check}
use Rattle.journal_model.specs.declared.opening.Identity.{Identity}
use Rattle.journal_model.specs.declared.opening.Opening.{Opening}
use Rattle.journal_model.specs.Rows.{opening_of, sample_key}

-- one task
abbrev pub begun_with : Work → List ℕ → List ℕ → Opening
begun_with work key file = opening_of (record { work = work; key = key; file = file; name = []; onto = [] } ∷ [])

-- no task, with that UUID and that name
abbrev pub begun_as : List ℕ → List ℕ → Opening
begun_as uuid name = record {
  tasks = [];
  registers = (opening_of []).registers;
  notes = [];
  identity = record { uuid = uuid; name = name; gitdir = codes ".git" };
  stamp = 0;
  again = 0;
}
