-- Worked inputs.
use Rattle.std.specs.Prelude.{ℕ, List, [], ◌∷◌, codes}
use Rattle.task_text.specs.declared.task.Task.{Task}
use Rattle.task_text.specs.declared.task.Work.TheVariants.{Check, Drop}
use Rattle.cli_words.specs.declared.task_input.limits.Limits.{Limits}

-- two lines, of 20 bytes at most, and 32 bytes in all
abbrev pub small : Limits
small = record { lines = 2; bytes = 32; line = 20 }

abbrev pub drop_a : List ℕ
drop_a = codes "drop WORM--a"

abbrev pub check_b : List ℕ
check_b = codes "check WORM--b"

abbrev pub tasks : List Task
tasks =
    record { work = Drop; key = codes "WORM--a"; file = []; name = []; onto = [] }
    ∷ record { work = Check; key = codes "WORM--b"; file = []; name = []; onto = [] }
    ∷ []
