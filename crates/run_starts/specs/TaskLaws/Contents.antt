-- What calls show of the content of a file.
use Rattle.std.specs.Prelude.{ℕ, ◌≡◌, ◌+◌, ◌==◌, true, List, [], ◌∷◌, length}
use Rattle.std.specs.List.{list_all}
use Rattle.ann_outside.specs.declared.file_desk.Call.{Call}
use Rattle.task_model.specs.Askers.{Asking}
use Rattle.task_model.specs.declared.setup.Setup.{Setup}
use Rattle.task_model.specs.declared.turn.TaskTurn.{TaskTurn}
use Rattle.task_model.specs.Names.{fetch_file}
use Rattle.task_model.specs.Reads.{lengths_found, reads_of, is_read_of}

-- All that the calls found and read of the file is of this content.
pub record Shows (name content : List ℕ) (calls : List Call) : Type 0 where
  pub lengths : list_all (λ n. n == length content) (lengths_found name calls) ≡ true
  pub reads : list_all (is_read_of content) (reads_of name calls) ≡ true

-- the files that these requests fetched, the first of which is request n, show these contents
abbrev pub AreFetched : Setup → TaskTurn → List Call → ℕ → List Asking → List (List ℕ) → Type 0
AreFetched setup t calls n [] [] = Unit {0}
AreFetched setup t calls n (a ∷ more) (content ∷ contents) = Shows (fetch_file setup t n) content calls × AreFetched setup t calls (n + 1) more contents
AreFetched setup t calls n asked contents = ⊥
