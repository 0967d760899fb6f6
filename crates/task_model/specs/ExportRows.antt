-- Runs of tasks of exports, as examples.
use Rattle.std.specs.Prelude.{ℕ, true, false, List, [], ◌∷◌, codes}
use Rattle.annex_model.specs.Messages.{Transferexport, Checkpresentexport, Removeexport, Renameexport}
use Rattle.journal_model.specs.declared.verdict.Verdict.{Verdict}
use Rattle.task_text.specs.declared.task.Work.{Work}
use Rattle.task_text.specs.declared.task.Work.TheVariants.{XStore, XGet, XRename}
use Rattle.task_text.specs.declared.task.Task.{Task}
use Rattle.task_model.specs.Askers.{Asking}
use Rattle.task_model.specs.Rows.{asks_named, fetched_1}

-- a name of two words
abbrev pub docs_name : List ℕ
docs_name = codes "docs/a b.txt"

abbrev pub store_docs : Task
store_docs = record { work = XStore; key = codes "WORM-s2--a"; file = codes "f"; name = docs_name; onto = [] }

abbrev pub stores_docs : Verdict → List Asking
stores_docs v = asks_named docs_name (Transferexport true (codes "WORM-s2--a") (codes "f")) v ∷ []

abbrev pub get_docs : Task
get_docs = record { work = XGet; key = codes "WORM-s3--a"; file = codes "o"; name = docs_name; onto = [] }

abbrev pub gets_docs : Verdict → List Asking
gets_docs v = asks_named docs_name (Transferexport false (codes "WORM-s3--a") fetched_1) v ∷ []

-- a check or a drop
abbrev pub docs_task : Work → Task
docs_task work = record { work = work; key = codes "WORM--a"; file = []; name = docs_name; onto = [] }

abbrev pub checks_docs : Verdict → List Asking
checks_docs v = asks_named docs_name (Checkpresentexport (codes "WORM--a")) v ∷ []

abbrev pub drops_docs : Verdict → List Asking
drops_docs v = asks_named docs_name (Removeexport (codes "WORM--a")) v ∷ []

abbrev pub rename_docs : Task
rename_docs = record { work = XRename; key = codes "WORM--a"; file = []; name = docs_name; onto = codes "b" }

abbrev pub renames_docs : List ℕ → Verdict → List Asking
renames_docs onto v = asks_named docs_name (Renameexport (codes "WORM--a") onto) v ∷ []
