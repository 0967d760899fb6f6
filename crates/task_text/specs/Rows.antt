-- Worked lines of exports, and their tasks.
use Rattle.std.specs.Prelude.{ℕ, List, [], ◌∷◌, ◌++◌, codes}
use Rattle.task_text.specs.declared.task.Task.{Task}
use Rattle.task_text.specs.declared.task.Work.TheVariants.{Store, XStore, XGet, XCheck, XRename}

-- a name of two words
abbrev pub docs_name : List ℕ
docs_name = codes "docs/a b.txt"

abbrev pub xstore_line : List ℕ
xstore_line = codes "xstore WORM-s2--a f" ++ 9 ∷ docs_name

abbrev pub xstore_task : Task
xstore_task = record { work = XStore; key = codes "WORM-s2--a"; file = codes "f"; name = docs_name; onto = [] }

-- spaces before the byte 9 are the file's
abbrev pub xget_line : List ℕ
xget_line = codes "xget WORM--a my file " ++ 9 ∷ codes "n"

abbrev pub xget_task : Task
xget_task = record { work = XGet; key = codes "WORM--a"; file = codes "my file "; name = codes "n"; onto = [] }

abbrev pub xcheck_line : List ℕ
xcheck_line = codes "xcheck WORM--a docs/a b.txt"

abbrev pub xcheck_task : List ℕ → Task
xcheck_task name = record { work = XCheck; key = codes "WORM--a"; file = []; name = name; onto = [] }

abbrev pub xrename_line : List ℕ
xrename_line = codes "xrename WORM--a a b" ++ 9 ∷ codes "c d"

abbrev pub xrename_task : List ℕ → Task
xrename_task onto = record { work = XRename; key = codes "WORM--a"; file = []; name = codes "a b"; onto = onto }

-- a byte 9 in the file of a store without a name
abbrev pub store_line : List ℕ
store_line = codes "store WORM--a a" ++ 9 ∷ codes "b"

abbrev pub store_task : Task
store_task = record { work = Store; key = codes "WORM--a"; file = codes "a" ++ 9 ∷ codes "b"; name = []; onto = [] }
