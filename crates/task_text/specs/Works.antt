-- What a task does with its key, the word for it, and what else such a task names.
use Rattle.std.specs.Prelude.{ℕ, Bool, true, false, List, [], ◌∷◌, Option, find, codes}
use Rattle.std.specs.Str.{bytes_eq}
use Rattle.task_text.specs.declared.task.Work.{Work}
use Rattle.task_text.specs.declared.task.Work.TheVariants.{Store, Get, Check, Drop, XStore, XGet, XCheck, XDrop, XRename}

abbrev pub word_of : Work → List ℕ
word_of Store = codes "store"
word_of Get = codes "get"
word_of Check = codes "check"
word_of Drop = codes "drop"
word_of XStore = codes "xstore"
word_of XGet = codes "xget"
word_of XCheck = codes "xcheck"
word_of XDrop = codes "xdrop"
word_of XRename = codes "xrename"

-- the work that has this word
abbrev pub work_of : List ℕ → Option Work
work_of word =
    find (λ work. bytes_eq (word_of work) word) (Store ∷ Get ∷ Check ∷ Drop ∷ XStore ∷ XGet ∷ XCheck ∷ XDrop ∷ XRename ∷ [])

-- whether a task of this work names a file
abbrev pub names_file : Work → Bool
names_file Store = true
names_file Get = true
names_file Check = false
names_file Drop = false
names_file XStore = true
names_file XGet = true
names_file XCheck = false
names_file XDrop = false
names_file XRename = false

-- whether it has the name of an exported file
abbrev pub has_name : Work → Bool
has_name Store = false
has_name Get = false
has_name Check = false
has_name Drop = false
has_name XStore = true
has_name XGet = true
has_name XCheck = true
has_name XDrop = true
has_name XRename = true

-- and the name that this file gets
abbrev pub has_onto : Work → Bool
has_onto XRename = true
has_onto _ = false
