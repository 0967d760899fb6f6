-- What putting a text in the place of a file asks of a desk, and what it does to its files.
use Rattle.std.specs.Prelude.{ℕ, ◌≡◌, ◌≢◌, ◌⊎◌, ⊤, List, [], ◌∷◌, ◌++◌, map, codes, Option, Some, None, option_map, Result, Ok, Err}
use Rattle.std.specs.List.{concat}
use Rattle.ann_outside.specs.Calls.{Log, Gained}
use Rattle.ann_outside.specs.Files.{Files, content, OthersStay}
use Rattle.ann_outside.specs.declared.file_desk.DeskError.{DeskError}
use Rattle.ann_outside.specs.declared.file_desk.DeskError.TheVariants as E
use Rattle.ann_outside.specs.declared.file_desk.Call.{Call}
use Rattle.ann_outside.specs.declared.file_desk.Call.TheVariants.{Create, Append, Rename}

-- the name that a text has while it is written
abbrev pub new_name : List ℕ → List ℕ
new_name name = name ++ codes ".new"

-- ---- the calls

abbrev pub append_calls : List ℕ → List (List ℕ) → List Call
append_calls name pieces = map (λ piece. Append name piece (Ok tt)) pieces

-- a file is made, these pieces are added to it, and it gets the name
abbrev pub replace_calls : List ℕ → List (List ℕ) → List Call
replace_calls name pieces = Create (new_name name) (Ok tt) ∷ append_calls (new_name name) pieces ++ Rename (new_name name) name (Ok tt) ∷ []

-- the call that was refused, with its answer
abbrev pub IsRefusal : DeskError → Call → List Call → Type 0
IsRefusal E.NoMemory call calls = calls ≡ []
IsRefusal E.Failed (Create name answer) calls = calls ≡ Create name (Err E.Failed) ∷ []
IsRefusal E.Failed (Append name piece answer) calls = calls ≡ Append name piece (Err E.Failed) ∷ []
IsRefusal E.Failed (Rename from to answer) calls = calls ≡ Rename from to (Err E.Failed) ∷ []
IsRefusal E.Missing (Append name piece answer) calls = calls ≡ Append name piece (Err E.Missing) ∷ []
IsRefusal E.Missing (Rename from to answer) calls = calls ≡ Rename from to (Err E.Missing) ∷ []
IsRefusal e call calls = ⊥

-- the first of all these calls were made, and the next was refused
pub record IsStopped (e : DeskError) (old new : Option Log) (all : List Call) : Type 0 where
  pub before : List Call
  pub call : Call
  pub after : List Call
  pub all_is : all ≡ before ++ call ∷ after
  pub ending : List Call
  pub refused : IsRefusal e call ending
  pub calls : Gained old new (before ++ ending)

-- all of these calls were made, or the first of them and then one that was refused
abbrev pub Makes : Option Log → Option Log → List Call → Result (Unit {0}) DeskError → Type 0
Makes old new all (Ok done) = Gained old new all
Makes old new all (Err e) = IsStopped e old new all

-- the text is added to the file in pieces
abbrev pub AppendsAll : Option Log → Option Log → List ℕ → List ℕ → Result (Unit {0}) DeskError → Type 0
AppendsAll old new name text result = (pieces : List (List ℕ)) × (concat pieces ≡ text) × Makes old new (append_calls name pieces) result

-- it is put in the place of the file
abbrev pub Replaces : Option Log → Option Log → List ℕ → List ℕ → Result (Unit {0}) DeskError → Type 0
Replaces old new name text result = (pieces : List (List ℕ)) × (concat pieces ≡ text) × Makes old new (replace_calls name pieces) result

-- ---- the files

-- the text stands at the file's end; where there was no file, none was found. No other file is touched
abbrev pub HasGrown : List ℕ → List ℕ → Files → Files → Type 0
HasGrown name text old new =
    (content name new ≡ option_map (λ bytes. bytes ++ text) (content name old)) × OthersStay (λ other. other ≡ name) old new

abbrev pub GrowsBy : List ℕ → List ℕ → Result (Unit {0}) DeskError → Files → Files → Type 0
GrowsBy name text (Ok done) old new = HasGrown name text old new
GrowsBy name text (Err E.Missing) old new = (content name old ≡ None) × OthersStay (λ other. other ≡ name) old new
GrowsBy name text (Err E.Failed) old new = OthersStay (λ other. other ≡ name) old new
GrowsBy name text (Err E.NoMemory) old new = OthersStay (λ other. other ≡ name) old new

-- The file has that text, and none has the other name; after a refusal the file is as before. No other file is touched.
abbrev pub IsReplacedBy : List ℕ → List ℕ → Result (Unit {0}) DeskError → Files → Files → Type 0
IsReplacedBy name text (Ok done) old new =
    (content name new ≡ Some text) × (content (new_name name) new ≡ None)
    × OthersStay (λ other. (other ≡ name) ⊎ (other ≡ new_name name)) old new
IsReplacedBy name text (Err e) old new = OthersStay (λ other. other ≡ new_name name) old new

-- ---- on the way

-- the pieces that were added so far
pub record IsAppending (old new : Option Log) (name bytes : List ℕ) : Type 0 where
  pub pieces : List (List ℕ)
  pub all : concat pieces ≡ bytes
  pub calls : Gained old new (append_calls name pieces)
